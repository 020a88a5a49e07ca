-- The rules of a file, and the types of their variables.
use Rattle.std.specs.Prelude.{◌==◌, ℕ, List, [], ◌∷◌, Bool, false, not, ◌||◌, Option, None, Some, filter, length, unwrap_or, if◌then◌else◌}
use Rattle.std.specs.List.{list_any}
use Rattle.isle_base_source.specs.declared.error.Error.{Error}
use Rattle.isle_ast.specs.Tree.{Definition}
use Rattle.isle_ast_rules.specs.Tree.{ExtractorDefinition, RuleDefinition}
use Rattle.isle_check_core.specs.Findings.{rule_depth}
use Rattle.isle_check_environment.specs.Parts.{extractors_in, rules_in}
use Rattle.isle_check_environment.specs.signatures.Environment.{EnvironmentNode, environment}
use Rattle.isle_check_environment.specs.signatures.Signatures.{TermNode}
use Rattle.isle_check_recursion.specs.Recursion.{recursions}
use Rattle.isle_check_rules.specs.RuleTypes.{rule_variables}
use Rattle.isle_check_typing.specs.Progress.{VariableNode}
use Rattle.isle_program.specs.Reading.{IsReading}
use Rattle.isle_lsp_features.specs.Places.{File}
use Rattle.isle_lsp_features.specs.Programs.{Text}
use Rattle.isle_lsp_diagnostics.specs.Checked.{sources_of}

-- the first of these programs; if there is none, one without texts
abbrev pub first_of : List (List Text) → List Text
first_of [] = []
first_of (p ∷ ps) = p

-- these are the definitions in those texts of a program that spell trees
abbrev pub AreDefinitions : List Text → List Definition → Type 0
AreDefinitions program ds = (refusals : List (Option Error)) × IsReading (sources_of program) ds refusals

abbrev pub is_variant : Option TermNode → Bool
is_variant None = false
is_variant (Some t) = t.is_variant

abbrev pub have_variant : EnvironmentNode → List ExtractorDefinition → Bool
have_variant env xs = list_any (λ x. is_variant (env.terms x.term.text)) xs

-- whether writing out an internal extractor may have no end: one uses itself, or is one of a variant
abbrev pub are_endless : List Definition → Bool
are_endless ds = have_variant (environment ds) (extractors_in ds) || not (length (recursions ds) == 0)

-- the rules that stand in the file of this number
abbrev pub rules_at_file : ℕ → List RuleDefinition → List RuleDefinition
rules_at_file number rs = filter (λ r. r.pos.file == number) rs

-- the rules of a file whose variables have types, by the definitions of its program
abbrev pub typed_rules : File → List Definition → List RuleDefinition
typed_rules f ds = if are_endless ds then [] else rules_at_file f.number (rules_in ds)

-- the variables of a rule. There are none where more patterns or expressions lie in one another than are typed
unfoldable pub variables : EnvironmentNode → RuleDefinition → List VariableNode
variables env r = unwrap_or (rule_variables rule_depth env r) []
