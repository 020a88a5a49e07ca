-- What is found in a program: its errors, or else warnings.
use Rattle.std.specs.Prelude.{ℕ, ◌==◌, List, [], ◌∷◌, ◌++◌, Bool, true, false, Option, None, Some, Result, Ok, Err, if◌then◌else◌, length, map}
use Rattle.std.specs.List.{flat_map, list_any}
use Rattle.isle_base_source.specs.declared.pos.Pos.{Pos}
use Rattle.isle_ast_names.specs.Tree.{Name}
use Rattle.isle_ast_rules.specs.Tree.{ExtractorDefinition}
use Rattle.isle_ast.specs.Tree.{Conversion, Definition}
use Rattle.isle_check_recursion.specs.Conversions.{endless_conversions}
use Rattle.isle_check_environment.specs.Names.{has}
use Rattle.isle_check_environment.specs.Parts.{ConstantNode, constants_in, extractors_in, rules_in}
use Rattle.isle_check_declarations.specs.Faults as declarations
use Rattle.isle_check_declarations.specs.TypeFaults.{type_faults}
use Rattle.isle_check_declarations.specs.TermFaults.{term_faults}
use Rattle.isle_check_declarations.specs.Terms as named
use Rattle.isle_check_declarations.specs.naming.Converters.{converter_faults_by}
use Rattle.isle_check_declarations.specs.naming.Externs.{extern_faults_by}
use Rattle.isle_check_declarations.specs.naming.Extractors.{extractor_faults_by}
use Rattle.isle_check_declarations.specs.naming.Roots.{root_faults_by}
use Rattle.isle_check_recursion.specs.Recursion.{RecursionNode, recursions}
use Rattle.isle_check_environment.specs.signatures.Environment.{EnvironmentNode, environment}
use Rattle.isle_check_environment.specs.signatures.Signatures.{TermNode}
use Rattle.isle_check_typing.specs.Faults as typing
use Rattle.isle_check_rules.specs.RuleFaults.{rule_faults}
use Rattle.isle_check_rules.specs.RuleTypes.{RulesTyping}
use Rattle.isle_check_rules.specs.TypedRules.{TypedRuleNode}
use Rattle.isle_check_rules.specs.Warnings as warned
use Rattle.isle_check_matchings.specs.Infallible.{program_terms}
use Rattle.isle_check_matchings.specs.Matchings.{rule_overlaps}
use Rattle.isle_check_overlaps.specs.Faults as overlapping

-- an error of a declaration, that an extractor uses itself, an error of a rule, that a rule is too deep to be checked, or an error of rules
-- beside one another; or a warning: a constant is declared again, an extractor has another number of parameters than its term has arguments, a
-- conversion does not come to an end, or one of rules
pub data KindNode : Type 0 where
  declaration : declarations.KindNode → KindNode
  recursive_extractor : (path : List Name) → KindNode
  rule : typing.KindNode → KindNode
  deep_rule : KindNode
  overlap : overlapping.KindNode → KindNode
  constant_again : Name → KindNode
  parameter_count : (extractor : Name) → (parameters arguments : ℕ) → KindNode
  endless_conversion : (inner outer : Name) → KindNode
  rule_warning : warned.WarningKindNode → KindNode

-- upstream leaves out a pattern whose extractor has a parameter without an argument, and tells no error
abbrev pub is_rule_error : typing.KindNode → Bool
is_rule_error (typing.parameter_without_argument _) = false
is_rule_error _ = true

-- upstream ends without an error, or does not end, where a value would be a part of itself; and it fails later where a rule hides others with
-- equal values
abbrev pub is_overlap_error : overlapping.KindNode → Bool
is_overlap_error overlapping.part_of_itself = false
is_overlap_error (overlapping.shadows_with_equals _ _) = false
is_overlap_error _ = true

abbrev pub is_error : KindNode → Bool
is_error (declaration _) = true
is_error (recursive_extractor _) = true
is_error (rule kind) = is_rule_error kind
is_error deep_rule = true
is_error (overlap kind) = is_overlap_error kind
is_error (constant_again _) = false
is_error (parameter_count _ _ _) = false
is_error (endless_conversion _ _) = false
is_error (rule_warning _) = false

pub record FindingNode : Type 0 where
  pub kind : KindNode
  pub pos : Pos

abbrev pub finding : KindNode → Pos → FindingNode
finding kind pos = record { kind = kind; pos = pos }

abbrev pub of_fault : declarations.FaultNode → FindingNode
of_fault f = finding (declaration f.kind) f.pos

abbrev pub of_faults : List declarations.FaultNode → List FindingNode
of_faults fs = map of_fault fs

abbrev pub of_recursion : RecursionNode → FindingNode
of_recursion r = finding (recursive_extractor r.path) r.pos

abbrev pub of_rule_fault : typing.FaultNode → FindingNode
of_rule_fault f = finding (rule f.kind) f.pos

abbrev pub of_warning : warned.WarningNode → FindingNode
of_warning w = finding (rule_warning w.kind) w.pos

abbrev pub of_overlap : overlapping.FaultNode → FindingNode
of_overlap f = finding (overlap f.kind) f.pos

-- those of a group, if there are any, and otherwise those of the groups after it
abbrev pub or_next : (group later : List FindingNode) → List FindingNode
or_next [] later = later
or_next (f ∷ fs) later = f ∷ fs

-- rules name declared terms, extractors are right, and none uses itself. `terms` says what a text means as the name of a term
abbrev pub root_errors_by : (terms : List ℕ → named.TermNode) → List Definition → List FindingNode
root_errors_by terms ds =
    of_faults (root_faults_by terms ds) ++ (of_faults (extractor_faults_by terms ds) ++ map of_recursion (recursions ds))

abbrev pub root_errors : List Definition → List FindingNode
root_errors ds = root_errors_by (named.terms ds) ds

-- a constant is declared once
abbrev pub doubled_constant : List Name → ConstantNode → List FindingNode
doubled_constant earlier c = if has earlier c.name.text then finding (constant_again c.name) c.pos ∷ [] else []

abbrev pub doubled_constants : List Name → List ConstantNode → List FindingNode
doubled_constants earlier [] = []
doubled_constants earlier (c ∷ cs) = doubled_constant earlier c ++ doubled_constants (earlier ++ c.name ∷ []) cs

-- an extractor has as many parameters as its term has arguments
abbrev pub wrong_count : Option TermNode → ExtractorDefinition → List FindingNode
wrong_count None x = []
wrong_count (Some t) x =
    if length x.args == length t.args then [] else finding (parameter_count x.term (length x.args) (length t.args)) x.pos ∷ []

abbrev pub wrong_counts : EnvironmentNode → List ExtractorDefinition → List FindingNode
wrong_counts env xs = flat_map (λ x. wrong_count (env.terms x.term.text) x) xs

abbrev pub of_converter : Conversion → FindingNode
of_converter c = finding (endless_conversion c.inner_ty c.outer_ty) c.pos

-- each conversion comes to an end
abbrev pub endless_converters : EnvironmentNode → List Definition → List FindingNode
endless_converters env ds = map of_converter (endless_conversions env.terms ds)

abbrev pub warnings : EnvironmentNode → List TypedRuleNode → List Definition → List FindingNode
warnings env rules ds =
    doubled_constants [] (constants_in ds)
    ++ (wrong_counts env (extractors_in ds)
    ++ (endless_converters env ds
    ++ (map of_warning (warned.conditions_without_constructor env (rules_in ds))
    ++ map of_warning (warned.multi_extractors env rules))))

abbrev pub has_error : List FindingNode → Bool
has_error fs = list_any (λ f. is_error f.kind) fs

-- the errors of rules beside one another, if there are any, and otherwise the warnings
abbrev pub compared : (overlaps : overlapping.ComparisonNode) → (warnings : List FindingNode) → List FindingNode
compared overlaps warnings = or_next (map of_overlap overlaps.faults) (warnings ++ map of_overlap overlaps.warnings)

abbrev pub after_rules : EnvironmentNode → List TypedRuleNode → List Definition → List FindingNode
after_rules env rules ds = compared (rule_overlaps (program_terms env ds) rules) (warnings env rules ds)

-- what is found, and what is found later behind it if none of it is an error
abbrev pub with_later : (found later : List FindingNode) → List FindingNode
with_later found later = if has_error found then found else found ++ later

-- how many patterns or expressions of a rule may lie in one another once templates are filled and conversions are written out
abbrev pub rule_depth : ℕ
rule_depth = 500

abbrev pub of_rules : EnvironmentNode → List Definition → Result RulesTyping Pos → List FindingNode
of_rules env ds (Ok made) = with_later (map of_rule_fault made.faults) (after_rules env made.typed ds)
of_rules env ds (Err place) = finding deep_rule place ∷ endless_converters env ds

-- the errors of rules, or the first rule that is too deep with the conversions that may make it so; and warnings where there is no error
abbrev pub rule_findings_by : EnvironmentNode → List Definition → List FindingNode
rule_findings_by env ds = of_rules env ds (rule_faults rule_depth env ds)

abbrev pub rule_findings : List Definition → List FindingNode
rule_findings ds = rule_findings_by (environment ds) ds

-- the errors of the first group that has any: types, terms, rules' roots and extractors, converters, external definitions, rules
abbrev pub later_findings_by : (terms : List ℕ → named.TermNode) → EnvironmentNode → List Definition → List FindingNode
later_findings_by terms env ds =
    or_next (of_faults (converter_faults_by terms ds)) (or_next (of_faults (extern_faults_by terms ds)) (rule_findings_by env ds))

abbrev pub later_findings : List Definition → List FindingNode
later_findings ds = later_findings_by (named.terms ds) (environment ds) ds

abbrev pub root_findings_by : (terms : List ℕ → named.TermNode) → EnvironmentNode → List Definition → List FindingNode
root_findings_by terms env ds = or_next (root_errors_by terms ds) (later_findings_by terms env ds)

abbrev pub root_findings : List Definition → List FindingNode
root_findings ds = root_findings_by (named.terms ds) (environment ds) ds

abbrev pub findings : List Definition → List FindingNode
findings ds = or_next (of_faults (type_faults ds)) (or_next (of_faults (term_faults ds)) (root_findings ds))
