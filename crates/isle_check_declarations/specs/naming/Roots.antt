-- The errors of the left sides of rules. `terms` says what a text means as the name of a term.
use Rattle.std.specs.Prelude.{ℕ, List, [], ◌∷◌, Option, None, Some}
use Rattle.std.specs.List.{flat_map}
use Rattle.isle_base_source.specs.declared.pos.Pos.{Pos}
use Rattle.isle_ast_names.specs.Tree.{Name}
use Rattle.isle_ast_rules.specs.Roots.{root_term}
use Rattle.isle_ast_rules.specs.Tree.{RuleDefinition}
use Rattle.isle_ast.specs.Tree.{Definition}
use Rattle.isle_check_environment.specs.Parts.{rules_in}
use Rattle.isle_check_declarations.specs.Faults.{FaultNode, fault, root_no_term, root_unknown, root_variant}
use Rattle.isle_check_declarations.specs.Terms.{TermNode, unknown_term, variant_term, declared_term, terms}

-- a rule defines a term that is declared, not a variant
abbrev pub wrong_root_term : TermNode → (root : Name) → Pos → List FaultNode
wrong_root_term unknown_term root pos = fault (root_unknown root) pos ∷ []
wrong_root_term variant_term root pos = fault (root_variant root) pos ∷ []
wrong_root_term (declared_term _) root pos = []

abbrev pub wrong_root_at : (List ℕ → TermNode) → Option Name → Pos → List FaultNode
wrong_root_at terms None pos = fault root_no_term pos ∷ []
wrong_root_at terms (Some root) pos = wrong_root_term (terms root.text) root pos

abbrev pub wrong_root : (List ℕ → TermNode) → RuleDefinition → List FaultNode
wrong_root terms r = wrong_root_at terms (root_term r.pattern) r.pos

abbrev pub wrong_roots : (List ℕ → TermNode) → List RuleDefinition → List FaultNode
wrong_roots terms rs = flat_map (wrong_root terms) rs

-- the errors of the left sides of a program's rules
abbrev pub root_faults_by : (List ℕ → TermNode) → List Definition → List FaultNode
root_faults_by terms ds = wrong_roots terms (rules_in ds)

abbrev pub root_faults : List Definition → List FaultNode
root_faults ds = root_faults_by (terms ds) ds
