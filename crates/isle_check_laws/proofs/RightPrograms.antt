-- A program in which nothing is found wrong is right by the rules of types.
use Rattle.std.proofs.Common.{◌≡◌, ◌≢◌, inl, List, [], ◌∷◌, false, None, map, refl, ap, ◌∙◌, subst}
use Rattle.std.specs.List.{All}
use Rattle.std.proofs.lemmas.List.Elements.{All-head}
use Rattle.isle_ast_names.specs.Tree.{Name}
use Rattle.isle_ast_rules.specs.Roots as roots
use Rattle.isle_ast_rules.specs.Tree.{PatternNode, RuleDefinition, and_pattern, bind_pattern, bool_pattern, constant_pattern, int_pattern, macro_arg_pattern, term_pattern, var_pattern, wildcard_pattern}
use Rattle.isle_ast.specs.Tree.{Definition}
use Rattle.isle_check_declarations.specs.Terms.{TermNode, declared_term, terms, unknown_term, variant_term}
use Rattle.isle_check_environment.specs.Parts.{rules_in}
use Rattle.isle_check_declarations.specs.naming.Roots.{wrong_root, wrong_root_at, wrong_root_term}
use Rattle.isle_check_environment.specs.signatures.Environment.{environment}
use Rattle.isle_check_typing.specs.Faults as typing
use Rattle.isle_check_rules.specs.RuleFaults.{rule_faults}
use Rattle.isle_check_rules.specs.TypedRules.{TypedRuleNode}
use Rattle.isle_check_laws.specs.RightProgram.{AreRight, HasRoot, gives_rules}
use Rattle.isle_check_laws.specs.Untold.{root_term}
use Rattle.isle_check_laws.proofs.ProgramLaws.{programs_typed}
use Rattle.isle_check_core.specs.Findings.{FindingNode, after_rules, findings, has_error, of_rule_fault, rule_depth}
use Rattle.isle_check_laws.proofs.EnvironmentLaws.{environment_true}
use Rattle.isle_check_laws.proofs.Meanings.{Means, meaning}
use Rattle.isle_check_laws.specs.NoErrors.{HasNoError, is_of_rule}
use Rattle.isle_check_laws.proofs.Elements.{everyone, parts_empty}
use Rattle.isle_check_laws.proofs.EmptyGroups.{every_group_empty, rules_alone}
use Rattle.isle_check_laws.proofs.Groups.{of_first}

-- where none of the findings is an error
module _ (ds : List Definition) (none : has_error (findings ds) ≡ false) where
  abbrev empty : HasNoError ds
  empty = every_group_empty ds none

  declared_root : (name : Name) (r : RuleDefinition) (node : TermNode) → Means ds name.text node → wrong_root_term node name r.pos ≡ [] →
      (environment ds).terms name.text ≢ None
  declared_root name r unknown_term means right = cc
  declared_root name r variant_term means right = cc
  declared_root name r (declared_term d) means right =
      λ unknown. (environment_true ds).unknown_term name.text unknown (inl (d, means.0, means.1))

  root_by : (r : RuleDefinition) (p : PatternNode) → wrong_root_at (terms ds) (roots.root_term p) r.pos ≡ [] → root_term (environment ds) p ≢ None
  root_by r (term_pattern name args place) right = declared_root name r (terms ds name.text) (meaning ds empty.terms name.text) right
  root_by r (var_pattern _ _) right = cc
  root_by r (bind_pattern _ _ _) right = cc
  root_by r (bool_pattern _ _) right = cc
  root_by r (int_pattern _ _) right = cc
  root_by r (constant_pattern _ _) right = cc
  root_by r (wildcard_pattern _) right = cc
  root_by r (and_pattern _ _) right = cc
  root_by r (macro_arg_pattern _ _) right = cc

  known_roots : All (HasRoot (environment ds)) (rules_in ds)
  known_roots =
      everyone (HasRoot (environment ds)) (rules_in ds)
      (λ r in_rs. root_by r r.pattern (parts_empty (wrong_root (terms ds)) (rules_in ds) empty.roots r in_rs))

  abbrev IsOther : FindingNode → Type 0
  IsOther f = is_of_rule f.kind ≡ false

  no_rule : (fs : List typing.FaultNode) → All IsOther (map of_rule_fault fs) → fs ≡ []
  no_rule [] others = refl
  no_rule (f ∷ fs) others = absurd (let first = All-head IsOther (of_rule_fault f) (map of_rule_fault fs) others in cc)

  no_faults : All IsOther (findings ds) → empty.rules.made.faults ≡ []
  no_faults others =
      let made = empty.rules.made in
      no_rule made.faults
      (of_first IsOther (map of_rule_fault made.faults) (after_rules (environment ds) made.typed ds) (subst (All IsOther) (rules_alone ds empty) others))

  pub right : All IsOther (findings ds) → (typed : List TypedRuleNode) × AreRight (environment ds) ds typed
  right others =
      let made = empty.rules.made in
      let whole : rule_faults rule_depth (environment ds) ds ≡ gives_rules made.typed [] = empty.rules.not_deep ∙ ap (gives_rules made.typed) (no_faults others) in
      (made.typed, (programs_typed (environment ds) ds made.typed known_roots).0 (rule_depth, whole))
