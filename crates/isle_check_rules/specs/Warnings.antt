-- What upstream accepts in rules without an error, and does not compile.
use Rattle.std.specs.Prelude.{ℕ, List, [], ◌∷◌, ◌++◌, Bool, false, Option, None, Some, map, if◌then◌else◌}
use Rattle.std.specs.List.{filter, flat_map}
use Rattle.isle_base_source.specs.declared.pos.Pos.{Pos}
use Rattle.isle_ast_names.specs.Tree.{Name}
use Rattle.isle_ast_rules.specs.Tree.{RuleDefinition}
use Rattle.isle_check_environment.specs.signatures.Environment.{EnvironmentNode}
use Rattle.isle_check_environment.specs.signatures.Signatures.{TermNode}
use Rattle.isle_check_typing.specs.Typed.{TypedNode, typed_bind, typed_var, typed_bool, typed_int, typed_const, typed_term, typed_wildcard, typed_and, TypedList, no_typed, more_typed}
use Rattle.isle_check_typing.specs.TypedView.{typed_list_of}
use Rattle.isle_check_rules.specs.Constructors.{without_constructor}
use Rattle.isle_check_rules.specs.TypedRules.{TypedRuleNode}

pub data WarningKindNode : Type 0 where
  no_constructor : (term : List ℕ) → WarningKindNode
  multi_extractor : (term : List ℕ) → WarningKindNode

pub record WarningNode : Type 0 where
  pub kind : WarningKindNode
  pub pos : Pos

abbrev pub constructor_warning : Pos × Name → WarningNode
constructor_warning head = record { kind = no_constructor head.1.text; pos = head.0 }

-- the terms of a rule's conditions have constructors
abbrev pub rule_conditions : EnvironmentNode → RuleDefinition → List WarningNode
rule_conditions env r =
    flat_map (λ c. map constructor_warning (without_constructor env c.expr)) r.iflets

abbrev pub conditions_without_constructor : EnvironmentNode → List RuleDefinition → List WarningNode
conditions_without_constructor env rs = flat_map (rule_conditions env) rs

-- the terms of a typed pattern: a term comes before those of its arguments
abbrev mutual
  pub terms_in : TypedNode → List (List ℕ)
  terms_in (typed_bind _ _ subpat) = terms_in subpat
  terms_in (typed_var _ _) = []
  terms_in (typed_bool _ _) = []
  terms_in (typed_int _ _) = []
  terms_in (typed_const _ _) = []
  terms_in (typed_term term _ args) = term ∷ list_terms_in args
  terms_in (typed_wildcard _) = []
  terms_in (typed_and _ subpats) = list_terms_in subpats

  pub list_terms_in : TypedList → List (List ℕ)
  list_terms_in no_typed = []
  list_terms_in (more_typed p ps) = terms_in p ++ list_terms_in ps

abbrev pub multi_by : Option TermNode → Bool
multi_by None = false
multi_by (Some t) = t.multi

abbrev pub is_multi : EnvironmentNode → (term : List ℕ) → Bool
is_multi env term = multi_by (env.terms term)

-- the terms of a typed rule's patterns, in order
abbrev pub terms_in_patterns : TypedRuleNode → List (List ℕ)
terms_in_patterns r = list_terms_in (typed_list_of r.args) ++ flat_map (λ c. terms_in c.pattern) r.iflets

abbrev pub multi_warning : Pos → (term : List ℕ) → WarningNode
multi_warning pos term = record { kind = multi_extractor term; pos = pos }

-- a multi extractor stands in the patterns of a rule of a multi term alone
abbrev pub rule_multi_extractors : EnvironmentNode → TypedRuleNode → List WarningNode
rule_multi_extractors env r =
    if is_multi env r.term then [] else map (multi_warning r.pos) (filter (is_multi env) (terms_in_patterns r))

abbrev pub multi_extractors : EnvironmentNode → List TypedRuleNode → List WarningNode
multi_extractors env rs = flat_map (rule_multi_extractors env) rs
