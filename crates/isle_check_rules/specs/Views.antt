-- Typed rules, warnings and answers of code, as pure values.
use Rattle.std.specs.Prelude.{◌≡◌, ℕ, List, Result, Ok, Err, map, option_map, string_bytes}
use Rattle.std.specs.Borrow.{Bor}
use Rattle.isle_base_source.specs.declared.pos.Pos.{Pos}
use Rattle.isle_ast_names.specs.declared.Ident.{Ident}
use Rattle.isle_ast_names.specs.Tree.{Name}
use Rattle.isle_ast_names.specs.TreeView.{name_of}
use Rattle.isle_check_typing.specs.TypedView.{all_typed_of, typed_of}
use Rattle.isle_check_typing.specs.Views.{faults_of}
use Rattle.isle_check_typing.specs.expressions.TypedView.{typed_expression_of}
use Rattle.isle_check_rules.specs.declared.refusal.RuleRefusal.{RuleRefusal}
use Rattle.isle_check_rules.specs.declared.refusal.RuleRefusal.TheVariants as refusals
use Rattle.isle_check_rules.specs.declared.typed.RuleTyping as code_rule
use Rattle.isle_check_rules.specs.declared.typed.RulesTyping as code_rules
use Rattle.isle_check_rules.specs.declared.typed.TypedIfLet.{TypedIfLet}
use Rattle.isle_check_rules.specs.declared.typed.TypedRule.{TypedRule}
use Rattle.isle_check_rules.specs.declared.warnings.Warning.{Warning}
use Rattle.isle_check_rules.specs.declared.warnings.WarningKind.{WarningKind}
use Rattle.isle_check_rules.specs.declared.warnings.WarningKind.TheVariants as kinds
use Rattle.isle_check_rules.specs.RuleTypes.{RuleTyping, RulesTyping}
use Rattle.isle_check_rules.specs.TypedRules.{TypedCondition, TypedRuleNode}
use Rattle.isle_check_rules.specs.Warnings.{WarningKindNode, WarningNode, multi_extractor, no_constructor}

abbrev pub typed_condition_of : TypedIfLet → TypedCondition
typed_condition_of c = record { pattern = typed_of c.pattern; expr = typed_expression_of c.expr }

abbrev pub typed_conditions_of : List TypedIfLet → List TypedCondition
typed_conditions_of cs = map typed_condition_of cs

abbrev pub typed_rule_of : TypedRule → TypedRuleNode
typed_rule_of r =
    record {
      term = r.term.now;
      args = all_typed_of r.args.items;
      iflets = typed_conditions_of r.iflets.items;
      expr = typed_expression_of r.expr;
      prio = r.prio;
      pos = r.pos;
    }

abbrev pub typed_rules_of : List TypedRule → List TypedRuleNode
typed_rules_of rs = map typed_rule_of rs

abbrev pub rule_typing_of : code_rule.RuleTyping → RuleTyping
rule_typing_of r = record { typed = option_map typed_rule_of r.typed; faults = faults_of r.faults.items }

abbrev pub rules_typing_of : code_rules.RulesTyping → RulesTyping
rules_typing_of r = record { typed = typed_rules_of r.typed.items; faults = faults_of r.faults.items }

-- the positions and symbols of terms
abbrev pub heads_at : List (Pos × Bor Ident) → List (Pos × Name)
heads_at hs = map (λ h. (h.0, name_of h.1.now)) hs

abbrev pub texts_at : List (Bor (List ℕ)) → List (List ℕ)
texts_at ts = map (λ t. t.now) ts

abbrev pub warning_kind_of : WarningKind → WarningKindNode
warning_kind_of (kinds.NoConstructor term) = no_constructor (string_bytes term)
warning_kind_of (kinds.MultiExtractor term) = multi_extractor (string_bytes term)

abbrev pub warning_of : Warning → WarningNode
warning_of w = record { kind = warning_kind_of w.kind; pos = w.pos }

abbrev pub warnings_of : List Warning → List WarningNode
warnings_of ws = map warning_of ws

abbrev pub RefusesAt : {Y : Type 0} → RuleRefusal → Result Y Pos → Type 0
RefusesAt (refusals.TooDeep place) made = made ≡ Err place
RefusesAt refusals.Memory made = Unit {0}

-- the answer, seen by view, is this one, or it is the position of the rule that is too deep; want of
-- memory aside
abbrev pub GivesRules : {X Y : Type 0} → (X → Y) → Result X RuleRefusal → Result Y Pos → Type 0
GivesRules view (Ok x) made = made ≡ Ok (view x)
GivesRules view (Err r) made = RefusesAt r made
