-- The variables of `let`s in rules: those that the lint finds, and those of the relation.
use Rattle.std.proofs.Common.{Bool, not, ◌≡◌, ◌↔◌, List, [], ◌∷◌, ◌++◌, true, false, Contains, refl, sym, ap, subst, ◌∙◌, ⊎_elim}
use Rattle.std.proofs.lemmas.Bool.{false_from_ne_true, not-true}
use Rattle.std.proofs.lemmas.List.Elements.{Contains-append_cases, Contains-append_left, Contains-append_right}
use Rattle.std.specs.List.{flat_map}
use Rattle.isle_ast_names.specs.Tree.{Name}
use Rattle.isle_ast_rules.specs.Tree.{PatternNode, var_pattern, bind_pattern, bool_pattern, int_pattern, constant_pattern, term_pattern, wildcard_pattern, and_pattern, macro_arg_pattern, PatternList, no_pattern, more_pattern, Expression, Condition, RuleDefinition}
use Rattle.isle_index_laws.specs.scopes.Reads.{Reads, ConditionsRead, in_condition, in_later_condition as in_a_later, RuleReads, in_conditions, in_right_side, pattern_list_variables, pattern_variables, rule_variables}
use Rattle.isle_index_laws.specs.scopes.Reads as scopes
use Rattle.isle_index_laws.proofs.scopes.Occurrences.{no_element}
use Rattle.isle_lint_core.specs.Names.{has}
use Rattle.isle_lint_core.specs.Shadowed.{conditions_shadowed, shadowed, shadowed_variables}
use Rattle.isle_lint_core.specs.Unused.{unused, unused_lets}
use Rattle.isle_lint_core.specs.Uses.{uses}
use Rattle.isle_lint_core.specs.Variables.{all, condition_variables, list_variables, variables}
use Rattle.isle_lint_core.specs.Variables as lint
use Rattle.isle_index_laws.specs.scopes.lints.Rules.{HasExpression, of_condition, of_rule, HaveExpression, in_first_condition, in_later_condition}
use Rattle.isle_index_laws.specs.scopes.lints.Lets.{Binds, IsShadowing, IsUnusedLet}
use Rattle.isle_index_laws.proofs.scopes.lints.Lets.{FoundBy, IsBy, IsHad, found_lets, found_shadowed, lets_by, lets_found, shadowed_found, unused_are}
use Rattle.isle_index_laws.proofs.scopes.lints.Names.{SameTexts, had_meant, meant_had, same_more}
use Rattle.isle_index_laws.proofs.scopes.lints.Uses.{not_read, used}

-- reads are those of the expressions

conditions_read : (scope : List Name) (cs : List Condition) (name : Name) (visible : List Name) → ConditionsRead scope cs name visible →
    (x : Expression) × (there : List Name) × HaveExpression scope cs x there × Reads there x name visible
conditions_read _ _ _ _ (in_condition {scope} {visible} {c} {cs} {name} h) = (c.expr, scope, in_first_condition, h)
conditions_read _ _ _ _ (in_a_later {scope} {visible} {c} {cs} {name} h) =
    let found = conditions_read (scope ++ pattern_variables c.pattern) cs name visible h in
    (found.0, found.1, in_later_condition found.2, found.3)

read_conditions : (scope : List Name) (cs : List Condition) (x : Expression) (there : List Name) → HaveExpression scope cs x there →
    (name : Name) (visible : List Name) → Reads there x name visible → ConditionsRead scope cs name visible
read_conditions _ _ _ _ (in_first_condition {scope} {c} {cs}) name visible h = in_condition h
read_conditions _ _ _ _ (in_later_condition {scope} {there} {c} {cs} {x} has) name visible h =
    in_a_later (read_conditions (scope ++ pattern_variables c.pattern) cs x there has name visible h)

rule_reads : (r : RuleDefinition) (name : Name) (visible : List Name) → RuleReads r name visible →
    (x : Expression) × (scope : List Name) × HasExpression r x scope × Reads scope x name visible
rule_reads _ _ _ (in_conditions {r} {name} {visible} h) =
    let found = conditions_read (pattern_variables r.pattern) r.iflets name visible h in
    (found.0, found.1, of_condition found.2, found.3)
rule_reads _ _ _ (in_right_side {r} {name} {visible} h) = (r.expr, rule_variables r, of_rule, h)

read_rule : (r : RuleDefinition) (x : Expression) (scope : List Name) → HasExpression r x scope → (name : Name) (visible : List Name) → Reads scope x name visible →
    RuleReads r name visible
read_rule _ _ _ (of_condition {r} {x} {scope} has) name visible h = in_conditions (read_conditions (pattern_variables r.pattern) r.iflets x scope has name visible h)
read_rule _ _ _ (of_rule {r}) name visible h = in_right_side h

pub expressions_read : (r : RuleDefinition) (name : Name) (visible : List Name) →
    RuleReads r name visible ↔ ((x : Expression) × (scope : List Name) × HasExpression r x scope × Reads scope x name visible)
expressions_read r name visible = (rule_reads r name visible, λ h. read_rule r h.0 h.1 h.2 name visible h.3)

-- the variables of patterns are those of scopes

mutual
  pub all_variables : (p : PatternNode) → variables all p ≡ pattern_variables p
  all_variables (var_pattern var place) = refl
  all_variables (bind_pattern var subpat place) = ap (λ ns. var ∷ ns) (all_variables subpat)
  all_variables (bool_pattern val place) = refl
  all_variables (int_pattern val place) = refl
  all_variables (constant_pattern val place) = refl
  all_variables (term_pattern f args place) = all_list_variables args
  all_variables (wildcard_pattern place) = refl
  all_variables (and_pattern subpats place) = all_list_variables subpats
  all_variables (macro_arg_pattern index place) = refl

  all_list_variables : (ps : PatternList) → list_variables all ps ≡ pattern_list_variables ps
  all_list_variables no_pattern = refl
  all_list_variables (more_pattern p ps) =
      ap (λ ns. ns ++ list_variables all ps) (all_variables p) ∙ ap (λ ns. pattern_variables p ++ ns) (all_list_variables ps)

all_condition_variables : (cs : List Condition) → condition_variables cs ≡ scopes.condition_variables cs
all_condition_variables [] = refl
all_condition_variables (c ∷ cs) =
    ap (λ ns. ns ++ condition_variables cs) (all_variables c.pattern) ∙ ap (λ ns. pattern_variables c.pattern ++ ns) (all_condition_variables cs)

pub all_rule_variables : (r : RuleDefinition) → lint.rule_variables r ≡ rule_variables r
all_rule_variables r =
    ap (λ ns. ns ++ condition_variables r.iflets) (all_variables r.pattern) ∙ ap (λ ns. pattern_variables r.pattern ++ ns) (all_condition_variables r.iflets)

-- a `let` in an expression of the rule binds the variable at a place with this

abbrev Somewhere : RuleDefinition → Name → (P : List Name → Expression → Type 0) → Type 0
Somewhere r name P = (x : Expression) × (scope : List Name) × HasExpression r x scope × FoundBy (Binds scope x name) P

-- by whether something behind uses them

abbrev pub rule_lets_by : (keep : Bool → Bool) → RuleDefinition → List Name
rule_lets_by keep r = flat_map (λ c. lets_by keep c.expr) r.iflets ++ lets_by keep r.expr

conditions_unused_are : (cs : List Condition) → flat_map (λ c. unused c.expr) cs ≡ flat_map (λ c. lets_by not c.expr) cs
conditions_unused_are [] = refl
conditions_unused_are (c ∷ cs) =
    ap (λ ns. ns ++ flat_map (λ d. unused d.expr) cs) (unused_are c.expr) ∙ ap (λ ns. lets_by not c.expr ++ ns) (conditions_unused_are cs)

pub rule_unused_are : (r : RuleDefinition) → unused_lets r ≡ rule_lets_by not r
rule_unused_are r =
    ap (λ ns. ns ++ unused r.expr) (conditions_unused_are r.iflets) ∙ ap (λ ns. flat_map (λ c. lets_by not c.expr) r.iflets ++ ns) (unused_are r.expr)

module _ (keep : Bool → Bool) where
  lets_somewhere : (cs : List Condition) (scope : List Name) (name : Name) → Contains (flat_map (λ c. lets_by keep c.expr) cs) name →
      (x : Expression) × (there : List Name) × HaveExpression scope cs x there × Contains (lets_by keep x) name
  lets_somewhere [] scope name h = absurd (no_element name h)
  lets_somewhere (c ∷ cs) scope name h =
      ⊎_elim
      (λ first. (c.expr, scope, in_first_condition, first))
      (λ later.
      let found = lets_somewhere cs (scope ++ pattern_variables c.pattern) name later in
      (found.0, found.1, in_later_condition found.2, found.3))
      (Contains-append_cases (lets_by keep c.expr) (flat_map (λ d. lets_by keep d.expr) cs) name h)

  somewhere_lets : (scope : List Name) (cs : List Condition) (x : Expression) (there : List Name) → HaveExpression scope cs x there →
      (name : Name) → Contains (lets_by keep x) name → Contains (flat_map (λ c. lets_by keep c.expr) cs) name
  somewhere_lets _ _ _ _ (in_first_condition {scope} {c} {cs}) name h = Contains-append_left (lets_by keep c.expr) (flat_map (λ d. lets_by keep d.expr) cs) name h
  somewhere_lets _ _ _ _ (in_later_condition {scope} {there} {c} {cs} {x} has) name h =
      Contains-append_right (lets_by keep c.expr) (flat_map (λ d. lets_by keep d.expr) cs) name (somewhere_lets (scope ++ pattern_variables c.pattern) cs x there has name h)

  lets_in_rule : (r : RuleDefinition) (name : Name) → Contains (rule_lets_by keep r) name → Somewhere r name (IsBy keep name)
  lets_in_rule r name h =
      ⊎_elim
      (λ conditions.
      let found = lets_somewhere r.iflets (pattern_variables r.pattern) name conditions in
      (found.0, found.1, of_condition found.2, lets_found keep found.0 found.1 name found.3))
      (λ right. (r.expr, rule_variables r, of_rule, lets_found keep r.expr (rule_variables r) name right))
      (Contains-append_cases (flat_map (λ c. lets_by keep c.expr) r.iflets) (lets_by keep r.expr) name h)

  pub in_rule_lets : (r : RuleDefinition) (x : Expression) (scope : List Name) → HasExpression r x scope → (name : Name) → Contains (lets_by keep x) name →
      Contains (rule_lets_by keep r) name
  in_rule_lets _ _ _ (of_condition {r} {x} {scope} has) name h =
      Contains-append_left (flat_map (λ c. lets_by keep c.expr) r.iflets) (lets_by keep r.expr) name (somewhere_lets (pattern_variables r.pattern) r.iflets x scope has name h)
  in_rule_lets _ _ _ (of_rule {r}) name h = Contains-append_right (flat_map (λ c. lets_by keep c.expr) r.iflets) (lets_by keep r.expr) name h

-- unused

pub unused_variables : (r : RuleDefinition) (name : Name) → Contains (unused_lets r) name ↔ IsUnusedLet r name
unused_variables r name = (
  λ h.
      let found = lets_in_rule not r name (subst (λ ns. Contains ns name) (rule_unused_are r) h) in
      let idle : uses found.3.1 name.text ≡ false = not-true (uses found.3.1 name.text) found.3.3 in
      (found.3.0, found.3.1, (found.0, found.1, found.2, found.3.2), not_read found.3.1 (name ∷ found.3.0) name.text idle),
  λ h.
      let place = h.2 in
      let idle : uses h.1 name.text ≡ false = false_from_ne_true (uses h.1 name.text) (λ yes. h.3 (used h.1 (name ∷ h.0) name.text yes)) in
      subst (λ ns. Contains ns name) (sym (rule_unused_are r))
      (in_rule_lets not r place.0 place.1 place.2 name (found_lets not place.1 place.0 name h.0 h.1 place.3 (ap not idle))),
)

-- shadowed

same_patterns : (c : Condition) (bound scope : List Name) → SameTexts bound scope → SameTexts (bound ++ variables all c.pattern) (scope ++ pattern_variables c.pattern)
same_patterns c bound scope same =
    subst (λ ns. SameTexts (bound ++ ns) (scope ++ pattern_variables c.pattern)) (sym (all_variables c.pattern))
    (same_more bound scope (pattern_variables c.pattern) same)

shadowed_somewhere : (cs : List Condition) (bound scope : List Name) (name : Name) → SameTexts bound scope → Contains (conditions_shadowed cs bound) name →
    (x : Expression) × (there : List Name) × HaveExpression scope cs x there × FoundBy (Binds there x name) (IsHad name)
shadowed_somewhere [] bound scope name same h = absurd (no_element name h)
shadowed_somewhere (c ∷ cs) bound scope name same h =
    ⊎_elim
    (λ first. (c.expr, scope, in_first_condition, shadowed_found c.expr bound scope name same first))
    (λ later.
    let found = shadowed_somewhere cs (bound ++ variables all c.pattern) (scope ++ pattern_variables c.pattern) name (same_patterns c bound scope same) later in
    (found.0, found.1, in_later_condition found.2, found.3))
    (Contains-append_cases (shadowed c.expr bound) (conditions_shadowed cs (bound ++ variables all c.pattern)) name h)

somewhere_shadowed : (scope : List Name) (cs : List Condition) (x : Expression) (there : List Name) → HaveExpression scope cs x there →
    (bound : List Name) (name : Name) → SameTexts bound scope → ((inside : List Name) → SameTexts inside there → Contains (shadowed x inside) name) →
    Contains (conditions_shadowed cs bound) name
somewhere_shadowed _ _ _ _ (in_first_condition {scope} {c} {cs}) bound name same h =
    Contains-append_left (shadowed c.expr bound) (conditions_shadowed cs (bound ++ variables all c.pattern)) name (h bound same)
somewhere_shadowed _ _ _ _ (in_later_condition {scope} {there} {c} {cs} {x} has) bound name same h =
    Contains-append_right (shadowed c.expr bound) (conditions_shadowed cs (bound ++ variables all c.pattern)) name
    (somewhere_shadowed (scope ++ pattern_variables c.pattern) cs x there has (bound ++ variables all c.pattern) name (same_patterns c bound scope same) h)

same_pattern : (r : RuleDefinition) → SameTexts (variables all r.pattern) (pattern_variables r.pattern)
same_pattern r text = ap (λ ns. has ns text) (all_variables r.pattern)

same_rule : (r : RuleDefinition) → SameTexts (lint.rule_variables r) (rule_variables r)
same_rule r text = ap (λ ns. has ns text) (all_rule_variables r)

shadowed_in_rule : (r : RuleDefinition) (name : Name) → Contains (shadowed_variables r) name → Somewhere r name (IsHad name)
shadowed_in_rule r name h =
    ⊎_elim
    (λ conditions.
    let found = shadowed_somewhere r.iflets (variables all r.pattern) (pattern_variables r.pattern) name (same_pattern r) conditions in
    (found.0, found.1, of_condition found.2, found.3))
    (λ right. (r.expr, rule_variables r, of_rule, shadowed_found r.expr (lint.rule_variables r) (rule_variables r) name (same_rule r) right))
    (Contains-append_cases (conditions_shadowed r.iflets (variables all r.pattern)) (shadowed r.expr (lint.rule_variables r)) name h)

in_rule_shadowed : (r : RuleDefinition) (x : Expression) (scope : List Name) → HasExpression r x scope → (name : Name) →
    ((inside : List Name) → SameTexts inside scope → Contains (shadowed x inside) name) → Contains (shadowed_variables r) name
in_rule_shadowed _ _ _ (of_condition {r} {x} {scope} has) name h =
    Contains-append_left (conditions_shadowed r.iflets (variables all r.pattern)) (shadowed r.expr (lint.rule_variables r)) name
    (somewhere_shadowed (pattern_variables r.pattern) r.iflets x scope has (variables all r.pattern) name (same_pattern r) h)
in_rule_shadowed _ _ _ (of_rule {r}) name h =
    Contains-append_right (conditions_shadowed r.iflets (variables all r.pattern)) (shadowed r.expr (lint.rule_variables r)) name (h (lint.rule_variables r) (same_rule r))

pub shadowing_variables : (r : RuleDefinition) (name : Name) → Contains (shadowed_variables r) name ↔ IsShadowing r name
shadowing_variables r name = (
  λ h.
      let found = shadowed_in_rule r name h in
      let hidden = meant_had found.3.0 name.text found.3.3 in
      (found.3.0, found.3.1, (found.0, found.1, found.2, found.3.2), hidden.0, hidden.1),
  λ h.
      let place = h.2 in
      let had : has h.0 name.text ≡ true = had_meant h.0 name.text h.3 h.4 in
      in_rule_shadowed r place.0 place.1 place.2 name (λ inside same. found_shadowed place.1 place.0 name h.0 h.1 place.3 inside same had),
)
