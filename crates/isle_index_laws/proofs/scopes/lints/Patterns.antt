-- The variables of patterns that are written once and never read: those that the lint finds, and those of the scopes.
use Rattle.std.proofs.Common.{◌≡◌, ◌↔◌, ℕ, List, [], ◌∷◌, ◌++◌, Bool, false, not, ◌==◌, Contains, bytes_eq, refl, sym, ap, subst, ◌∙◌, append_assoc, ⊎_elim}
use Rattle.std.proofs.lemmas.Bool.{and_from, and_parts, eq-eqb, eqb-true, false_from_ne_true, not-true, or_from, or_parts}
use Rattle.std.proofs.lemmas.List.Elements.{Contains-append_cases, Contains-append_left, Contains-append_right}
use Rattle.std.specs.List.{count_by, flat_map}
use Rattle.isle_ast_names.specs.Tree.{Name}
use Rattle.isle_ast_rules.specs.Tree.{PatternNode, var_pattern, bind_pattern, bool_pattern, int_pattern, constant_pattern, term_pattern, wildcard_pattern, and_pattern, macro_arg_pattern, PatternList, no_pattern, more_pattern, Expression, Condition, RuleDefinition}
use Rattle.isle_index_laws.specs.scopes.Reads.{condition_variables, pattern_list_variables, pattern_variables, rule_variables}
use Rattle.isle_index_laws.proofs.scopes.Occurrences.{no_element}
use Rattle.isle_index_laws.proofs.scopes.Programs.{here}
use Rattle.isle_lint_core.specs.Names.{kept_if}
use Rattle.isle_lint_core.specs.Unused.{conditions_idle, idle, is_idle, rule_idle}
use Rattle.isle_lint_core.specs.Uses.{uses, uses_after}
use Rattle.isle_lint_core.specs.Variables.{list_variables, variables}
use Rattle.isle_lint_core.specs.Variables as lint
use Rattle.isle_lint_core.specs.declared.patterns.Wanted.{Wanted}
use Rattle.isle_index_laws.specs.scopes.lints.Patterns.{IsIdle, IsReadInRule, wanted_variables}
use Rattle.isle_index_laws.specs.scopes.lints.Rules.{HasExpression, of_condition, of_rule, HaveExpression, in_first_condition, in_later_condition}
use Rattle.isle_index_laws.proofs.scopes.lints.Names.{filtered, kept_is, passed, twice}
use Rattle.isle_index_laws.proofs.scopes.lints.Rules.{all_rule_variables}
use Rattle.isle_index_laws.proofs.scopes.lints.Uses.{not_read, text_same, used}

-- wanted variables are variables

mutual
  wanted_is : (w : Wanted) (p : PatternNode) (n : Name) → Contains (variables w p) n → Contains (pattern_variables p) n
  wanted_is w (var_pattern var place) n h = let is = kept_is w.alone var n h in subst (Contains (var ∷ [])) is.1 (here [] var)
  wanted_is w (bind_pattern var subpat place) n h =
      ⊎_elim
      (λ own. let is = kept_is w.bindings var n own in subst (Contains (var ∷ pattern_variables subpat)) is.1 (here (pattern_variables subpat) var))
      (λ inside. Contains-append_right (var ∷ []) (pattern_variables subpat) n (wanted_is w subpat n inside))
      (Contains-append_cases (kept_if w.bindings var) (variables w subpat) n h)
  wanted_is w (bool_pattern val place) n h = h
  wanted_is w (int_pattern val place) n h = h
  wanted_is w (constant_pattern val place) n h = h
  wanted_is w (term_pattern f args place) n h = wanted_list_is w args n h
  wanted_is w (wildcard_pattern place) n h = h
  wanted_is w (and_pattern subpats place) n h = wanted_list_is w subpats n h
  wanted_is w (macro_arg_pattern index place) n h = h

  wanted_list_is : (w : Wanted) (ps : PatternList) (n : Name) → Contains (list_variables w ps) n → Contains (pattern_list_variables ps) n
  wanted_list_is w no_pattern n h = h
  wanted_list_is w (more_pattern p ps) n h =
      ⊎_elim
      (λ first. Contains-append_left (pattern_variables p) (pattern_list_variables ps) n (wanted_is w p n first))
      (λ later. Contains-append_right (pattern_variables p) (pattern_list_variables ps) n (wanted_list_is w ps n later))
      (Contains-append_cases (variables w p) (list_variables w ps) n h)

wanted_conditions : (w : Wanted) (cs : List Condition) (n : Name) → Contains (flat_map (λ c. variables w c.pattern) cs) n → Contains (condition_variables cs) n
wanted_conditions w [] n h = h
wanted_conditions w (c ∷ cs) n h =
    ⊎_elim
    (λ first. Contains-append_left (pattern_variables c.pattern) (condition_variables cs) n (wanted_is w c.pattern n first))
    (λ later. Contains-append_right (pattern_variables c.pattern) (condition_variables cs) n (wanted_conditions w cs n later))
    (Contains-append_cases (variables w c.pattern) (flat_map (λ d. variables w d.pattern) cs) n h)

pub wanted_in_rule : (w : Wanted) (r : RuleDefinition) (n : Name) → Contains (wanted_variables w r) n → Contains (rule_variables r) n
wanted_in_rule w r n h =
    ⊎_elim
    (λ first. Contains-append_left (pattern_variables r.pattern) (condition_variables r.iflets) n (wanted_is w r.pattern n first))
    (λ later. Contains-append_right (pattern_variables r.pattern) (condition_variables r.iflets) n (wanted_conditions w r.iflets n later))
    (Contains-append_cases (variables w r.pattern) (flat_map (λ c. variables w c.pattern) r.iflets) n h)

-- no expression that has the variable in scope uses it

abbrev NoneUses : (scope : List Name) → List Condition → Name → Type 0
NoneUses scope cs n = (x : Expression) (there : List Name) → HaveExpression scope cs x there → Contains there n → uses x n.text ≡ false

abbrev pub NoneOfRuleUses : RuleDefinition → Name → Type 0
NoneOfRuleUses r n = (x : Expression) (scope : List Name) → HasExpression r x scope → Contains scope n → uses x n.text ≡ false

later_none : (scope : List Name) (c : Condition) (cs : List Condition) (n : Name) → NoneUses scope (c ∷ cs) n → NoneUses (scope ++ pattern_variables c.pattern) cs n
later_none scope c cs n none x there has = none x there (in_later_condition has)

-- behind a pattern that has it
after_unused : (cs : List Condition) (scope : List Name) (expr : Expression) (n : Name) → Contains scope n → NoneUses scope cs n → uses expr n.text ≡ false →
    uses_after cs expr n.text ≡ false
after_unused [] scope expr n has none right = right
after_unused (c ∷ cs) scope expr n has none right =
    or_from (uses c.expr n.text) (uses_after cs expr n.text) (none c.expr scope in_first_condition has)
    (after_unused cs (scope ++ pattern_variables c.pattern) expr n (Contains-append_left scope (pattern_variables c.pattern) n has) (later_none scope c cs n none) right)

unused_after : (scope : List Name) (cs : List Condition) (x : Expression) (there : List Name) → HaveExpression scope cs x there → (expr : Expression) (text : List ℕ) →
    uses_after cs expr text ≡ false → uses x text ≡ false
unused_after _ _ _ _ (in_first_condition {scope} {c} {cs}) expr text none = (or_parts (uses c.expr text) (uses_after cs expr text) none).0
unused_after _ _ _ _ (in_later_condition {scope} {there} {c} {cs} {x} has) expr text none =
    unused_after (scope ++ pattern_variables c.pattern) cs x there has expr text (or_parts (uses c.expr text) (uses_after cs expr text) none).1

right_unused : (cs : List Condition) (expr : Expression) (text : List ℕ) → uses_after cs expr text ≡ false → uses expr text ≡ false
right_unused [] expr text none = none
right_unused (c ∷ cs) expr text none = right_unused cs expr text (or_parts (uses c.expr text) (uses_after cs expr text) none).1

-- what is idle

abbrev counted : List Name → Name → ℕ
counted ns n = count_by (λ m. bytes_eq m.text n.text) ns

-- an idle one of a pattern's own variables
record OwnIdle (written own : List Name) (after : List ℕ → Bool) (n : Name) : Type 0 where
  is_own : Contains own n
  is_single : counted written n ≡ 1
  is_unused : after n.text ≡ false

own_idle : (written own : List Name) (after : List ℕ → Bool) (n : Name) → Contains (idle written own after) n → OwnIdle written own after n
own_idle written own after n h =
    let found = filtered (λ m. is_idle written after m.text) own n h in
    let parts = and_parts (counted written n == 1) (not (after n.text)) found.1 in
    record { is_own = found.0; is_single = eqb-true (counted written n) 1 parts.0; is_unused = not-true (after n.text) parts.1 }

idle_own : (written own : List Name) (after : List ℕ → Bool) (n : Name) → Contains own n → counted written n ≡ 1 → after n.text ≡ false → Contains (idle written own after) n
idle_own written own after n has single none =
    passed (λ m. is_idle written after m.text) own n has
    (and_from (counted written n == 1) (not (after n.text)) (eq-eqb (counted written n) 1 single) (ap not none))

-- conditions: the variable is written once, so it is not in scope before its own pattern
record ConditionsIdle (w : Wanted) (scope : List Name) (cs : List Condition) (expr : Expression) (n : Name) : Type 0 where
  is_wanted : Contains (flat_map (λ c. variables w c.pattern) cs) n
  none_uses : NoneUses scope cs n
  right : uses expr n.text ≡ false

not_twice : (scope vs : List Name) (n : Name) → counted (scope ++ vs) n ≡ 1 → Contains vs n → Contains scope n → ⊥
not_twice scope vs n single second first = twice (λ m. bytes_eq m.text n.text) scope vs n first second (text_same n.text) single

first_or_later : (scope : List Name) (cs : List Condition) (x : Expression) (there : List Name) → HaveExpression scope cs x there → (c : Condition) (ds : List Condition) → cs ≡ c ∷ ds →
    (n : Name) → (Contains scope n → uses c.expr n.text ≡ false) → NoneUses (scope ++ pattern_variables c.pattern) ds n → Contains there n → uses x n.text ≡ false
first_or_later _ _ _ _ (in_first_condition {scope} {c} {cs}) d ds is n first later has =
    let same : c ≡ d = cc in
    ap (λ e. uses e.expr n.text) same ∙ first has
first_or_later _ _ _ _ (in_later_condition {scope} {there} {c} {cs} {x} inside) d ds is n first later has =
    let same : c ≡ d = cc in
    let rest : cs ≡ ds = cc in
    later x there (subst (λ es. HaveExpression (scope ++ pattern_variables d.pattern) es x there) rest (subst (λ e. HaveExpression (scope ++ pattern_variables e.pattern) cs x there) same inside)) has

none_of_all : (scope : List Name) (c : Condition) (cs : List Condition) (n : Name) → (Contains scope n → uses c.expr n.text ≡ false) → NoneUses (scope ++ pattern_variables c.pattern) cs n →
    NoneUses scope (c ∷ cs) n
none_of_all scope c cs n first later x there inside has = first_or_later scope (c ∷ cs) x there inside c cs refl n first later has

conditions_are_idle : (w : Wanted) (written : List Name) (cs : List Condition) (scope : List Name) (expr : Expression) (n : Name) → Contains (conditions_idle w written cs expr) n →
    counted (scope ++ condition_variables cs) n ≡ 1 → ConditionsIdle w scope cs expr n
conditions_are_idle w written [] scope expr n h single = absurd (no_element n h)
conditions_are_idle w written (c ∷ cs) scope expr n h single =
    let vs : List Name = pattern_variables c.pattern in
    let rest : List Name = condition_variables cs in
    let all : List Name = flat_map (λ d. variables w d.pattern) cs in
    ⊎_elim
    (λ own.
    let mine = own_idle written (variables w c.pattern) (uses_after cs expr) n own in
    let there : Contains (vs ++ rest) n = Contains-append_left vs rest n (wanted_is w c.pattern n mine.is_own) in
    record {
      is_wanted = Contains-append_left (variables w c.pattern) all n mine.is_own;
      none_uses = none_of_all scope c cs n (λ before. absurd (not_twice scope (vs ++ rest) n single there before)) (λ x inside has behind. unused_after (scope ++ vs) cs x inside has expr n.text mine.is_unused);
      right = right_unused cs expr n.text mine.is_unused;
    })
    (λ later.
    let whole : counted ((scope ++ vs) ++ rest) n ≡ 1 = ap (λ ns. counted ns n) (append_assoc scope vs rest) ∙ single in
    let found = conditions_are_idle w written cs (scope ++ vs) expr n later whole in
    let there : Contains (vs ++ rest) n = Contains-append_right vs rest n (wanted_conditions w cs n found.is_wanted) in
    record {
      is_wanted = Contains-append_right (variables w c.pattern) all n found.is_wanted;
      none_uses = none_of_all scope c cs n (λ before. absurd (not_twice scope (vs ++ rest) n single there before)) found.none_uses;
      right = found.right;
    })
    (Contains-append_cases (idle written (variables w c.pattern) (uses_after cs expr)) (conditions_idle w written cs expr) n h)

idle_conditions : (w : Wanted) (written : List Name) (cs : List Condition) (scope : List Name) (expr : Expression) (n : Name) → Contains (flat_map (λ c. variables w c.pattern) cs) n →
    counted written n ≡ 1 → NoneUses scope cs n → uses expr n.text ≡ false → Contains (conditions_idle w written cs expr) n
idle_conditions w written [] scope expr n h single none right = absurd (no_element n h)
idle_conditions w written (c ∷ cs) scope expr n h single none right =
    let own : List Name = idle written (variables w c.pattern) (uses_after cs expr) in
    ⊎_elim
    (λ first.
    let there : Contains (scope ++ pattern_variables c.pattern) n = Contains-append_right scope (pattern_variables c.pattern) n (wanted_is w c.pattern n first) in
    Contains-append_left own (conditions_idle w written cs expr) n
    (idle_own written (variables w c.pattern) (uses_after cs expr) n first single
    (after_unused cs (scope ++ pattern_variables c.pattern) expr n there (later_none scope c cs n none) right)))
    (λ later.
    Contains-append_right own (conditions_idle w written cs expr) n
    (idle_conditions w written cs (scope ++ pattern_variables c.pattern) expr n later single (later_none scope c cs n none) right))
    (Contains-append_cases (variables w c.pattern) (flat_map (λ d. variables w d.pattern) cs) n h)

-- rules

conditions_or_right : (r : RuleDefinition) (x : Expression) (scope : List Name) → HasExpression r x scope → (n : Name) → NoneUses (pattern_variables r.pattern) r.iflets n →
    uses r.expr n.text ≡ false → Contains scope n → uses x n.text ≡ false
conditions_or_right _ _ _ (of_condition {r} {x} {scope} inside) n conditions right has = conditions x scope inside has
conditions_or_right _ _ _ (of_rule {r}) n conditions right has = right

-- nothing that has the variable in scope reads it, exactly if nothing there uses it
none_reads : (r : RuleDefinition) (n : Name) → NoneOfRuleUses r n → IsReadInRule r n → ⊥
none_reads r n none h = not_read h.0 h.1 n.text (none h.0 h.1 h.2 h.3) (h.4, h.5, h.6, h.7, h.8)

none_uses : (r : RuleDefinition) (n : Name) → (IsReadInRule r n → ⊥) → NoneOfRuleUses r n
none_uses r n unread x scope inside has =
    false_from_ne_true (uses x n.text)
    (λ yes. let p = used x scope n.text yes in unread (x, scope, inside, has, p.0, p.1, p.2, p.3, p.4))

idle_found : (w : Wanted) (r : RuleDefinition) (n : Name) → Contains (rule_idle w r) n → IsIdle w r n
idle_found w r n h =
    let written : List Name = lint.rule_variables r in
    let vs : List Name = pattern_variables r.pattern in
    let same : (k : ℕ) → counted written n ≡ k → counted (rule_variables r) n ≡ k = λ k e. sym (ap (λ ns. counted ns n) (all_rule_variables r)) ∙ e in
    let all : List Name = flat_map (λ c. variables w c.pattern) r.iflets in
    ⊎_elim
    (λ own.
    let mine = own_idle written (variables w r.pattern) (uses_after r.iflets r.expr) n own in
    let none : NoneOfRuleUses r n = λ x scope inside has.
    conditions_or_right r x scope inside n (λ y there at behind. unused_after vs r.iflets y there at r.expr n.text mine.is_unused) (right_unused r.iflets r.expr n.text mine.is_unused) has in
    (Contains-append_left (variables w r.pattern) all n mine.is_own, same 1 mine.is_single, none_reads r n none))
    (λ later.
    let single = same 1 (single_of w written r.iflets r.expr n later) in
    let found = conditions_are_idle w written r.iflets vs r.expr n later single in (
      Contains-append_right (variables w r.pattern) all n found.is_wanted,
      single,
      none_reads r n (λ x scope inside has. conditions_or_right r x scope inside n found.none_uses found.right has),
    ))
    (Contains-append_cases (idle written (variables w r.pattern) (uses_after r.iflets r.expr)) (conditions_idle w written r.iflets r.expr) n h)
  where
    single_of : (w : Wanted) (written : List Name) (cs : List Condition) (expr : Expression) (n : Name) → Contains (conditions_idle w written cs expr) n → counted written n ≡ 1
    single_of w written [] expr n h = absurd (no_element n h)
    single_of w written (c ∷ cs) expr n h =
        ⊎_elim
        (λ own. (own_idle written (variables w c.pattern) (uses_after cs expr) n own).is_single)
        (λ later. single_of w written cs expr n later)
        (Contains-append_cases (idle written (variables w c.pattern) (uses_after cs expr)) (conditions_idle w written cs expr) n h)

found_idle : (w : Wanted) (r : RuleDefinition) (n : Name) → IsIdle w r n → Contains (rule_idle w r) n
found_idle w r n h =
    let written : List Name = lint.rule_variables r in
    let vs : List Name = pattern_variables r.pattern in
    let none : NoneOfRuleUses r n = none_uses r n h.2 in
    let single : counted written n ≡ 1 = ap (λ ns. counted ns n) (all_rule_variables r) ∙ h.1 in
    let conditions : NoneUses vs r.iflets n = λ x there inside has. none x there (of_condition inside) has in
    let own : List Name = idle written (variables w r.pattern) (uses_after r.iflets r.expr) in
    ⊎_elim
    (λ first.
    let has : Contains vs n = wanted_is w r.pattern n first in
    let right : uses r.expr n.text ≡ false = none r.expr (rule_variables r) of_rule (Contains-append_left vs (condition_variables r.iflets) n has) in
    Contains-append_left own (conditions_idle w written r.iflets r.expr) n
    (idle_own written (variables w r.pattern) (uses_after r.iflets r.expr) n first single (after_unused r.iflets vs r.expr n has conditions right)))
    (λ later.
    let has : Contains (condition_variables r.iflets) n = wanted_conditions w r.iflets n later in
    let right : uses r.expr n.text ≡ false = none r.expr (rule_variables r) of_rule (Contains-append_right vs (condition_variables r.iflets) n has) in
    Contains-append_right own (conditions_idle w written r.iflets r.expr) n (idle_conditions w written r.iflets vs r.expr n later single conditions right))
    (Contains-append_cases (variables w r.pattern) (flat_map (λ c. variables w c.pattern) r.iflets) n h.0)

pub idle_variables : (w : Wanted) (r : RuleDefinition) (n : Name) → Contains (rule_idle w r) n ↔ IsIdle w r n
idle_variables w r n = (idle_found w r n, found_idle w r n)
