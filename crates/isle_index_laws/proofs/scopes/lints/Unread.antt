-- What the lints find in a program is what no rule reads.
use Rattle.std.proofs.Common.{◌≡◌, ◌⊎◌, inl, inr, ◌↔◌, ℕ, ◌≤◌, List, [], ◌∷◌, ◌++◌, Bool, true, false, None, Some, Contains, bytes_eq, refl, sym, ap, subst, ◌∙◌, arith, ⊎_elim, if◌then◌else◌}
use Rattle.std.proofs.lemmas.List.Elements.{Contains-append_cases, Contains-append_left, Contains-append_right}
use Rattle.isle_ast_names.specs.Tree.{Name}
use Rattle.isle_ast_rules.specs.Tree.{Expression, Condition, RuleDefinition}
use Rattle.isle_ast.specs.Tree.{Definition, rule}
use Rattle.isle_index_laws.specs.scopes.Reads.{IsReadAs, RuleReads, condition_variables, meant, pattern_variables, rule_variables}
use Rattle.isle_index_laws.proofs.scopes.Occurrences.{no_element}
use Rattle.isle_index_laws.proofs.scopes.Programs.{alone, here}
use Rattle.isle_index_laws.proofs.scopes.Scoped.{meant-append, or_else}
use Rattle.isle_lint_core.specs.Findings.{of_rule, of_rules}
use Rattle.isle_lint_core.specs.Unused.{rule_idle, unused_lets}
use Rattle.isle_lint_core.specs.Uses.{uses}
use Rattle.isle_lint_core.specs.declared.patterns.Wanted.{Wanted}
use Rattle.isle_index_laws.specs.scopes.lints.Finds.{OfRule}
use Rattle.isle_index_laws.specs.scopes.lints.Lets.{IsReadBehind, IsUnusedLet}
use Rattle.isle_index_laws.specs.scopes.lints.Patterns.{IsIdle, IsReadInRule}
use Rattle.isle_index_laws.specs.scopes.lints.Rules.{HasExpression, of_condition, of_rule as of_the_rule, HaveExpression, in_first_condition, in_later_condition}
use Rattle.isle_index_laws.specs.scopes.lints.Unread.{HasNamesApart, IsOfLet, IsUnread, IsWrittenOnce}
use Rattle.isle_index_laws.proofs.scopes.lints.Counted.{at, at-append, at_itself, itself, one_at, used_lets}
use Rattle.isle_index_laws.proofs.scopes.lints.Finds.{join, of_all}
use Rattle.isle_index_laws.proofs.scopes.lints.Lets.{found_lets}
use Rattle.isle_index_laws.proofs.scopes.lints.Meanings.{read_behind, read_means}
use Rattle.isle_index_laws.proofs.scopes.lints.Patterns.{idle_variables, wanted_in_rule}
use Rattle.isle_index_laws.proofs.scopes.lints.Rules.{expressions_read, in_rule_lets, unused_variables}
use Rattle.isle_index_laws.proofs.scopes.lints.Names.{single}
use Rattle.isle_index_laws.proofs.scopes.lints.Uses.{text_is, text_same, used}

-- the scope of an expression has variables of the rule's patterns

scope_of_conditions : (scope : List Name) (cs : List Condition) (x : Expression) (there : List Name) → HaveExpression scope cs x there → (n : Name) → Contains there n →
    Contains (scope ++ condition_variables cs) n
scope_of_conditions _ _ _ _ (in_first_condition {scope} {c} {cs}) n has = Contains-append_left scope (condition_variables (c ∷ cs)) n has
scope_of_conditions _ _ _ _ (in_later_condition {scope} {there} {c} {cs} {x} inside) n has =
    let rest : List Name = condition_variables cs in
    ⊎_elim
    (λ front. ⊎_elim
    (λ first. Contains-append_left scope (pattern_variables c.pattern ++ rest) n first)
    (λ own. Contains-append_right scope (pattern_variables c.pattern ++ rest) n (Contains-append_left (pattern_variables c.pattern) rest n own))
    (Contains-append_cases scope (pattern_variables c.pattern) n front))
    (λ later. Contains-append_right scope (pattern_variables c.pattern ++ rest) n (Contains-append_right (pattern_variables c.pattern) rest n later))
    (Contains-append_cases (scope ++ pattern_variables c.pattern) rest n (scope_of_conditions (scope ++ pattern_variables c.pattern) cs x there inside n has))

scope_in_rule : (r : RuleDefinition) (x : Expression) (scope : List Name) → HasExpression r x scope → (n : Name) → Contains scope n → Contains (rule_variables r) n
scope_in_rule _ _ _ (of_condition {r} {x} {scope} inside) n has = scope_of_conditions (pattern_variables r.pattern) r.iflets x scope inside n has
scope_in_rule _ _ _ (of_the_rule {r}) n has = has

-- what a text means in a scope is in it, and has the text
meant_is : (ns : List Name) (text : List ℕ) (n : Name) → meant ns text ≡ Some n → Contains ns n × (bytes_eq n.text text ≡ true)
meant_is [] text n e = absurd (cc)
meant_is (x ∷ xs) text n e = by (bytes_eq x.text text) refl (λ f. meant_is xs text n f) e
  where
    by : (b : Bool) → bytes_eq x.text text ≡ b → (meant xs text ≡ Some n → Contains xs n × (bytes_eq n.text text ≡ true)) → (if b then Some x else meant xs text) ≡ Some n →
        Contains (x ∷ xs) n × (bytes_eq n.text text ≡ true)
    by true is go e =
        let same : x ≡ n = cc in
        (subst (Contains (x ∷ xs)) same (here xs x), ap (λ m. bytes_eq m.text text) (sym same) ∙ is)
    by false is go e = let rest = go e in (Contains-append_right (x ∷ []) xs n rest.0, rest.1)

-- a read of a program means a used variable of a `let`, or one of a pattern, which is in scope

abbrev IsOfPattern : List Definition → Name → Type 0
IsOfPattern ds name = OfRule ds (λ r. IsReadInRule r name × Contains (rule_variables r) name)

read_is : (ds : List Definition) (read name : Name) → IsReadAs ds read (Some name) → Contains (of_rules used_lets ds) name ⊎ IsOfPattern ds name
read_is ds read name h =
    let r : RuleDefinition = h.1.0 in
    let found = (expressions_read r read h.0).0 h.1.2 in
    ⊎_elim
    (λ m.
    let is = meant_is found.1 read.text name m.0 in
    let p = used found.0 found.1 name.text (subst (λ t. uses found.0 t ≡ true) (sym (text_is name.text read.text is.1)) m.1) in
    inr (r, h.1.1, ((found.0, found.1, found.2, is.0, p.0, p.1, p.2, p.3, p.4), scope_in_rule r found.0 found.1 found.2 name is.0)))
    (λ b.
    inl (join (of_rule used_lets) ds name (rule r) h.1.1 (in_rule_lets itself r found.0 found.1 found.2 name (found_lets itself found.1 found.0 name b.0 b.1 b.2 b.3))))
    (read_means found.1 found.0 read h.0 found.3 name h.2)

-- a text means the same behind variables of other texts
meant_past : (inner ns : List Name) (text : List ℕ) → meant inner text ≡ None → meant (inner ++ ns) text ≡ meant ns text
meant_past inner ns text none = meant-append inner ns text ∙ ap (λ o. or_else o (meant ns text)) none

meant_itself : (n : Name) (ns : List Name) → meant (n ∷ ns) n.text ≡ Some n
meant_itself n ns = ap (λ b. if b then Some n else meant ns n.text) (text_same n.text)

-- the text of a variable means something where it is in scope
meant_some : (ns : List Name) (n : Name) → Contains ns n → (m : Name) × (meant ns n.text ≡ Some m)
meant_some [] n has = absurd (no_element n has)
meant_some (x ∷ xs) n has = by (bytes_eq x.text n.text) refl (λ h. meant_some xs n h)
  where
    by : (b : Bool) → bytes_eq x.text n.text ≡ b → (Contains xs n → (m : Name) × (meant xs n.text ≡ Some m)) → (m : Name) × ((if b then Some x else meant xs n.text) ≡ Some m)
    by true is go = (x, refl)
    by false is go =
        ⊎_elim
        (λ this. let yes : bytes_eq x.text n.text ≡ true = ap (λ m. bytes_eq m.text n.text) (alone x n this) ∙ text_same n.text in absurd (cc))
        (λ later. go later)
        (Contains-append_cases (x ∷ []) xs n has)

-- one rule alone has a variable of a position

same_rule : (ds : List Definition) (r q : RuleDefinition) (name : Name) → at name.pos (of_rules rule_variables ds) ≤ 1 → Contains ds (rule r) → Contains ds (rule q) →
    Contains (rule_variables r) name → Contains (rule_variables q) name → r ≡ q
same_rule [] r q name one a b c d = absurd (no_element (rule r) a)
same_rule (x ∷ xs) r q name one a b c d =
    let all = at-append name.pos (of_rule rule_variables x) (of_rules rule_variables xs) in
    ⊎_elim
    (λ first. ⊎_elim
    (λ also. let same : rule r ≡ rule q = sym (alone x (rule r) first) ∙ alone x (rule q) also in cc)
    (λ later.
    let front : 1 ≤ at name.pos (of_rule rule_variables x) = at_itself (of_rule rule_variables x) name (subst (λ y. Contains (of_rule rule_variables y) name) (sym (alone x (rule r) first)) c) in
    let back : 1 ≤ at name.pos (of_rules rule_variables xs) = at_itself (of_rules rule_variables xs) name (join (of_rule rule_variables) xs name (rule q) later d) in
    absurd (omega (arith, all, one, front, back)))
    (Contains-append_cases (x ∷ []) xs (rule q) b))
    (λ later. ⊎_elim
    (λ first.
    let front : 1 ≤ at name.pos (of_rule rule_variables x) = at_itself (of_rule rule_variables x) name (subst (λ y. Contains (of_rule rule_variables y) name) (sym (alone x (rule q) first)) d) in
    let back : 1 ≤ at name.pos (of_rules rule_variables xs) = at_itself (of_rules rule_variables xs) name (join (of_rule rule_variables) xs name (rule r) later c) in
    absurd (omega (arith, all, one, front, back)))
    (λ also. let rest : at name.pos (of_rules rule_variables xs) ≤ 1 = omega (arith, all, one) in same_rule xs r q name rest later also c d)
    (Contains-append_cases (x ∷ []) xs (rule q) b))
    (Contains-append_cases (x ∷ []) xs (rule r) a)

-- `let`s

pub unread_lets : (ds : List Definition) (name : Name) → HasNamesApart ds → Contains (of_rules unused_lets ds) name ↔ (IsOfLet ds name × IsUnread ds name)
unread_lets ds name apart =
    let both = of_all unused_lets (λ r. IsUnusedLet r name) ds name (λ r. unused_variables r name) in (
      λ h.
          let found = both.0 h in
          let most = one_at ds apart name.pos in
          let unused : 1 ≤ at name.pos (of_rules unused_lets ds) = at_itself (of_rules unused_lets ds) name h in (
            (found.0, found.1, (found.2.0, found.2.1, found.2.2)),
            λ read is.
                ⊎_elim
                (λ inside. let used : 1 ≤ at name.pos (of_rules used_lets ds) = at_itself (of_rules used_lets ds) name inside in omega (arith, most, unused, used))
                (λ outside.
                let own : 1 ≤ at name.pos (of_rules rule_variables ds) =
                at_itself (of_rules rule_variables ds) name (join (of_rule rule_variables) ds name (rule outside.0) outside.1 outside.2.1) in
                omega (arith, most, unused, own))
                (read_is ds read name is),
          ),
      λ h.
          let r : RuleDefinition = h.0.0 in
          let around : List Name = h.0.2.0 in
          let place = h.0.2.2 in
          let never : IsReadBehind name around h.0.2.1 → ⊥ = λ behind.
          let visible : List Name = behind.1 ++ name ∷ around in
          let means : meant visible behind.0.text ≡ Some name = ap (meant visible) behind.3 ∙ meant_past behind.1 (name ∷ around) name.text behind.4 ∙ meant_itself name around in
          let reads : RuleReads r behind.0 visible =
          (expressions_read r behind.0 visible).1 (place.0, place.1, place.2, read_behind place.1 place.0 name around h.0.2.1 place.3 behind.0 visible behind.2) in
          h.1 behind.0 (visible, (r, h.0.1, reads), means)
          in
          both.1 (r, h.0.1, (around, h.0.2.1, place, never)),
    )

-- patterns

pub unread_variables : (w : Wanted) (ds : List Definition) (name : Name) → HasNamesApart ds → Contains (of_rules (rule_idle w) ds) name ↔ (IsWrittenOnce w ds name × IsUnread ds name)
unread_variables w ds name apart =
    let both = of_all (rule_idle w) (λ r. IsIdle w r name) ds name (λ r. idle_variables w r name) in (
      λ h.
          let found = both.0 h in
          let most = one_at ds apart name.pos in
          let mine : Contains (rule_variables found.0) name = wanted_in_rule w found.0 name found.2.0 in
          let own : 1 ≤ at name.pos (of_rules rule_variables ds) = at_itself (of_rules rule_variables ds) name (join (of_rule rule_variables) ds name (rule found.0) found.1 mine) in (
            (found.0, found.1, (found.2.0, found.2.1)),
            λ read is.
                ⊎_elim
                (λ inside. let used : 1 ≤ at name.pos (of_rules used_lets ds) = at_itself (of_rules used_lets ds) name inside in omega (arith, most, own, used))
                (λ outside.
                let one : at name.pos (of_rules rule_variables ds) ≤ 1 = omega (arith, most) in
                let same : outside.0 ≡ found.0 = same_rule ds outside.0 found.0 name one outside.1 found.1 outside.2.1 mine in
                found.2.2 (subst (λ r. IsReadInRule r name) same outside.2.0))
                (read_is ds read name is),
          ),
      λ h.
          let r : RuleDefinition = h.0.0 in
          let never : IsReadInRule r name → ⊥ = λ inside.
          let visible : List Name = inside.5 ++ inside.1 in
          let some = meant_some inside.1 name inside.3 in
          let there = meant_is inside.1 name.text some.0 some.1 in
          let same : some.0 ≡ name =
          single (λ m. bytes_eq m.text name.text) (rule_variables r) some.0 name h.0.2.1 (scope_in_rule r inside.0 inside.1 inside.2 some.0 there.0)
          (scope_in_rule r inside.0 inside.1 inside.2 name inside.3) there.1 (text_same name.text) in
          let means : meant visible inside.4.text ≡ Some name = ap (meant visible) inside.7 ∙ meant_past inside.5 inside.1 name.text inside.8 ∙ some.1 ∙ ap Some same in
          let reads : RuleReads r inside.4 visible = (expressions_read r inside.4 visible).1 (inside.0, inside.1, inside.2, inside.6) in
          h.1 inside.4 (visible, (r, h.0.1, reads), means)
          in
          both.1 (r, h.0.1, (h.0.2.0, h.0.2.1, never)),
    )
