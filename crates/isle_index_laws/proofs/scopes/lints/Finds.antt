-- What each lint finds in definitions, name by name.
use Rattle.std.proofs.Common.{◌≡◌, ◌⊎◌, inl, inr, ◌↔◌, ℕ, List, [], ◌∷◌, ◌++◌, true, false, not, Option, None, Some, Contains, bytes_eq, map, refl, sym, ap, subst, ◌∙◌, ⊎_elim}
use Rattle.std.proofs.lemmas.Bool.{not-true, or_cases, or_left, or_right}
use Rattle.std.proofs.lemmas.List.Elements.{Contains-append_cases, Contains-append_left, Contains-append_right}
use Rattle.std.specs.List.{cons_option, filter, flat_map}
use Rattle.isle_ast_names.specs.Tree.{Name}
use Rattle.isle_ast_rules.specs.Tree.{RuleDefinition}
use Rattle.isle_ast.specs.Tree.{Definition, rule}
use Rattle.isle_index_laws.proofs.scopes.Occurrences.{no_element}
use Rattle.isle_index_laws.proofs.scopes.Programs.{alone, here}
use Rattle.isle_lint_core.specs.Finding.{Found, all_found, found}
use Rattle.isle_lint_core.specs.Findings.{findings_in, names_found, of_rule, of_rules}
use Rattle.isle_lint_core.specs.Names.{has, is_private, kept_if, repeated}
use Rattle.isle_lint_core.specs.RuleNames.{rule_name, rule_names}
use Rattle.isle_lint_core.specs.declared.lint.Lint.{Lint}
use Rattle.isle_lint_core.specs.declared.lint.Lint.TheVariants as lints
use Rattle.isle_lint_core.specs.Shadowed.{shadowed_variables}
use Rattle.isle_lint_core.specs.Unused.{rule_idle, unused_lets}
use Rattle.isle_index_laws.specs.scopes.lints.Finds.{IsFinding, IsRepeated, IsSought, OfRule, name_found}
use Rattle.isle_index_laws.specs.scopes.lints.Lets.{IsShadowing, IsUnusedLet}
use Rattle.isle_index_laws.specs.scopes.lints.Patterns.{IsIdle}
use Rattle.isle_index_laws.proofs.scopes.lints.Definitions.{rule_or_other}
use Rattle.isle_index_laws.proofs.scopes.lints.Names.{filtered, kept, kept_is, passed}
use Rattle.isle_index_laws.proofs.scopes.lints.Patterns.{idle_variables}
use Rattle.isle_index_laws.proofs.scopes.lints.Rules.{shadowing_variables, unused_variables}
use Rattle.isle_index_laws.proofs.scopes.lints.Uses.{text_is, text_same}

-- elements of lists that are joined, or mapped

joined : {A B : Type 0} (f : A → List B) (xs : List A) (y : B) → Contains (flat_map f xs) y → (x : A) × Contains xs x × Contains (f x) y
joined f [] y h = absurd (no_element y h)
joined f (x ∷ xs) y h =
    ⊎_elim
    (λ first. (x, here xs x, first))
    (λ later. let one = joined f xs y later in (one.0, Contains-append_right (x ∷ []) xs one.0 one.1, one.2))
    (Contains-append_cases (f x) (flat_map f xs) y h)

pub join : {A B : Type 0} (f : A → List B) (xs : List A) (y : B) (x : A) → Contains xs x → Contains (f x) y → Contains (flat_map f xs) y
join f [] y x has h = absurd (no_element x has)
join f (z ∷ xs) y x has h =
    ⊎_elim
    (λ this. Contains-append_left (f z) (flat_map f xs) y (subst (λ a. Contains (f a) y) (sym (alone z x this)) h))
    (λ later. Contains-append_right (f z) (flat_map f xs) y (join f xs y x later h))
    (Contains-append_cases (z ∷ []) xs x has)

mapped : {A B : Type 0} (f : A → B) (xs : List A) (y : B) → Contains (map f xs) y → (x : A) × Contains xs x × (f x ≡ y)
mapped f [] y h = absurd (no_element y h)
mapped f (x ∷ xs) y h =
    ⊎_elim
    (λ this. (x, here xs x, alone (f x) y this))
    (λ later. let one = mapped f xs y later in (one.0, Contains-append_right (x ∷ []) xs one.0 one.1, one.2))
    (Contains-append_cases (f x ∷ []) (map f xs) y h)

map_has : {A B : Type 0} (f : A → B) (xs : List A) (x : A) → Contains xs x → Contains (map f xs) (f x)
map_has f [] x has = absurd (no_element x has)
map_has f (z ∷ xs) x has =
    ⊎_elim
    (λ this. subst (λ a. Contains (f z ∷ map f xs) (f a)) (alone z x this) (here (map f xs) (f z)))
    (λ later. Contains-append_right (f z ∷ []) (map f xs) (f x) (map_has f xs x later))
    (Contains-append_cases (z ∷ []) xs x has)

-- rules

of_one : (f : RuleDefinition → List Name) (P : RuleDefinition → Type 0) (name : Name) → ((r : RuleDefinition) → Contains (f r) name → P r) →
    (d : Definition) → Contains (of_rule f d) name → (r : RuleDefinition) × (d ≡ rule r) × P r
of_one f P name one d h =
    elim (rule_or_other d) [
      | inl this ↦ (this.0, this.1, one this.0 (subst (λ e. Contains (of_rule f e) name) this.1 h))
      | inr other ↦ absurd (no_element name (subst (λ ns. Contains ns name) (other.found f) h))
    ]

pub of_all : (f : RuleDefinition → List Name) (P : RuleDefinition → Type 0) (ds : List Definition) (name : Name) → ((r : RuleDefinition) → Contains (f r) name ↔ P r) →
    Contains (of_rules f ds) name ↔ OfRule ds P
of_all f P ds name both = (
  λ h.
      let one = joined (of_rule f) ds name h in
      let rules = of_one f P name (λ r. (both r).0) one.0 one.2 in
      (rules.0, subst (Contains ds) rules.1 one.1, rules.2),
  λ h. join (of_rule f) ds name (rule h.0) h.1 ((both h.0).1 h.2),
)

-- names of rules

rule_named : (d : Definition) (n : Name) → rule_name d ≡ Some n → (r : RuleDefinition) × (d ≡ rule r) × (r.name ≡ Some n)
rule_named d n e =
    elim (rule_or_other d) [
      | inl this ↦ (this.0, this.1, ap rule_name (sym this.1) ∙ e)
      | inr other ↦ let never : None ≡ Some n = sym other.unnamed ∙ e in absurd (cc)
    ]

-- one of these definitions is a rule with a name of this text
abbrev HasNamed : List Definition → (text : List ℕ) → Type 0
HasNamed ds text = (r : RuleDefinition) × (n : Name) × Contains ds (rule r) × (r.name ≡ Some n) × (n.text ≡ text)

-- one of these definitions is a rule with this name. Its text is that of one of these names, or of a rule before it
abbrev IsLater : (earlier : List Name) → List Definition → Name → Type 0
IsLater earlier ds name =
    (before : List Definition) × (r : RuleDefinition) × (behind : List Definition) × (ds ≡ before ++ rule r ∷ behind) × (r.name ≡ Some name)
    × (has earlier name.text ≡ true ⊎ HasNamed before name.text)

named_behind : (d : Definition) (ds : List Definition) (text : List ℕ) → HasNamed ds text → HasNamed (d ∷ ds) text
named_behind d ds text h = (h.0, h.1, Contains-append_right (d ∷ []) ds (rule h.0) h.2, h.3, h.4)

later_behind : (earlier others : List Name) (d : Definition) (ds : List Definition) (name : Name) →
    (has others name.text ≡ true → has earlier name.text ≡ true ⊎ HasNamed (d ∷ []) name.text) → IsLater others ds name → IsLater earlier (d ∷ ds) name
later_behind earlier others d ds name one h =
    (d ∷ h.0, h.1, h.2, ap (λ es. d ∷ es) h.3, h.4, ⊎_elim (λ had. first (one had)) (λ named. inr (named_behind d h.0 name.text named)) h.5)
  where
    first : has earlier name.text ≡ true ⊎ HasNamed (d ∷ []) name.text → has earlier name.text ≡ true ⊎ HasNamed (d ∷ h.0) name.text
    first (inl had) = inl had
    first (inr named) = inr (named.0, named.1, Contains-append_left (d ∷ []) h.0 (rule named.0) named.2, named.3, named.4)

repeated_found : (ds : List Definition) (earlier : List Name) (name : Name) → Contains (repeated earlier (rule_names ds)) name → IsLater earlier ds name
repeated_found [] earlier name h = absurd (no_element name h)
repeated_found (d ∷ ds) earlier name h = by (rule_name d) refl (λ others. repeated_found ds others name) h
  where
    by : (o : Option Name) → rule_name d ≡ o → ((others : List Name) → Contains (repeated others (rule_names ds)) name → IsLater others ds name) →
        Contains (repeated earlier (cons_option o (rule_names ds))) name → IsLater earlier (d ∷ ds) name
    by None is go h = later_behind earlier earlier d ds name (λ had. inl had) (go earlier h)
    by (Some n) is go h =
        let named = rule_named d n is in
        ⊎_elim
        (λ this.
        let one = kept_is (has earlier n.text) n name this in
        ([], named.0, ds, ap (λ e. e ∷ ds) named.1, named.2 ∙ ap Some one.1, inl (ap (λ m. has earlier m.text) (sym one.1) ∙ one.0)))
        (λ later.
        later_behind earlier (n ∷ earlier) d ds name
        (λ had. ⊎_elim
        (λ same. inr (named.0, n, subst (λ e. Contains (d ∷ []) e) named.1 (here [] d), named.2, text_is n.text name.text same))
        (λ old. inl old)
        (or_cases (bytes_eq n.text name.text) (has earlier name.text) had))
        (go (n ∷ earlier) later))
        (Contains-append_cases (kept_if (has earlier n.text) n) (repeated (n ∷ earlier) (rule_names ds)) name h)

found_repeated : (before : List Definition) (r : RuleDefinition) (behind : List Definition) (earlier : List Name) (name : Name) → r.name ≡ Some name →
    has earlier name.text ≡ true ⊎ HasNamed before name.text → Contains (repeated earlier (rule_names (before ++ rule r ∷ behind))) name
found_repeated [] r behind earlier name is h =
    subst (λ o. Contains (repeated earlier (cons_option o (rule_names behind))) name) (sym is)
    (Contains-append_left (kept_if (has earlier name.text) name) (repeated (name ∷ earlier) (rule_names behind)) name (kept (has earlier name.text) name (had h)))
  where
    had : has earlier name.text ≡ true ⊎ HasNamed [] name.text → has earlier name.text ≡ true
    had (inl e) = e
    had (inr named) = absurd (no_element (rule named.0) named.2)
found_repeated (d ∷ ds) r behind earlier name is h = by (rule_name d) refl (λ others. found_repeated ds r behind others name is)
  where
    by : (o : Option Name) → rule_name d ≡ o →
        ((others : List Name) → has others name.text ≡ true ⊎ HasNamed ds name.text → Contains (repeated others (rule_names (ds ++ rule r ∷ behind))) name) →
        Contains (repeated earlier (cons_option o (rule_names (ds ++ rule r ∷ behind)))) name
    by None named go =
        go earlier
        (⊎_elim
        (λ had. inl had)
        (λ old. ⊎_elim
        (λ this. let never : None ≡ Some old.1 = sym named ∙ ap rule_name (alone d (rule old.0) this) ∙ old.3 in absurd (cc))
        (λ later. inr (old.0, old.1, later, old.3, old.4))
        (Contains-append_cases (d ∷ []) ds (rule old.0) old.2))
        h)
    by (Some n) named go =
        Contains-append_right (kept_if (has earlier n.text) n) (repeated (n ∷ earlier) (rule_names (ds ++ rule r ∷ behind))) name
        (go (n ∷ earlier)
        (⊎_elim
        (λ had. inl (or_right (bytes_eq n.text name.text) (has earlier name.text) had))
        (λ old. ⊎_elim
        (λ this.
        let same : Some n ≡ Some old.1 = sym named ∙ ap rule_name (alone d (rule old.0) this) ∙ old.3 in
        let one : n ≡ old.1 = cc in
        let text : bytes_eq n.text name.text ≡ true = ap (λ t. bytes_eq t name.text) (ap (λ m. m.text) one ∙ old.4) ∙ text_same name.text in
        inl (or_left (bytes_eq n.text name.text) (has earlier name.text) text))
        (λ later. inr (old.0, old.1, later, old.3, old.4))
        (Contains-append_cases (d ∷ []) ds (rule old.0) old.2))
        h))

repeated_names : (ds : List Definition) (name : Name) → Contains (repeated [] (rule_names ds)) name ↔ IsRepeated ds name
repeated_names ds name = (
  λ h.
      let l = repeated_found ds [] name h in
      let named = is_named l.0 l.5 in
      (l.0, l.1, l.2, l.3, l.4, named.0, named.1, named.2, named.3, named.4),
  λ h.
      subst (λ es. Contains (repeated [] (rule_names es)) name) (sym h.3) (found_repeated h.0 h.1 h.2 [] name h.4 (inr (h.5, h.6, h.7, h.8, h.9))),
)
  where
    is_named : (before : List Definition) → has [] name.text ≡ true ⊎ HasNamed before name.text → HasNamed before name.text
    is_named before (inl e) = let never : false ≡ true = e in absurd (cc)
    is_named before (inr named) = named

-- lints

pub sought : (lint : Lint) (ds : List Definition) (name : Name) → Contains (names_found lint ds) name ↔ IsSought lint ds name
sought lints.UnusedLet ds name = of_all unused_lets (λ r. IsUnusedLet r name) ds name (λ r. unused_variables r name)
sought lints.DuplicateRuleName ds name = repeated_names ds name
sought lints.UnusedBinding ds name =
    of_all (rule_idle (record { alone = false; bindings = true })) (λ r. IsIdle (record { alone = false; bindings = true }) r name) ds name
    (λ r. idle_variables (record { alone = false; bindings = true }) r name)
sought lints.UnusedPatternVariable ds name =
    of_all (rule_idle (record { alone = true; bindings = false })) (λ r. IsIdle (record { alone = true; bindings = false }) r name) ds name
    (λ r. idle_variables (record { alone = true; bindings = false }) r name)
sought lints.ShadowedVariable ds name = of_all shadowed_variables (λ r. IsShadowing r name) ds name (λ r. shadowing_variables r name)

pub findings_sought : (ls : List Lint) (ds : List Definition) (f : Found) → Contains (findings_in ls ds) f ↔ (Contains ls f.lint × IsFinding ds f)
findings_sought ls ds f = (
  λ h.
      let lint = joined (λ l. all_found l (names_found l ds)) ls f h in
      let one = mapped (found lint.0) (filter (λ n. not (is_private n.text)) (names_found lint.0 ds)) f lint.2 in
      let passes = filtered (λ n. not (is_private n.text)) (names_found lint.0 ds) one.0 one.1 in
      subst (λ g. Contains ls g.lint × IsFinding ds g) one.2
      (lint.1, (not-true (is_private one.0.text) passes.1, (sought lint.0 ds one.0).0 passes.0)),
  λ h.
      join (λ l. all_found l (names_found l ds)) ls f f.lint h.0
      (map_has (found f.lint) (filter (λ n. not (is_private n.text)) (names_found f.lint ds)) (name_found f)
      (passed (λ n. not (is_private n.text)) (names_found f.lint ds) (name_found f) ((sought f.lint ds (name_found f)).1 h.1.1) (ap not h.1.0))),
)
