-- The variables of `let`s in expressions: those that the lint finds, and those of the relation.
use Rattle.std.proofs.Common.{refl, Bool, not, ◌≡◌, List, [], ◌∷◌, ◌++◌, true, Contains, sym, ap, subst, ◌∙◌, append_assoc, ⊎_elim}
use Rattle.std.proofs.lemmas.List.{append-nil}
use Rattle.std.proofs.lemmas.List.Elements.{Contains-append_cases, Contains-append_left, Contains-append_right}
use Rattle.isle_base_source.specs.declared.pos.Pos.{Pos}
use Rattle.isle_ast_names.specs.Tree.{Name}
use Rattle.isle_ast_rules.specs.Tree.{Expression, term_expression, var_expression, bool_expression, int_expression, constant_expression, let_expression, ExpressionList, no_expression, more_expression, LetList, no_let, more_let}
use Rattle.isle_index_laws.specs.scopes.Reads.{with_lets}
use Rattle.isle_index_laws.proofs.scopes.Occurrences.{no_element}
use Rattle.isle_lint_core.specs.Names.{has, kept_if}
use Rattle.isle_lint_core.specs.Shadowed.{let_names, let_shadowed, list_shadowed, shadowed}
use Rattle.isle_lint_core.specs.Unused.{let_unused, list_unused, unused}
use Rattle.isle_lint_core.specs.Uses.{let_uses, uses}
use Rattle.isle_index_laws.specs.scopes.lints.Lets.{Binds, binds_in_argument, binds_in_body, binds_in_let, Bind, binds_in_first, binds_in_later, LetBinds, binds_this, binds_in_value, binds_next}
use Rattle.isle_index_laws.proofs.scopes.lints.Names.{SameTexts, kept, kept_is, same_push}

-- a `let` binds the variable at a place with this
abbrev pub FoundBy : (B P : List Name → Expression → Type 0) → Type 0
FoundBy B P = (around : List Name) × (behind : Expression) × B around behind × P around behind

more : (B C P : List Name → Expression → Type 0) → ((around : List Name) (behind : Expression) → B around behind → C around behind) → FoundBy B P → FoundBy C P
more B C P f found = (found.0, found.1, f found.0 found.1 found.2, found.3)

-- the variables of the `let`s in an expression, by whether something behind uses them

abbrev mutual
  pub lets_by : (keep : Bool → Bool) → Expression → List Name
  lets_by keep (term_expression _ args _) = list_lets_by keep args
  lets_by keep (var_expression _ _) = []
  lets_by keep (bool_expression _ _) = []
  lets_by keep (int_expression _ _) = []
  lets_by keep (constant_expression _ _) = []
  lets_by keep (let_expression defs body _) = let_lets_by keep defs body ++ lets_by keep body

  pub list_lets_by : (keep : Bool → Bool) → ExpressionList → List Name
  list_lets_by keep no_expression = []
  list_lets_by keep (more_expression x xs) = lets_by keep x ++ list_lets_by keep xs

  pub let_lets_by : (keep : Bool → Bool) → LetList → (body : Expression) → List Name
  let_lets_by keep no_let body = []
  let_lets_by keep (more_let var _ val _ ds) body =
      kept_if (keep (let_uses ds var.text (uses body var.text))) var ++ lets_by keep val ++ let_lets_by keep ds body

mutual
  pub unused_are : (x : Expression) → unused x ≡ lets_by not x
  unused_are (term_expression f args place) = list_unused_are args
  unused_are (var_expression n place) = refl
  unused_are (bool_expression val place) = refl
  unused_are (int_expression val place) = refl
  unused_are (constant_expression val place) = refl
  unused_are (let_expression defs body place) =
      ap (λ ns. ns ++ unused body) (let_unused_are defs body) ∙ ap (λ ns. let_lets_by not defs body ++ ns) (unused_are body)

  list_unused_are : (xs : ExpressionList) → list_unused xs ≡ list_lets_by not xs
  list_unused_are no_expression = refl
  list_unused_are (more_expression x xs) = ap (λ ns. ns ++ list_unused xs) (unused_are x) ∙ ap (λ ns. lets_by not x ++ ns) (list_unused_are xs)

  let_unused_are : (ds : LetList) (body : Expression) → let_unused ds (uses body) ≡ let_lets_by not ds body
  let_unused_are no_let body = refl
  let_unused_are (more_let var ty val place ds) body =
      let own : List Name = kept_if (not (let_uses ds var.text (uses body var.text))) var in
      ap (λ ns. (own ++ ns) ++ let_unused ds (uses body)) (unused_are val) ∙ ap (λ ns. (own ++ lets_by not val) ++ ns) (let_unused_are ds body)

abbrev pub IsBy : (keep : Bool → Bool) → Name → List Name → Expression → Type 0
IsBy keep name around behind = keep (uses behind name.text) ≡ true

module _ (keep : Bool → Bool) where
  mutual
    pub lets_found : (x : Expression) (scope : List Name) (name : Name) → Contains (lets_by keep x) name → FoundBy (Binds scope x name) (IsBy keep name)
    lets_found (term_expression f args place) scope name h =
        more (Bind scope args name) (Binds scope (term_expression f args place) name) (IsBy keep name) (λ around behind b. binds_in_argument b) (list_lets_found args scope name h)
    lets_found (var_expression n place) scope name h = absurd (no_element name h)
    lets_found (bool_expression val place) scope name h = absurd (no_element name h)
    lets_found (int_expression val place) scope name h = absurd (no_element name h)
    lets_found (constant_expression val place) scope name h = absurd (no_element name h)
    lets_found (let_expression defs body place) scope name h =
        ⊎_elim
        (λ own.
        more (LetBinds scope defs body place name) (Binds scope (let_expression defs body place) name) (IsBy keep name) (λ around behind b. binds_in_let b)
        (let_lets_found defs body place scope name own))
        (λ inside.
        more (Binds (with_lets scope defs) body name) (Binds scope (let_expression defs body place) name) (IsBy keep name) (λ around behind b. binds_in_body b)
        (lets_found body (with_lets scope defs) name inside))
        (Contains-append_cases (let_lets_by keep defs body) (lets_by keep body) name h)

    list_lets_found : (xs : ExpressionList) (scope : List Name) (name : Name) → Contains (list_lets_by keep xs) name → FoundBy (Bind scope xs name) (IsBy keep name)
    list_lets_found no_expression scope name h = absurd (no_element name h)
    list_lets_found (more_expression x xs) scope name h =
        ⊎_elim
        (λ first. more (Binds scope x name) (Bind scope (more_expression x xs) name) (IsBy keep name) (λ around behind b. binds_in_first b) (lets_found x scope name first))
        (λ later. more (Bind scope xs name) (Bind scope (more_expression x xs) name) (IsBy keep name) (λ around behind b. binds_in_later b) (list_lets_found xs scope name later))
        (Contains-append_cases (lets_by keep x) (list_lets_by keep xs) name h)

    let_lets_found : (ds : LetList) (body : Expression) (place : Pos) (scope : List Name) (name : Name) → Contains (let_lets_by keep ds body) name →
        FoundBy (LetBinds scope ds body place name) (IsBy keep name)
    let_lets_found no_let body place scope name h = absurd (no_element name h)
    let_lets_found (more_let var ty val at ds) body place scope name h =
        ⊎_elim
        (λ front. ⊎_elim
        (λ own.
        let is = kept_is (keep (let_uses ds var.text (uses body var.text))) var name own in
        subst (λ n. FoundBy (LetBinds scope (more_let var ty val at ds) body place n) (IsBy keep n)) is.1
        (scope, let_expression ds body place, binds_this, is.0))
        (λ value.
        more (Binds scope val name) (LetBinds scope (more_let var ty val at ds) body place name) (IsBy keep name) (λ around behind b. binds_in_value b)
        (lets_found val scope name value))
        (Contains-append_cases (kept_if (keep (let_uses ds var.text (uses body var.text))) var) (lets_by keep val) name front))
        (λ later.
        more (LetBinds (var ∷ scope) ds body place name) (LetBinds scope (more_let var ty val at ds) body place name) (IsBy keep name) (λ around behind b. binds_next b)
        (let_lets_found ds body place (var ∷ scope) name later))
        (Contains-append_cases (kept_if (keep (let_uses ds var.text (uses body var.text))) var ++ lets_by keep val) (let_lets_by keep ds body) name h)

  mutual
    pub found_lets : (scope : List Name) (x : Expression) (name : Name) (around : List Name) (behind : Expression) → Binds scope x name around behind →
        IsBy keep name around behind → Contains (lets_by keep x) name
    found_lets _ _ _ _ _ (binds_in_argument {scope} {around} {term} {var} {args} {place} {behind} b) idle = found_list_lets scope args var around behind b idle
    found_lets _ _ _ _ _ (binds_in_body {scope} {around} {defs} {body} {behind} {place} {var} b) idle =
        Contains-append_right (let_lets_by keep defs body) (lets_by keep body) var (found_lets (with_lets scope defs) body var around behind b idle)
    found_lets _ _ _ _ _ (binds_in_let {scope} {around} {defs} {body} {behind} {place} {var} b) idle =
        Contains-append_left (let_lets_by keep defs body) (lets_by keep body) var (found_let_lets scope defs body place var around behind b idle)

    found_list_lets : (scope : List Name) (xs : ExpressionList) (name : Name) (around : List Name) (behind : Expression) → Bind scope xs name around behind →
        IsBy keep name around behind → Contains (list_lets_by keep xs) name
    found_list_lets _ _ _ _ _ (binds_in_first {scope} {around} {x} {behind} {xs} {var} b) idle =
        Contains-append_left (lets_by keep x) (list_lets_by keep xs) var (found_lets scope x var around behind b idle)
    found_list_lets _ _ _ _ _ (binds_in_later {scope} {around} {x} {behind} {xs} {var} b) idle =
        Contains-append_right (lets_by keep x) (list_lets_by keep xs) var (found_list_lets scope xs var around behind b idle)

    found_let_lets : (scope : List Name) (ds : LetList) (body : Expression) (place : Pos) (name : Name) (around : List Name) (behind : Expression) →
        LetBinds scope ds body place name around behind → IsBy keep name around behind → Contains (let_lets_by keep ds body) name
    found_let_lets _ _ _ _ _ _ _ (binds_this {scope} {var} {ty} {val} {body} {at} {place} {ds}) idle =
        let own : List Name = kept_if (keep (let_uses ds var.text (uses body var.text))) var in
        Contains-append_left (own ++ lets_by keep val) (let_lets_by keep ds body) var
        (Contains-append_left own (lets_by keep val) var (kept (keep (let_uses ds var.text (uses body var.text))) var idle))
    found_let_lets _ _ _ _ _ _ _ (binds_in_value {scope} {around} {n} {ty} {var} {val} {body} {behind} {at} {place} {ds} b) idle =
        let own : List Name = kept_if (keep (let_uses ds n.text (uses body n.text))) n in
        Contains-append_left (own ++ lets_by keep val) (let_lets_by keep ds body) var
        (Contains-append_right own (lets_by keep val) var (found_lets scope val var around behind b idle))
    found_let_lets _ _ _ _ _ _ _ (binds_next {scope} {around} {n} {ty} {var} {val} {body} {behind} {at} {place} {ds} b) idle =
        let own : List Name = kept_if (keep (let_uses ds n.text (uses body n.text))) n in
        Contains-append_right (own ++ lets_by keep val) (let_lets_by keep ds body) var (found_let_lets (n ∷ scope) ds body place var around behind b idle)

-- shadowed

abbrev pub IsHad : Name → List Name → Expression → Type 0
IsHad name around behind = has around name.text ≡ true

pub same_lets : (ds : LetList) (bound scope : List Name) → SameTexts bound scope → SameTexts (bound ++ let_names ds) (with_lets scope ds)
same_lets no_let bound scope same = subst (λ ns. SameTexts ns scope) (sym (append-nil bound)) same
same_lets (more_let var ty val place ds) bound scope same =
    subst (λ ns. SameTexts ns (with_lets (var ∷ scope) ds)) (append_assoc bound (var ∷ []) (let_names ds))
    (same_lets ds (bound ++ var ∷ []) (var ∷ scope) (same_push bound scope var same))

mutual
  pub shadowed_found : (x : Expression) (bound scope : List Name) (name : Name) → SameTexts bound scope → Contains (shadowed x bound) name →
      FoundBy (Binds scope x name) (IsHad name)
  shadowed_found (term_expression f args place) bound scope name same h =
      more (Bind scope args name) (Binds scope (term_expression f args place) name) (IsHad name) (λ around behind b. binds_in_argument b)
      (list_shadowed_found args bound scope name same h)
  shadowed_found (var_expression n place) bound scope name same h = absurd (no_element name h)
  shadowed_found (bool_expression val place) bound scope name same h = absurd (no_element name h)
  shadowed_found (int_expression val place) bound scope name same h = absurd (no_element name h)
  shadowed_found (constant_expression val place) bound scope name same h = absurd (no_element name h)
  shadowed_found (let_expression defs body place) bound scope name same h =
      ⊎_elim
      (λ own.
      more (LetBinds scope defs body place name) (Binds scope (let_expression defs body place) name) (IsHad name) (λ around behind b. binds_in_let b)
      (let_shadowed_found defs body place bound scope name same own))
      (λ inside.
      more (Binds (with_lets scope defs) body name) (Binds scope (let_expression defs body place) name) (IsHad name) (λ around behind b. binds_in_body b)
      (shadowed_found body (bound ++ let_names defs) (with_lets scope defs) name (same_lets defs bound scope same) inside))
      (Contains-append_cases (let_shadowed defs bound) (shadowed body (bound ++ let_names defs)) name h)

  list_shadowed_found : (xs : ExpressionList) (bound scope : List Name) (name : Name) → SameTexts bound scope → Contains (list_shadowed xs bound) name →
      FoundBy (Bind scope xs name) (IsHad name)
  list_shadowed_found no_expression bound scope name same h = absurd (no_element name h)
  list_shadowed_found (more_expression x xs) bound scope name same h =
      ⊎_elim
      (λ first. more (Binds scope x name) (Bind scope (more_expression x xs) name) (IsHad name) (λ around behind b. binds_in_first b) (shadowed_found x bound scope name same first))
      (λ later. more (Bind scope xs name) (Bind scope (more_expression x xs) name) (IsHad name) (λ around behind b. binds_in_later b) (list_shadowed_found xs bound scope name same later))
      (Contains-append_cases (shadowed x bound) (list_shadowed xs bound) name h)

  let_shadowed_found : (ds : LetList) (body : Expression) (place : Pos) (bound scope : List Name) (name : Name) → SameTexts bound scope →
      Contains (let_shadowed ds bound) name → FoundBy (LetBinds scope ds body place name) (IsHad name)
  let_shadowed_found no_let body place bound scope name same h = absurd (no_element name h)
  let_shadowed_found (more_let var ty val at ds) body place bound scope name same h =
      ⊎_elim
      (λ front. ⊎_elim
      (λ value.
      more (Binds scope val name) (LetBinds scope (more_let var ty val at ds) body place name) (IsHad name) (λ around behind b. binds_in_value b)
      (shadowed_found val bound scope name same value))
      (λ own.
      let is = kept_is (has bound var.text) var name own in
      subst (λ n. FoundBy (LetBinds scope (more_let var ty val at ds) body place n) (IsHad n)) is.1
      (scope, let_expression ds body place, binds_this, sym (same var.text) ∙ is.0))
      (Contains-append_cases (shadowed val bound) (kept_if (has bound var.text) var) name front))
      (λ later.
      more (LetBinds (var ∷ scope) ds body place name) (LetBinds scope (more_let var ty val at ds) body place name) (IsHad name) (λ around behind b. binds_next b)
      (let_shadowed_found ds body place (bound ++ var ∷ []) (var ∷ scope) name (same_push bound scope var same) later))
      (Contains-append_cases (shadowed val bound ++ kept_if (has bound var.text) var) (let_shadowed ds (bound ++ var ∷ [])) name h)

mutual
  pub found_shadowed : (scope : List Name) (x : Expression) (name : Name) (around : List Name) (behind : Expression) → Binds scope x name around behind →
      (bound : List Name) → SameTexts bound scope → IsHad name around behind → Contains (shadowed x bound) name
  found_shadowed _ _ _ _ _ (binds_in_argument {scope} {around} {term} {var} {args} {place} {behind} b) bound same had = found_list_shadowed scope args var around behind b bound same had
  found_shadowed _ _ _ _ _ (binds_in_body {scope} {around} {defs} {body} {behind} {place} {var} b) bound same had =
      Contains-append_right (let_shadowed defs bound) (shadowed body (bound ++ let_names defs)) var
      (found_shadowed (with_lets scope defs) body var around behind b (bound ++ let_names defs) (same_lets defs bound scope same) had)
  found_shadowed _ _ _ _ _ (binds_in_let {scope} {around} {defs} {body} {behind} {place} {var} b) bound same had =
      Contains-append_left (let_shadowed defs bound) (shadowed body (bound ++ let_names defs)) var (found_let_shadowed scope defs body place var around behind b bound same had)

  found_list_shadowed : (scope : List Name) (xs : ExpressionList) (name : Name) (around : List Name) (behind : Expression) → Bind scope xs name around behind →
      (bound : List Name) → SameTexts bound scope → IsHad name around behind → Contains (list_shadowed xs bound) name
  found_list_shadowed _ _ _ _ _ (binds_in_first {scope} {around} {x} {behind} {xs} {var} b) bound same had =
      Contains-append_left (shadowed x bound) (list_shadowed xs bound) var (found_shadowed scope x var around behind b bound same had)
  found_list_shadowed _ _ _ _ _ (binds_in_later {scope} {around} {x} {behind} {xs} {var} b) bound same had =
      Contains-append_right (shadowed x bound) (list_shadowed xs bound) var (found_list_shadowed scope xs var around behind b bound same had)

  found_let_shadowed : (scope : List Name) (ds : LetList) (body : Expression) (place : Pos) (name : Name) (around : List Name) (behind : Expression) →
      LetBinds scope ds body place name around behind → (bound : List Name) → SameTexts bound scope → IsHad name around behind → Contains (let_shadowed ds bound) name
  found_let_shadowed _ _ _ _ _ _ _ (binds_this {scope} {var} {ty} {val} {body} {at} {place} {ds}) bound same had =
      let own : List Name = kept_if (has bound var.text) var in
      Contains-append_left (shadowed val bound ++ own) (let_shadowed ds (bound ++ var ∷ [])) var
      (Contains-append_right (shadowed val bound) own var (kept (has bound var.text) var (same var.text ∙ had)))
  found_let_shadowed _ _ _ _ _ _ _ (binds_in_value {scope} {around} {n} {ty} {var} {val} {body} {behind} {at} {place} {ds} b) bound same had =
      let own : List Name = kept_if (has bound n.text) n in
      Contains-append_left (shadowed val bound ++ own) (let_shadowed ds (bound ++ n ∷ [])) var
      (Contains-append_left (shadowed val bound) own var (found_shadowed scope val var around behind b bound same had))
  found_let_shadowed _ _ _ _ _ _ _ (binds_next {scope} {around} {n} {ty} {var} {val} {body} {behind} {at} {place} {ds} b) bound same had =
      let own : List Name = kept_if (has bound n.text) n in
      Contains-append_right (shadowed val bound ++ own) (let_shadowed ds (bound ++ n ∷ [])) var
      (found_let_shadowed (n ∷ scope) ds body place var around behind b (bound ++ n ∷ []) (same_push bound scope n same) had)
