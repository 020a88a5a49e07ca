-- What the reads of expressions mean: a variable in scope around the expression, or one of a `let` in it.
use Rattle.std.proofs.Common.{◌≡◌, ◌⊎◌, inl, inr, ℕ, List, ◌∷◌, Bool, true, false, not, ◌&&◌, Some, bytes_eq, refl, sym, ap, subst, ◌∙◌, ⊎_elim, if◌then◌else◌}
use Rattle.std.proofs.lemmas.Bool.{or_left, or_right}
use Rattle.isle_base_source.specs.declared.pos.Pos.{Pos}
use Rattle.isle_ast_names.specs.Tree.{Name}
use Rattle.isle_ast_rules.specs.Tree.{Expression, term_expression, let_expression, ExpressionList, more_expression, LetList, no_let, more_let}
use Rattle.isle_index_laws.specs.scopes.Reads.{Reads, itself, in_argument, in_body, in_value, AreRead, in_first, in_later, ValuesRead, in_this, in_next, meant, with_lets}
use Rattle.isle_lint_core.specs.Uses.{let_uses, list_uses, uses}
use Rattle.isle_index_laws.specs.scopes.lints.Lets.{Binds, binds_in_argument, binds_in_body, binds_in_let, Bind, binds_in_first, binds_in_later, LetBinds, binds_this, binds_in_value, binds_next}
use Rattle.isle_index_laws.proofs.scopes.lints.Counted as counted
use Rattle.isle_index_laws.proofs.scopes.lints.Lets.{FoundBy, IsBy}
use Rattle.isle_index_laws.proofs.scopes.lints.Uses.{text_is, text_same}

-- what is read behind a `let` is read

open_let : (scope : List Name) (n ty : Name) (val : Expression) (at place : Pos) (ds : LetList) (body : Expression) (read : Name) (visible : List Name) →
    (x : Expression) → Reads (n ∷ scope) x read visible → x ≡ let_expression ds body place → Reads scope (let_expression (more_let n ty val at ds) body place) read visible
open_let scope n ty val at place ds body read visible x h is = by (subst (λ y. Reads (n ∷ scope) y read visible) is h)
  where
    parts : (scope : List Name) (x : Expression) (read : Name) (visible : List Name) → Reads scope x read visible → (ds : LetList) (body : Expression) (place : Pos) →
        x ≡ let_expression ds body place → Reads (with_lets scope ds) body read visible ⊎ ValuesRead scope ds read visible
    parts _ _ _ _ (itself {scope} {name} {place}) ds other at is = absurd (cc)
    parts _ _ _ _ (in_argument {scope} {visible} {term} {name} {args} {place} h) ds other at is = absurd (cc)
    parts _ _ _ _ (in_body {scope} {visible} {defs} {body} {name} {place} h) ds other at is =
        let same : defs ≡ ds = cc in
        let bodies : body ≡ other = cc in
        inl (subst (λ d. Reads (with_lets scope d) other name visible) same (subst (λ b. Reads (with_lets scope defs) b name visible) bodies h))
    parts _ _ _ _ (in_value {scope} {visible} {defs} {body} {name} {place} h) ds other at is =
        let same : defs ≡ ds = cc in
        inr (subst (λ d. ValuesRead scope d name visible) same h)

    by : Reads (n ∷ scope) (let_expression ds body place) read visible → Reads scope (let_expression (more_let n ty val at ds) body place) read visible
    by h =
        ⊎_elim (λ inside. in_body inside) (λ value. in_value (in_next value))
        (parts (n ∷ scope) (let_expression ds body place) read visible h ds body place refl)

opened : (scope : List Name) (n ty : Name) (val : Expression) (at place : Pos) (ds : LetList) (body : Expression) (read : Name) (visible : List Name) →
    Reads (n ∷ scope) (let_expression ds body place) read visible → Reads scope (let_expression (more_let n ty val at ds) body place) read visible
opened scope n ty val at place ds body read visible h = open_let scope n ty val at place ds body read visible (let_expression ds body place) h refl

mutual
  pub read_behind : (scope : List Name) (x : Expression) (var : Name) (around : List Name) (behind : Expression) → Binds scope x var around behind →
      (read : Name) (visible : List Name) → Reads (var ∷ around) behind read visible → Reads scope x read visible
  read_behind _ _ _ _ _ (binds_in_argument {scope} {around} {term} {var} {args} {place} {behind} b) read visible h = in_argument (read_behind_list scope args var around behind b read visible h)
  read_behind _ _ _ _ _ (binds_in_body {scope} {around} {defs} {body} {behind} {place} {var} b) read visible h = in_body (read_behind (with_lets scope defs) body var around behind b read visible h)
  read_behind _ _ _ _ _ (binds_in_let {scope} {around} {defs} {body} {behind} {place} {var} b) read visible h = read_behind_let scope defs body place var around behind b read visible h

  read_behind_list : (scope : List Name) (xs : ExpressionList) (var : Name) (around : List Name) (behind : Expression) → Bind scope xs var around behind →
      (read : Name) (visible : List Name) → Reads (var ∷ around) behind read visible → AreRead scope xs read visible
  read_behind_list _ _ _ _ _ (binds_in_first {scope} {around} {x} {behind} {xs} {var} b) read visible h = in_first (read_behind scope x var around behind b read visible h)
  read_behind_list _ _ _ _ _ (binds_in_later {scope} {around} {x} {behind} {xs} {var} b) read visible h = in_later (read_behind_list scope xs var around behind b read visible h)

  read_behind_let : (scope : List Name) (ds : LetList) (body : Expression) (place : Pos) (var : Name) (around : List Name) (behind : Expression) → LetBinds scope ds body place var around behind →
      (read : Name) (visible : List Name) → Reads (var ∷ around) behind read visible → Reads scope (let_expression ds body place) read visible
  read_behind_let _ _ _ _ _ _ _ (binds_this {scope} {var} {ty} {val} {body} {at} {place} {ds}) read visible h = opened scope var ty val at place ds body read visible h
  read_behind_let _ _ _ _ _ _ _ (binds_in_value {scope} {around} {n} {ty} {var} {val} {body} {behind} {at} {place} {ds} b) read visible h =
      in_value (in_this (read_behind scope val var around behind b read visible h))
  read_behind_let _ _ _ _ _ _ _ (binds_next {scope} {around} {n} {ty} {var} {val} {body} {behind} {at} {place} {ds} b) read visible h =
      opened scope n ty val at place ds body read visible (read_behind_let (n ∷ scope) ds body place var around behind b read visible h)

-- what a read means

-- it is in scope around, and the expression uses it; or a `let` in the expression binds it, and something behind uses it
abbrev pub Means : (B : List Name → Expression → Type 0) → (scope : List Name) → (text : List ℕ) → (name : Name) → (used : Bool) → Type 0
Means B scope text name used = ((meant scope text ≡ Some name) × (used ≡ true)) ⊎ FoundBy B (IsBy counted.itself name)

change : (B C : List Name → Expression → Type 0) (scope : List Name) (text : List ℕ) (name : Name) (a b : Bool) → ((around : List Name) (behind : Expression) → B around behind → C around behind) →
    (a ≡ true → b ≡ true) → Means B scope text name a → Means C scope text name b
change B C scope text name a b f g (inl m) = inl (m.0, g m.1)
change B C scope text name a b f g (inr found) = inr (found.0, found.1, f found.0 found.1 found.2, found.3)

-- behind one more variable of a `let`
let_means : (scope : List Name) (var ty : Name) (val : Expression) (at place : Pos) (ds : LetList) (body : Expression) (text : List ℕ) (name : Name) →
    Means (LetBinds (var ∷ scope) ds body place name) (var ∷ scope) text name (let_uses ds text (uses body text)) →
    Means (LetBinds scope (more_let var ty val at ds) body place name) scope text name (let_uses (more_let var ty val at ds) text (uses body text))
let_means scope var ty val at place ds body text name (inr found) = inr (found.0, found.1, binds_next found.2, found.3)
let_means scope var ty val at place ds body text name (inl m) = by (bytes_eq var.text text) refl m.0
  where
    by : (b : Bool) → bytes_eq var.text text ≡ b → (if b then Some var else meant scope text) ≡ Some name →
        Means (LetBinds scope (more_let var ty val at ds) body place name) scope text name (let_uses (more_let var ty val at ds) text (uses body text))
    by true is e =
        let same : var ≡ name = cc in
        let texts : text ≡ name.text = sym (text_is var.text text is) ∙ ap (λ n. n.text) same in
        inr (
          scope,
          let_expression ds body place,
          subst (λ n. LetBinds scope (more_let var ty val at ds) body place n scope (let_expression ds body place)) same binds_this,
          subst (λ t. let_uses ds t (uses body t) ≡ true) texts m.1,
        )
    by false is e = inl (e, or_right (uses val text) (not (bytes_eq var.text text) && let_uses ds text (uses body text)) (ap (λ b. not b && let_uses ds text (uses body text)) is ∙ m.1))

body_means : (scope : List Name) (ds : LetList) (body : Expression) (place : Pos) (text : List ℕ) (name : Name) → meant (with_lets scope ds) text ≡ Some name → uses body text ≡ true →
    Means (LetBinds scope ds body place name) scope text name (let_uses ds text (uses body text))
body_means scope no_let body place text name e does = inl (e, does)
body_means scope (more_let var ty val at ds) body place text name e does =
    let_means scope var ty val at place ds body text name (body_means (var ∷ scope) ds body place text name e does)

mutual
  pub read_means : (scope : List Name) (x : Expression) (name : Name) (visible : List Name) → Reads scope x name visible → (bound : Name) → meant visible name.text ≡ Some bound →
      Means (Binds scope x bound) scope name.text bound (uses x name.text)
  read_means _ _ _ _ (itself {scope} {name} {place}) bound e = inl (e, text_same name.text)
  read_means _ _ _ _ (in_argument {scope} {visible} {term} {name} {args} {place} h) bound e =
      change (Bind scope args bound) (Binds scope (term_expression term args place) bound) scope name.text bound (list_uses args name.text) (list_uses args name.text)
      (λ around behind b. binds_in_argument b) (λ does. does) (list_means scope args name visible h bound e)
  read_means _ _ _ _ (in_body {scope} {visible} {defs} {body} {name} {place} h) bound e =
      ⊎_elim
      (λ m.
      change (LetBinds scope defs body place bound) (Binds scope (let_expression defs body place) bound) scope name.text bound
      (let_uses defs name.text (uses body name.text)) (let_uses defs name.text (uses body name.text)) (λ around behind b. binds_in_let b) (λ does. does)
      (body_means scope defs body place name.text bound m.0 m.1))
      (λ found. inr (found.0, found.1, binds_in_body found.2, found.3))
      (read_means (with_lets scope defs) body name visible h bound e)
  read_means _ _ _ _ (in_value {scope} {visible} {defs} {body} {name} {place} h) bound e =
      change (LetBinds scope defs body place bound) (Binds scope (let_expression defs body place) bound) scope name.text bound
      (let_uses defs name.text (uses body name.text)) (let_uses defs name.text (uses body name.text)) (λ around behind b. binds_in_let b) (λ does. does)
      (values_mean scope defs name visible h body place bound e)

  list_means : (scope : List Name) (xs : ExpressionList) (name : Name) (visible : List Name) → AreRead scope xs name visible → (bound : Name) → meant visible name.text ≡ Some bound →
      Means (Bind scope xs bound) scope name.text bound (list_uses xs name.text)
  list_means _ _ _ _ (in_first {scope} {visible} {x} {xs} {name} h) bound e =
      change (Binds scope x bound) (Bind scope (more_expression x xs) bound) scope name.text bound (uses x name.text) (list_uses (more_expression x xs) name.text)
      (λ around behind b. binds_in_first b) (or_left (uses x name.text) (list_uses xs name.text)) (read_means scope x name visible h bound e)
  list_means _ _ _ _ (in_later {scope} {visible} {x} {xs} {name} h) bound e =
      change (Bind scope xs bound) (Bind scope (more_expression x xs) bound) scope name.text bound (list_uses xs name.text) (list_uses (more_expression x xs) name.text)
      (λ around behind b. binds_in_later b) (or_right (uses x name.text) (list_uses xs name.text)) (list_means scope xs name visible h bound e)

  values_mean : (scope : List Name) (ds : LetList) (name : Name) (visible : List Name) → ValuesRead scope ds name visible → (body : Expression) (place : Pos) (bound : Name) →
      meant visible name.text ≡ Some bound → Means (LetBinds scope ds body place bound) scope name.text bound (let_uses ds name.text (uses body name.text))
  values_mean _ _ _ _ (in_this {scope} {visible} {var} {ty} {name} {val} {place} {ds} h) body at bound e =
      change (Binds scope val bound) (LetBinds scope (more_let var ty val place ds) body at bound) scope name.text bound (uses val name.text)
      (let_uses (more_let var ty val place ds) name.text (uses body name.text)) (λ around behind b. binds_in_value b)
      (or_left (uses val name.text) (not (bytes_eq var.text name.text) && let_uses ds name.text (uses body name.text))) (read_means scope val name visible h bound e)
  values_mean _ _ _ _ (in_next {scope} {visible} {var} {ty} {name} {val} {place} {ds} h) body at bound e =
      let_means scope var ty val place at ds body name.text bound (values_mean (var ∷ scope) ds name visible h body at bound e)
