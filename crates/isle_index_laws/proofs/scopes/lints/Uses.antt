-- What expressions use, by the lint's test and by the scopes of trees.
use Rattle.std.proofs.Common.{◌≡◌, ◌⊎◌, inl, inr, ℕ, List, [], ◌∷◌, ◌++◌, Bool, true, false, not, ◌&&◌, ◌||◌, Option, None, Some, bytes_eq, refl, sym, ap, subst, ◌∙◌, append_assoc, ⊎_elim, if◌then◌else◌}
use Rattle.std.proofs.lemmas.Bool.{both_ways, or_cases, or_left, or_right, and_parts, not-true}
use Rattle.std.proofs.lemmas.List.{append_cancel_right}
use Rattle.std.proofs.lemmas.Slice.Eq.{bytes_eq-Decides}
use Rattle.isle_ast_names.specs.Tree.{Name}
use Rattle.isle_ast_rules.specs.Tree.{Expression, term_expression, var_expression, bool_expression, int_expression, constant_expression, let_expression, ExpressionList, no_expression, more_expression, LetList, no_let, more_let}
use Rattle.isle_index_laws.specs.scopes.Reads.{Reads, itself, in_argument, in_body, in_value, AreRead, in_first, in_later, ValuesRead, in_this, in_next, meant, with_lets}
use Rattle.isle_lint_core.specs.Uses.{uses, list_uses, let_uses}

-- texts

pub text_is : (xs ys : List ℕ) → bytes_eq xs ys ≡ true → xs ≡ ys
text_is xs ys e = (bytes_eq-Decides xs ys).0 e

pub text_same : (xs : List ℕ) → bytes_eq xs xs ≡ true
text_same xs = (bytes_eq-Decides xs xs).1 refl

-- what a text means behind more variables

pub not_meant : (n : Name) (ns : List Name) (text : List ℕ) → meant (n ∷ ns) text ≡ None → (bytes_eq n.text text ≡ false) × (meant ns text ≡ None)
not_meant n ns text e = by (bytes_eq n.text text) n (meant ns text) e
  where
    by : (b : Bool) (n : Name) (o : Option Name) → (if b then Some n else o) ≡ None → (b ≡ false) × (o ≡ None)
    by true n o e = absurd (cc)
    by false n o e = (refl, e)

pub meant_not : (n : Name) (ns : List Name) (text : List ℕ) → bytes_eq n.text text ≡ false → meant ns text ≡ None → meant (n ∷ ns) text ≡ None
meant_not n ns text e is = ap (λ b. if b then Some n else meant ns text) e ∙ is

pub not_meant_cut : (xs ys : List Name) (text : List ℕ) → meant (xs ++ ys) text ≡ None → (meant xs text ≡ None) × (meant ys text ≡ None)
not_meant_cut [] ys text e = (refl, e)
not_meant_cut (x ∷ xs) ys text e =
    let first = not_meant x (xs ++ ys) text e in
    let rest = not_meant_cut xs ys text first.1 in
    (meant_not x xs text first.0 rest.0, rest.1)

-- the variables of a `let` come in front of the scope
pub with_lets_are : (scope front : List Name) (ds : LetList) → with_lets (front ++ scope) ds ≡ with_lets front ds ++ scope
with_lets_are scope front no_let = refl
with_lets_are scope front (more_let var ty val place ds) = with_lets_are scope (var ∷ front) ds

-- a read is used, or hidden

-- what is in scope at a read: `inner` before the scope. If nothing of it has the text, the test says that it is used
abbrev pub Opened : (scope visible : List Name) → (text : List ℕ) → (used : Bool) → Type 0
Opened scope visible text used = (inner : List Name) × (visible ≡ inner ++ scope) × (meant inner text ≡ None → used ≡ true)

-- behind one more variable
opened_behind : (n : Name) (scope visible : List Name) (text : List ℕ) (used first : Bool) → Opened (n ∷ scope) visible text used →
    Opened scope visible text (first || (not (bytes_eq n.text text) && used))
opened_behind n scope visible text used first o =
    let whole : visible ≡ (o.0 ++ n ∷ []) ++ scope = o.1 ∙ sym (append_assoc o.0 (n ∷ []) scope) in (
      o.0 ++ n ∷ [],
      whole,
      λ none.
          let cut = not_meant_cut o.0 (n ∷ []) text none in
          let apart = (not_meant n [] text cut.1).0 in
          or_right first (not (bytes_eq n.text text) && used) (ap (λ b. not b && used) apart ∙ o.2 cut.0),
    )

opened_more : (scope visible : List Name) (text : List ℕ) (a b : Bool) → (a ≡ true → b ≡ true) → Opened scope visible text a → Opened scope visible text b
opened_more scope visible text a b more o = (o.0, o.1, λ none. more (o.2 none))

-- a body is used unless a definition has the text
body_used : (ds : LetList) (front : List Name) (text : List ℕ) → meant (with_lets front ds) text ≡ None → (let_uses ds text true ≡ true) × (meant front text ≡ None)
body_used no_let front text none = (refl, none)
body_used (more_let var ty val place ds) front text none =
    let rest = body_used ds (var ∷ front) text none in
    let first = not_meant var front text rest.1 in
    (or_right (uses val text) (not (bytes_eq var.text text) && let_uses ds text true) (ap (λ b. not b && let_uses ds text true) first.0 ∙ rest.0), first.1)

mutual
  pub opened : (scope : List Name) (x : Expression) (read : Name) (visible : List Name) → Reads scope x read visible → Opened scope visible read.text (uses x read.text)
  opened _ _ _ _ (itself {scope} {name} {place}) = ([], refl, λ none. text_same name.text)
  opened _ _ _ _ (in_argument {scope} {visible} {term} {name} {args} {place} h) = opened_list scope args name visible h
  opened _ _ _ _ (in_body {scope} {visible} {defs} {body} {name} {place} h) =
      let o = opened (with_lets scope defs) body name visible h in
      let whole : visible ≡ (o.0 ++ with_lets [] defs) ++ scope =
      o.1 ∙ ap (λ ns. o.0 ++ ns) (with_lets_are scope [] defs) ∙ sym (append_assoc o.0 (with_lets [] defs) scope) in (
        o.0 ++ with_lets [] defs,
        whole,
        λ none.
            let cut = not_meant_cut o.0 (with_lets [] defs) name.text none in
            ap (let_uses defs name.text) (o.2 cut.0) ∙ (body_used defs [] name.text cut.1).0,
      )
  opened _ _ _ _ (in_value {scope} {visible} {defs} {body} {name} {place} h) = opened_values scope defs name visible (uses body name.text) h

  opened_list : (scope : List Name) (xs : ExpressionList) (read : Name) (visible : List Name) → AreRead scope xs read visible → Opened scope visible read.text (list_uses xs read.text)
  opened_list _ _ _ _ (in_first {scope} {visible} {x} {xs} {name} h) =
      opened_more scope visible name.text (uses x name.text) (list_uses (more_expression x xs) name.text)
      (or_left (uses x name.text) (list_uses xs name.text)) (opened scope x name visible h)
  opened_list _ _ _ _ (in_later {scope} {visible} {x} {xs} {name} h) =
      opened_more scope visible name.text (list_uses xs name.text) (list_uses (more_expression x xs) name.text)
      (or_right (uses x name.text) (list_uses xs name.text)) (opened_list scope xs name visible h)

  opened_values : (scope : List Name) (ds : LetList) (read : Name) (visible : List Name) (body : Bool) → ValuesRead scope ds read visible →
      Opened scope visible read.text (let_uses ds read.text body)
  opened_values _ _ _ _ body (in_this {scope} {visible} {var} {ty} {name} {val} {place} {ds} h) =
      opened_more scope visible name.text (uses val name.text) (let_uses (more_let var ty val place ds) name.text body)
      (or_left (uses val name.text) (not (bytes_eq var.text name.text) && let_uses ds name.text body)) (opened scope val name visible h)
  opened_values _ _ _ _ body (in_next {scope} {visible} {var} {ty} {name} {val} {place} {ds} h) =
      opened_behind var scope visible name.text (let_uses ds name.text body) (uses val name.text) (opened_values (var ∷ scope) ds name visible body h)

-- what is used is read

-- an expression reads a variable of this text that nothing inside has bound: `inner` is bound between it and the scope
abbrev pub IsReadPast : (Read : Name → List Name → Type 0) → (scope : List Name) → (text : List ℕ) → Type 0
IsReadPast Read scope text = (read : Name) × (inner : List Name) × Read read (inner ++ scope) × (read.text ≡ text) × (meant inner text ≡ None)

pub meant_cut : (xs ys : List Name) (text : List ℕ) → meant xs text ≡ None → meant ys text ≡ None → meant (xs ++ ys) text ≡ None
meant_cut [] ys text a b = b
meant_cut (x ∷ xs) ys text a b = let first = not_meant x xs text a in meant_not x (xs ++ ys) text first.0 (meant_cut xs ys text first.1 b)

behind : (Read Whole : Name → List Name → Type 0) (n : Name) (scope : List Name) (text : List ℕ) → ((read : Name) (visible : List Name) → Read read visible → Whole read visible) →
    bytes_eq n.text text ≡ false → IsReadPast Read (n ∷ scope) text → IsReadPast Whole scope text
behind Read Whole n scope text more apart p = (
  p.0,
  p.1 ++ n ∷ [],
  more p.0 ((p.1 ++ n ∷ []) ++ scope) (subst (Read p.0) (sym (append_assoc p.1 (n ∷ []) scope)) p.2),
  p.3,
  meant_cut p.1 (n ∷ []) text p.4 (meant_not n [] text apart refl),
)

past : (Read Whole : Name → List Name → Type 0) (scope : List Name) (text : List ℕ) → ((read : Name) (visible : List Name) → Read read visible → Whole read visible) →
    IsReadPast Read scope text → IsReadPast Whole scope text
past Read Whole scope text more p = (p.0, p.1, more p.0 (p.1 ++ scope) p.2, p.3, p.4)

mutual
  pub used : (x : Expression) (scope : List Name) (text : List ℕ) → uses x text ≡ true → IsReadPast (Reads scope x) scope text
  used (term_expression f args place) scope text h =
      past (AreRead scope args) (Reads scope (term_expression f args place)) scope text (λ read visible r. in_argument r) (used_list args scope text h)
  used (var_expression name place) scope text h = (name, [], itself, text_is name.text text h, refl)
  used (bool_expression val place) scope text h = let never : false ≡ true = h in absurd (cc)
  used (int_expression val place) scope text h = let never : false ≡ true = h in absurd (cc)
  used (constant_expression val place) scope text h = let never : false ≡ true = h in absurd (cc)
  used (let_expression defs body place) scope text h =
      ⊎_elim
      (λ values. past (ValuesRead scope defs) (Reads scope (let_expression defs body place)) scope text (λ read visible r. in_value r) values)
      (λ inside.
      let p = used body (with_lets scope defs) text inside.0 in
      let whole : p.1 ++ with_lets scope defs ≡ (p.1 ++ with_lets [] defs) ++ scope =
      ap (λ ns. p.1 ++ ns) (with_lets_are scope [] defs) ∙ sym (append_assoc p.1 (with_lets [] defs) scope) in
      (p.0, p.1 ++ with_lets [] defs, subst (Reads scope (let_expression defs body place) p.0) whole (in_body p.2), p.3, meant_cut p.1 (with_lets [] defs) text p.4 inside.1))
      (used_values defs scope text (uses body text) h)

  used_list : (xs : ExpressionList) (scope : List Name) (text : List ℕ) → list_uses xs text ≡ true → IsReadPast (AreRead scope xs) scope text
  used_list no_expression scope text h = let never : false ≡ true = h in absurd (cc)
  used_list (more_expression x xs) scope text h =
      ⊎_elim
      (λ first. past (Reads scope x) (AreRead scope (more_expression x xs)) scope text (λ read visible r. in_first r) (used x scope text first))
      (λ later. past (AreRead scope xs) (AreRead scope (more_expression x xs)) scope text (λ read visible r. in_later r) (used_list xs scope text later))
      (or_cases (uses x text) (list_uses xs text) h)

  -- a value reads it, or the body uses it and no definition has its text
  used_values : (ds : LetList) (scope : List Name) (text : List ℕ) (body : Bool) → let_uses ds text body ≡ true →
      IsReadPast (ValuesRead scope ds) scope text ⊎ ((body ≡ true) × (meant (with_lets [] ds) text ≡ None))
  used_values no_let scope text body h = inr (h, refl)
  used_values (more_let var ty val place ds) scope text body h =
      ⊎_elim
      (λ first. inl (past (Reads scope val) (ValuesRead scope (more_let var ty val place ds)) scope text (λ read visible r. in_this r) (used val scope text first)))
      (λ later.
      let parts = and_parts (not (bytes_eq var.text text)) (let_uses ds text body) later in
      let apart = not-true (bytes_eq var.text text) parts.0 in
      ⊎_elim
      (λ value. inl (behind (ValuesRead (var ∷ scope) ds) (ValuesRead scope (more_let var ty val place ds)) var scope text (λ read visible r. in_next r) apart value))
      (λ inside. inr (inside.0, ap (λ ns. meant ns text) (with_lets_are (var ∷ []) [] ds) ∙ meant_cut (with_lets [] ds) (var ∷ []) text inside.1 (meant_not var [] text apart refl)))
      (used_values ds (var ∷ scope) text body parts.1))
      (or_cases (uses val text) (not (bytes_eq var.text text) && let_uses ds text body) h)

-- what is not used is not read

pub not_read : (x : Expression) (scope : List Name) (text : List ℕ) → uses x text ≡ false → IsReadPast (Reads scope x) scope text → ⊥
not_read x scope text unused p =
    let o = opened scope x p.0 (p.1 ++ scope) p.2 in
    let same : p.1 ≡ o.0 = append_cancel_right p.1 o.0 scope o.1 in
    let none : meant o.0 p.0.text ≡ None = ap (λ ns. meant ns p.0.text) (sym same) ∙ ap (meant p.1) p.3 ∙ p.4 in
    let yes : uses x text ≡ true = ap (uses x) (sym p.3) ∙ o.2 none in
    both_ways (uses x text) unused yes
