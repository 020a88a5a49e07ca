-- Sets of texts, as they grow.
use Rattle.std.proofs.Common.{◌≡◌, ℕ, ◌+◌, ◌<◌, List, [], ◌∷◌, ◌++◌, Bool, true, false, cond, not, ◌||◌, length, get_or, drop, refl, sym, ap, ◌∙◌, append_assoc}
use Rattle.std.specs.Borrow.{Bor}
use Rattle.std.specs.BTreeMap.{is_at}
use Rattle.std.specs.BTreeSet.{BTreeSet, contains}
use Rattle.std.specs.Cmp.Lexicographic.{slice_cmp}
use Rattle.std.specs.Ordering.{nat_cmp}
use Rattle.std.specs.Str.{bytes_eq}
use Rattle.std.proofs.lemmas.Map.Text.{is_eq-slice_cmp}
use Rattle.isle_ast_names.specs.declared.Ident.{Ident}
use Rattle.isle_ast_names.specs.Tree.{Name}
use Rattle.isle_ast_names.specs.TreeView.{name_of}
use Rattle.isle_lint_core.specs.Names.{has, kept_if, names_at, repeated}
use Rattle.isle_lint_core.specs.Seen.{Knows}
use Rattle.isle_lint_core.proofs.NameLemmas.{at-step}

or-cond : (b c : Bool) → cond b true c ≡ b || c
or-cond true c = refl
or-cond false c = refl

-- a set that has one more text knows one more name
pub Knows-put : (s n : BTreeSet (Bor (List ℕ))) (key : Bor (List ℕ)) (name : Name) (names : List Name) → key.now ≡ name.text →
    ((q : Bor (List ℕ)) → contains (λ x y. slice_cmp nat_cmp x.now y.now) n q ≡ cond (is_at (λ y. slice_cmp nat_cmp key.now y.now) q) true (contains (λ x y. slice_cmp nat_cmp x.now y.now) s q)) →
    Knows s names → Knows n (name ∷ names)
Knows-put s n key name names is updates knows text =
    updates text
    ∙ ap (λ b. cond b true (contains (λ x y. slice_cmp nat_cmp x.now y.now) s text)) (is_eq-slice_cmp key.now text.now)
    ∙ ap (λ b. cond (bytes_eq key.now text.now) true b) (knows text)
    ∙ ap (λ bs. cond (bytes_eq bs text.now) true (has names text.now)) is
    ∙ or-cond (bytes_eq name.text text.now) (has names text.now)

or-swap : (a b c : Bool) → a || (b || c) ≡ b || (a || c)
or-swap true true c = refl
or-swap true false c = refl
or-swap false true c = refl
or-swap false false c = refl

-- one name more is had, wherever it stands
has-last : (names : List Name) (name : Name) (text : List ℕ) → has (name ∷ names) text ≡ has (names ++ name ∷ []) text
has-last [] name text = refl
has-last (n ∷ ns) name text =
    or-swap (bytes_eq name.text text) (bytes_eq n.text text) (has ns text)
    ∙ ap (λ b. bytes_eq n.text text || b) (has-last ns name text)

pub Knows-last : (s : BTreeSet (Bor (List ℕ))) (names : List Name) (name : Name) → Knows s (name ∷ names) → Knows s (names ++ name ∷ [])
Knows-last s names name knows text = knows text ∙ has-last names name text.now

not-not : (a b : Bool) → a ≡ not b → not a ≡ b
not-not a true e = ap not e
not-not a false e = ap not e

-- what is found of the names to come, one step on
pub repeated-step : (found grown : List (Bor Ident)) (known : List Name) (names : List (Bor Ident)) (i : ℕ) (x : Bor Ident) (new : Bool) →
    i < length names → x ≡ get_or names i x → new ≡ not (has known (name_of x.now).text) →
    names_at grown ≡ names_at found ++ kept_if (not new) (name_of x.now) →
    names_at grown ++ repeated (name_of x.now ∷ known) (names_at (drop (i + 1) names)) ≡ names_at found ++ repeated known (names_at (drop i names))
repeated-step found grown known names i x new within is tells adds =
    let rest : List Name = repeated (name_of x.now ∷ known) (names_at (drop (i + 1) names)) in
    ap (λ ns. ns ++ rest) adds
    ∙ append_assoc (names_at found) (kept_if (not new) (name_of x.now)) rest
    ∙ ap (λ b. names_at found ++ (kept_if b (name_of x.now) ++ rest)) (not-not new (has known (name_of x.now).text) tells)
    ∙ sym (at-step (λ ns. names_at found ++ repeated known ns) names i x within is)
