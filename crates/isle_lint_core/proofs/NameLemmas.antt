-- Lists of names, as they grow by one.
use Rattle.std.proofs.Common.{◌≡◌, ℕ, ◌+◌, ◌<◌, List, [], ◌∷◌, ◌++◌, length, get_or, drop, take, refl, sym, ap, ◌∙◌}
use Rattle.std.proofs.Math.Seq.{take-append_seam}
use Rattle.std.proofs.lemmas.List.{at_drop_more, length-map, take-map}
use Rattle.std.specs.Borrow.{Bor}
use Rattle.isle_ast_names.specs.declared.Ident.{Ident}
use Rattle.isle_ast_names.specs.Tree.{Name}
use Rattle.isle_ast_names.specs.TreeView.{name_of}
use Rattle.isle_lint_core.specs.Names.{names_at}

-- the names at references, those of a list after those of another
pub names_at-append : (xs ys : List (Bor Ident)) → names_at (xs ++ ys) ≡ names_at xs ++ names_at ys
names_at-append [] ys = refl
names_at-append (x ∷ xs) ys = ap (λ ns. name_of x.now ∷ ns) (names_at-append xs ys)

-- a list of names to come, one step on
pub at-step : {Y : Type 0} (f : List Name → Y) (names : List (Bor Ident)) (i : ℕ) (x : Bor Ident) → i < length names → x ≡ get_or names i x →
    f (names_at (drop i names)) ≡ f (name_of x.now ∷ names_at (drop (i + 1) names))
at-step f names i x within is =
    at_drop_more (λ xs. f (names_at xs)) names i x within ∙ ap (λ y. f (name_of y.now ∷ names_at (drop (i + 1) names))) (sym is)

-- the names at references, with one more at the end
pub names_at-push : (xs : List (Bor Ident)) (x : Bor Ident) → names_at (xs ++ x ∷ []) ≡ names_at xs ++ name_of x.now ∷ []
names_at-push xs x = names_at-append xs (x ∷ [])

-- the references in front lead to the names in front
pub names_at-take : (n : ℕ) (xs ys : List (Bor Ident)) (ns : List Name) → n ≡ length xs → names_at ys ≡ names_at xs ++ ns → names_at (take n ys) ≡ names_at xs
names_at-take n xs ys ns count grown =
    sym (take-map (λ (i : Bor Ident). name_of i.now) n ys)
    ∙ ap (take n) grown
    ∙ ap (λ m. take m (names_at xs ++ ns)) (count ∙ sym (length-map xs (λ (i : Bor Ident). name_of i.now)))
    ∙ take-append_seam (names_at xs) ns
