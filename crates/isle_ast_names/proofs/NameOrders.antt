-- Names that are equal in order, or in what their hash is of, are equal.
use Rattle.std.proofs.Common.{◌≡◌, ℕ, List, [], ◌∷◌, drop, get_or, refl, ap, subst, sym}
use Rattle.std.specs.Cmp.Lexicographic.{slice_cmp}
use Rattle.std.specs.Ordering.{nat_cmp, ordering_then}
use Rattle.std.specs.declared.cmp.Ordering.TheVariants.{Equal}
use Rattle.isle_base_source.proofs.PositionOrders.{both_equal, hashes_equal, numbers_equal, number_itself, then_equal}
use Rattle.isle_base_source.specs.PositionOrder.{IsInRange}
use Rattle.isle_ast_names.specs.NameOrder.{name_cmp, name_hash}
use Rattle.isle_ast_names.specs.Tree.{Name}

texts_equal : (xs ys : List ℕ) → slice_cmp nat_cmp xs ys ≡ Equal → xs ≡ ys
texts_equal [] [] e = refl
texts_equal [] (y ∷ ys) e = cc
texts_equal (x ∷ xs) [] e = cc
texts_equal (x ∷ xs) (y ∷ ys) e =
    let p = both_equal (nat_cmp x y) (slice_cmp nat_cmp xs ys) e in
    let first = numbers_equal x y p.0 in
    let others = texts_equal xs ys p.1 in
    cc

text_itself : (xs : List ℕ) → slice_cmp nat_cmp xs xs ≡ Equal
text_itself [] = refl
text_itself (x ∷ xs) = subst (λ o. ordering_then o (slice_cmp nat_cmp xs xs) ≡ Equal) (sym (number_itself x)) (text_itself xs)

pub names_equal : (m n : Name) → name_cmp m n ≡ Equal → m ≡ n
names_equal m n e =
    let p = both_equal (slice_cmp nat_cmp m.text n.text) _ e in
    let q = both_equal (nat_cmp m.pos.file n.pos.file) (nat_cmp m.pos.offset n.pos.offset) p.1 in
    let text = texts_equal m.text n.text p.0 in
    let file = numbers_equal m.pos.file n.pos.file q.0 in
    let offset = numbers_equal m.pos.offset n.pos.offset q.1 in
    λ i. record { text = text i; pos = record { file = file i; offset = offset i } }

name_itself : (n : Name) → name_cmp n n ≡ Equal
name_itself n =
    then_equal (slice_cmp nat_cmp n.text n.text) _ (text_itself n.text)
    (then_equal (nat_cmp n.pos.file n.pos.file) _ (number_itself n.pos.file) (number_itself n.pos.offset))

pub equal_names : (m n : Name) → m ≡ n → name_cmp m n ≡ Equal
equal_names m n e = subst (λ x. name_cmp m x ≡ Equal) e (name_itself m)

pub name_hashes_equal : (m n : Name) → IsInRange m.pos → IsInRange n.pos → name_hash m ≡ name_hash n → m ≡ n
name_hashes_equal m n l r e =
    let text = ap (λ writes. get_or writes 0 []) e in
    let pos = hashes_equal m.pos n.pos l r (ap (drop 2) e) in
    λ i. record { text = text i; pos = pos i }
