-- Where the encodings of texts, positions and names end.
use Rattle.std.proofs.Common.{◌≡◌, ℕ, suc, List, [], ◌∷◌, ◌++◌, Option, length, map, refl, ap, sym, ◌∙◌, arith}
use Rattle.isle_base_source.specs.declared.pos.Pos.{Pos}
use Rattle.isle_ast_names.specs.Tree.{Name}
use Rattle.isle_encoding.specs.Numbers.{flag, integer, list, number, option}
use Rattle.isle_encoding.specs.Names.{name, names, position, text}
use Rattle.isle_encoding.proofs.Ends.{apart, counted, flag_ends, front, integer_ends, list_ends, number_ends, option_ends, parts_2, parts_3, parts_4, parts_5, parts_6, parts_7, parts_8, regroup, rest}
use Rattle.std.proofs.lemmas.List.{append_cancel_left}

bytes_end : (x y r s : List ℕ) → length x ≡ length y → x ++ r ≡ y ++ s → (x ≡ y) × (r ≡ s)
bytes_end [] [] r s lengths same = (refl, same)
bytes_end (a ∷ x) (b ∷ y) r s lengths same =
    let others = bytes_end x y r s (omega arith) (rest a b _ _ same) in
    let first : a ≡ b = cc in
    ((λ i. first i ∷ others.0 i), others.1)
bytes_end _ _ r s lengths same = absurd (omega arith)

pub text_ends : (x y : List ℕ) (r s : List ℕ) → text x ++ r ≡ text y ++ s → (x ≡ y) × (r ≡ s)
text_ends x y r s same =
    let count = front number number_ends (length x) (length y) x y r s same in
    bytes_end x y r s count.0 count.1

pub position_ends : (x y : Pos) (r s : List ℕ) → position x ++ r ≡ position y ++ s → (x ≡ y) × (r ≡ s)
position_ends x y r s same =
    let parts = parts_2 (number x.file) (number x.offset) (number y.file) (number y.offset)
    r s same in
    let v0 = number_ends x.file y.file _ _ parts in
    let v1 = number_ends x.offset y.offset _ _ v0.1 in
    ((λ i. record { file = v0.0 i; offset = v1.0 i }), v1.1)

pub name_ends : (x y : Name) (r s : List ℕ) → name x ++ r ≡ name y ++ s → (x ≡ y) × (r ≡ s)
name_ends x y r s same =
    let parts = parts_2 (text x.text) (position x.pos) (text y.text) (position y.pos)
    r s same in
    let v0 = text_ends x.text y.text _ _ parts in
    let v1 = position_ends x.pos y.pos _ _ v0.1 in
    ((λ i. record { text = v0.0 i; pos = v1.0 i }), v1.1)

pub names_end : (x y : List Name) (r s : List ℕ) → names x ++ r ≡ names y ++ s → (x ≡ y) × (r ≡ s)
names_end = list_ends name name_ends
