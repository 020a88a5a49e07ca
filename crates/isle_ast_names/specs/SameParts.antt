-- Equality of two names and of two positions: parts of the tests of equality.
use Rattle.std.specs.Prelude.{◌≡◌, Bool, true, ◌&&◌, nat_eq}
use Rattle.std.specs.Str.{bytes_eq}
use Rattle.std.proofs.Common.{refl}
use Rattle.std.proofs.lemmas.Bool.{and_parts, and_from}
use Rattle.std.proofs.lemmas.Bool.Decides.{Decides-eqb}
use Rattle.std.proofs.lemmas.Slice.Eq.{bytes_eq-Decides}
use Rattle.isle_base_source.specs.declared.pos.Pos.{Pos}
use Rattle.isle_ast_names.specs.Tree.{Name}

abbrev pub same_pos : Pos → Pos → Bool
same_pos p q = nat_eq p.file q.file && nat_eq p.offset q.offset

abbrev pub same_name : Name → Name → Bool
same_name m n = bytes_eq m.text n.text && same_pos m.pos n.pos

-- Each test is true exactly if the parts are the same.

pub pos_same : (p q : Pos) → same_pos p q ≡ true → p ≡ q
pos_same p q h =
    let all = and_parts (nat_eq p.file q.file) (nat_eq p.offset q.offset) h in
    let file = (Decides-eqb p.file q.file).0 all.0 in
    let offset = (Decides-eqb p.offset q.offset).0 all.1 in
    λ i. record { file = file i; offset = offset i }

pub pos_self : (p : Pos) → same_pos p p ≡ true
pos_self p =
    and_from (nat_eq p.file p.file) (nat_eq p.offset p.offset) ((Decides-eqb p.file p.file).1 refl)
    ((Decides-eqb p.offset p.offset).1 refl)

pub name_same : (m n : Name) → same_name m n ≡ true → m ≡ n
name_same m n h =
    let all = and_parts (bytes_eq m.text n.text) (same_pos m.pos n.pos) h in
    let text = (bytes_eq-Decides m.text n.text).0 all.0 in
    let pos = pos_same m.pos n.pos all.1 in
    λ i. record { text = text i; pos = pos i }

pub name_self : (m : Name) → same_name m m ≡ true
name_self m =
    and_from (bytes_eq m.text m.text) (same_pos m.pos m.pos) ((bytes_eq-Decides m.text m.text).1 refl) (pos_self m.pos)
