-- Positions that are compared.
use Rattle.std.proofs.Common.{◌≡◌, sym, refl, true, ◌==◌, eq-eqb}
use Rattle.std.proofs.lemmas.Bool.{and_from, and_parts, eqb-true}
use Rattle.isle_base_source.specs.declared.pos.Pos.{Pos}
use Rattle.isle_index.specs.Renamed.{same_place}

pub same_self : (p : Pos) → same_place p p ≡ true
same_self p = and_from (p.file == p.file) (p.offset == p.offset) (eq-eqb p.file p.file refl) (eq-eqb p.offset p.offset refl)

pub position_is : (p q : Pos) → same_place p q ≡ true → q ≡ p
position_is p q h =
    let both = and_parts (p.file == q.file) (p.offset == q.offset) h in
    let file = eqb-true p.file q.file both.0 in
    let offset = eqb-true p.offset q.offset both.1 in
    λ i. record { file = sym file i; offset = sym offset i }
