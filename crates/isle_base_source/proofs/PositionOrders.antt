-- Positions that are equal in order, or in what their hash is of, are equal.
use Rattle.std.proofs.Common.{◌≡◌, ℕ, ◌<◌, ◌^◌, refl, ap, subst, sym, ◌∙◌, arith}
use Rattle.std.proofs.lemmas.Bool.Decides.{nat_tests}
use Rattle.std.proofs.lemmas.Nat.{from_le_bytes-to_le_bytes_8}
use Rattle.std.specs.Hash.{le_bytes}
use Rattle.std.specs.Int.{from_le_bytes, w64}
use Rattle.std.specs.Prelude.{[], get_or}
use Rattle.std.specs.Ordering.{nat_cmp, ordering_then}
use Rattle.std.specs.declared.cmp.Ordering.{Ordering}
use Rattle.std.specs.declared.cmp.Ordering.TheVariants.{Less, Equal, Greater}
use Rattle.isle_base_source.specs.PositionOrder.{IsInRange, position_cmp, position_hash}
use Rattle.isle_base_source.specs.declared.pos.Pos.{Pos}

pub both_equal : (o p : Ordering) → ordering_then o p ≡ Equal → (o ≡ Equal) × (p ≡ Equal)
both_equal Less p e = cc
both_equal Equal p e = (refl, e)
both_equal Greater p e = cc

pub numbers_equal : (x y : ℕ) → nat_cmp x y ≡ Equal → x ≡ y
numbers_equal x y e = grind (arith, nat_tests)

pub number_itself : (x : ℕ) → nat_cmp x x ≡ Equal
number_itself x = grind (arith, nat_tests)

pub then_equal : (o p : Ordering) → o ≡ Equal → p ≡ Equal → ordering_then o p ≡ Equal
then_equal o p e f = ap (λ x. ordering_then x p) e ∙ f

pub positions_equal : (p q : Pos) → position_cmp p q ≡ Equal → p ≡ q
positions_equal p q e =
    let both = both_equal (nat_cmp p.file q.file) (nat_cmp p.offset q.offset) e in
    let file = numbers_equal p.file q.file both.0 in
    let offset = numbers_equal p.offset q.offset both.1 in
    λ i. record { file = file i; offset = offset i }

position_itself : (p : Pos) → position_cmp p p ≡ Equal
position_itself p =
    then_equal (nat_cmp p.file p.file) _ (number_itself p.file) (number_itself p.offset)

pub equal_positions : (p q : Pos) → p ≡ q → position_cmp p q ≡ Equal
equal_positions p q e = subst (λ x. position_cmp p x ≡ Equal) e (position_itself p)

bytes_equal : (x y : ℕ) → x < 2 ^ 64 → y < 2 ^ 64 → le_bytes 8 x ≡ le_bytes 8 y → x ≡ y
unfolding le_bytes
bytes_equal x y l m e =
    sym (from_le_bytes-to_le_bytes_8 x l) ∙ (ap (from_le_bytes w64) e ∙ from_le_bytes-to_le_bytes_8 y m)

pub hashes_equal : (p q : Pos) → IsInRange p → IsInRange q → position_hash p ≡ position_hash q → p ≡ q
hashes_equal p q l m e =
    let file = bytes_equal p.file q.file l.0 m.0 (ap (λ writes. get_or writes 0 []) e) in
    let offset = bytes_equal p.offset q.offset l.1 m.1 (ap (λ writes. get_or writes 1 []) e) in
    λ i. record { file = file i; offset = offset i }
