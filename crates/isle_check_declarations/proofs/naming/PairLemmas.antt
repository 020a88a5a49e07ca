-- The types of converters in a set, as they are added.
use Rattle.std.proofs.Common.{◌≡◌, ℕ, List, [], ◌∷◌, ◌++◌, Bool, true, false, cond, not, ◌&&◌, ◌||◌, refl, sym, ap, ◌∙◌}
use Rattle.std.specs.Borrow.{Bor}
use Rattle.std.specs.BTreeSet.{BTreeSet, IsEmpty, Updates, contains}
use Rattle.std.specs.BTreeMap.{is_at}
use Rattle.std.specs.List.{list_any}
use Rattle.std.specs.Cmp.Lexicographic.{slice_cmp}
use Rattle.std.specs.Ordering.{is_eq, nat_cmp, ordering_then}
use Rattle.std.specs.declared.cmp.Ordering.{Ordering}
use Rattle.std.specs.declared.cmp.Ordering.TheVariants.{Less, Equal, Greater}
use Rattle.std.specs.Str.{bytes_eq}
use Rattle.std.proofs.lemmas.List.Folds.{list_any-append}
use Rattle.std.proofs.lemmas.Map.Text.{is_eq-slice_cmp}
use Rattle.isle_ast.specs.Tree.{Conversion}
use Rattle.isle_check_declarations.specs.naming.Converters.{has_pair}
use Rattle.isle_check_declarations.specs.naming.Views.{KnowsPairs, pair_cmp}

both-equal : (x y : Ordering) → is_eq (ordering_then x y) ≡ is_eq x && is_eq y
both-equal Less y = refl
both-equal Equal y = refl
both-equal Greater y = refl

same-pair : (p q : Bor (List ℕ) × Bor (List ℕ)) → is_eq (pair_cmp p q) ≡ bytes_eq p.0.now q.0.now && bytes_eq p.1.now q.1.now
same-pair p q =
    both-equal (slice_cmp nat_cmp p.0.now q.0.now) (slice_cmp nat_cmp p.1.now q.1.now)
    ∙ ap (λ b. b && is_eq (slice_cmp nat_cmp p.1.now q.1.now)) (is_eq-slice_cmp p.0.now q.0.now)
    ∙ ap (λ b. bytes_eq p.0.now q.0.now && b) (is_eq-slice_cmp p.1.now q.1.now)

new-or-known : (new known : Bool) → cond new true known ≡ known || (new || false)
new-or-known true true = refl
new-or-known true false = refl
new-or-known false true = refl
new-or-known false false = refl

pub not-not : (b : Bool) → not (not b) ≡ b
not-not true = refl
not-not false = refl

-- a set without pairs
pub KnowsPairs-none : (m : BTreeSet (Bor (List ℕ) × Bor (List ℕ))) → IsEmpty m → KnowsPairs m []
KnowsPairs-none m empty p = ap (λ ks. list_any (is_at (pair_cmp p)) ks) empty

-- a set that has one more pair
pub KnowsPairs-put : (m n : BTreeSet (Bor (List ℕ) × Bor (List ℕ))) (p : Bor (List ℕ) × Bor (List ℕ)) (earlier : List Conversion) (c : Conversion) →
    p.0.now ≡ c.inner_ty.text → p.1.now ≡ c.outer_ty.text →
    Updates pair_cmp m n p true → KnowsPairs m earlier → KnowsPairs n (earlier ++ c ∷ [])
KnowsPairs-put m n p earlier c inner outer updates knows q =
    updates.0 q
    ∙ ap (λ b. cond b true (contains pair_cmp m q)) (same-pair p q)
    ∙ ap (λ b. cond (bytes_eq p.0.now q.0.now && bytes_eq p.1.now q.1.now) true b) (knows q)
    ∙ new-or-known (bytes_eq p.0.now q.0.now && bytes_eq p.1.now q.1.now) (has_pair earlier q.0.now q.1.now)
    ∙ ap (λ t. has_pair earlier q.0.now q.1.now || ((bytes_eq t q.0.now && bytes_eq p.1.now q.1.now) || false)) inner
    ∙ ap (λ t. has_pair earlier q.0.now q.1.now || ((bytes_eq c.inner_ty.text q.0.now && bytes_eq t q.1.now) || false)) outer
    ∙ sym (list_any-append (λ d. bytes_eq d.inner_ty.text q.0.now && bytes_eq d.outer_ty.text q.1.now) earlier (c ∷ []))
