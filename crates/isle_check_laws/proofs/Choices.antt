-- What is known where a choice gives a value.
use Rattle.std.proofs.Common.{◌≡◌, Bool, true, false, Option, Some, None, refl, ap, option_and_then, option_map}
use Rattle.std.proofs.lemmas.Option.{none-some, same_Some}
use Rattle.isle_check_places.specs.Places.{ConstraintNode}
use Rattle.isle_check_laws.specs.Runs.{only_if, is_constraint, is_of, is_value}
use Rattle.isle_check_laws.specs.Worlds.{World}
use Rattle.isle_check_overlaps.proofs.Equality.{constraint_is, constraint_same}

pub only_if_some : {A : Type 0} (b : Bool) (x y : A) → only_if b x ≡ Some y → (b ≡ true) × (x ≡ y)
only_if_some true x y h = (refl, same_Some x y h)
only_if_some false x y h = absurd (none-some y h)

pub only_if_true : {A : Type 0} (b : Bool) (x : A) → b ≡ true → only_if b x ≡ Some x
only_if_true true x h = refl
only_if_true false x h = cc

pub then_some : {A B : Type 0} (f : A → Option B) (o : Option A) (y : B) → option_and_then f o ≡ Some y → (x : A) × ((o ≡ Some x) × (f x ≡ Some y))
then_some f None y h = absurd (none-some y h)
then_some f (Some x) y h = (x, (refl, h))

pub map_some : {A B : Type 0} (f : A → B) (o : Option A) (y : B) → option_map f o ≡ Some y → (x : A) × ((o ≡ Some x) × (f x ≡ y))
map_some f None y h = absurd (none-some y h)
map_some f (Some x) y h = (x, (refl, same_Some (f x) y h))

constraint_some : (o : Option ConstraintNode) (c : ConstraintNode) → is_constraint o c ≡ true → o ≡ Some c
constraint_some None c h = cc
constraint_some (Some d) c h = ap (λ (x : ConstraintNode). Some x) (constraint_is d c h)

pub is_of_some : {V : Type 0} (w : World V) (v : V) (c : ConstraintNode) → is_of w v c ≡ true → w.constraint v ≡ Some c
is_of_some w v c h = constraint_some (w.constraint v) c h

pub is_of_true : {V : Type 0} (w : World V) (v : V) (c : ConstraintNode) → w.constraint v ≡ Some c → is_of w v c ≡ true
is_of_true w v c h = rw h (constraint_same c)

pub is_value_some : {V : Type 0} (w : World V) (o : Option V) (v : V) → is_value w o v ≡ true → o ≡ Some v
is_value_some w None v h = cc
is_value_some {V} w (Some u) v h = ap (λ (x : V). Some x) ((w.decides u v).0 h)

pub is_value_true : {V : Type 0} (w : World V) (o : Option V) (v : V) → o ≡ Some v → is_value w o v ≡ true
is_value_true w o v h = rw h ((w.decides v v).1 refl)
