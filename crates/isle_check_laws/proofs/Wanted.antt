-- Types that are wanted, flags, and converters in expressions.
use Rattle.std.proofs.Common.{◌≡◌, ◌≢◌, ℕ, List, Bool, true, false, not, ◌||◌, Option, None, Some, refl, ap, sym, ◌∙◌, subst, bytes_eq, if◌then◌else◌}
use Rattle.std.proofs.lemmas.Option.{none-some, same_Some}
use Rattle.isle_check_environment.specs.signatures.Environment.{EnvironmentNode}
use Rattle.isle_check_typing.specs.expressions.ExpressionTypes.{if_constructs, other_than}
use Rattle.isle_check_laws.specs.HasExpressionType.{IsWanted}
use Rattle.isle_check_laws.proofs.Telling.{differs, equal_text, other_text, same_text}

wanted_by : (found wanted : List ℕ) (b : Bool) → bytes_eq found wanted ≡ b → (if b then None else Some wanted) ≡ None → found ≡ wanted
wanted_by found wanted true is h = same_text found wanted is
wanted_by found wanted false is h = absurd (none-some wanted (sym h))

pub wanted_is : (found : List ℕ) (wanted : Option (List ℕ)) → other_than found wanted ≡ None → IsWanted found wanted
wanted_is found None h = tt
wanted_is found (Some wanted) h = wanted_by found wanted (bytes_eq found wanted) refl h

other_by : (found wanted ty : List ℕ) (b : Bool) → bytes_eq found wanted ≡ b → (if b then None else Some wanted) ≡ Some ty → (Some wanted ≡ Some ty) × (found ≢ ty)
other_by found wanted ty true is h = absurd (none-some ty h)
other_by found wanted ty false is h = (h, λ same. other_text found wanted is (same ∙ sym (same_Some wanted ty h)))

-- a type that isn't the one that is wanted
pub other_is : (found : List ℕ) (wanted : Option (List ℕ)) (ty : List ℕ) → other_than found wanted ≡ Some ty → (wanted ≡ Some ty) × (found ≢ ty)
other_is found None ty h = absurd (none-some ty h)
other_is found (Some wanted) ty h = other_by found wanted ty (bytes_eq found wanted) refl h

pub none_other : (found : List ℕ) (wanted : Option (List ℕ)) → IsWanted found wanted → other_than found wanted ≡ None
none_other found None w = refl
none_other found (Some wanted) w =
    ap (λ t. if bytes_eq found t then None else Some t) (sym w) ∙ ap (λ b. if b then None else Some found) (equal_text found)

pub some_other : (found ty : List ℕ) → found ≢ ty → other_than found (Some ty) ≡ Some ty
some_other found ty other = ap (λ b. if b then None else Some ty) (differs found ty other)

by_constructor : (env : EnvironmentNode) (c found : List ℕ) (b : Bool) → env.has_constructor c ≡ b → (if b then Some c else None) ≡ Some found →
    (c ≡ found) × (env.has_constructor c ≡ true)
by_constructor env c found true is h = (same_Some c found h, is)
by_constructor env c found false is h = absurd (none-some found h)

-- what a converter that is found is
pub by_converter : (env : EnvironmentNode) (o : Option (List ℕ)) (converter : List ℕ) → if_constructs env o ≡ Some converter →
    (o ≡ Some converter) × (env.has_constructor converter ≡ true)
by_converter env None converter h = absurd (none-some converter h)
by_converter env (Some c) converter h =
    let by = by_constructor env c converter (env.has_constructor c) refl h in
    (ap (λ (x : List ℕ). Some x) by.0, subst (λ x. env.has_constructor x ≡ true) by.0 by.1)

pub implied_first : (a b : Bool) → (not a || b) ≡ true → a ≡ true → b ≡ true
implied_first true b h e = h
implied_first false b h e = cc

pub implied_last : (a b : Bool) → (b || not a) ≡ true → a ≡ true → b ≡ true
implied_last a true h e = refl
implied_last true false h e = h
implied_last false false h e = e

pub implies_first : (a b : Bool) → (a ≡ true → b ≡ true) → (not a || b) ≡ true
implies_first true b f = f refl
implies_first false b f = refl

pub implies_last : (a b : Bool) → (a ≡ true → b ≡ true) → (b || not a) ≡ true
implies_last a true f = refl
implies_last true false f = f refl
implies_last false false f = refl
