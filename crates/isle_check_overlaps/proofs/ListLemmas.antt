-- The item at an index, taken and dropped.
use Rattle.std.proofs.Common.{◌≡◌, ◌<◌, ℕ, ◌+◌, ◌-◌, zero, suc, List, [], ◌∷◌, ◌++◌, length, get_or, map, min, take, drop, refl, ap, sym, ◌∙◌, arith}

pub take_more : {A : Type 0} (xs : List A) (i : ℕ) (x : A) → i < length xs → x ≡ get_or xs i x → take (i + 1) xs ≡ take i xs ++ x ∷ []
take_more [] i x within is = absurd (omega (arith, within))
take_more (y ∷ ys) zero x within is = ap (λ a. a ∷ []) (sym is)
take_more (y ∷ ys) (suc i) x within is =
    let n : suc i + 1 ≡ suc (i + 1) = omega arith in
    ap (λ k. take k (y ∷ ys)) n ∙ ap (λ l. y ∷ l) (take_more ys i x (omega (arith, within)) is)

pub drop_more : {A : Type 0} (xs : List A) (i : ℕ) (x : A) → i < length xs → x ≡ get_or xs i x → drop i xs ≡ x ∷ drop (i + 1) xs
drop_more [] i x within is = absurd (omega (arith, within))
drop_more (y ∷ ys) zero x within is = ap (λ a. a ∷ ys) (sym is)
drop_more (y ∷ ys) (suc i) x within is =
    let n : suc i + 1 ≡ suc (i + 1) = omega arith in
    drop_more ys i x (omega (arith, within)) is ∙ ap (λ k. x ∷ drop k (y ∷ ys)) (sym n)

pub map_last : {A B : Type 0} (f : A → B) (xs : List A) (x : A) → map f (xs ++ x ∷ []) ≡ map f xs ++ f x ∷ []
map_last f [] x = refl
map_last f (y ∷ ys) x = ap (λ l. f y ∷ l) (map_last f ys x)

pub take_map : {A B : Type 0} (f : A → B) (n : ℕ) (xs : List A) → map f (take n xs) ≡ take n (map f xs)
take_map f zero xs = refl
take_map f (suc n) [] = refl
take_map f (suc n) (x ∷ xs) = ap (λ l. f x ∷ l) (take_map f n xs)

-- no more can be taken than there are
pub take_min : {A : Type 0} (xs : List A) (most : ℕ) → take (min (length xs) most) xs ≡ take most xs
take_min [] zero = refl
take_min {A} [] (suc most) =
    let n : min 0 (suc most) ≡ 0 = omega arith in
    let none : List A = [] in ap (λ k. take k none) n
take_min (x ∷ xs) zero = let n : min (length (x ∷ xs)) 0 ≡ 0 = omega arith in ap (λ k. take k (x ∷ xs)) n
take_min (x ∷ xs) (suc most) =
    let n : min (length (x ∷ xs)) (suc most) ≡ suc (min (length xs) most) = omega arith in
    ap (λ k. take k (x ∷ xs)) n ∙ ap (λ l. x ∷ l) (take_min xs most)

drop_map : {A B : Type 0} (f : A → B) (n : ℕ) (xs : List A) → map f (drop n xs) ≡ drop n (map f xs)
drop_map f zero xs = refl
drop_map f (suc n) [] = refl
drop_map f (suc n) (x ∷ xs) = drop_map f n xs

abbrev none_of : (A : Type 0) → List A
none_of A = []

take_none : (A : Type 0) (n : ℕ) → take n (none_of A) ≡ none_of A
take_none A zero = refl
take_none A (suc n) = refl

drop_none : (A : Type 0) (n : ℕ) → drop n (none_of A) ≡ none_of A
drop_none A zero = refl
drop_none A (suc n) = refl

-- the items from one index up to another one, both within the list
slice_within : {A : Type 0} (from to : ℕ) (xs : List A) (m n : ℕ) → m ≡ min to (length xs) → n ≡ min from m → take (m - n) (drop n xs) ≡ take (to - from) (drop from xs)
slice_within {A} from to [] m n last first =
    ap (take (m - n)) (drop_none A n) ∙ (take_none A (m - n) ∙ sym (ap (take (to - from)) (drop_none A from) ∙ take_none A (to - from)))
slice_within zero to (x ∷ xs) m n last first =
    let none : n ≡ 0 = omega (arith, first) in
    let length_is : m - n ≡ min (length (x ∷ xs)) to = omega (arith, last, none) in
    let all : to - 0 ≡ to = omega arith in
    ap (λ k. take (m - n) (drop k (x ∷ xs))) none
    ∙ (ap (λ k. take k (x ∷ xs)) length_is ∙ (take_min (x ∷ xs) to ∙ sym (ap (λ k. take k (x ∷ xs)) all)))
slice_within (suc from) zero (x ∷ xs) m n last first =
    let none : m - n ≡ 0 = omega (arith, last, first) in
    let no_more : 0 - suc from ≡ 0 = omega arith in
    ap (λ k. take k (drop n (x ∷ xs))) none ∙ sym (ap (λ k. take k (drop (suc from) (x ∷ xs))) no_more)
slice_within (suc from) (suc to) (x ∷ xs) m n last first =
    let one : m ≡ suc (min to (length xs)) = omega (arith, last) in
    let two : n ≡ suc (min from (min to (length xs))) = omega (arith, first, one) in
    let less : m - n ≡ min to (length xs) - min from (min to (length xs)) = omega (arith, one, two) in
    let same : suc to - suc from ≡ to - from = omega arith in
    ap (λ k. take (m - n) (drop k (x ∷ xs))) two
    ∙ (ap (λ k. take k (drop (min from (min to (length xs))) xs)) less
    ∙ (slice_within from to xs (min to (length xs)) (min from (min to (length xs))) refl refl
    ∙ sym (ap (λ k. take k (drop from xs)) same)))

pub slice_map : {A B : Type 0} (f : A → B) (from to : ℕ) (xs : List A) (m n : ℕ) → m ≡ min to (length xs) → n ≡ min from m →
    map f (take (m - n) (drop n xs)) ≡ take (to - from) (drop from (map f xs))
slice_map f from to xs m n last first =
    ap (map f) (slice_within from to xs m n last first) ∙ (take_map f (to - from) (drop from xs) ∙ ap (take (to - from)) (drop_map f from xs))

pub length_last : {A : Type 0} (xs : List A) (x : A) → length (xs ++ x ∷ []) ≡ length xs + 1
length_last [] x = omega arith
length_last (y ∷ xs) x = omega (arith, length_last xs x)
