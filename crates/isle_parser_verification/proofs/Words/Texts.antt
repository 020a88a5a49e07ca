-- How texts are parted: after a mark, before the last byte, around the first byte of a kind.
use Rattle.std.proofs.Common.{◌≡◌, ◌≢◌, ℕ, suc, ◌<◌, eqb, Bool, true, false, not, cond, List, [], ◌∷◌, ◌++◌, length, get_or, Option, Some, None, MatchOption, Bor, refl, sym, ap, subst, ◌∙◌, ◌⊎◌, inl, inr, arith}
use Rattle.std.specs.Prelude.{option_map}
use Rattle.std.specs.List.{list_all}
use Rattle.std.specs.Option.{option_or}
use Rattle.std.proofs.lemmas.Bool.{and_parts, eqb-true, eq-eqb, ne_eqb, not-true}
use Rattle.isle_parser_verification.specs.SpecWords.{split_at_mark, before_last, behind_mark}

pub same_byte : (b : ℕ) → eqb b b ≡ true
same_byte b = eq-eqb b b refl

pub some_is : {A : Type 0} (x y : A) → Some x ≡ Some y → x ≡ y
some_is x y e = cc

-- which of the two gave it
pub or_is : {A : Type 0} (a b : Option A) (x : A) → option_or a b ≡ Some x → (a ≡ Some x) ⊎ ((a ≡ None) × (b ≡ Some x))
or_is None b x e = inr (refl, e)
or_is (Some y) b x e = inl e

-- what holds of the answer, where there is one
pub mapped_some : {A B : Type 0} (f : A → B) (o : Option A) (z : B) → option_map f o ≡ Some z → (y : A) × (o ≡ Some y) × (f y ≡ z)
mapped_some f None z e = absurd cc
mapped_some f (Some y) z e = (y, refl, cc)

pub mapped_none : {A B : Type 0} (f : A → B) (o : Option A) → option_map f o ≡ None → o ≡ None
mapped_none f None e = refl
mapped_none f (Some y) e = absurd cc

pub none_unless : {A : Type 0} (o : Option A) → ((x : A) → o ≡ Some x → ⊥) → o ≡ None
none_unless None h = refl
none_unless (Some x) h = absurd (h x refl)

-- ---- the last byte

pub before_last_made : (byte : ℕ) (front : List ℕ) → before_last byte (front ++ byte ∷ []) ≡ Some front
before_last_made byte [] = rw (same_byte byte) refl
before_last_made byte (x ∷ []) = rw (same_byte byte) refl
before_last_made byte (x ∷ y ∷ front) = ap (option_map (λ (f : List ℕ). x ∷ f)) (before_last_made byte (y ∷ front))

one_byte : (byte x : ℕ) (front : List ℕ) (t : Bool) → eqb x byte ≡ t → cond t (Some []) None ≡ Some front → x ∷ [] ≡ front ++ byte ∷ []
one_byte byte x front true t e =
    let nothing : [] ≡ front = cc in
    subst (λ (f : List ℕ). x ∷ [] ≡ f ++ byte ∷ []) nothing (ap (λ (n : ℕ). n ∷ []) (eqb-true x byte t))
one_byte byte x front false t e = absurd cc

pub before_last_is : (byte : ℕ) (text front : List ℕ) → before_last byte text ≡ Some front → text ≡ front ++ byte ∷ []
before_last_is byte [] front e = absurd cc
before_last_is byte (x ∷ []) front e = one_byte byte x front (eqb x byte) refl e
before_last_is byte (x ∷ y ∷ text) front e =
    let m = mapped_some (λ (f : List ℕ). x ∷ f) (before_last byte (y ∷ text)) front e in
    subst (λ (f : List ℕ). x ∷ y ∷ text ≡ f ++ byte ∷ []) m.2 (ap (λ (t : List ℕ). x ∷ t) (before_last_is byte (y ∷ text) m.0 m.1))

-- another byte is the last one
pub before_last_other : (byte b : ℕ) (front : List ℕ) → eqb b byte ≡ false → before_last byte (front ++ b ∷ []) ≡ None
before_last_other byte b [] e = rw e refl
before_last_other byte b (x ∷ []) e = rw e refl
before_last_other byte b (x ∷ y ∷ front) e = ap (option_map (λ (f : List ℕ). x ∷ f)) (before_last_other byte b (y ∷ front) e)

-- what is before a text leaves its last byte
pub before_last_behind : (byte : ℕ) (front : List ℕ) (y : ℕ) (text : List ℕ) → before_last byte (y ∷ text) ≡ None → before_last byte (front ++ y ∷ text) ≡ None
before_last_behind byte [] y text e = e
before_last_behind byte (x ∷ []) y text e = ap (option_map (λ (f : List ℕ). x ∷ f)) e
before_last_behind byte (x ∷ z ∷ front) y text e = ap (option_map (λ (f : List ℕ). x ∷ f)) (before_last_behind byte (z ∷ front) y text e)

-- what `strip_suffix` gives
pub stripped_last : (byte : ℕ) (text : List ℕ) (r : Option (Bor (List ℕ))) → MatchOption r ((front : List ℕ) → text ≢ front ++ (byte ∷ [])) (λ x. text ≡ x.now ++ (byte ∷ []))
    → option_map (λ (x : Bor (List ℕ)). x.now) r ≡ before_last byte text
stripped_last byte text None h = sym (none_unless (before_last byte text) (λ front e. h front (before_last_is byte text front e)))
stripped_last byte text (Some x) h = sym (subst (λ (t : List ℕ). before_last byte t ≡ Some x.now) (sym h) (before_last_made byte x.now))

-- ---- a mark in front

pub behind_made : (mark rest : List ℕ) → behind_mark mark (mark ++ rest) ≡ Some rest
behind_made [] rest = refl
behind_made (m ∷ mark) rest = rw (same_byte m) (behind_made mark rest)

behind_first : (mark : List ℕ) (m x : ℕ) (text rest : List ℕ) (t : Bool) → eqb x m ≡ t → (behind_mark mark text ≡ Some rest → text ≡ mark ++ rest) → cond t (behind_mark mark text) None ≡ Some rest → x ∷ text ≡ m ∷ (mark ++ rest)
behind_first mark m x text rest true t h e = ap (λ (n : ℕ). n ∷ text) (eqb-true x m t) ∙ ap (λ (u : List ℕ). m ∷ u) (h e)
behind_first mark m x text rest false t h e = absurd cc

pub behind_is : (mark text rest : List ℕ) → behind_mark mark text ≡ Some rest → text ≡ mark ++ rest
behind_is [] text rest e = cc
behind_is (m ∷ mark) [] rest e = absurd cc
behind_is (m ∷ mark) (x ∷ text) rest e = behind_first mark m x text rest (eqb x m) refl (behind_is mark text rest) e

-- what `strip_prefix` gives
pub stripped_first : (byte : ℕ) (text : List ℕ) (r : Option (Bor (List ℕ))) → MatchOption r ((rest : List ℕ) → text ≢ byte ∷ rest) (λ x. text ≡ byte ∷ x.now) → option_map (λ (x : Bor (List ℕ)). x.now) r ≡ behind_mark (byte ∷ []) text
stripped_first byte text None h = sym (none_unless (behind_mark (byte ∷ []) text) (λ rest e. h rest (behind_is (byte ∷ []) text rest e)))
stripped_first byte text (Some x) h = sym (subst (λ (t : List ℕ). behind_mark (byte ∷ []) t ≡ Some x.now) (sym h) (behind_made (byte ∷ []) x.now))

-- ---- the first byte of a kind

abbrev pub is_other : ℕ → ℕ → Bool
is_other byte b = not (eqb b byte)

pub around_made : (byte : ℕ) (front rest : List ℕ) → list_all (is_other byte) front ≡ true → split_at_mark byte (front ++ byte ∷ rest) ≡ Some (front, rest)
around_made byte [] rest e = rw (same_byte byte) refl
around_made byte (x ∷ front) rest e =
    let p = and_parts (is_other byte x) (list_all (is_other byte) front) e in
    let other : eqb x byte ≡ false = not-true (eqb x byte) p.0 in
    rw (other, around_made byte front rest p.1) refl

abbrev IsAround : ℕ → List ℕ → List ℕ × List ℕ → Type 0
IsAround byte text parts = (text ≡ parts.0 ++ byte ∷ parts.1) × (list_all (is_other byte) parts.0 ≡ true)

abbrev with_first : ℕ → List ℕ × List ℕ → List ℕ × List ℕ
with_first x parts = (x ∷ parts.0, parts.1)

around_first : (byte x : ℕ) (text : List ℕ) (parts : List ℕ × List ℕ) (t : Bool) → eqb x byte ≡ t → ((p : List ℕ × List ℕ) → split_at_mark byte text ≡ Some p → IsAround byte text p)
    → cond t (Some ([], text)) (option_map (with_first x) (split_at_mark byte text)) ≡ Some parts → IsAround byte (x ∷ text) parts
around_first byte x text parts true t h e =
    let is : ([], text) ≡ parts = cc in
    subst (λ (p : List ℕ × List ℕ). IsAround byte (x ∷ text) p) is (ap (λ (n : ℕ). n ∷ text) (eqb-true x byte t), refl)
around_first byte x text parts false t h e =
    let m = mapped_some (with_first x) (split_at_mark byte text) parts e in
    let i = h m.0 m.1 in
    subst (λ (p : List ℕ × List ℕ). IsAround byte (x ∷ text) p) m.2 (ap (λ (u : List ℕ). x ∷ u) i.0, rw (t, i.1) refl)

pub around_is : (byte : ℕ) (text : List ℕ) (parts : List ℕ × List ℕ) → split_at_mark byte text ≡ Some parts → IsAround byte text parts
around_is byte [] parts e = absurd cc
around_is byte (x ∷ text) parts e = around_first byte x text parts (eqb x byte) refl (around_is byte text) e

each_other : (byte : ℕ) (front : List ℕ) → ((i : ℕ) → i < length front → get_or front i 0 ≢ byte) → list_all (is_other byte) front ≡ true
each_other byte [] h = refl
each_other byte (x ∷ front) h =
    let other : eqb x byte ≡ false = ne_eqb x byte (h 0 (omega arith)) in
    rw (other, each_other byte front (λ i l. h (suc i) (omega (arith, l)))) refl

-- no such byte is there
around_none : (byte : ℕ) (text : List ℕ) → ((i : ℕ) → i < length text → get_or text i 0 ≢ byte) → split_at_mark byte text ≡ None
around_none byte [] h = refl
around_none byte (x ∷ text) h =
    let other : eqb x byte ≡ false = ne_eqb x byte (h 0 (omega arith)) in
    rw (other, around_none byte text (λ i l. h (suc i) (omega (arith, l)))) refl

-- what `split_once` gives
pub split_around : (byte : ℕ) (text : List ℕ) (r : Option (Bor (List ℕ) × Bor (List ℕ)))
    → MatchOption r ((i : ℕ) → i < length text → get_or text i 0 ≢ byte) (λ x. (text ≡ x.0.now ++ (byte ∷ x.1.now)) × ((i : ℕ) → i < length x.0.now → get_or x.0.now i 0 ≢ byte))
    → option_map (λ (x : Bor (List ℕ) × Bor (List ℕ)). (x.0.now, x.1.now)) r ≡ split_at_mark byte text
split_around byte text None h = sym (around_none byte text h)
split_around byte text (Some x) h = sym (subst (λ (t : List ℕ). split_at_mark byte t ≡ Some (x.0.now, x.1.now)) (sym h.0) (around_made byte x.0.now x.1.now (each_other byte x.0.now h.1)))
