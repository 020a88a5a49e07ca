-- How many edits are before a token.
use Rattle.std.proofs.Common.{◌≡◌, ℕ, ◌+◌, ◌-◌, ◌<◌, ◌≤◌, List, [], ◌∷◌, Bool, true, false, cond, ◌&&◌, ◌==◌, nat_lt, refl, ap, ◌∙◌, length, filter, map, arith}
use Rattle.std.proofs.lemmas.Bool.{le-ltb, lt-ltb}
use Rattle.isle_base.specs.Lexing.{Lexes}
use Rattle.isle_base.specs.Token.{Lexeme, end}
use Rattle.isle_base.proofs.Complete.{Skip-le, Spelling-shorter}
use Rattle.isle_base_source.specs.declared.pos.Pos.{Pos}
use Rattle.isle_index_laws.proofs.Marks.{one_if}
use Rattle.isle_index_laws.specs.edits.EditedTexts.{edits_before}
use Rattle.isle_index_laws.proofs.edits.Lexed.{changed, later, marked_offsets, shifted}
use Rattle.isle_index_laws.proofs.edits.Rising.{offsets_of}

-- how many of some numbers are below this one
abbrev pub below : ℕ → List ℕ → ℕ
below n [] = 0
below n (o ∷ os) = one_if (nat_lt o n) + below n os

-- positions before an offset

before_by : (n : ℕ) (p : Pos) (ps qs : List Pos) (b : Bool) → length ps ≡ below n (map (λ q. q.offset) qs) → length (cond b (p ∷ ps) ps) ≡ one_if b + below n (map (λ q. q.offset) qs)
before_by n p ps qs true is = omega arith
before_by n p ps qs false is = omega arith

before_in : (file n : ℕ) (p : Pos) (ps : List Pos) (b : Bool) → length (filter (λ q. (file == q.file) && nat_lt q.offset n) ps) ≡ below n (map (λ q. q.offset) (filter (λ q. file == q.file) ps)) →
    length (cond (b && nat_lt p.offset n) (p ∷ filter (λ q. (file == q.file) && nat_lt q.offset n) ps) (filter (λ q. (file == q.file) && nat_lt q.offset n) ps))
    ≡ below n (map (λ q. q.offset) (cond b (p ∷ filter (λ q. file == q.file) ps) (filter (λ q. file == q.file) ps)))
before_in file n p ps true is =
    before_by n p (filter (λ q. (file == q.file) && nat_lt q.offset n) ps) (filter (λ q. file == q.file) ps) (nat_lt p.offset n) is
before_in file n p ps false is = is

pub edits_below : (file n : ℕ) (ps : List Pos) → edits_before file ps n ≡ below n (offsets_of file ps)
edits_below file n [] = refl
edits_below file n (p ∷ ps) = before_in file n p ps (file == p.file) (edits_below file n ps)

-- tokens that are marked, before an offset

module _ (mark : ℕ → Bool) where
  one_below : (n : ℕ) (x : Lexeme) (xs : List Lexeme) (m : Bool) → x.offset < n → below n (cond m (x.offset ∷ marked_offsets mark xs) (marked_offsets mark xs)) ≡ one_if m + below n (marked_offsets mark xs)
  one_below n x xs true less = ap (λ b. one_if b + below n (marked_offsets mark xs)) (lt-ltb x.offset n (omega arith))
  one_below n x xs false less = omega arith

  none_here : (n : ℕ) (x : Lexeme) (xs : List Lexeme) (m : Bool) → n ≤ x.offset → below n (marked_offsets mark xs) ≡ 0 → below n (cond m (x.offset ∷ marked_offsets mark xs) (marked_offsets mark xs)) ≡ 0
  none_here n x xs true past none =
      let no : one_if (nat_lt x.offset n) ≡ 0 = ap one_if (le-ltb x.offset n (omega arith)) in
      omega arith
  none_here n x xs false past none = none

  none_below : (n size : ℕ) (text : List ℕ) (xs : List Lexeme) → Lexes size text xs end → length text ≤ size → n ≤ size - length text → below n (marked_offsets mark xs) ≡ 0
  none_below n size text [] l fits past = refl
  none_below n size text (x ∷ xs) l fits past =
      let skip = Skip-le l.2 in
      let shorter = Spelling-shorter l.0 x.token l.1 l.3 in
      let place : x.offset ≡ size - length l.0 = l.4 in
      none_here n x xs (mark x.offset) (omega arith) (none_below n size l.1 xs l.6 (omega arith) (omega arith))

  -- the tokens after the edits, by how many edits are before each offset
  module _ (T : List ℕ) (lead : ℕ → List ℕ) (old new : List ℕ) where
    abbrev counted : (ℕ → ℕ) → Lexeme → Lexeme
    counted total x =
        record { offset = shifted T mark lead old new (total x.offset) x.offset; token = changed T mark lead old new x; after = shifted T mark lead old new (total x.after) x.after }

    pub later_is : (total : ℕ → ℕ) (size : ℕ) (text : List ℕ) (xs : List Lexeme) (k : ℕ) → Lexes size text xs end → length text ≤ size →
        ((n : ℕ) → size - length text ≤ n → total n ≡ k + below n (marked_offsets mark xs)) → later T mark lead old new k xs ≡ map (counted total) xs
    later_is total size text [] k l fits is = refl
    later_is total size text (x ∷ xs) k l fits is =
        let skip = Skip-le l.2 in
        let shorter = Spelling-shorter l.0 x.token l.1 l.3 in
        let place : x.offset ≡ size - length l.0 = l.4 in
        let end_place : x.after ≡ size - length l.1 = l.5 in
        let m1 : ℕ = one_if (mark x.offset) in
        let first = is x.offset (omega arith) in
        let none = none_here x.offset x xs (mark x.offset) (omega arith) (none_below x.offset size l.1 xs l.6 (omega arith) (omega arith)) in
        let here : k ≡ total x.offset = omega arith in
        let last = is x.after (omega arith) in
        let one = one_below x.after x xs (mark x.offset) (omega arith) in
        let rest = none_below x.after size l.1 xs l.6 (omega arith) (omega arith) in
        let there : k + m1 ≡ total x.after = omega arith in
        let more = later_is total size l.1 xs (k + m1) l.6 (omega arith)
        (λ n past. let all = is n (omega arith) in let some = one_below n x xs (mark x.offset) (omega arith) in omega arith) in
        ap (λ j. record { offset = shifted T mark lead old new j x.offset; token = changed T mark lead old new x; after = shifted T mark lead old new (k + m1) x.after } ∷ later T mark lead old new (k + m1) xs) here
        ∙ ap (λ j. record { offset = shifted T mark lead old new (total x.offset) x.offset; token = changed T mark lead old new x; after = shifted T mark lead old new j x.after } ∷ later T mark lead old new (k + m1) xs) there
        ∙ ap (λ ys. counted total x ∷ ys) more
