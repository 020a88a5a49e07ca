-- Parts of lists, and the lines of a text, one byte after another.
use Rattle.std.proofs.Common.{◌≡◌, ◌≢◌, ℕ, zero, suc, ◌+◌, ◌-◌, ◌≤◌, ◌<◌, ◌==◌, Bool, true, false, if◌then◌else◌, List, [], ◌∷◌, ◌++◌, length, get_or, take, drop, refl, sym, ◌∙◌, ap, arith, append_assoc, append-nil}
use Rattle.std.proofs.lemmas.Bool.Decides.{nat_tests}
use Rattle.std.proofs.lemmas.Grind.{common_steps}
use Rattle.std.proofs.lemmas.List.{at_drop_all, at_drop_more, drop-drop, drop_more, length-drop, map-append, take_all, take_rest}
use Rattle.std.specs.Borrow.{Bor}
use Rattle.isle_tidy_diff.specs.Edits.{lines, lines_behind, part, texts_of}

module _ {A : Type 0} where
  take_join : (a b : ℕ) (xs : List A) → take a xs ++ take b (drop a xs) ≡ take (a + b) xs
  take_join zero b xs = let z : 0 + b ≡ b = omega arith in rw z refl
  take_join (suc a) b [] = grind (arith, common_steps)
  take_join (suc a) b (x ∷ xs) = let z : suc a + b ≡ suc (a + b) = omega arith in rw z (ap (λ l. x ∷ l) (take_join a b xs))

  part_one : (xs : List A) (at : ℕ) (d : A) → at < length xs → take 1 (drop at xs) ≡ get_or xs at d ∷ []
  part_one xs at d l = ap (take 1) (drop_more xs at d l)

  -- one element more
  pub part_more : (xs : List A) (begin at : ℕ) (d : A) → begin ≤ at → at < length xs → part xs begin (at + 1) ≡ part xs begin at ++ get_or xs at d ∷ []
  part_more xs begin at d h l =
      let n : (at - begin) + 1 ≡ (at + 1) - begin = omega arith in
      let m : begin + (at - begin) ≡ at = omega arith in
      sym (take_join (at - begin) 1 (drop begin xs) ∙ ap (λ k. take k (drop begin xs)) n)
      ∙ ap (λ ys. part xs begin at ++ take 1 ys) (drop-drop (at - begin) begin xs ∙ ap (λ k. drop k xs) m)
      ∙ ap (λ ys. part xs begin at ++ ys) (part_one xs at d l)

  pub part_none : (xs : List A) (at : ℕ) → part xs at at ≡ []
  part_none xs at = let z : at - at ≡ 0 = omega arith in rw z refl

  -- the elements in front of a place, and those behind it up to another
  pub front_part : (xs : List A) (from to : ℕ) → from ≤ to → take from xs ++ part xs from to ≡ take to xs
  front_part xs from to h = let n : from + (to - from) ≡ to = omega arith in take_join from (to - from) xs ∙ ap (λ k. take k xs) n

-- What is found of the lines of a text when its first bytes are read: these lines, and the next one begins here.
pub record AreRead (text : List ℕ) (made : List (List ℕ)) (begin at : ℕ) : Type 0 where
  pub order : begin ≤ at
  pub is : made ++ lines_behind (part text begin at) (drop at text) ≡ lines text

-- where nothing is read
pub read-none : (text : List ℕ) → AreRead text [] 0 0
read-none text = record { order = omega arith; is = refl }

behind-more : (begun cs : List ℕ) (c : ℕ) (v : Bool) → (c == 10) ≡ v → lines_behind begun (c ∷ cs) ≡ (if v then (begun ++ c ∷ []) ∷ lines_behind [] cs else lines_behind (begun ++ c ∷ []) cs)
unfolding lines_behind
behind-more [] cs c v h = ap (λ b. if b then ([] ++ c ∷ []) ∷ lines_behind [] cs else lines_behind ([] ++ c ∷ []) cs) h
behind-more (b ∷ bs) cs c v h = ap (λ t. if t then ((b ∷ bs) ++ c ∷ []) ∷ lines_behind [] cs else lines_behind ((b ∷ bs) ++ c ∷ []) cs) h

-- a byte that is no LF is read
pub read-on : (text : List ℕ) (made : List (List ℕ)) (begin at : ℕ) → at < length text → get_or text at 0 ≢ 10 → AreRead text made begin at → AreRead text made begin (at + 1)
read-on text made begin at l other read =
    let no : (get_or text at 0 == 10) ≡ false = grind (arith, nat_tests) in
    record {
      order = omega (arith, read.order);
      is = ap (λ b. made ++ lines_behind b (drop (at + 1) text)) (part_more text begin at 0 read.order l)
          ∙ ap (λ ls. made ++ ls) (sym (behind-more (part text begin at) (drop (at + 1) text) (get_or text at 0) false no) ∙ sym (at_drop_more (lines_behind (part text begin at)) text at 0 l))
          ∙ read.is;
    }

-- a LF is read
pub read-line : (text : List ℕ) (made : List (List ℕ)) (begin at : ℕ) → at < length text → get_or text at 0 ≡ 10 → AreRead text made begin at
    → AreRead text (made ++ part text begin (at + 1) ∷ []) (at + 1) (at + 1)
read-line text made begin at l is_lf read =
    let yes : (get_or text at 0 == 10) ≡ true = rw is_lf refl in
    record {
      order = omega arith;
      is = append_assoc made (part text begin (at + 1) ∷ []) (lines_behind (part text (at + 1) (at + 1)) (drop (at + 1) text))
          ∙ ap (λ b. made ++ part text begin (at + 1) ∷ lines_behind b (drop (at + 1) text)) (part_none text (at + 1))
          ∙ ap (λ b. made ++ b ∷ lines_behind [] (drop (at + 1) text)) (part_more text begin at 0 read.order l)
          ∙ ap (λ ls. made ++ ls) (sym (behind-more (part text begin at) (drop (at + 1) text) (get_or text at 0) true yes) ∙ sym (at_drop_more (lines_behind (part text begin at)) text at 0 l))
          ∙ read.is;
    }

-- the text is read
pub read-all : (text : List ℕ) (made : List (List ℕ)) (begin at : ℕ) → length text ≤ at → AreRead text made begin at → made ++ lines_behind (drop begin text) [] ≡ lines text
read-all text made begin at l read =
    let z : drop at text ≡ [] = grind (arith, common_steps) in
    let n : length (drop begin text) ≤ at - begin = omega (arith, length-drop begin text, read.order, l) in
    ap (λ b. made ++ lines_behind b []) (sym (take_all (at - begin) (drop begin text) n))
    ∙ ap (λ r. made ++ lines_behind (part text begin at) r) (sym z)
    ∙ read.is

-- the last line has no LF, or there is none such
pub last-some : (b : ℕ) (bs : List ℕ) → lines_behind (b ∷ bs) [] ≡ (b ∷ bs) ∷ []
unfolding lines_behind
last-some b bs = refl

pub read-last : (text : List ℕ) (made : List (List ℕ)) (begin at : ℕ) → length text ≤ at → begin < length text → AreRead text made begin at → made ++ drop begin text ∷ [] ≡ lines text
read-last text made begin at l some read =
    ap (λ ls. made ++ ls) (at_drop_more (λ b. b ∷ []) text begin 0 some ∙ sym (last-some (get_or text begin 0) (drop (begin + 1) text)) ∙ sym (at_drop_more (λ b. lines_behind b []) text begin 0 some))
    ∙ read-all text made begin at l read

none-behind : lines_behind [] [] ≡ []
unfolding lines_behind
none-behind = refl

pub read-none-left : (text : List ℕ) (made : List (List ℕ)) (begin at : ℕ) → length text ≤ at → length text ≤ begin → AreRead text made begin at → made ≡ lines text
read-none-left text made begin at l past read =
    sym (ap (λ ls. made ++ ls) (at_drop_all (λ b. lines_behind b []) text begin past ∙ none-behind) ∙ append-nil made) ∙ read-all text made begin at l read

-- the same of the slices that are made
made-more : (ts us : List (Bor (List ℕ))) (t : Bor (List ℕ)) → us ≡ ts ++ t ∷ [] → texts_of us ≡ texts_of ts ++ t.now ∷ []
made-more ts us t is = ap texts_of is ∙ map-append (λ (x : Bor (List ℕ)). x.now) ts (t ∷ [])

pub read-pushed-line : (text : List ℕ) (ts us : List (Bor (List ℕ))) (t : Bor (List ℕ)) (begin at : ℕ) → at < length text → get_or text at 0 ≡ 10 → AreRead text (texts_of ts) begin at
    → t.now ≡ part text begin (at + 1) → us ≡ ts ++ t ∷ [] → AreRead text (texts_of us) (at + 1) (at + 1)
read-pushed-line text ts us t begin at l is_lf read line pushed =
    rw (made-more ts us t pushed ∙ ap (λ x. texts_of ts ++ x ∷ []) line) (read-line text (texts_of ts) begin at l is_lf read)

pub read-pushed-last : (text : List ℕ) (ts us : List (Bor (List ℕ))) (t : Bor (List ℕ)) (begin at : ℕ) → length text ≤ at → begin < length text → AreRead text (texts_of ts) begin at
    → t.now ≡ take (length text - begin) (drop begin text) → us ≡ ts ++ t ∷ [] → texts_of us ≡ lines text
read-pushed-last text ts us t begin at l some read line pushed =
    made-more ts us t pushed ∙ ap (λ x. texts_of ts ++ x ∷ []) (line ∙ take_rest text begin) ∙ read-last text (texts_of ts) begin at l some read
