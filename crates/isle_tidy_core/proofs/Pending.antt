-- What is pending of a text, and put later.
use Rattle.std.proofs.Common.{◌≡◌, ℕ, ◌+◌, ◌-◌, ◌<◌, ◌≤◌, List, [], ◌∷◌, ◌++◌, Bool, true, false, not, ◌||◌, drop, take, get_or, length, IsUtf8, Result, Ok, Err, OnOk, IfOk, refl, sym, ap, ◌∙◌, subst, eqb, arith, append_assoc, append-nil}
use Rattle.std.proofs.lemmas.List.{append_cancel_right, drop-drop, take_all}
use lib.Seq.{take-add}
use Rattle.isle_tidy_core.specs.Finds.{Stands, part}
use Rattle.isle_tidy_core.specs.Grammar.{Spells}
use Rattle.isle_tidy_core.specs.Pending.{IsPending, Puts}
use Rattle.isle_tidy_core.specs.declared.output.PendingRange.{PendingRange}
use Rattle.isle_tidy_core.proofs.Standing.{split_at}
use Rattle.isle_tidy_layout.specs.Entries.{Lexeme, opening, closing, at_sign, atom, line_comment, block_comment}
use Rattle.isle_tidy_layout.specs.EntriesView.{lexeme_of}
use Rattle.isle_tidy_layout.specs.declared.entries.Lexeme.{Lexeme as Text}
use Rattle.isle_tidy_layout.specs.Placing.{tidied, trimmed}
use Rattle.isle_tidy_layout.specs.Writing.{spelling}
use Rattle.isle_tidy_layout.proofs.Trims.{trimmed_here}

pub part_joined : (text : List ℕ) (from mid to : ℕ) → from ≤ mid → mid ≤ to → part text from to ≡ part text from mid ++ part text mid to
part_joined text from mid to h k =
    let sum : to - from ≡ (mid - from) + (to - mid) = omega arith in
    let back : from + (mid - from) ≡ mid = omega arith in
    let behind : drop (mid - from) (drop from text) ≡ drop mid text = drop-drop (mid - from) from text ∙ ap (λ n. drop n text) back in
    ap (λ n. take n (drop from text)) sum ∙ take-add (mid - from) (to - mid) (drop from text) ∙ ap (λ xs. part text from mid ++ take (to - mid) xs) behind

pub part_none : (text : List ℕ) (at : ℕ) → part text at at ≡ []
part_none text at = let none : at - at ≡ 0 = omega arith in ap (λ n. take n (drop at text)) none

pub spells_split : (x : Lexeme) (text rest : List ℕ) → Spells x text rest → text ≡ spelling x ++ rest
spells_split opening text rest s = s.0
spells_split closing text rest s = s
spells_split at_sign text rest s = s
spells_split (atom bytes) text rest s = s.3
spells_split (line_comment bytes) text rest s = s.1 ∙ ap (λ xs. 59 ∷ xs) s.2.split
spells_split (block_comment bytes) text rest s = s.1 ∙ ap (λ xs. 40 ∷ 59 ∷ xs) s.2

pub stands_part : (text : List ℕ) (x : Lexeme) (from to : ℕ) → Stands text x from to → part text from to ≡ spelling x
stands_part text x from to s =
    append_cancel_right (part text from to) (spelling x) (drop to text) (sym (split_at text from to (omega (arith, s.1))) ∙ spells_split x (drop from text) (drop to text) s.0)

-- nothing is put, and more is pending
pub puts_nothing : (text : List ℕ) (pending : PendingRange) (to : ℕ) (before more : List ℕ) → IsPending text pending → pending.to ≤ to → part text pending.to to ≡ more → Puts text pending pending.from to before before more
puts_nothing text pending to before more are h e = record {
  put = [];
  appended = sym (append-nil before);
  same = part_joined text pending.from pending.to to are.order h ∙ ap (λ xs. part text pending.from pending.to ++ xs) e;
  order = omega (arith, are.order);
  first = are.first;
}

-- all is put, and nothing is pending
pub puts_all : (text : List ℕ) (pending : PendingRange) (to : ℕ) (before mid after more : List ℕ) → mid ≡ before ++ part text pending.from pending.to → after ≡ mid ++ more → IsUtf8 (drop to text) → Puts text pending to to before after more
puts_all text pending to before mid after more e f utf8 =
    let all = part text pending.from pending.to ++ more in
    record {
      put = all;
      appended = f ∙ ap (λ xs. xs ++ more) e ∙ append_assoc before (part text pending.from pending.to) more;
      same = ap (λ xs. all ++ xs) (part_none text to) ∙ append-nil all;
      order = omega arith;
      first = utf8;
    }

-- all that was pending, and then more
pub puts_all_then : {E : Type 0} (result : Result (Unit {0}) E) (text : List ℕ) (pending : PendingRange) (to : ℕ) (before mid after more : List ℕ) → Puts text pending pending.to pending.to before mid [] → IsUtf8 (drop to text) → OnOk result (after ≡ mid ++ more) → OnOk result (Puts text pending to to before after more)
puts_all_then (Err e) text pending to before mid after more p utf8 f = tt
puts_all_then (Ok x) text pending to before mid after more p utf8 f =
    let all = part text pending.from pending.to in
    let is : p.put ≡ all = sym (append-nil p.put) ∙ sym (ap (λ xs. p.put ++ xs) (part_none text pending.to)) ∙ p.same ∙ append-nil all in
    puts_all text pending to before mid after more (p.appended ∙ ap (λ xs. before ++ xs) is) f utf8

-- one after another
pub puts_further : (text : List ℕ) (pending : PendingRange) (from to next end : ℕ) (before mid after more further : List ℕ) → Puts text pending from to before mid more
    → Puts text (record { from = from; to = to }) next end mid after further → Puts text pending next end before after (more ++ further)
puts_further text pending from to next end before mid after more further p q =
    let all : (p.put ++ q.put) ++ part text next end ≡ part text pending.from pending.to ++ (more ++ further) =
    append_assoc p.put q.put (part text next end) ∙ ap (λ xs. p.put ++ xs) q.same
    ∙ sym (append_assoc p.put (part text from to) further) ∙ ap (λ xs. xs ++ further) p.same
    ∙ append_assoc (part text pending.from pending.to) more further in
    record {
      put = p.put ++ q.put;
      appended = q.appended ∙ ap (λ xs. xs ++ q.put) p.appended ∙ append_assoc before p.put q.put;
      same = all;
      order = q.order;
      first = q.first;
    }

pub puts_three : {E : Type 0} (result : Result ℕ E) (text : List ℕ) (pending : PendingRange) (from start next end : ℕ) (before one two after gap word : List ℕ) → Puts text pending from start before one gap
    → Puts text (record { from = from; to = start }) next end one two word → IfOk result (λ now. Puts text (record { from = next; to = end }) now end two after [])
    → IfOk result (λ now. Puts text pending now end before after (gap ++ word))
puts_three (Err e) text pending from start next end before one two after gap word p q r = tt
puts_three (Ok now) text pending from start next end before one two after gap word p q r =
    let both = puts_further text pending from start next end before one two gap word p q in
    subst (Puts text pending now end before after) (append-nil (gap ++ word)) (puts_further text pending next end now end before two after (gap ++ word) [] both r)

pub are_kept_now : (text : List ℕ) (pending : PendingRange) (from to : ℕ) (before after more : List ℕ) → Puts text pending from to before after more → to ≤ length text → IsUtf8 (drop to text) → IsPending text (record { from = from; to = to })
are_kept_now text pending from to before after more p within utf8 = record { order = p.order; within = within; first = p.first; last = utf8 }

not_true : (b : Bool) → not b ≡ true → b ≡ false
not_true true h = cc
not_true false h = refl

some_bytes : (bytes : List ℕ) → false ≡ eqb (length bytes) 0 → 0 < length bytes
some_bytes [] h = cc
some_bytes (b ∷ bs) h = omega arith

-- a line comment whose last byte is no blank
pub tidy_comment : (x : Text) (text bytes : List ℕ) (other : Bool) → lexeme_of x ≡ line_comment text → bytes ≡ text → false ≡ eqb (length bytes) 0 → other ≡ (eqb (get_or bytes (length bytes - 1) 0) 32 || eqb (get_or bytes (length bytes - 1) 0) 9) → not other ≡ true → tidied (lexeme_of x) ≡ lexeme_of x
tidy_comment x text bytes other is same some e blank =
    let test = eqb (get_or bytes (length bytes - 1) 0) 32 || eqb (get_or bytes (length bytes - 1) 0) 9 in
    let differs : test ≡ false = sym e ∙ not_true other blank in
    let trim = trimmed_here bytes (length bytes) (some_bytes bytes some) (omega arith) differs in
    let all : take (length bytes) bytes ≡ bytes = take_all (length bytes) bytes (omega arith) in
    let whole : trimmed text ≡ text = subst (λ xs. trimmed xs ≡ xs) (all ∙ same) trim in
    ap tidied is ∙ ap line_comment whole ∙ sym is
