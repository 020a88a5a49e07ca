-- Where the lines of a text end.
use Rattle.std.proofs.Common.{◌≡◌, ⊎_elim, ℕ, ◌+◌, ◌-◌, ◌<◌, List, [], ◌∷◌, ◌++◌, true, false, ◌||◌, eqb, drop, take, length, get_or, IsUtf8, lit<, sym, ap, subst, ◌∙◌, arith, append_assoc}
use Rattle.std.proofs.lemmas.Bool.{cases_lt, eqb-true, not-false, or_cases}
use Rattle.std.proofs.lemmas.List.{append-nil, drop-drop, drop_all, drop_more}
use Rattle.std.proofs.lemmas.Str.{IsCharBoundary-before_ascii, IsUtf8-drop, IsUtf8-nil}
use Rattle.std.specs.List.{prefix_len}
use Rattle.isle_base.specs.Skips.{begins_with, in_line}
use Rattle.isle_tidy_core.specs.Ends.{is_feed, end_bytes, with_ends}
use Rattle.isle_tidy_core.specs.declared.ends.LineEnd.{LineEnd}
use Rattle.isle_tidy_core.proofs.LineEnds.{ends_alone, ends_feed, ends_run}
use Rattle.isle_tidy_core.proofs.Standing.{run_taken, tail_utf8}

feed_then : (text : List ℕ) → begins_with is_feed text ≡ true → text ≡ 10 ∷ drop 1 text
feed_then [] h = cc
feed_then (b ∷ bs) h = ap (λ c. c ∷ bs) (eqb-true b 10 h)

-- a CR and a LF are here
both_here : (text : List ℕ) (at : ℕ) → at < length text → get_or text at 0 ≡ 13 → begins_with is_feed (drop (at + 1) text) ≡ true → drop at text ≡ 13 ∷ 10 ∷ drop (at + 2) text
both_here text at short is feed =
    let count : at + 1 + 1 ≡ at + 2 = omega arith in
    drop_more text at 0 short ∙ ap (λ b. b ∷ drop (at + 1) text) is ∙ ap (λ xs. 13 ∷ xs) (feed_then (drop (at + 1) text) feed)
    ∙ ap (λ xs. 13 ∷ 10 ∷ xs) (drop-drop 1 (at + 1) text ∙ ap (λ n. drop n text) count)

pub after_both : (text : List ℕ) (at : ℕ) → at < length text → get_or text at 0 ≡ 13 → begins_with is_feed (drop (at + 1) text) ≡ true → (e : LineEnd) → with_ends e (drop at text) ≡ end_bytes e ++ with_ends e (drop (at + 2) text)
after_both text at short is feed e = ap (with_ends e) (both_here text at short is feed)

pub both_utf8 : (text : List ℕ) (at : ℕ) → at < length text → get_or text at 0 ≡ 13 → begins_with is_feed (drop (at + 1) text) ≡ true → IsUtf8 (drop at text) → IsUtf8 (drop (at + 2) text)
both_utf8 text at short is feed utf8 =
    tail_utf8 10 (drop (at + 2) text) (lit< tt) (tail_utf8 13 (10 ∷ drop (at + 2) text) (lit< tt) (subst IsUtf8 (both_here text at short is feed) utf8))

-- a LF or a CR
end_byte : (b : ℕ) → in_line b ≡ false → (eqb b 10 || eqb b 13) ≡ true
unfolding in_line
end_byte b h = not-false (eqb b 10 || eqb b 13) h

end_here : (text : List ℕ) (at : ℕ) → at < length text → begins_with in_line (drop at text) ≡ false → (eqb (get_or text at 0) 10 || eqb (get_or text at 0) 13) ≡ true
end_here text at short ends = end_byte (get_or text at 0) (sym (ap (begins_with in_line) (drop_more text at 0 short)) ∙ ends)

one_end : (e : LineEnd) (b : ℕ) (bs : List ℕ) → (eqb b 10 || eqb b 13) ≡ true → (b ≡ 13 → begins_with is_feed bs ≡ false) → with_ends e (b ∷ bs) ≡ end_bytes e ++ with_ends e bs
one_end e b bs h alone = ⊎_elim (λ is. ends_feed e b bs is) (λ is. ends_alone e b bs is (alone (eqb-true b 13 is))) (or_cases (eqb b 10) (eqb b 13) h)

pub after_one : (text : List ℕ) (at : ℕ) → at < length text → begins_with in_line (drop at text) ≡ false → (get_or text at 0 ≡ 13 → begins_with is_feed (drop (at + 1) text) ≡ false)
    → (e : LineEnd) → with_ends e (drop at text) ≡ end_bytes e ++ with_ends e (drop (at + 1) text)
after_one text at short ends alone e =
    ap (with_ends e) (drop_more text at 0 short) ∙ one_end e (get_or text at 0) (drop (at + 1) text) (end_here text at short ends) alone

end_ascii : (b : ℕ) → (eqb b 10 || eqb b 13) ≡ true → b < 128
end_ascii b h = ⊎_elim (λ is. let same = eqb-true b 10 is in omega arith) (λ is. let same = eqb-true b 13 is in omega arith) (or_cases (eqb b 10) (eqb b 13) h)

pub one_utf8 : (text : List ℕ) (at : ℕ) → at < length text → begins_with in_line (drop at text) ≡ false → IsUtf8 (drop at text) → IsUtf8 (drop (at + 1) text)
one_utf8 text at short ends utf8 =
    tail_utf8 (get_or text at 0) (drop (at + 1) text) (end_ascii (get_or text at 0) (end_here text at short ends)) (subst IsUtf8 (drop_more text at 0 short) utf8)

-- A line, from its start to its end.

-- the bytes of a line are put
pub line_put : (e : LineEnd) (text : List ℕ) (at stop : ℕ) → stop ≡ at + prefix_len in_line (drop at text) → with_ends e (drop at text) ≡ take (stop - at) (drop at text) ++ with_ends e (drop stop text)
line_put e text at stop h =
    let run = run_taken in_line text at stop h in
    ap (with_ends e) run.split ∙ ends_run e (take (stop - at) (drop at text)) (drop stop text) run.each

pub line_stops : (text : List ℕ) (at stop : ℕ) → stop ≡ at + prefix_len in_line (drop at text) → begins_with in_line (drop stop text) ≡ false
line_stops text at stop h = (run_taken in_line text at stop h).stops

pub line_utf8 : (text : List ℕ) (at stop : ℕ) → stop ≡ at + prefix_len in_line (drop at text) → IsUtf8 text → IsUtf8 (drop stop text)
line_utf8 text at stop h utf8 =
    ⊎_elim (λ short. IsUtf8-drop text stop utf8 (IsCharBoundary-before_ascii text stop short (end_ascii (get_or text stop 0) (end_here text stop short (line_stops text at stop h)))))
    (λ past. subst IsUtf8 (sym (drop_all stop text past)) IsUtf8-nil) (cases_lt stop (length text))

-- the last line is put, and then all are
pub last_line : (e : LineEnd) (text : List ℕ) (at stop : ℕ) (old out line new : List ℕ) → stop ≡ at + prefix_len in_line (drop at text) → stop ≡ length text → out ++ with_ends e (drop at text) ≡ old ++ with_ends e text
    → line ≡ take (stop - at) (drop at text) → new ≡ out ++ line → new ≡ old ++ with_ends e text
last_line e text at stop old out line new h whole so_far is put =
    let none : with_ends e (drop stop text) ≡ [] = ap (with_ends e) (drop_all stop text (omega arith)) in
    let rest : with_ends e (drop at text) ≡ line = line_put e text at stop h ∙ ap (λ xs. take (stop - at) (drop at text) ++ xs) none ∙ append-nil (take (stop - at) (drop at text)) ∙ sym is in
    put ∙ ap (λ xs. out ++ xs) (sym rest) ∙ so_far

-- a line and its end are put
pub one_line : (e : LineEnd) (text : List ℕ) (at stop next : ℕ) (old out line mid new : List ℕ) → stop ≡ at + prefix_len in_line (drop at text) → out ++ with_ends e (drop at text) ≡ old ++ with_ends e text
    → line ≡ take (stop - at) (drop at text) → mid ≡ out ++ line → new ≡ mid ++ end_bytes e → with_ends e (drop stop text) ≡ end_bytes e ++ with_ends e (drop next text)
    → new ++ with_ends e (drop next text) ≡ old ++ with_ends e text
one_line e text at stop next old out line mid new h so_far is put ended after =
    let more = with_ends e (drop next text) in
    let rest : with_ends e (drop at text) ≡ line ++ (end_bytes e ++ more) = line_put e text at stop h ∙ ap (λ xs. take (stop - at) (drop at text) ++ xs) after ∙ ap (λ xs. xs ++ (end_bytes e ++ more)) (sym is) in
    ap (λ xs. xs ++ more) (ended ∙ ap (λ xs. xs ++ end_bytes e) put) ∙ append_assoc (out ++ line) (end_bytes e) more ∙ append_assoc out line (end_bytes e ++ more)
    ∙ ap (λ xs. out ++ xs) (sym rest) ∙ so_far
