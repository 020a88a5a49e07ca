-- What the view computes is what the relations say, if they say anything: so a text has just one
-- list of tokens and one ending.
use Rattle.std.proofs.Common.{◌≡◌, ℕ, zero, suc, ◌≤◌, ◌<◌, List, [], ◌∷◌, Bool, true, false, Option, Some, None, MatchOption, ℤ, length, drop, ◌&&◌, not, is_some, refl, sym, ap, subst, ⊎_elim, ◌∙◌, eqb, arith, length-append, length-drop}
use Rattle.std.proofs.lemmas.Bool.{or_cases, cases_Bool, cond-true, cond-false, cond_both, both_ways}
use Rattle.isle_base.specs.Computed.{First, ended, refused, found, close, literal_first, spelling_first, comment_first, first, computed_by, computed}
use Rattle.isle_base.specs.Lexing.{Faulty, unclosed, form_feed, literal, Lexes}
use Rattle.isle_base.specs.Literals.{begins_literal, in_literal, behind_minus, prefix_radix, behind_prefix, Literal}
use Rattle.isle_base.specs.Spellings.{begins_symbol, in_symbol, is_lone_minus, symbol_here, Spelling}
use Rattle.isle_base.specs.Skips.{Skip, nothing, blank, line_comment, block_comment, Inside, Longest, is_blank, in_line, opens, begins_with}
use Rattle.isle_base.specs.Token.{Tok, lparen, rparen, symbol, integer, at_sign, Lexeme, Ending, end, fault}
use Rattle.isle_base.proofs.Bytes as bytes
use Rattle.isle_base.proofs.Comments.{Inside-unique, Inside-shorter, close_gives}
use Rattle.isle_base.proofs.Minus.{valued_not_lone}
use Rattle.isle_base.proofs.Runs.{longest, Longest-unique}

-- where a comment ends, `close` finds it
close_some : (inner after : List ℕ) (o : Option (List ℕ)) → MatchOption o ((rest : List ℕ) → (mid : List ℕ) × Inside inner mid × (mid ≡ rest) → ⊥) (λ rest. (mid : List ℕ) × Inside inner mid × (mid ≡ rest)) → Inside inner after → o ≡ Some after
close_some inner after None h i = absurd (h after (after, i, refl))
close_some inner after (Some rest) h i = ap Some (sym h.2 ∙ Inside-unique h.1 i)

close_none : (inner : List ℕ) (o : Option (List ℕ)) → MatchOption o ((rest : List ℕ) → (mid : List ℕ) × Inside inner mid × (mid ≡ rest) → ⊥) (λ rest. (mid : List ℕ) × Inside inner mid × (mid ≡ rest)) → ((rest : List ℕ) → Inside inner rest → ⊥) → o ≡ None
close_none inner None h never = refl
close_none inner (Some rest) h never = absurd (never h.0 h.1)

-- a literal, whatever its value
literal_computed : (b : ℕ) (rest after : List ℕ) (value : Option ℤ) → Literal (b ∷ rest) value after → is_lone_minus (b ∷ rest) ≡ false → spelling_first (b ∷ rest) ≡ literal_first (b ∷ rest) after value
unfolding spelling_first
literal_computed b rest after value l whole =
    let begins = l.begins in
    let run = Longest-unique (longest in_literal (behind_prefix (behind_minus (b ∷ rest)))) l.longest in
    rw (bytes.literal_ne_open b begins, bytes.literal_ne_close b begins, bytes.literal_ne_at b begins, bytes.literal_ne_feed b begins, begins, whole, run.1, run.0, ← l.meaning) refl

lone_no_literal : (begins lone : Bool) → lone ≡ true → (begins && not lone) ≡ false
lone_no_literal true lone h = rw h refl
lone_no_literal false lone h = refl

-- where a symbol begins no literal does, but a lone `-`, which is none
symbol_no_literal : (b : ℕ) (rest : List ℕ) → symbol_here (b ∷ rest) ≡ true → (begins_literal b && not (is_lone_minus (b ∷ rest))) ≡ false
symbol_no_literal b rest begins =
    ⊎_elim
    (λ plain. rw (bytes.symbol_not_literal b plain) refl)
    (λ lone. lone_no_literal (begins_literal b) (is_lone_minus (b ∷ rest)) lone)
    (or_cases (begins_symbol b) (is_lone_minus (b ∷ rest)) begins)

symbol_computed : (b : ℕ) (rest name after : List ℕ) → symbol_here (b ∷ rest) ≡ true → Longest in_symbol (b ∷ rest) name after → spelling_first (b ∷ rest) ≡ found (b ∷ rest) (symbol name) after
unfolding spelling_first
symbol_computed b rest name after begins l =
    let run = Longest-unique (longest in_symbol (b ∷ rest)) l in
    let stays = bytes.symbol_stays b rest begins in
    rw (bytes.symbol_ne_open b stays, bytes.symbol_ne_close b stays, bytes.symbol_ne_at b stays, bytes.symbol_ne_feed b stays, symbol_no_literal b rest begins, run.1, run.0) refl

-- A text that begins with a spelling, or with a fault that is no comment: no skip begins there.
record Stands (text : List ℕ) (gives : First) : Type 0 where
  head : ℕ
  tail : List ℕ
  is : text ≡ head ∷ tail
  not_blank : is_blank head ≡ false
  no_line : eqb head 59 ≡ false
  no_block : opens text ≡ false
  computed_as : spelling_first text ≡ gives

literal_stands : (text after : List ℕ) (value : Option ℤ) → Literal text value after → is_lone_minus text ≡ false → Stands text (literal_first text after value)
literal_stands [] after value l whole = let never = l.begins in cc
literal_stands (b ∷ rest) after value l whole = record {
  head = b;
  tail = rest;
  is = refl;
  not_blank = bytes.literal_not_blank b l.begins;
  no_line = bytes.literal_ne_semicolon b l.begins;
  no_block = bytes.opens_not b rest (bytes.literal_ne_open b l.begins);
  computed_as = literal_computed b rest after value l whole;
}

symbol_stands : (text name after : List ℕ) → symbol_here text ≡ true → Longest in_symbol text name after → Stands text (found text (symbol name) after)
symbol_stands [] name after begins l = cc
symbol_stands (b ∷ rest) name after begins l = record {
  head = b;
  tail = rest;
  is = refl;
  not_blank = bytes.symbol_not_blank b (bytes.symbol_stays b rest begins);
  no_line = bytes.symbol_ne_semicolon b (bytes.symbol_stays b rest begins);
  no_block = bytes.opens_not b rest (bytes.symbol_ne_open b (bytes.symbol_stays b rest begins));
  computed_as = symbol_computed b rest name after begins l;
}

spelling_stands : (text : List ℕ) (token : Tok) (after : List ℕ) → Spelling text token after → Stands text (found text token after)
unfolding is_blank spelling_first literal_first
spelling_stands text lparen after p =
    subst (λ t. Stands t (found t lparen after)) (sym p.0) (record { head = 40; tail = after; is = refl; not_blank = refl; no_line = refl; no_block = sym (ap opens p.0) ∙ p.1; computed_as = refl })
spelling_stands text rparen after p =
    subst (λ t. Stands t (found t rparen after)) (sym p) (record { head = 41; tail = after; is = refl; not_blank = refl; no_line = refl; no_block = bytes.opens_not 41 after refl; computed_as = refl })
spelling_stands text at_sign after p =
    subst (λ t. Stands t (found t at_sign after)) (sym p) (record { head = 64; tail = after; is = refl; not_blank = refl; no_line = refl; no_block = bytes.opens_not 64 after refl; computed_as = refl })
spelling_stands text (symbol name) after p = symbol_stands text name after p.0 p.1
spelling_stands text (integer value) after p = literal_stands text after (Some value) p (valued_not_lone text value after p)

feed_stands : (after : List ℕ) → Stands (12 ∷ after) (refused (12 ∷ after))
unfolding is_blank spelling_first
feed_stands after = record { head = 12; tail = after; is = refl; not_blank = refl; no_line = refl; no_block = bytes.opens_not 12 after refl; computed_as = refl }

unvalued_stands : (text after : List ℕ) → Literal text None after → is_lone_minus text ≡ false → Stands text (refused text)
unfolding literal_first
unvalued_stands text after l whole = literal_stands text after None l whole

first_stands : (text : List ℕ) (gives : First) → Stands text gives → (n : ℕ) → length text ≤ n → first n text ≡ gives
unfolding first
first_stands text gives s zero h = let short = ap length s.is in absurd (omega arith)
first_stands text gives s (suc n) h =
    let whole : first (suc n) (s.head ∷ s.tail) ≡ spelling_first (s.head ∷ s.tail) =
    let closed : opens (s.head ∷ s.tail) ≡ false = sym (ap opens s.is) ∙ s.no_block in
    rw (s.not_blank, s.no_line, closed) refl in
    ap (first (suc n)) s.is ∙ whole ∙ sym (ap spelling_first s.is) ∙ s.computed_as

first_faulty : (text : List ℕ) → Faulty text → (n : ℕ) → length text ≤ n → first n text ≡ refused text
unfolding first is_blank comment_first
first_faulty text (unclosed {inner = inner} e never) zero h = let short = ap length e in absurd (omega arith)
first_faulty text (unclosed {inner = inner} e never) (suc n) h =
    let none : close 1 inner ≡ None = close_none inner (close 1 inner) (close_gives 1 inner) never in
    let whole : first (suc n) (40 ∷ 59 ∷ inner) ≡ refused (40 ∷ 59 ∷ inner) = rw none refl in
    ap (first (suc n)) e ∙ whole ∙ sym (ap refused e)
first_faulty text (form_feed {after = after} e) n h =
    first_stands text (refused text) (subst (λ t. Stands t (refused t)) (sym e) (feed_stands after)) n h
first_faulty text (literal {rest = after} l whole) n h = first_stands text (refused text) (unvalued_stands text after l whole) n h

-- what `first` computes, given as many steps as there are bytes
abbrev Computes : List ℕ → First → Type 0
Computes text gives = (n : ℕ) → length text ≤ n → first n text ≡ gives

first_nil : Computes [] ended
unfolding first
first_nil zero h = refl
first_nil (suc n) h = refl

pub Longest-le : {kind : ℕ → Bool} {text run after : List ℕ} → Longest kind text run after → length after ≤ length text
Longest-le {run = run} {after = after} l = rw l.split (omega (arith, length-append run after))

-- it goes past a skip
first_skip : {text from : List ℕ} → Skip text from → (gives : First) → Computes from gives → Computes text gives
unfolding first is_blank comment_first
first_skip (nothing e) gives h n le = ap (first n) e ∙ h n (rw (← e) le)
first_skip (blank b e is s) gives h zero le = let short = ap length e in absurd (omega arith)
first_skip (blank {after = after} b e is s) gives h (suc n) le =
    let short = ap length e in
    let whole : first (suc n) (b ∷ after) ≡ first n after = rw is refl in
    ap (first (suc n)) e ∙ whole ∙ first_skip s gives h n (omega arith)
first_skip (line_comment line e l s) gives h zero le = let short = ap length e in absurd (omega arith)
first_skip (line_comment {inner = inner} {after = after} line e l s) gives h (suc n) le =
    let short = ap length e in
    let shorter = Longest-le l in
    let run = Longest-unique (longest in_line inner) l in
    let whole : first (suc n) (59 ∷ inner) ≡ first n after = ap (first n) run.1 in
    ap (first (suc n)) e ∙ whole ∙ first_skip s gives h n (omega arith)
first_skip (block_comment e i s) gives h zero le = let short = ap length e in absurd (omega arith)
first_skip (block_comment {inner = inner} {after = after} e i s) gives h (suc n) le =
    let short = ap length e in
    let shorter = Inside-shorter i in
    let closes : close 1 inner ≡ Some after = close_some inner after (close 1 inner) (close_gives 1 inner) i in
    let whole : first (suc n) (40 ∷ 59 ∷ inner) ≡ first n after = rw closes refl in
    ap (first (suc n)) e ∙ whole ∙ first_skip s gives h n (omega arith)

pub Skip-le : {text from : List ℕ} → Skip text from → length from ≤ length text
Skip-le (nothing e) = rw e (omega arith)
Skip-le (blank b e is s) = let less = Skip-le s in rw e (omega arith)
Skip-le (line_comment line e l s) = let less = Skip-le s in let short = Longest-le l in rw e (omega arith)
Skip-le (block_comment e i s) = let less = Skip-le s in let short = Inside-shorter i in rw e (omega arith)

behind_minus-le : (text : List ℕ) → length (behind_minus text) ≤ length text
behind_minus-le [] = omega arith
behind_minus-le (b ∷ rest) = cond_both (eqb b 45) rest (b ∷ rest) (λ xs. length xs ≤ length (b ∷ rest)) (λ _. omega arith) (λ _. omega arith)

pub behind_prefix-le : (text : List ℕ) → length (behind_prefix text) ≤ length text
behind_prefix-le text = cond_both (is_some (prefix_radix text)) (drop 2 text) text (λ xs. length xs ≤ length text) (λ _. omega (arith, length-drop 2 text)) (λ _. omega arith)

run_shorter : (kind : ℕ → Bool) (b : ℕ) (rest run after : List ℕ) → kind b ≡ true → Longest kind (b ∷ rest) run after → length after < length (b ∷ rest)
run_shorter kind b rest [] after stays l = absurd (both_ways (kind b) (ap (begins_with kind) l.split ∙ l.stops) stays)
run_shorter kind b rest (c ∷ cs) after stays l = let short = ap length l.split in omega (arith, length-append cs after)

-- a sign, a prefix or a digit is read
literal_shorter : (b : ℕ) (rest run after : List ℕ) → begins_literal b ≡ true → Longest in_literal (behind_prefix (behind_minus (b ∷ rest))) run after → length after < length (b ∷ rest)
literal_shorter b rest run after begins l =
    ⊎_elim
    (λ minus.
    let e : behind_minus (b ∷ rest) ≡ rest = cond-true (eqb b 45) rest (b ∷ rest) minus in
    let less = Longest-le l in
    omega (arith, behind_prefix-le rest, ap (λ xs. length (behind_prefix xs)) e))
    (λ plain.
    let e : behind_minus (b ∷ rest) ≡ b ∷ rest = cond-false (eqb b 45) rest (b ∷ rest) plain in
    let m = subst (λ xs. Longest in_literal (behind_prefix xs) run after) e l in
    ⊎_elim
    (λ has.
    let f : behind_prefix (b ∷ rest) ≡ drop 2 (b ∷ rest) = cond-true (is_some (prefix_radix (b ∷ rest))) (drop 2 (b ∷ rest)) (b ∷ rest) has in
    let less = Longest-le m in
    omega (arith, length-drop 2 (b ∷ rest), ap length f))
    (λ lacks.
    let f : behind_prefix (b ∷ rest) ≡ b ∷ rest = cond-false (is_some (prefix_radix (b ∷ rest))) (drop 2 (b ∷ rest)) (b ∷ rest) lacks in
    run_shorter in_literal b rest run after (bytes.digit_stays b begins plain) (subst (λ xs. Longest in_literal xs run after) f m))
    (cases_Bool (is_some (prefix_radix (b ∷ rest)))))
    (cases_Bool (eqb b 45))

pub Spelling-shorter : (text : List ℕ) (token : Tok) (after : List ℕ) → Spelling text token after → length after < length text
Spelling-shorter text lparen after p = rw p.0 (omega arith)
Spelling-shorter text rparen after p = rw p (omega arith)
Spelling-shorter text at_sign after p = rw p (omega arith)
Spelling-shorter [] (symbol name) after p = let begins = p.0 in cc
Spelling-shorter (b ∷ rest) (symbol name) after p = run_shorter in_symbol b rest name after (bytes.symbol_stays b rest p.0) p.1
Spelling-shorter [] (integer value) after p = let begins = p.begins in cc
Spelling-shorter (b ∷ rest) (integer value) after p = literal_shorter b rest p.run after p.begins p.longest

pub Faulty-nonempty : {text : List ℕ} → Faulty text → 0 < length text
Faulty-nonempty (unclosed e never) = rw e (omega arith)
Faulty-nonempty (form_feed e) = rw e (omega arith)
Faulty-nonempty {text = []} (literal l whole) = let begins = l.begins in cc
Faulty-nonempty {text = b ∷ rest} (literal l whole) = omega arith

computed_is : (size : ℕ) (text : List ℕ) (xs : List Lexeme) (ending : Ending) → Lexes size text xs ending → (n : ℕ) → length text ≤ n → computed n size text ≡ record { tokens = xs; ending = ending }
unfolding computed computed_by
computed_is size text [] end l zero h = refl
computed_is size text [] end l (suc n) h =
    let same : first (length text) text ≡ ended = first_skip l ended first_nil (length text) (omega arith) in
    rw same refl
computed_is size text [] (fault offset) l zero h = absurd (omega (arith, Skip-le l.1, Faulty-nonempty l.2))
computed_is size text [] (fault offset) l (suc n) h =
    let same : first (length text) text ≡ refused l.0 = first_skip l.1 (refused l.0) (first_faulty l.0 l.2) (length text) (omega arith) in
    rw (same, ← l.3) refl
computed_is size text (x ∷ xs) ending l zero h = absurd (omega (arith, Skip-le l.2, Spelling-shorter l.0 x.token l.1 l.3))
computed_is size text (x ∷ xs) ending l (suc n) h =
    let same : first (length text) text ≡ found l.0 x.token l.1 = first_skip l.2 (found l.0 x.token l.1) (first_stands l.0 (found l.0 x.token l.1) (spelling_stands l.0 x.token l.1 l.3)) (length text) (omega arith) in
    let short : length l.1 ≤ n = omega (arith, Skip-le l.2, Spelling-shorter l.0 x.token l.1 l.3) in
    let more = computed_is size l.1 xs ending l.6 n short in
    rw (same, more, ← l.4, ← l.5) refl

pub Lexes-unique : (size : ℕ) (text : List ℕ) (xs ys : List Lexeme) (e f : Ending) → Lexes size text xs e → Lexes size text ys f → (xs ≡ ys) × (e ≡ f)
Lexes-unique size text xs ys e f l m =
    let same = sym (computed_is size text xs e l (length text) (omega arith)) ∙ computed_is size text ys f m (length text) (omega arith) in
    (ap (λ c. c.tokens) same, ap (λ c. c.ending) same)
