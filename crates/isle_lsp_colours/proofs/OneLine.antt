-- A token of a text is on one line.
use Rattle.std.proofs.Common.{◌≡◌, ◌+◌, ◌-◌, ◌==◌, ℕ, List, [], ◌∷◌, ◌++◌, Bool, false, true, ap, append_assoc, arith, drop, is_some, length, length-append, refl, slice_range, subst, sym, take, ◌∙◌, inl, inr}
use Rattle.std.proofs.Math.Seq.{drop-append_seam, take-append_seam}
use Rattle.std.proofs.lemmas.Bool.{and_parts, cases_Bool, eqb-true}
use Rattle.std.specs.List.{AllByRecursion, list_all}
use Rattle.isle_base.proofs.Bytes.{other_byte}
use Rattle.isle_base.specs.Lexing.{Lexes}
use Rattle.isle_base.specs.Literals.{behind_minus, behind_prefix, in_literal, prefix_radix, radix_of}
use Rattle.isle_base.specs.Skips.{Inside, Skip, ends, byte, nested, nothing, blank, line_comment, block_comment, in_line, is_blank}
use Rattle.isle_base.specs.Spellings.{Spelling, in_symbol}
use Rattle.isle_base.specs.Token.{Ending, Lexeme, Tok, at_sign, integer, lparen, rparen, symbol}
use Rattle.isle_lsp_text.proofs.Places.{composes, p_more, p_zero}
use Rattle.isle_lsp_text.specs.Positions.{ends_line, position, position_at, position_from, unit_count, units}
use Rattle.isle_lsp_colours.specs.Tokens.{IsOnOneLine}
use Rattle.isle_lsp_text.specs.declared.positions.PositionEncoding.{PositionEncoding}

-- ---- where tokens are

-- a text ends with these bytes
abbrev IsEnd : List ℕ → List ℕ → Type 0
IsEnd text from = (before : List ℕ) × (text ≡ before ++ from)

then : (text mid from : List ℕ) → IsEnd text mid → IsEnd mid from → IsEnd text from
then text mid from a b = (a.0 ++ b.0, a.1 ∙ ap (λ xs. a.0 ++ xs) b.1 ∙ sym (append_assoc a.0 b.0 from))

behind_one : (b : ℕ) (text after from : List ℕ) → text ≡ b ∷ after → IsEnd after from → IsEnd text from
behind_one b text after from e s = (b ∷ s.0, e ∙ ap (λ xs. b ∷ xs) s.1)

behind_two : (a b : ℕ) (text after from : List ℕ) → text ≡ a ∷ b ∷ after → IsEnd after from → IsEnd text from
behind_two a b text after from e s = (a ∷ b ∷ s.0, e ∙ ap (λ xs. a ∷ b ∷ xs) s.1)

inside_ends : {text rest : List ℕ} → Inside text rest → IsEnd text rest
inside_ends (ends e) = (59 ∷ 41 ∷ [], e)
inside_ends {text = text} {rest = rest} (byte {after = after} b e o c i) = behind_one b text after rest e (inside_ends i)
inside_ends {text = text} {rest = rest} (nested {inner = inner} {after = after} e i j) =
    behind_two 40 59 text inner rest e (then inner after rest (inside_ends i) (inside_ends j))

skip_ends : {text rest : List ℕ} → Skip text rest → IsEnd text rest
skip_ends (nothing e) = ([], e)
skip_ends {text = text} {rest = rest} (blank {after = after} b e is s) = behind_one b text after rest e (skip_ends s)
skip_ends {text = text} {rest = rest} (line_comment {inner = inner} {after = after} line e l s) =
    behind_one 59 text inner rest e (then inner after rest (line, l.split) (skip_ends s))
skip_ends {text = text} {rest = rest} (block_comment {inner = inner} {after = after} e i s) =
    behind_two 40 59 text inner rest e (then inner after rest (inside_ends i) (skip_ends s))

-- ---- no token ends a line

line_by : (kind : ℕ → Bool) (b : ℕ) → kind b ≡ true → kind 10 ≡ false → kind 13 ≡ false → in_line b ≡ true
unfolding in_line
line_by kind b is n r = rw (other_byte kind b 10 is n, other_byte kind b 13 is r) refl

symbol_line : (b : ℕ) → in_symbol b ≡ true → in_line b ≡ true
unfolding in_symbol is_blank
symbol_line b is = line_by in_symbol b is refl refl

literal_line : (b : ℕ) → in_literal b ≡ true → in_line b ≡ true
unfolding in_literal
literal_line b is = line_by in_literal b is refl refl

radix_line : (b : ℕ) → is_some (radix_of b) ≡ true → in_line b ≡ true
unfolding radix_of
radix_line b is = line_by (λ x. is_some (radix_of x)) b is refl refl

one_line : (b c : ℕ) → (b == c) ≡ true → in_line c ≡ true → in_line b ≡ true
one_line b c e is = subst (λ x. in_line x ≡ true) (sym (eqb-true b c e)) is

known_line : (in_line 40 ≡ true) × (in_line 41 ≡ true) × (in_line 45 ≡ true) × (in_line 48 ≡ true) × (in_line 64 ≡ true)
unfolding in_line
known_line = (refl, refl, refl, refl, refl)

all_line : (kind : ℕ → Bool) (run : List ℕ) → ((b : ℕ) → kind b ≡ true → in_line b ≡ true) → list_all kind run ≡ true → list_all in_line run ≡ true
all_line kind [] line all = refl
all_line kind (b ∷ run) line all =
    let p = and_parts (kind b) (list_all kind run) all in
    rw (line b p.0) (all_line kind run line p.1)

-- before these bytes is a run that ends no line
abbrev IsRun : List ℕ → List ℕ → Type 0
IsRun from after = (run : List ℕ) × (from ≡ run ++ after) × (list_all in_line run ≡ true)

run_more : (b : ℕ) (mid after : List ℕ) → in_line b ≡ true → IsRun mid after → IsRun (b ∷ mid) after
run_more b mid after is r = (b ∷ r.0, ap (λ xs. b ∷ xs) r.1, rw is r.2)

minus_run : (text after : List ℕ) → IsRun (behind_minus text) after → IsRun text after
minus_run [] after r = r
minus_run (b ∷ rest) after r = elim (cases_Bool (b == 45)) [
  | inl e ↦ run_more b rest after (one_line b 45 e known_line.2) (rw e at r)
  | inr e ↦ rw e at r
]

prefix_parts : (a b : ℕ) (rest : List ℕ) → is_some (prefix_radix (a ∷ b ∷ rest)) ≡ true → (in_line a ≡ true) × (in_line b ≡ true)
prefix_parts a b rest some = elim (cases_Bool (a == 48)) [
  | inl e ↦ (one_line a 48 e known_line.3, radix_line b (rw e at some))
  | inr e ↦ absurd (let none : false ≡ true = rw e at some in cc none)
]

prefix_run : (text after : List ℕ) → IsRun (behind_prefix text) after → IsRun text after
prefix_run [] after r = r
prefix_run (a ∷ []) after r = r
prefix_run (a ∷ b ∷ rest) after r = elim (cases_Bool (is_some (prefix_radix (a ∷ b ∷ rest)))) [
  | inl e ↦ let p = prefix_parts a b rest e in run_more a (b ∷ rest) after p.0 (run_more b rest after p.1 (rw e at r))
  | inr e ↦ rw e at r
]

spelling_run : (text : List ℕ) (token : Tok) (after : List ℕ) → Spelling text token after → IsRun text after
spelling_run text lparen after p = (40 ∷ [], p.0, rw known_line.0 refl)
spelling_run text rparen after p = (41 ∷ [], p, rw known_line.1 refl)
spelling_run text at_sign after p = (64 ∷ [], p, rw known_line.4 refl)
spelling_run text (symbol name) after p = (name, p.1.split, all_line in_symbol name symbol_line p.1.each)
spelling_run text (integer value) after p =
    minus_run text after (prefix_run (behind_minus text) after (p.run, p.longest.split, all_line in_literal p.run literal_line p.longest.each))

-- ---- the walk over a token

not_end : (b : ℕ) (rest : List ℕ) → in_line b ≡ true → ends_line b rest ≡ false
unfolding in_line
not_end b rest is = elim (cases_Bool (b == 10)) [
  | inl e ↦ absurd (let no : false ≡ true = rw e at is in cc no)
  | inr e ↦ elim (cases_Bool (b == 13)) [
    | inl f ↦ absurd (let no : false ≡ true = rw (e, f) at is in cc no)
    | inr f ↦ rw (e, f) refl
  ]
]

same_unit : (line a b : ℕ) → a ≡ b → position line a ≡ position line b
same_unit line a b e = ap (position line) e

through : (enc : PositionEncoding) (line unit : ℕ) (run after : List ℕ) → list_all in_line run ≡ true → position_from enc line unit (length run) (run ++ after) ≡ position line (unit + units enc run)
through enc line unit [] after all = p_zero enc line unit after ∙ same_unit line unit (unit + 0) (omega arith)
through enc line unit (b ∷ run) after all =
    let p = and_parts (in_line b) (list_all in_line run) all in
    p_more enc line unit (length run) b (run ++ after) (not_end b (run ++ after) p.0) ∙ through enc line (unit + unit_count enc b) run after p.1
    ∙ same_unit line _ _ (omega arith)

-- a token between these bytes and those
on_line : (enc : PositionEncoding) (text before run after : List ℕ) (from to : ℕ) → text ≡ before ++ (run ++ after) → from ≡ length before → to ≡ length run + length before →
    list_all in_line run ≡ true → IsOnOneLine enc text from to
on_line enc text before run after from to split starts stops all =
    let behind : drop (length before) text ≡ run ++ after = ap (drop (length before)) split ∙ drop-append_seam before (run ++ after) in
    let count : to - from ≡ length run = omega (arith, starts, stops) in
    let inside : slice_range text from to ≡ run =
    ap (λ n. take n (drop from text)) count ∙ ap (λ n. take (length run) (drop n text)) starts ∙ ap (take (length run)) behind ∙ take-append_seam run after in
    let p = position_from enc 0 0 (length before) text in
    ap (λ n. position_at enc n text) stops ∙ composes enc 0 0 (length before) (length run) text ∙ ap (position_from enc p.line p.unit (length run)) behind
    ∙ through enc p.line p.unit run after all ∙ ap (λ xs. position p.line (p.unit + units enc xs)) (sym inside)
    ∙ ap (λ n. position (position_at enc n text).line ((position_at enc n text).unit + units enc (slice_range text from to))) (sym starts)

lexed_on_lines : (enc : PositionEncoding) (text rest : List ℕ) (xs : List Lexeme) (ending : Ending) → IsEnd text rest → Lexes (length text) rest xs ending →
    AllByRecursion (λ x. IsOnOneLine enc text x.offset x.after) xs
lexed_on_lines enc text rest [] ending at l = tt
lexed_on_lines enc text rest (x ∷ xs) ending at l =
    let from = l.0 in
    let after = l.1 in
    let here = then text rest from at (skip_ends l.2) in
    let r = spelling_run from x.token after l.3 in
    let split : text ≡ here.0 ++ (r.0 ++ after) = here.1 ∙ ap (λ ys. here.0 ++ ys) r.1 in
    let size = ap length split in
    let parts = length-append here.0 (r.0 ++ after) in
    let more = length-append r.0 after in
    let long = ap length r.1 in
    let next = then text from after here (r.0, r.1) in (
      on_line enc text here.0 r.0 after x.offset x.after split (omega (arith, l.4, size, parts, long)) (omega (arith, l.5, size, parts, more)) r.2,
      lexed_on_lines enc text after xs ending next l.6,
    )

pub on_one_line : (enc : PositionEncoding) (text : List ℕ) (xs : List Lexeme) (ending : Ending) → Lexes (length text) text xs ending → AllByRecursion (λ x. IsOnOneLine enc text x.offset x.after) xs
on_one_line enc text xs ending l = lexed_on_lines enc text text xs ending ([], refl) l
