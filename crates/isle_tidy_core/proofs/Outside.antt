-- What holds at each byte of a tidy text outside its block comments.
use Rattle.std.proofs.Common.{◌≡◌, ℕ, zero, suc, ◌≤◌, List, [], ◌∷◌, ◌++◌, Bool, true, false, ◌&&◌, ◌||◌, not, cond, Option, Some, None, is_some, replicate, refl, sym, ap, ◌∙◌, subst, eqb, arith, append-nil, append_assoc}
use Rattle.std.proofs.lemmas.Bool.{and_parts, cond_both, eqb-true, both_ways}
use Rattle.std.proofs.lemmas.Bool.Decides.{nat_tests}
use Rattle.std.proofs.lemmas.List.Folds.{list_all-append}
use Rattle.std.specs.List.{list_all}
use Rattle.isle_base.specs.Literals.{in_literal, behind_minus, behind_prefix, radix_of}
use Rattle.isle_base.specs.Spellings.{Spelling, in_symbol}
use Rattle.isle_base.specs.Skips.{begins_with, in_line, is_blank}
use Rattle.isle_base.specs.Token.{Tok, lparen, rparen, symbol, integer, at_sign as at_token, is_symbol, is_int}
use Rattle.isle_base.proofs.Bytes as bytes
use Rattle.isle_tidy_layout.specs.Entries.{Lexeme, opening, closing, at_sign, atom, line_comment, block_comment, Entry}
use Rattle.isle_tidy_layout.specs.declared.entries.Gap.{Gap}
use Rattle.isle_tidy_layout.specs.declared.entries.Gap.TheVariants.{Beside, Tabbed, Below}
use Rattle.isle_tidy_layout.specs.declared.placing.Kind.{Kind}
use Rattle.isle_tidy_layout.specs.declared.placing.Kind.TheVariants.{Start, Open, Close, At, Atom, LineComment, BlockComment}
use Rattle.isle_tidy_layout.specs.Placing.{before_trimmed, trimmed, tidied, kind_of, closings, at_most_two, empty_lines, Here, placed_gap, reached, passed, placed_after, text_start, placed}
use Rattle.isle_tidy_layout.specs.Writing.{spelling, indentation, gap_text, start_text, written_after, written}
use Rattle.isle_tidy_layout.proofs.Again.{tidied_again}
use Rattle.isle_tidy_core.specs.Fitting.{IsAtom, IsLexeme, AreFit, fits}
use Rattle.isle_tidy_core.specs.Outside.{HoldsInLine, Outside, nothing, block_comment as comment_outside, line_comment as line_outside, byte, ends_line, ends_without_blank, has_few_lines}
use Rattle.isle_tidy_core.specs.Tidied.{IsLaidOut}
use Rattle.isle_tidy_core.proofs.Fitted.{placed_document_fits}
use Rattle.isle_tidy_core.proofs.Keeps.{Stops, entries_stop, no_blank, spelt_some}
use Rattle.isle_tidy_core.proofs.Moved.{block_comment_moves, no_literal, no_radix}
use Rattle.isle_tidy_core.proofs.Spelt.{document_entries}

-- What is asked of a test: it holds of what begins neither with a blank nor with a line end, of spaces before that, and of one to
-- three LF before that or a space; and in a line that is trimmed.
record IsKept (holds : List ℕ → Bool) : Type 0 where
  pub plain : (b : ℕ) (rest : List ℕ) → is_blank b ≡ false → holds (b ∷ rest) ≡ true
  pub spaced : (b : ℕ) (rest : List ℕ) → eqb b 10 ≡ false → eqb b 13 ≡ false → holds (32 ∷ b ∷ rest) ≡ true
  pub last : holds (10 ∷ []) ≡ true
  pub one : (b : ℕ) (rest : List ℕ) → eqb b 10 ≡ false → holds (10 ∷ b ∷ rest) ≡ true
  pub two : (b : ℕ) (rest : List ℕ) → eqb b 10 ≡ false → holds (10 ∷ 10 ∷ b ∷ rest) ≡ true
  pub three : (b : ℕ) (rest : List ℕ) → eqb b 10 ≡ false → holds (10 ∷ 10 ∷ 10 ∷ b ∷ rest) ≡ true
  pub in_comment : (b c : ℕ) (rest : List ℕ) → in_line b ≡ true → in_line c ≡ true → holds (b ∷ c ∷ rest) ≡ true
  pub comment_end : (b : ℕ) (rest : List ℕ) → in_line b ≡ true → (eqb b 32 || eqb b 9) ≡ false → holds (b ∷ rest) ≡ true

-- The bytes of an atom may stand in a symbol.

symbol_in : (kind : Bool) (b : ℕ) → in_symbol b ≡ kind → in_literal b ≡ true → kind ≡ true
symbol_in true b e h = refl
symbol_in false b e h = absurd (both_ways (in_literal b) (no_literal b e) h)

literals_in : (bs : List ℕ) → list_all in_literal bs ≡ true → list_all in_symbol bs ≡ true
literals_in [] all = refl
literals_in (b ∷ bs) all =
    let parts = and_parts (in_literal b) (list_all in_literal bs) all in
    let first : in_symbol b ≡ true = symbol_in (in_symbol b) b refl parts.0 in
    rw first (literals_in bs parts.1)

letter_in : (kind : Bool) (b : ℕ) (radix : ℕ) → in_symbol b ≡ kind → radix_of b ≡ Some radix → kind ≡ true
letter_in true b radix e f = refl
letter_in false b radix e f = absurd (let none = sym (no_radix b e) ∙ f in cc)

in_symbol-48 : in_symbol 48 ≡ true
unfolding in_symbol is_blank
in_symbol-48 = refl

in_symbol-45 : in_symbol 45 ≡ true
unfolding in_symbol is_blank
in_symbol-45 = refl

prefix_in : (a b : ℕ) (rest : List ℕ) (zero : Bool) (radix : Option ℕ) → eqb a 48 ≡ zero → radix_of b ≡ radix → list_all in_symbol (cond (is_some (cond zero radix None)) rest (a ∷ b ∷ rest)) ≡ true → list_all in_symbol (a ∷ b ∷ rest) ≡ true
prefix_in a b rest false radix e f h = h
prefix_in a b rest true None e f h = h
prefix_in a b rest true (Some n) e f h =
    let first : in_symbol a ≡ true = ap in_symbol (eqb-true a 48 e) ∙ in_symbol-48 in
    let second : in_symbol b ≡ true = letter_in (in_symbol b) b n refl f in
    rw (first, second) h

behind_prefix_in : (text : List ℕ) → list_all in_symbol (behind_prefix text) ≡ true → list_all in_symbol text ≡ true
behind_prefix_in [] h = h
behind_prefix_in (a ∷ []) h = h
behind_prefix_in (a ∷ b ∷ rest) h = prefix_in a b rest (eqb a 48) (radix_of b) refl refl h

minus_in : (b : ℕ) (rest : List ℕ) (minus : Bool) → eqb b 45 ≡ minus → list_all in_symbol (cond minus rest (b ∷ rest)) ≡ true → list_all in_symbol (b ∷ rest) ≡ true
minus_in b rest false e h = h
minus_in b rest true e h = let first : in_symbol b ≡ true = ap in_symbol (eqb-true b 45 e) ∙ in_symbol-45 in rw first h

behind_minus_in : (text : List ℕ) → list_all in_symbol (behind_minus text) ≡ true → list_all in_symbol text ≡ true
behind_minus_in [] h = h
behind_minus_in (b ∷ rest) h = minus_in b rest (eqb b 45) refl h

token_in : (bs : List ℕ) (token : Tok) → (is_symbol token || is_int token) ≡ true → Spelling bs token [] → list_all in_symbol bs ≡ true
token_in bs lparen is p = cc
token_in bs rparen is p = cc
token_in bs at_token is p = cc
token_in bs (symbol name) is p = ap (list_all in_symbol) (p.1.split ∙ append-nil name) ∙ p.1.each
token_in bs (integer value) is p =
    let run = ap (list_all in_symbol) (p.longest.split ∙ append-nil p.run) ∙ literals_in p.run p.longest.each in
    behind_minus_in bs (behind_prefix_in (behind_minus bs) run)

pub atom_in : (bs : List ℕ) → IsAtom bs → list_all in_symbol bs ≡ true
atom_in bs s = token_in bs s.0 s.1 s.2

-- the first byte of a lexeme is no blank
abbrev BeginsPlain : List ℕ → Type 0
BeginsPlain text = (b : ℕ) × (rest : List ℕ) × (text ≡ b ∷ rest) × (is_blank b ≡ false)

begins_plain : (text : List ℕ) (x : Lexeme) (after : List ℕ) → text ≡ spelling x ++ after → begins_with is_blank text ≡ false → (text ≡ [] → ⊥) → BeginsPlain text
begins_plain [] x after e h some = absurd (some refl)
begins_plain (b ∷ rest) x after e h some = (b, rest, refl, h)

-- The last byte of a comment that is trimmed is no blank.

inner_trimmed : (y : ℕ) (ts bs : List ℕ) → before_trimmed y ts ≡ y ∷ bs → ts ≡ bs
inner_trimmed y [] bs e = cond_both (eqb y 32 || eqb y 9) [] (y ∷ []) (λ xs. xs ≡ y ∷ bs → [] ≡ bs) (λ _ f. cc) (λ _ f. cc) e
inner_trimmed y (c ∷ cs) bs e = cc

trimmed_one : (b : ℕ) (test : Bool) → cond test [] (b ∷ []) ≡ b ∷ [] → test ≡ false
trimmed_one b true e = cc
trimmed_one b false e = refl

trimmed_last : (bs ys : List ℕ) (b : ℕ) → trimmed bs ≡ bs → bs ≡ ys ++ b ∷ [] → (eqb b 32 || eqb b 9) ≡ false
trimmed_last bs [] b t e = let whole = subst (λ xs. trimmed xs ≡ xs) e t in trimmed_one b (eqb b 32 || eqb b 9) whole
trimmed_last bs (y ∷ ys) b t e =
    let whole = subst (λ xs. trimmed xs ≡ xs) e t in
    trimmed_last (ys ++ b ∷ []) ys b (inner_trimmed y (trimmed (ys ++ b ∷ [])) (ys ++ b ∷ []) whole) refl

comment_last : (bs ys : List ℕ) (b : ℕ) → trimmed bs ≡ bs → 59 ∷ bs ≡ ys ++ b ∷ [] → (eqb b 32 || eqb b 9) ≡ false
comment_last bs [] b t e = let first : 59 ≡ b = cc in subst (λ c. (eqb c 32 || eqb c 9) ≡ false) first refl
comment_last bs (y ∷ ys) b t e = let rest : bs ≡ ys ++ b ∷ [] = cc in trimmed_last bs ys b t rest

split_in_line : (line before after : List ℕ) (b : ℕ) → list_all in_line line ≡ true → line ≡ before ++ b ∷ after → (in_line b ≡ true) × (list_all in_line after ≡ true)
split_in_line line before after b all e =
    let parts = and_parts (list_all in_line before) (list_all in_line (b ∷ after)) (sym (list_all-append in_line before (b ∷ after)) ∙ sym (ap (list_all in_line) e) ∙ all) in
    and_parts (in_line b) (list_all in_line after) parts.1

not_feed : (b : ℕ) → is_blank b ≡ false → eqb b 10 ≡ false
unfolding is_blank
not_feed b h = grind (arith, nat_tests)

not_return : (b : ℕ) → is_blank b ≡ false → eqb b 13 ≡ false
unfolding is_blank
not_return b h = grind (arith, nat_tests)

in_line-59 : in_line 59 ≡ true
unfolding in_line
in_line-59 = refl

is_blank-64 : is_blank 64 ≡ false
unfolding is_blank
is_blank-64 = refl

is_blank-40 : is_blank 40 ≡ false
unfolding is_blank
is_blank-40 = refl

is_blank-41 : is_blank 41 ≡ false
unfolding is_blank
is_blank-41 = refl

-- Entries whose comments are trimmed, behind two empty lines at most.

abbrev IsFew : Gap → Type 0
IsFew (Beside width) = Unit {0}
IsFew (Tabbed width) = Unit {0}
IsFew (Below empty column) = empty ≤ 2

abbrev AreTidy : List Entry → Type 0
AreTidy [] = Unit {0}
AreTidy (e ∷ es) = (tidied e.lexeme ≡ e.lexeme) × IsFew e.gap × AreTidy es

two_at_most : (empty : ℕ) → at_most_two empty ≤ 2
two_at_most zero = omega arith
two_at_most (suc zero) = omega arith
two_at_most (suc (suc n)) = omega arith

few_lines : (before : Kind) (empty : ℕ) → empty_lines before empty ≤ 2
few_lines Start empty = omega arith
few_lines Open empty = two_at_most empty
few_lines Close empty = two_at_most empty
few_lines At empty = two_at_most empty
few_lines Atom empty = two_at_most empty
few_lines LineComment empty = two_at_most empty
few_lines BlockComment empty = two_at_most empty

few_placed : (here : Here) (gap : Gap) (kind : Kind) (inner : ℕ) → IsFew (placed_gap here gap kind inner)
few_placed here (Beside width) kind inner = tt
few_placed here (Tabbed width) kind inner = tt
few_placed here (Below empty column) kind inner = few_lines here.before empty

placed_tidy : (here : Here) (es : List Entry) → AreTidy (placed_after here es)
placed_tidy here [] = tt
placed_tidy here (e ∷ es) =
    let kind = kind_of e.lexeme in
    let gap = placed_gap here e.gap kind (closings es) in
    (tidied_again e.lexeme, few_placed here e.gap kind (closings es), placed_tidy (passed (reached here kind e.gap gap) e.lexeme) es)

module _ (holds : List ℕ → Bool) (pending : IsKept holds) where
  atom_outside : (bs rest : List ℕ) → list_all in_symbol bs ≡ true → Outside holds rest → Outside holds (bs ++ rest)
  atom_outside [] rest all o = o
  atom_outside (b ∷ bs) rest all o =
      let parts = and_parts (in_symbol b) (list_all in_symbol bs) all in
      byte b refl (bytes.opens_not b (bs ++ rest) (bytes.symbol_ne_open b parts.0)) (bytes.symbol_ne_semicolon b parts.0)
      (pending.plain b (bs ++ rest) (bytes.symbol_not_blank b parts.0)) (atom_outside bs rest parts.1 o)

  comment_holds : (b : ℕ) (after rest : List ℕ) → in_line b ≡ true → list_all in_line after ≡ true → (after ≡ [] → (eqb b 32 || eqb b 9) ≡ false) → holds (b ∷ (after ++ rest)) ≡ true
  comment_holds b [] rest h all last = pending.comment_end b rest h (last refl)
  comment_holds b (c ∷ cs) rest h all last =
      pending.in_comment b c (cs ++ rest) h (and_parts (in_line c) (list_all in_line cs) all).0

  line_holds : (bs rest : List ℕ) → list_all in_line bs ≡ true → trimmed bs ≡ bs → HoldsInLine holds (59 ∷ bs) rest
  line_holds bs rest all t = λ before after b e.
      let whole : list_all in_line (59 ∷ bs) ≡ true = rw in_line-59 all in
      let parts = split_in_line (59 ∷ bs) before after b whole e in
      comment_holds b after rest parts.0 parts.1 (λ none. comment_last bs before b t (e ∙ ap (λ xs. before ++ b ∷ xs) none))

  trimmed_bytes : (bs : List ℕ) → tidied (line_comment bs) ≡ line_comment bs → trimmed bs ≡ bs
  trimmed_bytes bs e = cc

  lexeme_outside : (x : Lexeme) (rest : List ℕ) → IsLexeme x → tidied x ≡ x → Stops (kind_of x) rest → Outside holds rest → Outside holds (spelling x ++ rest)
  lexeme_outside opening rest s t stops o = byte 40 refl stops refl (pending.plain 40 rest is_blank-40) o
  lexeme_outside closing rest s t stops o = byte 41 refl (bytes.opens_not 41 rest refl) refl (pending.plain 41 rest is_blank-41) o
  lexeme_outside at_sign rest s t stops o = byte 64 refl (bytes.opens_not 64 rest refl) refl (pending.plain 64 rest is_blank-64) o
  lexeme_outside (atom bs) rest s t stops o = atom_outside bs rest (atom_in bs s) o
  lexeme_outside (line_comment bs) rest s t stops o =
      line_outside refl (record { split = refl; each = s; stops = stops }) (line_holds bs rest s (trimmed_bytes bs t)) o
  lexeme_outside (block_comment bs) rest s t stops o = comment_outside refl (block_comment_moves bs bs [] rest (sym (append-nil bs)) s) o

  space_holds : (n b : ℕ) (rest : List ℕ) → is_blank b ≡ false → holds (32 ∷ (replicate n 32 ++ b ∷ rest)) ≡ true
  space_holds zero b rest h = pending.spaced b rest (not_feed b h) (not_return b h)
  space_holds (suc n) b rest h = pending.spaced 32 (replicate n 32 ++ b ∷ rest) refl refl

  spaces_outside : (n b : ℕ) (rest : List ℕ) → is_blank b ≡ false → Outside holds (b ∷ rest) → Outside holds (replicate n 32 ++ b ∷ rest)
  spaces_outside zero b rest h o = o
  spaces_outside (suc n) b rest h o =
      byte 32 refl (bytes.opens_not 32 (replicate n 32 ++ b ∷ rest) refl) refl (space_holds n b rest h) (spaces_outside n b rest h o)

  feeds_outside : (n y : ℕ) (ys : List ℕ) → n ≤ 2 → eqb y 10 ≡ false → Outside holds (y ∷ ys) → Outside holds (10 ∷ (replicate n 10 ++ y ∷ ys))
  feeds_outside zero y ys h k o = byte 10 refl (bytes.opens_not 10 (y ∷ ys) refl) refl (pending.one y ys k) o
  feeds_outside (suc zero) y ys h k o =
      byte 10 refl (bytes.opens_not 10 (10 ∷ y ∷ ys) refl) refl (pending.two y ys k) (feeds_outside zero y ys (omega arith) k o)
  feeds_outside (suc (suc zero)) y ys h k o =
      byte 10 refl (bytes.opens_not 10 (10 ∷ 10 ∷ y ∷ ys) refl) refl (pending.three y ys k) (feeds_outside (suc zero) y ys (omega arith) k o)
  feeds_outside (suc (suc (suc n))) y ys h k o = absurd (omega arith)

  lines_outside : (empty column b : ℕ) (rest : List ℕ) → empty ≤ 2 → is_blank b ≡ false → Outside holds (b ∷ rest) → Outside holds (10 ∷ (replicate empty 10 ++ (replicate column 32 ++ b ∷ rest)))
  lines_outside empty zero b rest few h o = feeds_outside empty b rest few (not_feed b h) o
  lines_outside empty (suc column) b rest few h o =
      feeds_outside empty 32 (replicate column 32 ++ b ∷ rest) few refl (spaces_outside (suc column) b rest h o)

  below_outside : (empty column b : ℕ) (rest : List ℕ) → empty ≤ 2 → is_blank b ≡ false → Outside holds (b ∷ rest) → Outside holds (10 ∷ (indentation empty column ++ b ∷ rest))
  below_outside empty column b rest few h o =
      subst (λ xs. Outside holds (10 ∷ xs)) (sym (append_assoc (replicate empty 10) (replicate column 32) (b ∷ rest))) (lines_outside empty column b rest few h o)

  gap_outside : (gap : Gap) (before kind : Kind) (b : ℕ) (rest : List ℕ) → fits before gap kind ≡ true → IsFew gap → is_blank b ≡ false → Outside holds (b ∷ rest) → Outside holds (gap_text gap ++ b ∷ rest)
  gap_outside (Beside width) before kind b rest f few h o = spaces_outside width b rest h o
  gap_outside (Tabbed width) before kind b rest f few h o = cc
  gap_outside (Below empty column) before kind b rest f few h o = below_outside empty column b rest few h o

  start_outside : (gap : Gap) (kind : Kind) (b : ℕ) (rest : List ℕ) → fits Start gap kind ≡ true → IsFew gap → is_blank b ≡ false → Outside holds (b ∷ rest) → Outside holds (start_text gap ++ b ∷ rest)
  start_outside (Beside width) kind b rest f few h o = o
  start_outside (Tabbed width) kind b rest f few h o = o
  start_outside (Below zero column) kind b rest f few h o = spaces_outside column b rest h o
  start_outside (Below (suc empty) column) kind b rest f few h o = below_outside empty column b rest (omega arith) h o

  begun : (x : Lexeme) (rest : List ℕ) → IsLexeme x → BeginsPlain (spelling x ++ rest)
  begun x rest s = begins_plain (spelling x ++ rest) x rest refl (no_blank x rest s) (λ none. spelt_some x rest s none)

  entries_outside : (before : Kind) (es : List Entry) → AreFit before es → AreTidy es → Outside holds (written_after es)
  entries_outside before [] are t = byte 10 refl refl refl pending.last nothing
  entries_outside before (e ∷ es) are t =
      let more = written_after es in
      let o = lexeme_outside e.lexeme more are.0 t.0 (entries_stop (kind_of e.lexeme) es are.2) (entries_outside (kind_of e.lexeme) es are.2 t.2) in
      let first = begun e.lexeme more are.0 in
      subst (λ xs. Outside holds (gap_text e.gap ++ xs)) (sym first.2) (gap_outside e.gap before (kind_of e.lexeme) first.0 first.1 are.1 t.1 first.3 (subst (Outside holds) first.2 o))

  document_outside : (es : List Entry) → AreFit Start es → AreTidy es → Outside holds (written es)
  document_outside [] are t = nothing
  document_outside (e ∷ es) are t =
      let more = written_after es in
      let o = lexeme_outside e.lexeme more are.0 t.0 (entries_stop (kind_of e.lexeme) es are.2) (entries_outside (kind_of e.lexeme) es are.2 t.2) in
      let first = begun e.lexeme more are.0 in
      subst (λ xs. Outside holds (start_text e.gap ++ xs)) (sym first.2) (start_outside e.gap (kind_of e.lexeme) first.0 first.1 are.1 t.1 first.3 (subst (Outside holds) first.2 o))

  tidy_outside : (text answer : List ℕ) → IsLaidOut text answer → Outside holds answer
  tidy_outside text answer t =
      let fit = placed_document_fits t.document (document_entries text t.document t.is_document) in
      subst (Outside holds) (sym t.is_written) (document_outside (placed t.document) fit (placed_tidy text_start t.document))

-- The two tests.

no_blank_first : (b : ℕ) → is_blank b ≡ false → (eqb b 32 || eqb b 9) ≡ false
unfolding is_blank
no_blank_first b h = grind (arith, nat_tests)

in_line_ends : (b : ℕ) → in_line b ≡ true → (eqb b 10 || eqb b 13) ≡ false
unfolding in_line
in_line_ends b h = grind (arith, nat_tests)

in_line_feed : (b : ℕ) → in_line b ≡ true → eqb b 10 ≡ false
unfolding in_line
in_line_feed b h = grind (arith, nat_tests)

no_end : (b ends : Bool) → ends ≡ false → not (b && ends) ≡ true
no_end true false e = refl
no_end false ends e = refl
no_end true true e = cc

not_first : (b ends : Bool) → b ≡ false → not (b && ends) ≡ true
not_first false ends e = refl
not_first true ends e = cc

ends_kept : IsKept ends_without_blank
ends_kept = record {
  plain = λ b rest h. not_first (eqb b 32 || eqb b 9) (ends_line rest) (no_blank_first b h);
  spaced = λ b rest h k. no_end true (eqb b 10 || eqb b 13) (rw (h, k) refl);
  last = refl;
  one = λ b rest h. refl;
  two = λ b rest h. refl;
  three = λ b rest h. refl;
  in_comment = λ b c rest h k. no_end (eqb b 32 || eqb b 9) (eqb c 10 || eqb c 13) (in_line_ends c k);
  comment_end = λ b rest h k. not_first (eqb b 32 || eqb b 9) (ends_line rest) k;
}

few_one : (b : ℕ) (rest : List ℕ) → eqb b 10 ≡ false → has_few_lines (b ∷ rest) ≡ true
few_one b [] h = refl
few_one b (c ∷ []) h = refl
few_one b (c ∷ d ∷ []) h = refl
few_one b (c ∷ d ∷ e ∷ rest) h = rw h refl

few_two : (b : ℕ) (rest : List ℕ) → eqb b 10 ≡ false → has_few_lines (10 ∷ b ∷ rest) ≡ true
few_two b [] h = refl
few_two b (c ∷ []) h = refl
few_two b (c ∷ d ∷ rest) h = rw h refl

few_three : (b : ℕ) (rest : List ℕ) → eqb b 10 ≡ false → has_few_lines (10 ∷ 10 ∷ b ∷ rest) ≡ true
few_three b [] h = refl
few_three b (c ∷ rest) h = rw h refl

few_four : (b : ℕ) (rest : List ℕ) → eqb b 10 ≡ false → has_few_lines (10 ∷ 10 ∷ 10 ∷ b ∷ rest) ≡ true
few_four b rest h = rw h refl

lines_kept : IsKept has_few_lines
lines_kept = record {
  plain = λ b rest h. few_one b rest (not_feed b h);
  spaced = λ b rest h k. few_one 32 (b ∷ rest) refl;
  last = refl;
  one = few_two;
  two = few_three;
  three = few_four;
  in_comment = λ b c rest h k. few_one b (c ∷ rest) (in_line_feed b h);
  comment_end = λ b rest h k. few_one b rest (in_line_feed b h);
}

pub no_blank_at_an_end : (text answer : List ℕ) → IsLaidOut text answer → Outside ends_without_blank answer
no_blank_at_an_end text answer t = tidy_outside ends_without_blank ends_kept text answer t

pub tidy_has_few_lines : (text answer : List ℕ) → IsLaidOut text answer → Outside has_few_lines answer
tidy_has_few_lines text answer t = tidy_outside has_few_lines lines_kept text answer t
