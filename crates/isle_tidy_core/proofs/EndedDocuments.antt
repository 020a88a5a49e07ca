-- The document of a text with other line ends.
use Rattle.std.proofs.Common.{◌≡◌, ⊎_elim, ℕ, zero, suc, List, [], ◌∷◌, ◌++◌, map, Bool, true, false, ◌&&◌, ◌||◌, cond, eqb, length, None, refl, sym, ap, subst, ◌∙◌, arith}
use Rattle.std.proofs.lemmas.Bool.{and_parts, and_right, both_ways, cases_Bool, cond_both, eqb-true, not-true}
use Rattle.std.specs.List.{list_all}
use Rattle.isle_base.specs.Literals.{in_literal, prefix_radix, radix_of}
use Rattle.isle_base.specs.Spellings.{Spelling, in_symbol}
use Rattle.isle_base.specs.Skips.{Inside, ends, byte, nested, Longest, begins_with, in_line, is_blank, opens, closes}
use Rattle.isle_base.specs.Token.{Tok, lparen, rparen, symbol, integer, at_sign as at_token, is_symbol, is_int}
use Rattle.isle_base.proofs.Bytes.{opens_not, other_byte}
use Rattle.isle_base.proofs.Comments.{Inside-shorter}
use Rattle.isle_tidy_core.specs.Ends.{is_feed, is_no_return, end_bytes, with_ends, lexeme_with, entries_with}
use Rattle.isle_tidy_core.specs.Fitting.{IsAtom}
use Rattle.isle_tidy_core.specs.Grammar.{Spells, SpellsEntries, IsDocument, gap_of, lexemes, line_more, matches, space_more, tab_more}
use Rattle.isle_tidy_core.specs.declared.ends.LineEnd.{LineEnd}
use Rattle.isle_tidy_core.specs.declared.ends.LineEnd.TheVariants.{Lf, CrLf}
use Rattle.isle_tidy_core.proofs.LineEnds.{first_by, begins_kept, ends_append, ends_run, ends_step, first_kept, no_feed_there, splits, splits_before}
use Rattle.isle_tidy_core.proofs.Keeps.{is_blank-10}
use Rattle.isle_tidy_core.proofs.Moved.{KeepsBare, atom_moves, integer_moves}
use Rattle.isle_tidy_core.proofs.Outside.{atom_in}
use Rattle.isle_tidy_core.proofs.Spelt.{spelt_lexeme}
use Rattle.isle_tidy_layout.specs.Entries.{Lexeme, opening, closing, at_sign, atom, line_comment, block_comment, Entry}
use Rattle.isle_tidy_layout.specs.declared.entries.Gap.{Gap}
use Rattle.isle_tidy_layout.specs.declared.entries.Gap.TheVariants.{Beside, Below}

-- Blanks.

gap_end : (e : LineEnd) (gap : Gap) (bs : List ℕ) → gap_of gap (end_bytes e ++ bs) ≡ gap_of (line_more gap) bs
gap_end Lf gap bs = refl
gap_end CrLf gap bs = refl

gap_other : (gap : Gap) (b : ℕ) (bs : List ℕ) → eqb b 10 ≡ false → eqb b 13 ≡ false → gap_of gap (b ∷ bs) ≡ gap_of (cond (eqb b 9) (tab_more gap) (space_more gap)) bs
gap_other gap b bs no_feed no_return = rw (no_feed, no_return) refl

pub gap_kept : (e : LineEnd) (gap : Gap) (bs : List ℕ) → gap_of gap (with_ends e bs) ≡ gap_of gap bs
gap_kept e gap [] = refl
gap_kept e gap (b ∷ bs) =
    let more = with_ends e bs in
    let next = cond (eqb b 9) (tab_more gap) (space_more gap) in
    ends_step e b bs (λ xs. gap_of gap xs ≡ gap_of gap (b ∷ bs))
    (λ is. let here : gap_of gap (b ∷ bs) ≡ gap_of (line_more gap) bs = rw is refl in gap_end e gap more ∙ gap_kept e (line_more gap) bs ∙ sym here)
    (λ is feed. let here : gap_of gap (b ∷ bs) ≡ gap_of gap bs = rw (no_feed_there b is, is, feed) refl in gap_kept e gap bs ∙ sym here)
    (λ is none. let here : gap_of gap (b ∷ bs) ≡ gap_of (line_more gap) bs = rw (no_feed_there b is, is, none) refl in gap_end e gap more ∙ gap_kept e (line_more gap) bs ∙ sym here)
    (λ no_feed no. gap_other gap b more no_feed no ∙ gap_kept e next bs ∙ sym (gap_other gap b bs no_feed no))

is_blank-13 : is_blank 13 ≡ true
unfolding is_blank
is_blank-13 = refl

blank_end : (e : LineEnd) (bs : List ℕ) → list_all is_blank bs ≡ true → list_all is_blank (end_bytes e ++ bs) ≡ true
blank_end Lf bs all = rw is_blank-10 all
blank_end CrLf bs all = rw (is_blank-13, is_blank-10) all

pub blanks_kept : (e : LineEnd) (bs : List ℕ) → list_all is_blank bs ≡ true → list_all is_blank (with_ends e bs) ≡ true
blanks_kept e [] all = refl
blanks_kept e (b ∷ bs) all =
    let parts = and_parts (is_blank b) (list_all is_blank bs) all in
    let more = blanks_kept e bs parts.1 in
    ends_step e b bs (λ xs. list_all is_blank xs ≡ true) (λ _. blank_end e (with_ends e bs) more) (λ _ _. more) (λ _ _. blank_end e (with_ends e bs) more) (λ _ _. rw parts.0 more)

no_end : (b : ℕ) → is_blank b ≡ false → (eqb b 10 ≡ true → ⊥) × (eqb b 13 ≡ true → ⊥)
no_end b h =
    (λ is. both_ways (is_blank b) h (ap is_blank (eqb-true b 10 is) ∙ is_blank-10), λ is. both_ways (is_blank b) h (ap is_blank (eqb-true b 13 is) ∙ is_blank-13))

-- behind blanks
stops_blank : (e : LineEnd) (text : List ℕ) → begins_with is_blank text ≡ false → begins_with is_blank (with_ends e text) ≡ false
stops_blank e [] h = refl
stops_blank e (b ∷ bs) h =
    let no = no_end b h in
    ends_step e b bs (λ xs. begins_with is_blank xs ≡ false) (λ is. absurd (no.0 is)) (λ is _. absurd (no.1 is)) (λ is _. absurd (no.1 is)) (λ _ _. h)

stops_feed : (text : List ℕ) → begins_with is_blank text ≡ false → begins_with is_feed text ≡ false
stops_feed [] h = refl
stops_feed (b ∷ bs) h = ⊎_elim (λ is. absurd ((no_end b h).0 is)) (λ no. no) (cases_Bool (eqb b 10))

pub blanks_longest : (e : LineEnd) (text blanks from : List ℕ) → Longest is_blank text blanks from → Longest is_blank (with_ends e text) (with_ends e blanks) (with_ends e from)
blanks_longest e text blanks from l = record {
  split = ap (with_ends e) l.split ∙ ends_append e blanks from (splits_before blanks from (stops_feed from l.stops));
  each = blanks_kept e blanks l.each;
  stops = stops_blank e from l.stops;
}

-- Block comments.

opens_by : (b : ℕ) (text : List ℕ) → opens (b ∷ text) ≡ (eqb b 40 && begins_with (λ c. eqb c 59) text)
opens_by b [] = sym (and_right (eqb b 40) false refl)
opens_by b (c ∷ cs) = refl

pub opens_kept : (e : LineEnd) (b : ℕ) (text : List ℕ) → opens (b ∷ with_ends e text) ≡ opens (b ∷ text)
opens_kept e b text = opens_by b (with_ends e text) ∙ ap (λ t. eqb b 40 && t) (begins_kept (λ c. eqb c 59) e text refl refl) ∙ sym (opens_by b text)

closes_by : (b : ℕ) (text : List ℕ) → closes (b ∷ text) ≡ (eqb b 59 && begins_with (λ c. eqb c 41) text)
closes_by b [] = sym (and_right (eqb b 59) false refl)
closes_by b (c ∷ cs) = refl

closes_kept : (e : LineEnd) (b : ℕ) (text : List ℕ) → closes (b ∷ with_ends e text) ≡ closes (b ∷ text)
closes_kept e b text = closes_by b (with_ends e text) ∙ ap (λ t. eqb b 59 && t) (begins_kept (λ c. eqb c 41) e text refl refl) ∙ sym (closes_by b text)

closes_not : (b : ℕ) (text : List ℕ) → eqb b 59 ≡ false → closes (b ∷ text) ≡ false
closes_not b text h = closes_by b text ∙ ap (λ t. t && begins_with (λ c. eqb c 41) text) h

inside_feed : (text rest : List ℕ) → Inside text rest → Inside (10 ∷ text) rest
inside_feed text rest i = byte 10 refl (opens_not 10 text refl) (closes_not 10 text refl) i

inside_end : (e : LineEnd) (text rest : List ℕ) → Inside text rest → Inside (end_bytes e ++ text) rest
inside_end Lf text rest i = inside_feed text rest i
inside_end CrLf text rest i = byte 13 refl (opens_not 13 (10 ∷ text) refl) (closes_not 13 (10 ∷ text) refl) (inside_feed text rest i)

byte_inside : (e : LineEnd) (b : ℕ) (text rest : List ℕ) → opens (b ∷ text) ≡ false → closes (b ∷ text) ≡ false → Inside (with_ends e text) rest → Inside (with_ends e (b ∷ text)) rest
byte_inside e b text rest o c i =
    ends_step e b text (λ xs. Inside xs rest) (λ _. inside_end e (with_ends e text) rest i) (λ _ _. i) (λ _ _. inside_end e (with_ends e text) rest i)
    (λ _ _. byte b refl (opens_kept e b text ∙ o) (closes_kept e b text ∙ c) i)

pub inside_kept : (e : LineEnd) {text rest : List ℕ} → Inside text rest → Inside (with_ends e text) (with_ends e rest)
inside_kept e (ends h) = ends (ap (with_ends e) h)
inside_kept e (byte {after = after} {rest = rest} b h o c i) =
    subst (λ xs. Inside (with_ends e xs) (with_ends e rest)) (sym h) (byte_inside e b after (with_ends e rest) (sym (ap opens h) ∙ o) (sym (ap closes h) ∙ c) (inside_kept e i))
inside_kept e (nested h i j) = nested (ap (with_ends e) h) (inside_kept e i) (inside_kept e j)

-- the last byte is no CR
abbrev ends_apart : List ℕ → Bool
ends_apart [] = true
ends_apart (b ∷ []) = is_no_return b
ends_apart (b ∷ c ∷ cs) = ends_apart (c ∷ cs)

splits_apart : (xs ys : List ℕ) → ends_apart xs ≡ true → splits xs ys ≡ true
splits_apart [] ys h = refl
splits_apart (b ∷ []) ys h = rw (not-true (eqb b 13) h) refl
splits_apart (b ∷ c ∷ cs) ys h = splits_apart (c ∷ cs) ys h

apart_more : (b : ℕ) (bs : List ℕ) → (bs ≡ [] → ⊥) → ends_apart bs ≡ true → ends_apart (b ∷ bs) ≡ true
apart_more b [] some h = absurd (some refl)
apart_more b (c ∷ cs) some h = h

inside_some : {text rest : List ℕ} → Inside text rest → text ≡ [] → ⊥
inside_some i e = absurd (omega (arith, Inside-shorter i, ap length e))

closed_apart : (rest : List ℕ) → ends_apart rest ≡ true → ends_apart (59 ∷ 41 ∷ rest) ≡ true
closed_apart [] h = refl
closed_apart (b ∷ bs) h = h

inside_apart : {text rest : List ℕ} → Inside text rest → ends_apart rest ≡ true → ends_apart text ≡ true
inside_apart (ends {rest = rest} e) h = ap ends_apart e ∙ closed_apart rest h
inside_apart (byte {after = after} b e o c i) h = ap ends_apart e ∙ apart_more b after (inside_some i) (inside_apart i h)
inside_apart (nested {inner = inner} e i j) h =
    ap ends_apart e ∙ apart_more 40 (59 ∷ inner) (λ none. cc) (apart_more 59 inner (inside_some i) (inside_apart i (inside_apart j h)))

-- Atoms.

symbol_in_line : (b : ℕ) → in_symbol b ≡ true → in_line b ≡ true
unfolding in_symbol is_blank in_line
symbol_in_line b h = rw (other_byte in_symbol b 10 h refl, other_byte in_symbol b 13 h refl) refl

symbols_in_line : (bs : List ℕ) → list_all in_symbol bs ≡ true → list_all in_line bs ≡ true
symbols_in_line [] all = refl
symbols_in_line (b ∷ bs) all =
    let parts = and_parts (in_symbol b) (list_all in_symbol bs) all in
    rw (symbol_in_line b parts.0) (symbols_in_line bs parts.1)

atom_in_line : (bytes : List ℕ) → IsAtom bytes → list_all in_line bytes ≡ true
atom_in_line bytes is = symbols_in_line bytes (atom_in bytes is)

stops_symbol : (e : LineEnd) (text : List ℕ) → begins_with in_symbol text ≡ false → begins_with in_symbol (with_ends e text) ≡ false
unfolding in_symbol is_blank
stops_symbol e text h = begins_kept in_symbol e text refl refl ∙ h

stops_literal : (e : LineEnd) (text : List ℕ) → begins_with in_literal text ≡ false → begins_with in_literal (with_ends e text) ≡ false
unfolding in_literal
stops_literal e text h = begins_kept in_literal e text refl refl ∙ h

radix_none : (b c : ℕ) → radix_of c ≡ None → cond (eqb b 48) (radix_of c) None ≡ None
radix_none b c h = cond_both (eqb b 48) (radix_of c) None (λ r. r ≡ None) (λ _. h) (λ _. refl)

radix_by : (b : ℕ) (text : List ℕ) → prefix_radix (b ∷ text) ≡ first_by (λ c. cond (eqb b 48) (radix_of c) None) None text
radix_by b [] = refl
radix_by b (c ∷ cs) = refl

no_radix : (radix_of 10 ≡ None) × (radix_of 13 ≡ None)
unfolding radix_of
no_radix = (refl, refl)

keeps_bare : (e : LineEnd) (text : List ℕ) → KeepsBare text (with_ends e text)
keeps_bare e text = λ b none.
    radix_by b (with_ends e text) ∙ first_kept (λ c. cond (eqb b 48) (radix_of c) None) None e text (radix_none b 10 no_radix.0) (radix_none b 13 no_radix.1) ∙ sym (radix_by b text) ∙ none

atom_kept : (e : LineEnd) (token : Tok) (bytes text rest : List ℕ) → (is_symbol token || is_int token) ≡ true → Spelling text token rest → text ≡ bytes ++ rest → Spelling (bytes ++ with_ends e rest) token (with_ends e rest)
atom_kept e lparen bytes text rest is p d = cc
atom_kept e rparen bytes text rest is p d = cc
atom_kept e at_token bytes text rest is p d = cc
atom_kept e (symbol name) bytes text rest is p d = atom_moves (symbol name) bytes text rest (with_ends e rest) refl (stops_symbol e rest p.1.stops) p d
atom_kept e (integer value) bytes text rest is p d = integer_moves bytes text rest (with_ends e rest) value (stops_literal e rest p.longest.stops) (keeps_bare e rest) p d

-- Lexemes.

stops_line : (e : LineEnd) (text : List ℕ) → begins_with in_line text ≡ false → begins_with in_line (with_ends e text) ≡ false
unfolding in_line
stops_line e text h = begins_kept in_line e text refl refl ∙ h

pub lexeme_kept : (e : LineEnd) (x : Lexeme) (text rest : List ℕ) → Spells x text rest → Spells (lexeme_with e x) (with_ends e text) (with_ends e rest)
lexeme_kept e opening text rest s =
    let here : with_ends e text ≡ 40 ∷ with_ends e rest = ap (with_ends e) s.0 in
    (here, ap opens here ∙ opens_kept e 40 rest ∙ sym (ap opens s.0) ∙ s.1)
lexeme_kept e closing text rest s = ap (with_ends e) s
lexeme_kept e at_sign text rest s = ap (with_ends e) s
lexeme_kept e (atom bytes) text rest s =
    let here : with_ends e text ≡ bytes ++ with_ends e rest = ap (with_ends e) s.3 ∙ ends_run e bytes rest (atom_in_line bytes (spelt_lexeme (atom bytes) text rest s)) in
    (s.0, s.1, subst (λ xs. Spelling xs s.0 (with_ends e rest)) (sym here) (atom_kept e s.0 bytes text rest s.1 s.2 s.3), here)
lexeme_kept e (line_comment bytes) text rest s = (
  with_ends e s.0,
  ap (with_ends e) s.1,
  record { split = ap (with_ends e) s.2.split ∙ ends_run e bytes rest s.2.each; each = s.2.each; stops = stops_line e rest s.2.stops },
)
lexeme_kept e (block_comment bytes) text rest s =
    let inside : Inside bytes [] = spelt_lexeme (block_comment bytes) text rest s in (
      with_ends e s.0,
      ap (with_ends e) s.1,
      ap (with_ends e) s.2 ∙ ends_append e bytes rest (splits_apart bytes rest (inside_apart inside refl)),
      inside_kept e s.3,
    )

-- Entries.

pub entries_kept : (e : LineEnd) (gap : Gap) (es : List Entry) (text : List ℕ) → SpellsEntries gap es text → SpellsEntries gap (entries_with e es) (with_ends e text)
entries_kept e gap [] text s = blanks_kept e text s
entries_kept e gap (x ∷ xs) text s = (
  with_ends e s.0,
  with_ends e s.1,
  with_ends e s.2,
  blanks_longest e text s.0 s.1 s.3,
  s.4 ∙ sym (gap_kept e gap s.0),
  lexeme_kept e x.lexeme s.1 s.2 s.5,
  entries_kept e (Beside 0) xs s.2 s.6,
)

pub lexemes_kept : (e : LineEnd) (es : List Entry) → lexemes (entries_with e es) ≡ map (lexeme_with e) (lexemes es)
lexemes_kept e [] = refl
lexemes_kept e (x ∷ xs) = ap (λ ys. lexeme_with e x.lexeme ∷ ys) (lexemes_kept e xs)

match_kept : (e : LineEnd) (x : Lexeme) (depth : ℕ) (xs ys : List Lexeme) → ((n : ℕ) → matches n xs ≡ matches n ys) → matches depth (lexeme_with e x ∷ xs) ≡ matches depth (x ∷ ys)
match_kept e opening depth xs ys h = h (suc depth)
match_kept e closing zero xs ys h = refl
match_kept e closing (suc depth) xs ys h = h depth
match_kept e at_sign depth xs ys h = h depth
match_kept e (atom bs) depth xs ys h = h depth
match_kept e (line_comment bs) depth xs ys h = h depth
match_kept e (block_comment bs) depth xs ys h = h depth

matches_kept : (e : LineEnd) (es : List Entry) (depth : ℕ) → matches depth (lexemes (entries_with e es)) ≡ matches depth (lexemes es)
matches_kept e [] depth = refl
matches_kept e (x ∷ xs) depth = match_kept e x.lexeme depth (lexemes (entries_with e xs)) (lexemes xs) (λ n. matches_kept e xs n)

pub document_kept : (e : LineEnd) (text : List ℕ) (document : List Entry) → IsDocument text document → IsDocument (with_ends e text) (entries_with e document)
document_kept e text document d = (entries_kept e (Below 0 0) document text d.0, matches_kept e document 0 ∙ d.1)
