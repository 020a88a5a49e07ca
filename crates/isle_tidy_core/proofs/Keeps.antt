-- What can be written is the document of what is written.
use Rattle.std.proofs.Common.{◌≡◌, ℕ, zero, suc, ◌+◌, List, [], ◌∷◌, ◌++◌, replicate, true, false, ◌||◌, refl, sym, ap, ◌∙◌, eqb, arith}
use Rattle.std.proofs.lemmas.List.{append-nil}
use Rattle.std.proofs.lemmas.List.Folds.{list_all-append}
use Rattle.std.specs.List.{list_all}
use Rattle.isle_base.specs.Spellings.{Spelling, in_symbol}
use Rattle.isle_base.specs.Skips.{begins_with, in_line, is_blank, opens}
use Rattle.isle_base.specs.Token.{Tok, lparen, rparen, symbol, integer, at_sign as at_token, is_symbol, is_int}
use Rattle.isle_base.proofs.Bytes as bytes
use Rattle.isle_base.proofs.Complete.{Spelling-shorter}
use Rattle.isle_tidy_layout.specs.Entries.{Lexeme, opening, closing, at_sign, atom, line_comment, block_comment, Entry}
use Rattle.isle_tidy_layout.specs.declared.entries.Gap.{Gap}
use Rattle.isle_tidy_layout.specs.declared.entries.Gap.TheVariants.{Beside, Tabbed, Below}
use Rattle.isle_tidy_core.specs.Fitting.{IsAtom, IsLexeme, follows, fits, AreFit}
use Rattle.isle_tidy_core.specs.Grammar.{Spells, SpellsEntries, IsDocument, gap_of, matches, lexemes}
use Rattle.isle_tidy_layout.specs.Placing.{tidied, kind_of, closings, Here, placed_gap, reached, passed, placed_after, text_start, placed}
use Rattle.isle_tidy_layout.specs.declared.placing.Kind.{Kind}
use Rattle.isle_tidy_layout.specs.declared.placing.Kind.TheVariants.{Start, Open, Close, At, Atom, LineComment, BlockComment}
use Rattle.isle_tidy_layout.specs.Writing.{spelling, indentation, gap_text, start_text, written_after, written}
use Rattle.isle_tidy_core.proofs.Fitted.{placed_document_fits}
use Rattle.isle_tidy_core.proofs.Moved.{atom_moves, block_comment_moves}
use Rattle.isle_tidy_core.proofs.Spelt.{document_entries}

-- Blanks.

pub is_blank-10 : is_blank 10 ≡ true
unfolding is_blank
is_blank-10 = refl

is_blank-32 : is_blank 32 ≡ true
unfolding is_blank
is_blank-32 = refl

pub spaces_blank : (n : ℕ) → list_all is_blank (replicate n 32) ≡ true
spaces_blank zero = refl
spaces_blank (suc n) = rw is_blank-32 (spaces_blank n)

ends_blank : (n : ℕ) → list_all is_blank (replicate n 10) ≡ true
ends_blank zero = refl
ends_blank (suc n) = rw is_blank-10 (ends_blank n)

pub indentation_blank : (empty column : ℕ) → list_all is_blank (indentation empty column) ≡ true
indentation_blank empty column =
    rw (list_all-append is_blank (replicate empty 10) (replicate column 32), ends_blank empty, spaces_blank column) refl

gap_blank : (gap : Gap) → (before kind : Kind) → fits before gap kind ≡ true → list_all is_blank (gap_text gap) ≡ true
gap_blank (Beside width) before kind h = spaces_blank width
gap_blank (Tabbed width) before kind h = cc
gap_blank (Below empty column) before kind h = rw is_blank-10 (indentation_blank empty column)

-- The gap that blanks make.

pub spaces_beside : (width n : ℕ) → gap_of (Beside width) (replicate n 32) ≡ Beside (width + n)
spaces_beside width zero = ap Beside (omega arith)
spaces_beside width (suc n) = spaces_beside (suc width) n ∙ ap Beside (omega arith)

spaces_below : (empty column n : ℕ) → gap_of (Below empty column) (replicate n 32) ≡ Below empty (column + n)
spaces_below empty column zero = ap (Below empty) (omega arith)
spaces_below empty column (suc n) = spaces_below empty (suc column) n ∙ ap (Below empty) (omega arith)

pub indentation_gap : (empty n column : ℕ) → gap_of (Below empty 0) (indentation n column) ≡ Below (empty + n) column
indentation_gap empty zero column = spaces_below empty 0 column ∙ ap (λ k. Below k (0 + column)) (omega arith) ∙ ap (Below (empty + 0)) (omega arith)
indentation_gap empty (suc n) column = indentation_gap (suc empty) n column ∙ ap (λ k. Below k column) (omega arith)

read_gap : (gap : Gap) (before kind : Kind) → fits before gap kind ≡ true → gap ≡ gap_of (Beside 0) (gap_text gap)
read_gap (Beside width) before kind h = sym (spaces_beside 0 width ∙ ap Beside (omega arith))
read_gap (Tabbed width) before kind h = cc
read_gap (Below empty column) before kind h = sym (indentation_gap 0 empty column ∙ ap (λ k. Below k column) (omega arith))

-- Lexemes.

-- the first byte of a atom: no blank and no `;`
record AtomHead (bytes : List ℕ) : Type 0 where
  first : ℕ
  further : List ℕ
  is : bytes ≡ first ∷ further
  no_blank : is_blank first ≡ false
  no_semicolon : eqb first 59 ≡ false

head_of : (token : Tok) (b : ℕ) (bs : List ℕ) → (is_symbol token || is_int token) ≡ true → Spelling (b ∷ bs) token [] → AtomHead (b ∷ bs)
head_of lparen b bs is p = cc
head_of rparen b bs is p = cc
head_of at_token b bs is p = cc
head_of (symbol name) b bs is p = record {
  first = b;
  further = bs;
  is = refl;
  no_blank = bytes.symbol_not_blank b (bytes.symbol_stays b bs p.0);
  no_semicolon = bytes.symbol_ne_semicolon b (bytes.symbol_stays b bs p.0);
}
head_of (integer value) b bs is p = record {
  first = b;
  further = bs;
  is = refl;
  no_blank = bytes.literal_not_blank b p.begins;
  no_semicolon = bytes.literal_ne_semicolon b p.begins;
}

atom_head : (bs : List ℕ) → IsAtom bs → AtomHead bs
atom_head [] w = absurd (let less = Spelling-shorter [] w.0 [] w.2 in omega arith)
atom_head (b ∷ bs) w = head_of w.0 b bs w.1 w.2

pub no_blank : (x : Lexeme) (after : List ℕ) → IsLexeme x → begins_with is_blank (spelling x ++ after) ≡ false
unfolding is_blank
no_blank (atom bs) after s = let head = atom_head bs s in rw head.is head.no_blank
no_blank opening after s = refl
no_blank closing after s = refl
no_blank at_sign after s = refl
no_blank (line_comment bs) after s = refl
no_blank (block_comment bs) after s = refl

pub spelt_some : (x : Lexeme) (after : List ℕ) → IsLexeme x → spelling x ++ after ≡ [] → ⊥
spelt_some (atom bs) after s e = let head = atom_head bs s in let some : head.first ∷ (head.further ++ after) ≡ [] = ap (λ xs. xs ++ after) (sym head.is) ∙ e in cc
spelt_some opening after s e = cc
spelt_some closing after s e = cc
spelt_some at_sign after s e = cc
spelt_some (line_comment bs) after s e = cc
spelt_some (block_comment bs) after s e = cc

-- what follows a lexeme ends it
abbrev pub Stops : Kind → List ℕ → Type 0
Stops Open text = opens (40 ∷ text) ≡ false
Stops Atom text = begins_with in_symbol text ≡ false
Stops LineComment text = begins_with in_line text ≡ false
Stops _ text = Unit {0}

feed_stops : (kind : Kind) (text : List ℕ) → Stops kind (10 ∷ text)
unfolding is_blank in_symbol in_line
feed_stops Open text = refl
feed_stops Atom text = refl
feed_stops LineComment text = refl
feed_stops _ text = tt

space_stops : (kind : Kind) (text : List ℕ) → follows kind (Beside 1) ≡ true → Stops kind (32 ∷ text)
unfolding is_blank in_symbol in_line
space_stops Open text h = refl
space_stops Atom text h = refl
space_stops LineComment text h = cc
space_stops _ text h = tt

touch_stops : (before : Kind) (x : Lexeme) (after : List ℕ) → IsLexeme x → fits before (Beside 0) (kind_of x) ≡ true → Stops before (spelling x ++ after)
unfolding is_blank in_symbol in_line
touch_stops LineComment x after s h = cc
touch_stops Open (line_comment bs) after s h = cc
touch_stops Open (atom bs) after s h = let head = atom_head bs s in rw head.is head.no_semicolon
touch_stops Open opening after s h = refl
touch_stops Open closing after s h = refl
touch_stops Open at_sign after s h = refl
touch_stops Open (block_comment bs) after s h = refl
touch_stops Atom (atom bs) after s h = cc
touch_stops Atom opening after s h = refl
touch_stops Atom closing after s h = refl
touch_stops Atom at_sign after s h = refl
touch_stops Atom (line_comment bs) after s h = refl
touch_stops Atom (block_comment bs) after s h = refl
touch_stops Start x after s h = tt
touch_stops Close x after s h = tt
touch_stops At x after s h = tt
touch_stops BlockComment x after s h = tt

gap_stops : (before : Kind) (gap : Gap) (x : Lexeme) (after : List ℕ) → IsLexeme x → fits before gap (kind_of x) ≡ true → Stops before (gap_text gap ++ (spelling x ++ after))
gap_stops before (Beside zero) x after s h = touch_stops before x after s h
gap_stops before (Beside (suc width)) x after s h = space_stops before (replicate width 32 ++ (spelling x ++ after)) h
gap_stops before (Tabbed width) x after s h = cc
gap_stops before (Below empty column) x after s h = feed_stops before (indentation empty column ++ (spelling x ++ after))

pub entries_stop : (before : Kind) (es : List Entry) → AreFit before es → Stops before (written_after es)
entries_stop before [] are = feed_stops before []
entries_stop before (e ∷ es) are = gap_stops before e.gap e.lexeme (written_after es) are.0 are.1

spells : (x : Lexeme) (after : List ℕ) → IsLexeme x → Stops (kind_of x) after → Spells x (spelling x ++ after) after
spells opening after s stops = (refl, stops)
spells closing after s stops = refl
spells at_sign after s stops = refl
spells (atom bs) after s stops = (s.0, s.1, atom_moves s.0 bs bs [] after s.1 stops s.2 (sym (append-nil bs)), refl)
spells (line_comment bs) after s stops = (bs ++ after, refl, record { split = refl; each = s; stops = stops })
spells (block_comment bs) after s stops = (bs ++ after, refl, refl, block_comment_moves bs bs [] after (sym (append-nil bs)) s)

-- Entries.

entries_spelt : (before : Kind) (es : List Entry) → AreFit before es → SpellsEntries (Beside 0) es (written_after es)
unfolding is_blank
entries_spelt before [] are = refl
entries_spelt before (e ∷ es) are = (
  gap_text e.gap,
  spelling e.lexeme ++ written_after es,
  written_after es,
  record { split = refl; each = gap_blank e.gap before (kind_of e.lexeme) are.1; stops = no_blank e.lexeme (written_after es) are.0 },
  read_gap e.gap before (kind_of e.lexeme) are.1,
  spells e.lexeme (written_after es) are.0 (entries_stop (kind_of e.lexeme) es are.2),
  entries_spelt (kind_of e.lexeme) es are.2,
)

start_blank : (gap : Gap) (kind : Kind) → fits Start gap kind ≡ true → list_all is_blank (start_text gap) ≡ true
start_blank (Beside width) kind h = refl
start_blank (Tabbed width) kind h = refl
start_blank (Below empty column) kind h = indentation_blank empty column

no_start : (width : ℕ) (kind : Kind) → fits Start (Beside width) kind ≡ true → ⊥
no_start zero kind h = cc
no_start (suc width) kind h = cc

read_start : (gap : Gap) (kind : Kind) → fits Start gap kind ≡ true → gap ≡ gap_of (Below 0 0) (start_text gap)
read_start (Beside width) kind h = absurd (no_start width kind h)
read_start (Tabbed width) kind h = cc
read_start (Below empty column) kind h = sym (indentation_gap 0 empty column ∙ ap (λ k. Below k column) (omega arith))

pub document_spelt : (es : List Entry) → AreFit Start es → SpellsEntries (Below 0 0) es (written es)
document_spelt [] are = refl
document_spelt (e ∷ es) are = (
  start_text e.gap,
  spelling e.lexeme ++ written_after es,
  written_after es,
  record { split = refl; each = start_blank e.gap (kind_of e.lexeme) are.1; stops = no_blank e.lexeme (written_after es) are.0 },
  read_start e.gap (kind_of e.lexeme) are.1,
  spells e.lexeme (written_after es) are.0 (entries_stop (kind_of e.lexeme) es are.2),
  entries_spelt (kind_of e.lexeme) es are.2,
)

-- Parentheses.

tidied_matches : (x : Lexeme) (depth : ℕ) (xs ys : List Lexeme) → ((n : ℕ) → matches n xs ≡ matches n ys) → matches depth (tidied x ∷ xs) ≡ matches depth (x ∷ ys)
tidied_matches opening depth xs ys h = h (suc depth)
tidied_matches closing zero xs ys h = refl
tidied_matches closing (suc depth) xs ys h = h depth
tidied_matches at_sign depth xs ys h = h depth
tidied_matches (atom bs) depth xs ys h = h depth
tidied_matches (line_comment bs) depth xs ys h = h depth
tidied_matches (block_comment bs) depth xs ys h = h depth

placed_matches : (es : List Entry) (here : Here) (depth : ℕ) → matches depth (lexemes (placed_after here es)) ≡ matches depth (lexemes es)
placed_matches [] here depth = refl
placed_matches (e ∷ es) here depth =
    let kind = kind_of e.lexeme in
    let gap = placed_gap here e.gap kind (closings es) in
    let there = passed (reached here kind e.gap gap) e.lexeme in
    tidied_matches e.lexeme depth (lexemes (placed_after there es)) (lexemes es) (λ n. placed_matches es there n)

pub placed_keeps : (text : List ℕ) (es : List Entry) → IsDocument text es → IsDocument (written (placed es)) (placed es)
placed_keeps text es d =
    (document_spelt (placed es) (placed_document_fits es (document_entries text es d)), placed_matches es text_start 0 ∙ d.1)
