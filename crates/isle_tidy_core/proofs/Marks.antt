-- The byte order mark of a text.
use Rattle.std.proofs.Common.{◌≡◌, ◌⊎◌, inl, inr, ⊎_elim, ℕ, zero, suc, List, [], ◌∷◌, ◌++◌, true, false, ◌&&◌, cond, eqb, replicate, refl, sym, ap, subst, ◌∙◌, arith}
use Rattle.std.proofs.lemmas.Bool.{and_parts, and_right, both_ways, cases_Bool, eqb-true, or_cases}
use Rattle.std.specs.List.{list_all}
use Rattle.isle_base.specs.Literals.{begins_literal}
use Rattle.isle_base.specs.Spellings.{Spelling, begins_symbol, in_symbol}
use Rattle.isle_base.specs.Skips.{Longest, begins_with, is_blank}
use Rattle.isle_base.specs.Token.{symbol}
use Rattle.isle_base.proofs.Bytes as bytes
use Rattle.isle_base.proofs.Complete.{Spelling-shorter}
use Rattle.isle_tidy_core.specs.Ends.{is_feed, end_bytes, mark_size, stands_apart, with_ends}
use Rattle.isle_tidy_core.specs.Fitting.{IsAtom, IsLexeme}
use Rattle.isle_tidy_core.specs.Grammar.{Spells, SpellsEntries, IsDocument, gap_of, lexemes, matches}
use Rattle.isle_tidy_core.specs.Refused.{HasDocument}
use Rattle.isle_tidy_core.specs.declared.ends.LineEnd.{LineEnd}
use Rattle.isle_tidy_core.specs.declared.ends.LineEnd.TheVariants.{Lf, CrLf}
use Rattle.isle_tidy_core.proofs.LineEnds.{ends_step}
use Rattle.isle_tidy_core.proofs.Outside.{atom_in}
use Rattle.isle_tidy_core.proofs.Spelt.{document_entries, spelt_lexeme}
use Rattle.isle_tidy_core.proofs.Unique.{Spells-unique, nothing_spelt}
use Rattle.isle_tidy_layout.specs.Entries.{Lexeme, opening, closing, at_sign, atom, line_comment, block_comment, Entry}
use Rattle.isle_tidy_layout.specs.Placing.{tidied, kind_of, closings, Here, some, placed_gap, reached, passed, placed_after, result_width, room, text_start, placed, trimmed}
use Rattle.isle_tidy_layout.specs.Writing.{spelling, indentation, gap_text, start_text, written_after, written}
use Rattle.isle_tidy_layout.specs.declared.entries.Gap.{Gap}
use Rattle.isle_tidy_layout.specs.declared.entries.Gap.TheVariants.{Beside, Tabbed, Below}
use Rattle.isle_tidy_layout.specs.declared.placing.Kind.TheVariants.{Atom}

-- this is behind the mark of a text
abbrev pub IsMarked : (text rest : List ℕ) → Type 0
IsMarked text rest = (text ≡ 239 ∷ 187 ∷ 191 ∷ rest) × (stands_apart rest ≡ true)

is_marked : (a b c : ℕ) (rest : List ℕ) → (eqb a 239 && (eqb b 187 && (eqb c 191 && stands_apart rest))) ≡ true → IsMarked (a ∷ b ∷ c ∷ rest) rest
is_marked a b c rest h =
    let first = and_parts (eqb a 239) (eqb b 187 && (eqb c 191 && stands_apart rest)) h in
    let second = and_parts (eqb b 187) (eqb c 191 && stands_apart rest) first.1 in
    let third = and_parts (eqb c 191) (stands_apart rest) second.1 in
    (ap (λ x. x ∷ b ∷ c ∷ rest) (eqb-true a 239 first.0) ∙ ap (λ x. 239 ∷ x ∷ c ∷ rest) (eqb-true b 187 second.0) ∙ ap (λ x. 239 ∷ 187 ∷ x ∷ rest) (eqb-true c 191 third.0), third.1)

pub marked : (text : List ℕ) → (mark_size text ≡ 0) ⊎ ((rest : List ℕ) × IsMarked text rest)
marked [] = inl refl
marked (a ∷ []) = inl refl
marked (a ∷ b ∷ []) = inl refl
marked (a ∷ b ∷ c ∷ rest) =
    ⊎_elim (λ is. inr (rest, is_marked a b c rest is)) (λ no. inl (ap (λ t. cond t 3 0) no)) (cases_Bool (eqb a 239 && (eqb b 187 && (eqb c 191 && stands_apart rest))))

pub mark_here : (rest : List ℕ) → stands_apart rest ≡ true → mark_size (239 ∷ 187 ∷ 191 ∷ rest) ≡ 3
mark_here rest h = ap (λ t. cond t 3 0) h

-- No mark is where one of its bytes is another, or where it does not stand apart.

no_first : (a : ℕ) (rest : List ℕ) → eqb a 239 ≡ false → mark_size (a ∷ rest) ≡ 0
no_first a [] h = refl
no_first a (b ∷ []) h = refl
no_first a (b ∷ c ∷ rest) h = rw h refl

no_second : (a b : ℕ) (rest : List ℕ) → eqb b 187 ≡ false → mark_size (a ∷ b ∷ rest) ≡ 0
no_second a b [] h = refl
no_second a b (c ∷ rest) h = ap (λ t. cond (eqb a 239 && (t && (eqb c 191 && stands_apart rest))) 3 0) h ∙ ap (λ t. cond t 3 0) (and_right (eqb a 239) false refl)

no_third : (a b c : ℕ) (rest : List ℕ) → eqb c 191 ≡ false → mark_size (a ∷ b ∷ c ∷ rest) ≡ 0
no_third a b c rest h =
    ap (λ t. cond (eqb a 239 && (eqb b 187 && (t && stands_apart rest))) 3 0) h ∙ ap (λ t. cond t 3 0) (and_right (eqb a 239) (eqb b 187 && false) (and_right (eqb b 187) false refl))

no_fourth : (a b c : ℕ) (rest : List ℕ) → stands_apart rest ≡ false → mark_size (a ∷ b ∷ c ∷ rest) ≡ 0
no_fourth a b c rest h =
    ap (λ t. cond (eqb a 239 && (eqb b 187 && (eqb c 191 && t))) 3 0) h
    ∙ ap (λ t. cond t 3 0) (and_right (eqb a 239) (eqb b 187 && (eqb c 191 && false)) (and_right (eqb b 187) (eqb c 191 && false) (and_right (eqb c 191) false refl)))

-- Other line ends change no mark.

-- Of the rest of a text this has one value where a line end begins, and another byte decides it alike whatever
-- line ends follow.
module _ {A : Type 0} (e : LineEnd) (f : List ℕ → A) (d : A) (feed : (xs : List ℕ) → f (10 ∷ xs) ≡ d) (return : (xs : List ℕ) → f (13 ∷ xs) ≡ d) where
  end_at : (k : LineEnd) (xs : List ℕ) → f (end_bytes k ++ xs) ≡ d
  end_at Lf xs = feed xs
  end_at CrLf xs = return (10 ∷ xs)

  feed_at : (xs : List ℕ) → begins_with is_feed xs ≡ true → f xs ≡ d
  feed_at [] h = cc
  feed_at (c ∷ cs) h = ap (λ x. f (x ∷ cs)) (eqb-true c 10 h) ∙ feed cs

  level : ((b : ℕ) (bs : List ℕ) → f (b ∷ with_ends e bs) ≡ f (b ∷ bs)) → (text : List ℕ) → f (with_ends e text) ≡ f text
  level more [] = refl
  level more (b ∷ bs) =
      ends_step e b bs (λ xs. f xs ≡ f (b ∷ bs))
      (λ is. end_at e (with_ends e bs) ∙ sym (ap (λ c. f (c ∷ bs)) (eqb-true b 10 is) ∙ feed bs))
      (λ is next. level more bs ∙ feed_at bs next ∙ sym (ap (λ c. f (c ∷ bs)) (eqb-true b 13 is) ∙ return bs))
      (λ is _. end_at e (with_ends e bs) ∙ sym (ap (λ c. f (c ∷ bs)) (eqb-true b 13 is) ∙ return bs))
      (λ _ _. more b bs)

pub apart_kept : (e : LineEnd) (text : List ℕ) → stands_apart (with_ends e text) ≡ stands_apart text
apart_kept e text = level e stands_apart false (λ xs. refl) (λ xs. refl) (λ b bs. refl) text

pub mark_kept : (e : LineEnd) (text : List ℕ) → mark_size (with_ends e text) ≡ mark_size text
mark_kept e text =
    level e mark_size 0 (λ xs. no_first 10 xs refl) (λ xs. no_first 13 xs refl)
    (λ a tail. level e (λ xs. mark_size (a ∷ xs)) 0 (λ xs. no_second a 10 xs refl) (λ xs. no_second a 13 xs refl)
    (λ b bs. level e (λ xs. mark_size (a ∷ b ∷ xs)) 0 (λ xs. no_third a b 10 xs refl) (λ xs. no_third a b 13 xs refl)
    (λ c cs. ap (λ t. cond (eqb a 239 && (eqb b 187 && (eqb c 191 && t))) 3 0) (apart_kept e cs)) bs) tail) text

-- No mark is before what is written of a document.

-- before this, bytes that are not these make no mark
abbrev MakesNoMark : List ℕ → Type 0
MakesNoMark rest =
    (mark_size rest ≡ 0) × ((a : ℕ) → mark_size (a ∷ rest) ≡ 0) × ((a b : ℕ) → mark_size (a ∷ b ∷ rest) ≡ 0) × ((a b c : ℕ) → mark_size (a ∷ b ∷ c ∷ rest) ≡ 0)

makes_none : (r : ℕ) (rest : List ℕ) → eqb r 239 ≡ false → eqb r 187 ≡ false → eqb r 191 ≡ false → stands_apart (r ∷ rest) ≡ false → MakesNoMark (r ∷ rest)
makes_none r rest one two three four =
    (no_first r rest one, λ a. no_second a r rest two, λ a b. no_third a b r rest three, λ a b c. no_fourth a b c (r ∷ rest) four)

spaces_make_none : (width : ℕ) (rest : List ℕ) → MakesNoMark (replicate (suc width) 32 ++ rest)
spaces_make_none width rest = makes_none 32 (replicate width 32 ++ rest) refl refl refl refl

some_makes_none : (width : ℕ) (rest : List ℕ) → MakesNoMark (replicate (result_width some width) 32 ++ rest)
some_makes_none zero rest = spaces_make_none 0 rest
some_makes_none (suc width) rest = spaces_make_none width rest

any_makes_none : (width : ℕ) (rest : List ℕ) → MakesNoMark (replicate width 32 ++ (64 ∷ rest))
any_makes_none zero rest = makes_none 64 rest refl refl refl refl
any_makes_none (suc width) rest = spaces_make_none width (64 ∷ rest)

beside_makes_none : (width : ℕ) (x : Lexeme) (rest : List ℕ) → MakesNoMark (replicate (result_width (room Atom (kind_of x)) width) 32 ++ (spelling (tidied x) ++ rest))
beside_makes_none width opening rest = some_makes_none width (40 ∷ rest)
beside_makes_none width closing rest = makes_none 41 rest refl refl refl refl
beside_makes_none width at_sign rest = any_makes_none width rest
beside_makes_none width (atom bs) rest = some_makes_none width (bs ++ rest)
beside_makes_none width (line_comment bs) rest = some_makes_none width (spelling (tidied (line_comment bs)) ++ rest)
beside_makes_none width (block_comment bs) rest = some_makes_none width (40 ∷ 59 ∷ bs ++ rest)

gap_makes_none : (here : Here) (gap : Gap) (x : Lexeme) (count : ℕ) (rest : List ℕ) → here.before ≡ Atom → MakesNoMark (gap_text (placed_gap here gap (kind_of x) count) ++ (spelling (tidied x) ++ rest))
gap_makes_none here (Beside width) x count rest is = subst (λ k. MakesNoMark (replicate (result_width (room k (kind_of x)) width) 32 ++ (spelling (tidied x) ++ rest))) (sym is) (beside_makes_none width x rest)
gap_makes_none here (Tabbed width) x count rest is = subst (λ k. MakesNoMark (replicate (result_width (room k (kind_of x)) 1) 32 ++ (spelling (tidied x) ++ rest))) (sym is) (beside_makes_none 1 x rest)
gap_makes_none here (Below empty column) x count rest is = makes_none 10 _ refl refl refl refl

after_makes_none : (here : Here) (es : List Entry) → here.before ≡ Atom → MakesNoMark (written_after (placed_after here es))
after_makes_none here [] is = makes_none 10 [] refl refl refl refl
after_makes_none here (e ∷ es) is =
    let gap = placed_gap here e.gap (kind_of e.lexeme) (closings es) in
    gap_makes_none here e.gap e.lexeme (closings es) (written_after (placed_after (passed (reached here (kind_of e.lexeme) e.gap gap) e.lexeme) es)) is

symbol_apart : (b : ℕ) (rest : List ℕ) → in_symbol b ≡ true → stands_apart (b ∷ rest) ≡ false
symbol_apart b rest h = rw (bytes.symbol_ne_open b h, bytes.symbol_ne_semicolon b h) refl

-- an atom, and what follows it
atom_no_mark : (bs rest : List ℕ) → list_all in_symbol bs ≡ true → MakesNoMark rest → mark_size (bs ++ rest) ≡ 0
atom_no_mark [] rest all makes = makes.0
atom_no_mark (a ∷ []) rest all makes = makes.1 a
atom_no_mark (a ∷ b ∷ []) rest all makes = makes.2 a b
atom_no_mark (a ∷ b ∷ c ∷ []) rest all makes = makes.3 a b c
atom_no_mark (a ∷ b ∷ c ∷ d ∷ ds) rest all makes =
    let first = and_parts (in_symbol a) (list_all in_symbol (b ∷ c ∷ d ∷ ds)) all in
    let second = and_parts (in_symbol b) (list_all in_symbol (c ∷ d ∷ ds)) first.1 in
    let third = and_parts (in_symbol c) (list_all in_symbol (d ∷ ds)) second.1 in
    let fourth = and_parts (in_symbol d) (list_all in_symbol ds) third.1 in
    no_fourth a b c (d ∷ (ds ++ rest)) (symbol_apart d (ds ++ rest) fourth.0)

lexeme_no_mark : (x : Lexeme) (here : Here) (es : List Entry) → IsLexeme x → here.before ≡ kind_of x → mark_size (spelling (tidied x) ++ written_after (placed_after here es)) ≡ 0
lexeme_no_mark opening here es s is = no_first 40 (written_after (placed_after here es)) refl
lexeme_no_mark closing here es s is = no_first 41 (written_after (placed_after here es)) refl
lexeme_no_mark at_sign here es s is = no_first 64 (written_after (placed_after here es)) refl
lexeme_no_mark (atom bs) here es s is = atom_no_mark bs (written_after (placed_after here es)) (atom_in bs s) (after_makes_none here es is)
lexeme_no_mark (line_comment bs) here es s is = no_first 59 (trimmed bs ++ written_after (placed_after here es)) refl
lexeme_no_mark (block_comment bs) here es s is = no_first 40 (59 ∷ bs ++ written_after (placed_after here es)) refl

start_no_mark : (gap : Gap) (text : List ℕ) → mark_size text ≡ 0 → mark_size (start_text gap ++ text) ≡ 0
start_no_mark (Beside width) text h = h
start_no_mark (Tabbed width) text h = h
start_no_mark (Below zero zero) text h = h
start_no_mark (Below zero (suc column)) text h = no_first 32 (replicate column 32 ++ text) refl
start_no_mark (Below (suc empty) column) text h = no_first 10 (indentation empty column ++ text) refl

pub placed_no_mark : (text : List ℕ) (es : List Entry) → IsDocument text es → mark_size (written (placed es)) ≡ 0
placed_no_mark text [] d = refl
placed_no_mark text (e ∷ es) d =
    let kind = kind_of e.lexeme in
    let gap = placed_gap text_start e.gap kind (closings es) in
    let there = passed (reached text_start kind e.gap gap) e.lexeme in
    let first : IsLexeme e.lexeme = (document_entries text (e ∷ es) d).0 in
    start_no_mark gap (spelling (tidied e.lexeme) ++ written_after (placed_after there es)) (lexeme_no_mark e.lexeme there es first refl)

-- Behind a mark, what is written of the document stands apart, too.

-- a byte before which there is no blank
no_blanks : (b : ℕ) (bs blanks from : List ℕ) → is_blank b ≡ false → Longest is_blank (b ∷ bs) blanks from → from ≡ b ∷ bs
no_blanks b bs [] from is l = sym l.split
no_blanks b bs (c ∷ cs) from is l =
    let same : b ≡ c = cc in
    let each = and_parts (is_blank c) (list_all is_blank cs) l.each in
    absurd (both_ways (is_blank b) is (ap is_blank same ∙ each.0))

-- a lexeme that begins with `(` or `;`
abbrev StandsApart : Lexeme → Type 0
StandsApart opening = Unit {0}
StandsApart closing = ⊥
StandsApart at_sign = ⊥
StandsApart (atom bytes) = ⊥
StandsApart (line_comment bytes) = Unit {0}
StandsApart (block_comment bytes) = Unit {0}

another_byte : (b c : ℕ) → stands_apart (b ∷ []) ≡ true → b ≡ c → stands_apart (c ∷ []) ≡ false → ⊥
another_byte b c h same k = both_ways (stands_apart (c ∷ [])) k (sym (ap (λ x. stands_apart (x ∷ [])) same) ∙ h)

no_atom : (b : ℕ) (bs bytes after : List ℕ) → IsAtom bytes → stands_apart (b ∷ []) ≡ true → b ∷ bs ≡ bytes ++ after → ⊥
no_atom b bs [] after is h e = let less = Spelling-shorter [] is.0 [] is.2 in omega arith
no_atom b bs (c ∷ cs) after is h e =
    let same : b ≡ c = cc in
    another_byte b c h same (symbol_apart c [] (and_parts (in_symbol c) (list_all in_symbol cs) (atom_in (c ∷ cs) is)).0)

spelt_apart : (x : Lexeme) (b : ℕ) (bs after : List ℕ) → stands_apart (b ∷ []) ≡ true → Spells x (b ∷ bs) after → StandsApart x
spelt_apart opening b bs after h s = tt
spelt_apart closing b bs after h s = let same : b ≡ 41 = cc in another_byte b 41 h same refl
spelt_apart at_sign b bs after h s = let same : b ≡ 64 = cc in another_byte b 64 h same refl
spelt_apart (atom bytes) b bs after h s = no_atom b bs bytes after (spelt_lexeme (atom bytes) (b ∷ bs) after s) h s.3
spelt_apart (line_comment bytes) b bs after h s = tt
spelt_apart (block_comment bytes) b bs after h s = tt

apart_start : (gap : Gap) (x : Lexeme) (count : ℕ) (rest : List ℕ) → StandsApart x → stands_apart (start_text (placed_gap text_start gap (kind_of x) count) ++ (spelling (tidied x) ++ rest)) ≡ true
apart_start (Beside width) opening count rest h = refl
apart_start (Tabbed width) opening count rest h = refl
apart_start (Below empty column) opening count rest h = refl
apart_start gap closing count rest h = absurd h
apart_start gap at_sign count rest h = absurd h
apart_start gap (atom bs) count rest h = absurd h
apart_start (Beside width) (line_comment bs) count rest h = refl
apart_start (Tabbed width) (line_comment bs) count rest h = refl
apart_start (Below empty column) (line_comment bs) count rest h = refl
apart_start (Beside width) (block_comment bs) count rest h = refl
apart_start (Tabbed width) (block_comment bs) count rest h = refl
apart_start (Below empty column) (block_comment bs) count rest h = refl

apart_byte : (b : ℕ) → stands_apart (b ∷ []) ≡ true → is_blank b ≡ false
unfolding is_blank
apart_byte b h =
    ⊎_elim (λ is. ap is_blank (eqb-true b 40 is)) (λ is. ap is_blank (eqb-true b 59 is)) (or_cases (eqb b 40) (eqb b 59) h)

nothing_left : (x : Lexeme) (blanks from after : List ℕ) → Longest is_blank [] blanks from → Spells x from after → ⊥
nothing_left x [] from after l s = nothing_spelt x after (subst (λ xs. Spells x xs after) (sym l.split) s)
nothing_left x (b ∷ bs) from after l s = let none : [] ≡ b ∷ (bs ++ from) = l.split in cc

pub apart_written : (text : List ℕ) (es : List Entry) → IsDocument text es → stands_apart text ≡ true → stands_apart (written (placed es)) ≡ true
apart_written text [] d h = refl
apart_written [] (e ∷ es) d h = absurd (nothing_left e.lexeme d.0.0 d.0.1 d.0.2 d.0.3 d.0.5)
apart_written (b ∷ bs) (e ∷ es) d h =
    let here : d.0.1 ≡ b ∷ bs = no_blanks b bs d.0.0 d.0.1 (apart_byte b h) d.0.3 in
    let gap = placed_gap text_start e.gap (kind_of e.lexeme) (closings es) in
    apart_start e.gap e.lexeme (closings es) (written_after (placed_after (passed (reached text_start (kind_of e.lexeme) e.gap gap) e.lexeme) es))
    (spelt_apart e.lexeme b bs d.0.2 h (subst (λ xs. Spells e.lexeme xs d.0.2) here d.0.5))

-- To the lexer the mark is a symbol.

stops_apart : (rest : List ℕ) → stands_apart rest ≡ true → begins_with in_symbol rest ≡ false
unfolding in_symbol is_blank
stops_apart [] h = refl
stops_apart (b ∷ bs) h =
    ⊎_elim (λ is. ap in_symbol (eqb-true b 40 is)) (λ is. ap in_symbol (eqb-true b 59 is)) (or_cases (eqb b 40) (eqb b 59) h)

mark_in_symbol : list_all in_symbol (239 ∷ 187 ∷ 191 ∷ []) ≡ true
unfolding in_symbol is_blank
mark_in_symbol = refl

mark_begins : begins_symbol 239 ≡ true
unfolding begins_symbol in_symbol is_blank begins_literal
mark_begins = refl

pub mark_spelt : (rest : List ℕ) → stands_apart rest ≡ true → Spelling (239 ∷ 187 ∷ 191 ∷ rest) (symbol (239 ∷ 187 ∷ 191 ∷ [])) rest
mark_spelt rest h = (rw mark_begins refl, record { split = refl; each = mark_in_symbol; stops = stops_apart rest h })

-- The document behind it.

regapped : (gap next : Gap) (es : List Entry) (text : List ℕ) → SpellsEntries gap es text → (fs : List Entry) × SpellsEntries next fs text × (lexemes fs ≡ lexemes es)
regapped gap next [] text s = ([], s, refl)
regapped gap next (e ∷ es) text s =
    (record { gap = gap_of next s.0; lexeme = e.lexeme } ∷ es, (s.0, s.1, s.2, s.3, refl, s.5, s.6), refl)

no_blank_mark : is_blank 239 ≡ false
unfolding is_blank
no_blank_mark = refl

pub behind_mark : (rest : List ℕ) → stands_apart rest ≡ true → HasDocument (239 ∷ 187 ∷ 191 ∷ rest) → HasDocument rest
behind_mark rest h ([], d) = absurd (both_ways (is_blank 239) no_blank_mark (and_parts (is_blank 239) (list_all is_blank (187 ∷ 191 ∷ rest)) d.0).0)
behind_mark rest h (e ∷ es, d) =
    let text = 239 ∷ 187 ∷ 191 ∷ rest in
    let here : d.0.1 ≡ 239 ∷ 187 ∷ 191 ∷ rest = no_blanks 239 (187 ∷ 191 ∷ rest) d.0.0 d.0.1 no_blank_mark d.0.3 in
    let mark : Spells (atom (239 ∷ 187 ∷ 191 ∷ [])) (239 ∷ 187 ∷ 191 ∷ rest) rest = (symbol (239 ∷ 187 ∷ 191 ∷ []), refl, mark_spelt rest h, refl) in
    let same = Spells-unique e.lexeme (atom (239 ∷ 187 ∷ 191 ∷ [])) (239 ∷ 187 ∷ 191 ∷ rest) d.0.2 rest (subst (λ xs. Spells e.lexeme xs d.0.2) here d.0.5) mark in
    let others = regapped (Beside 0) (Below 0 0) es rest (subst (λ xs. SpellsEntries (Beside 0) es xs) same.1 d.0.6) in
    let matched : matches 0 (lexemes es) ≡ true = sym (ap (λ x. matches 0 (x ∷ lexemes es)) same.0) ∙ d.1 in
    (others.0, (others.1, ap (matches 0) others.2 ∙ matched))
