-- A text has one document.
use Rattle.std.proofs.Common.{◌≡◌, ℕ, ◌<◌, List, [], ◌∷◌, ◌||◌, true, false, cond, length, refl, sym, ap, subst, ◌∙◌, eqb, arith, append-nil}
use Rattle.std.specs.List.{list_all}
use Rattle.isle_base.specs.Spellings.{Spelling}
use Rattle.isle_base.specs.Skips.{Inside, Longest, in_line, is_blank, opens}
use Rattle.isle_base.specs.Token.{Tok, lparen, rparen, symbol, integer, at_sign as at_token, is_int, is_symbol}
use Rattle.isle_base.proofs.Bytes as bytes
use Rattle.isle_base.proofs.Comments.{Inside-unique}
use Rattle.isle_base.proofs.Runs.{Longest-unique}
use Rattle.isle_tidy_layout.specs.Entries.{Lexeme, opening, closing, at_sign, atom, line_comment, block_comment, Entry}
use Rattle.isle_tidy_layout.specs.declared.entries.Gap.{Gap}
use Rattle.isle_tidy_layout.specs.declared.entries.Gap.TheVariants.{Beside, Below}
use Rattle.isle_tidy_core.specs.Grammar.{Spells, SpellsEntries, IsDocument, gap_of}
use Rattle.isle_tidy_core.proofs.Atoms.{Spelling-unique, same_ends}

-- The first bytes tell which lexeme may stand here.

abbrev form_of : Lexeme → ℕ
form_of (atom _) = 0
form_of at_sign = 1
form_of (line_comment _) = 2
form_of (block_comment _) = 3
form_of opening = 4
form_of closing = 5

abbrev form_at : List ℕ → ℕ
form_at [] = 6
form_at (b ∷ rest) =
    cond (eqb b 41) 5 (cond (eqb b 59) 2 (cond (eqb b 64) 1 (cond (eqb b 40) (cond (opens (b ∷ rest)) 3 4) 0)))

atom_form : (b : ℕ) (rest : List ℕ) → eqb b 41 ≡ false → eqb b 59 ≡ false → eqb b 64 ≡ false → eqb b 40 ≡ false → form_at (b ∷ rest) ≡ 0
atom_form b rest no_close no_line no_at no_open = rw (no_close, no_line, no_at, no_open) refl

spelling_form : (text : List ℕ) (token : Tok) (rest : List ℕ) → (is_symbol token || is_int token) ≡ true → Spelling text token rest → form_at text ≡ 0
spelling_form text lparen rest h p = cc
spelling_form text rparen rest h p = cc
spelling_form text at_token rest h p = cc
spelling_form [] (symbol name) rest h p = let begins = p.0 in cc
spelling_form (b ∷ tail) (symbol name) rest h p =
    let stays = bytes.symbol_stays b tail p.0 in
    atom_form b tail (bytes.symbol_ne_close b stays) (bytes.symbol_ne_semicolon b stays) (bytes.symbol_ne_at b stays) (bytes.symbol_ne_open b stays)
spelling_form [] (integer value) rest h p = let begins = p.begins in cc
spelling_form (b ∷ tail) (integer value) rest h p =
    atom_form b tail (bytes.literal_ne_close b p.begins) (bytes.literal_ne_semicolon b p.begins) (bytes.literal_ne_at b p.begins) (bytes.literal_ne_open b p.begins)

opening_form : (text rest : List ℕ) → text ≡ 40 ∷ rest → opens text ≡ false → form_at text ≡ 4
opening_form text rest e h =
    let closed : opens (40 ∷ rest) ≡ false = sym (ap opens e) ∙ h in
    let here : form_at (40 ∷ rest) ≡ 4 = rw closed refl in
    ap form_at e ∙ here

Spells-form : (x : Lexeme) (text rest : List ℕ) → Spells x text rest → form_at text ≡ form_of x
Spells-form (atom bytes) text rest s = spelling_form text s.0 rest s.1 s.2
Spells-form at_sign text rest s = ap form_at s
Spells-form (line_comment bytes) text rest s = ap form_at s.1
Spells-form (block_comment bytes) text rest s = ap form_at s.1
Spells-form opening text rest s = opening_form text rest s.0 s.1
Spells-form closing text rest s = ap form_at s

form_below : (x : Lexeme) → form_of x < 6
form_below (atom _) = omega arith
form_below at_sign = omega arith
form_below (line_comment _) = omega arith
form_below (block_comment _) = omega arith
form_below opening = omega arith
form_below closing = omega arith

pub nothing_spelt : (x : Lexeme) (rest : List ℕ) → Spells x [] rest → ⊥
nothing_spelt x rest s = absurd (omega (arith, Spells-form x [] rest s, form_below x))

other_form : (x y : Lexeme) (text rest behind : List ℕ) → Spells x text rest → Spells y text behind → form_of x ≡ form_of y
other_form x y text rest behind s t = sym (Spells-form x text rest s) ∙ Spells-form y text behind t

pub Spells-unique : (x y : Lexeme) (text rest behind : List ℕ) → Spells x text rest → Spells y text behind → (x ≡ y) × (rest ≡ behind)
Spells-unique (atom bytes) (atom others) text rest behind s t =
    let ends = (Spelling-unique text s.0 t.0 rest behind s.2 t.2).1 in
    let same = same_ends bytes others rest behind (sym s.3 ∙ t.3) ends in
    (ap atom same.0, same.1)
Spells-unique at_sign at_sign text rest behind s t = let e : rest ≡ behind = cc in (refl, e)
Spells-unique opening opening text rest behind s t = let e : rest ≡ behind = cc in (refl, e)
Spells-unique closing closing text rest behind s t = let e : rest ≡ behind = cc in (refl, e)
Spells-unique (line_comment bytes) (line_comment others) text rest behind s t =
    let inner : s.0 ≡ t.0 = cc in
    let same = Longest-unique s.2 (subst (λ xs. Longest in_line xs others behind) (sym inner) t.2) in
    (ap line_comment same.0, same.1)
Spells-unique (block_comment bytes) (block_comment others) text rest behind s t =
    let inner : s.0 ≡ t.0 = cc in
    let ends = Inside-unique s.3 (subst (λ xs. Inside xs behind) (sym inner) t.3) in
    let same = same_ends bytes others rest behind (sym s.2 ∙ inner ∙ t.2) (ap length ends) in
    (ap block_comment same.0, ends)
Spells-unique x y text rest behind s t = absurd (omega (arith, other_form x y text rest behind s t))

all_blank : (text : List ℕ) → list_all is_blank text ≡ true → Longest is_blank text text []
all_blank text h = record { split = sym (append-nil text); each = h; stops = refl }

-- behind all blanks of a text nothing is left to spell
pub only_blanks : (x : Lexeme) (text blanks from after : List ℕ) → list_all is_blank text ≡ true → Longest is_blank text blanks from → Spells x from after → ⊥
only_blanks x text blanks from after h l s =
    let nothing : from ≡ [] = (Longest-unique l (all_blank text h)).1 in
    nothing_spelt x after (subst (λ xs. Spells x xs after) nothing s)

same_entry : (e f : Entry) → e.gap ≡ f.gap → e.lexeme ≡ f.lexeme → e ≡ f
same_entry e f g x = ap (λ (gap : Gap). let r : Entry = record { gap = gap; lexeme = e.lexeme } in r) g ∙ ap (λ (lexeme : Lexeme). let r : Entry = record { gap = f.gap; lexeme = lexeme } in r) x

pub SpellsEntries-unique : (gap : Gap) (es fs : List Entry) (text : List ℕ) → SpellsEntries gap es text → SpellsEntries gap fs text → es ≡ fs
SpellsEntries-unique gap [] [] text s t = refl
SpellsEntries-unique gap [] (f ∷ fs) text s t = absurd (only_blanks f.lexeme text t.0 t.1 t.2 s t.3 t.5)
SpellsEntries-unique gap (e ∷ es) [] text s t = absurd (only_blanks e.lexeme text s.0 s.1 s.2 t s.3 s.5)
SpellsEntries-unique gap (e ∷ es) (f ∷ fs) text s t =
    let run = Longest-unique s.3 t.3 in
    let first = Spells-unique e.lexeme f.lexeme s.1 s.2 t.2 s.5 (subst (λ xs. Spells f.lexeme xs t.2) (sym run.1) t.5) in
    let more = SpellsEntries-unique (Beside 0) es fs s.2 s.6 (subst (λ xs. SpellsEntries (Beside 0) fs xs) (sym first.1) t.6) in
    let gaps : e.gap ≡ f.gap = s.4 ∙ ap (gap_of gap) run.0 ∙ sym t.4 in
    ap (λ x. x ∷ es) (same_entry e f gaps first.0) ∙ ap (λ xs. f ∷ xs) more

pub IsDocument-unique : (text : List ℕ) (es fs : List Entry) → IsDocument text es → IsDocument text fs → es ≡ fs
IsDocument-unique text es fs s t = SpellsEntries-unique (Below 0 0) es fs text s.0 t.0
