-- Reading the entries of a text, one after the other.
use Rattle.std.proofs.Common.{◌≡◌, ◌<◌, ◌≤◌, ℕ, List, [], ◌∷◌, ◌++◌, true, false, drop, length, IsUtf8, refl, sym, ap, subst, ◌∙◌, arith, length-drop}
use Rattle.std.proofs.lemmas.Bool.{and_parts}
use Rattle.std.proofs.lemmas.List.{drop_all, append-nil}
use Rattle.std.specs.List.{list_all}
use Rattle.isle_base.specs.Skips.{Skip, nothing, blank, Longest, begins_with, is_blank}
use Rattle.isle_base.proofs.Runs.{Longest-unique}
use Rattle.isle_base.proofs.Utf8.{Skip-utf8}
use Rattle.isle_tidy_layout.specs.declared.entries.Entry.{Entry as Written}
use Rattle.isle_tidy_layout.specs.declared.entries.Gap.{Gap}
use Rattle.isle_tidy_layout.specs.declared.entries.Gap.TheVariants.{Beside}
use Rattle.isle_tidy_core.specs.declared.reader.Span.{Span}
use Rattle.isle_tidy_core.specs.declared.reader.Step.TheVariants.{More}
use Rattle.isle_tidy_layout.specs.Entries.{Lexeme, Entry}
use Rattle.isle_tidy_layout.specs.EntriesView.{lexeme_of, entry_of}
use Rattle.isle_tidy_core.specs.Finds.{SpellsNone, FindsGap, FindsEntry}
use Rattle.isle_tidy_core.specs.Grammar.{Spells, SpellsEntries}
use Rattle.isle_tidy_core.proofs.Unique.{Spells-unique, only_blanks}

blanks_skip : (text blanks rest : List ℕ) → text ≡ blanks ++ rest → list_all is_blank blanks ≡ true → Skip text rest
blanks_skip text [] rest e all = nothing e
blanks_skip text (b ∷ bs) rest e all =
    let parts = and_parts (is_blank b) (list_all is_blank bs) all in
    blank b e parts.0 (blanks_skip (bs ++ rest) bs rest refl parts.1)

pub gap_utf8 : (text : List ℕ) (from to : ℕ) (gap after : Gap) → FindsGap text gap from after to → IsUtf8 (drop from text) → IsUtf8 (drop to text)
gap_utf8 text from to gap after g utf8 = Skip-utf8 (blanks_skip (drop from text) g.0 (drop to text) g.1.split g.1.each) utf8

blank_text : (text blanks : List ℕ) → Longest is_blank text blanks [] → list_all is_blank text ≡ true
blank_text text blanks l = ap (list_all is_blank) (l.split ∙ append-nil blanks) ∙ l.each

pub ends_text : (text : List ℕ) (from to : ℕ) (gap after : Gap) → FindsGap text gap from after to → to ≡ length text → list_all is_blank (drop from text) ≡ true
ends_text text from to gap after g at_end =
    let nothing : drop to text ≡ [] = drop_all to text (omega arith) in
    blank_text (drop from text) g.0 (subst (λ xs. Longest is_blank (drop from text) g.0 xs) nothing g.1)

pub not_blank : (text : List ℕ) (from to : ℕ) (gap after : Gap) → FindsGap text gap from after to → begins_with is_blank (drop to text) ≡ false
not_blank text from to gap after g = g.1.stops

-- what goes on from an offset: an entry is there, and the same one
abbrev pub GoesOn : List ℕ → Lexeme → ℕ → List Entry → Type 0
GoesOn text x to es = (f : Entry) × (fs : List Entry) × (es ≡ f ∷ fs) × (f.lexeme ≡ x) × SpellsEntries (Beside 0) fs (drop to text)

blank_left : (text blanks : List ℕ) (from to : ℕ) → list_all is_blank (drop from text) ≡ true → Longest is_blank (drop from text) blanks (drop to text) → to < length text → ⊥
blank_left text blanks from to all l short =
    let whole : Longest is_blank (drop from text) (drop from text) [] = record { split = sym (append-nil (drop from text)); each = all; stops = refl } in
    let nothing : drop to text ≡ [] = (Longest-unique l whole).1 in
    absurd (omega (arith, ap length nothing, length-drop to text))

pub none_refuses : (text : List ℕ) (from to : ℕ) (gap after : Gap) → FindsGap text gap from after to → to ≤ length text → (to ≡ length text → ⊥) → SpellsNone (drop to text) → (es : List Entry) → SpellsEntries gap es (drop from text) → ⊥
none_refuses text from to gap after g within more never [] s = blank_left text g.0 from to s g.1 (omega arith)
none_refuses text from to gap after g within more never (e ∷ es) s =
    let same : s.1 ≡ drop to text = (Longest-unique s.3 g.1).1 in
    never e.lexeme s.2 (subst (λ xs. Spells e.lexeme xs s.2) same s.5)

-- one entry more
pub goes_on : (text : List ℕ) (gap : Gap) (from : ℕ) (e : Written) (span : Span) → FindsEntry text gap from (More e span) → (es : List Entry) → SpellsEntries gap es (drop from text) → (fs : List Entry) × SpellsEntries (Beside 0) fs (drop span.end text)
goes_on text gap from e span found [] s = absurd (only_blanks (lexeme_of e.lexeme) (drop from text) found.0.0 (drop span.start text) (drop span.end text) s found.0.1 found.1.0)
goes_on text gap from e span found (f ∷ fs) s =
    let same : s.1 ≡ drop span.start text = (Longest-unique s.3 found.0.1).1 in
    let ends = (Spells-unique f.lexeme (lexeme_of e.lexeme) (drop span.start text) s.2 (drop span.end text) (subst (λ xs. Spells f.lexeme xs s.2) same s.5) found.1.0).1 in
    (fs, subst (λ xs. SpellsEntries (Beside 0) fs xs) ends s.6)

pub one_more : (text : List ℕ) (gap : Gap) (from : ℕ) (e : Written) (span : Span) → FindsEntry text gap from (More e span) → (es : List Entry) → SpellsEntries (Beside 0) es (drop span.end text) → SpellsEntries gap (entry_of e ∷ es) (drop from text)
one_more text gap from e span found es s = (found.0.0, drop span.start text, drop span.end text, found.0.1, found.0.2, found.1.0, s)
