-- A first look at a text: blanks, and then a lexeme.
use Rattle.std.proofs.Common.{◌≡◌, ◌+◌, ◌-◌, ◌<◌, ◌≤◌, ℕ, List, [], ◌∷◌, true, drop, take, get_or, length, cond, refl, ap, ◌∙◌, subst, arith}
use Rattle.std.proofs.lemmas.List.{drop_more}
use Rattle.std.specs.List.{prefix_len}
use Rattle.isle_base.specs.Skips.{is_blank}
use Rattle.isle_tidy_layout.specs.Entries.{Lexeme, Entry}
use Rattle.isle_tidy_layout.specs.declared.entries.Gap.{Gap}
use Rattle.isle_tidy_layout.specs.declared.entries.Gap.TheVariants.{Beside}
use Rattle.isle_tidy_core.specs.Finds.{FindsGap, Stands}
use Rattle.isle_tidy_core.specs.Grammar.{SpellsEntries, gap_of, lexemes, matches}
use Rattle.isle_tidy_core.specs.Refused.{HasDocument}
use Rattle.isle_tidy_core.proofs.CanonicalBlanks.{past_space}
use Rattle.isle_tidy_core.proofs.Listing.{ends_text}
use Rattle.isle_tidy_core.proofs.Standing.{run_taken}

space_blank : is_blank 32 ≡ true
unfolding is_blank
space_blank = refl

pub no_blank_here : (text : List ℕ) (at : ℕ) → at < length text → 32 < get_or text at 0 → at ≡ at + prefix_len is_blank (drop at text)
no_blank_here text at short h =
    let none : prefix_len is_blank (drop at text) ≡ 0 = ap (prefix_len is_blank) (drop_more text at 0 short) ∙ ap (λ b. cond b (1 + prefix_len is_blank (drop (at + 1) text)) 0) (past_space (get_or text at 0) h) in
    omega (arith, none)

pub one_blank_here : (text : List ℕ) (at : ℕ) → at + 1 < length text → get_or text at 0 ≡ 32 → 32 < get_or text (at + 1) 0 → at + 1 ≡ at + prefix_len is_blank (drop at text)
one_blank_here text at short is h =
    let none = no_blank_here text (at + 1) short h in
    let blank : is_blank (get_or text at 0) ≡ true = ap is_blank is ∙ space_blank in
    let one : prefix_len is_blank (drop at text) ≡ 1 + prefix_len is_blank (drop (at + 1) text) =
    ap (prefix_len is_blank) (drop_more text at 0 (omega arith)) ∙ ap (λ b. cond b (1 + prefix_len is_blank (drop (at + 1) text)) 0) blank in
    omega (arith, none, one)

pub finds_blanks : (text : List ℕ) (gap : Gap) (at start : ℕ) → start ≡ at + prefix_len is_blank (drop at text) → start ≤ length text → FindsGap text gap at (gap_of gap (take (start - at) (drop at text))) start
finds_blanks text gap at start e within = (take (start - at) (drop at text), run_taken is_blank text at start e, refl, omega (arith, e), within)

-- whatever entries go on here, and match what is open, end a document
abbrev pub EndDocuments : (text : List ℕ) (depth at : ℕ) → Gap → Type 0
EndDocuments text depth at gap = (es : List Entry) → SpellsEntries gap es (drop at text) → matches depth (lexemes es) ≡ true → HasDocument text

pub more_end : (text : List ℕ) (depth at start end after : ℕ) (gap next : Gap) (x : Lexeme) → EndDocuments text depth at gap → FindsGap text gap at next start → Stands text x start end → ((xs : List Lexeme) → matches depth (x ∷ xs) ≡ matches after xs) → EndDocuments text after end (Beside 0)
more_end text depth at start end after gap next x ends found stands count = λ es s m.
    let e : Entry = record { gap = next; lexeme = x } in
    ends (e ∷ es) (found.0, drop start text, drop end text, found.1, found.2, stands.0, s) (count (lexemes es) ∙ m)

pub all_end : (text : List ℕ) (depth at start : ℕ) (gap next : Gap) → EndDocuments text depth at gap → FindsGap text gap at next start → start ≡ length text → depth ≡ 0 → HasDocument text
all_end text depth at start gap next ends found whole none = ends [] (ends_text text at start gap next found whole) (ap (λ n. matches n []) none)

-- the blanks of a text that is looked at as bytes
pub looked : (text bytes : List ℕ) (gap : Gap) (at start : ℕ) → bytes ≡ text → start ≡ at + prefix_len is_blank (drop at bytes) → start ≤ length bytes → FindsGap text gap at (gap_of gap (take (start - at) (drop at text))) start
looked text bytes gap at start same e within =
    finds_blanks text gap at start (subst (λ xs. start ≡ at + prefix_len is_blank (drop at xs)) same e) (subst (λ xs. start ≤ length xs) same within)
