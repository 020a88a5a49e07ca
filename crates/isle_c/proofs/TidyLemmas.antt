-- A text that can be tidied has a document.
use Rattle.std.proofs.Common.{◌≡◌, ℕ, List, [], ◌∷◌, drop, false, true, refl, sym, ap, subst, ⊎_elim, ◌∙◌}
use Rattle.isle_base.specs.Skips.{Longest, is_blank}
use Rattle.isle_base.specs.Token.{symbol}
use Rattle.isle_tidy_core.proofs.Marks.{mark_here, mark_spelt, marked}
use Rattle.isle_tidy_core.specs.Ends.{body_of, stands_apart}
use Rattle.isle_tidy_core.specs.Grammar.{SpellsEntries, Spells, gap_of, lexemes, matches}
use Rattle.isle_tidy_core.specs.Refused.{HasDocument}
use Rattle.isle_tidy_core.specs.Tidied.{IsTidyTextOf}
use Rattle.isle_tidy_layout.specs.Entries.{Entry, atom}
use Rattle.isle_tidy_layout.specs.declared.entries.Gap.TheVariants.{Below, Beside}

behind : (rest : List ℕ) (es : List Entry) → SpellsEntries (Below 0 0) es rest → (fs : List Entry) × SpellsEntries (Beside 0) fs rest × (lexemes fs ≡ lexemes es)
behind rest [] s = ([], s, refl)
behind rest (e ∷ es) s =
    (record { gap = gap_of (Beside 0) s.0; lexeme = e.lexeme } ∷ es, (s.0, s.1, s.2, s.3, refl, s.5, s.6), refl)

no_blank : is_blank 239 ≡ false
unfolding is_blank
no_blank = refl

-- a mark that stands apart is a symbol before the others
marked_document : (rest : List ℕ) → stands_apart rest ≡ true → HasDocument rest → HasDocument (239 ∷ 187 ∷ 191 ∷ rest)
marked_document rest h (es, d) =
    let text : List ℕ = 239 ∷ 187 ∷ 191 ∷ rest in
    let others = behind rest es d.0 in
    let mark : Spells (atom (239 ∷ 187 ∷ 191 ∷ [])) (239 ∷ 187 ∷ 191 ∷ rest) rest = (symbol (239 ∷ 187 ∷ 191 ∷ []), refl, mark_spelt rest h, refl) in
    let none : Longest is_blank text [] text = record { split = refl; each = refl; stops = no_blank } in
    (record { gap = Below 0 0; lexeme = atom (239 ∷ 187 ∷ 191 ∷ []) } ∷ others.0, (([], text, rest, none, refl, mark, others.1), ap (matches 0) others.2 ∙ d.1))

pub tidied_document : (text answer : List ℕ) → IsTidyTextOf text answer → HasDocument text
tidied_document text answer t =
    ⊎_elim (λ none. subst HasDocument (ap (λ n. drop n text) none) (t.document, t.is_document))
    (λ is. subst HasDocument (sym is.1.0) (marked_document is.0 is.1.1 (subst HasDocument (ap body_of is.1.0 ∙ ap (λ n. drop n (239 ∷ 187 ∷ 191 ∷ is.0)) (mark_here is.0 is.1.1)) (t.document, t.is_document))))
    (marked text)
