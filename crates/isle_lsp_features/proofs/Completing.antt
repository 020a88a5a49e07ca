-- The words of a completion without those that have the text of the one before, and labels of constants.
use Rattle.std.proofs.Common.{◌≡◌, ◌≢◌, ◌==◌, ◌∙◌, ℕ, List, [], ◌∷◌, Bool, true, Some, None, ap, map, refl, sym, string_bytes, inl, inr}
use Rattle.std.specs.List.{dedup, dedup_from}
use Rattle.std.specs.Str.{bytes_eq}
use Rattle.std.proofs.lemmas.Bool.{cases_Bool, eqb-true}
use Rattle.std.proofs.lemmas.Slice.Eq.{bytes_eq-Decides}
use Rattle.isle_lsp_features.specs.Completed.{WordNode, constant_of, once, word_of}
use Rattle.isle_lsp_features.specs.declared.completion.Word.{Word}

-- whether a word has the text of the last one that is kept
abbrev pub has_text_of : Word → Word → Bool
has_text_of w kept = bytes_eq (string_bytes kept.text) (string_bytes w.text)

-- the last word may be one that is not kept: its text is the same
kept_behind : (last : WordNode) (kept : Word) (ws : List Word) → last.text ≡ string_bytes kept.text →
    map word_of (dedup_from has_text_of kept ws) ≡ word_of kept ∷ once (Some last) (map word_of ws)
kept_behind last kept [] e = refl
kept_behind last kept (w ∷ ws) e =
    elim (cases_Bool (has_text_of w kept)) [
      | inl same ↦
          let again : bytes_eq last.text (string_bytes w.text) ≡ true = ap (λ t. bytes_eq t (string_bytes w.text)) e ∙ same in
          rw (same, again) (kept_behind (word_of w) kept ws (sym ((bytes_eq-Decides _ _).0 same)))
      | inr other ↦
          let fresh = ap (λ t. bytes_eq t (string_bytes w.text)) e ∙ other in
          rw (other, fresh) (ap (λ vs. word_of kept ∷ vs) (kept_behind (word_of w) w ws refl))
    ]

pub kept_once : (ws : List Word) → map word_of (dedup has_text_of ws) ≡ once None (map word_of ws)
kept_once [] = refl
kept_once (w ∷ ws) = kept_behind (word_of w) w ws refl

-- a label without a sign names no constant
pub no_sign : (label : List ℕ) → ((rest : List ℕ) → label ≢ 36 ∷ rest) → constant_of label ≡ None
no_sign [] h = refl
no_sign (b ∷ name) h =
    elim (cases_Bool (b == 36)) [
      | inl e ↦ absurd (h name (ap (λ x. x ∷ name) (eqb-true b 36 e)))
      | inr e ↦ rw e refl
    ]
