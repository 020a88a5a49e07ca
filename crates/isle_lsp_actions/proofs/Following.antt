-- What is found text by text, and program by program.
use Rattle.std.proofs.Common.{◌≡◌, ◌∙◌, ℕ, ◌++◌, List, [], ◌∷◌, Option, ap, map, refl, subst, sym}
use Rattle.std.proofs.lemmas.List.{append_assoc}
use Rattle.isle_lsp_actions.specs.Expansions.{AreExpansions, IsExpansion, Use}
use Rattle.isle_lsp_actions.specs.Extractors.{AreExtractors, Extractor, extractors_from}
use Rattle.isle_lsp_actions.specs.Tokens.{AreTokens, lexeme_of}
use Rattle.isle_lsp_actions.specs.declared.tokens.Lexeme.{Lexeme as CodeLexeme}

-- the extractors of a text with these tokens, behind those of the texts before it
pub next_text : (left next texts : List (List ℕ)) (t name : List ℕ) (tokens read : List CodeLexeme) (old new : List (Option Extractor)) → left ≡ t ∷ next → AreTokens t (map lexeme_of tokens)
    → read ≡ tokens → new ≡ old ++ extractors_from t name 0 (map lexeme_of read) → ((rest : List (Option Extractor)) → AreExtractors left name rest → AreExtractors texts name (old ++ rest))
    → (rest : List (Option Extractor)) → AreExtractors next name rest → AreExtractors texts name (new ++ rest)
next_text left next texts t name tokens read old new e are same grown so_far rest others =
    let here : List (Option Extractor) = extractors_from t name 0 (map lexeme_of read) in
    let these : AreTokens t (map lexeme_of read) = subst (λ xs. AreTokens t (map lexeme_of xs)) (sym same) are in
    let first : AreExtractors (t ∷ next) name (here ++ rest) = (here, rest, (map lexeme_of read, these, refl), others, refl) in
    let more = so_far (here ++ rest) (subst (λ ts. AreExtractors ts name (here ++ rest)) (sym e) first) in
    subst (AreExtractors texts name) (sym (ap (λ found. found ++ rest) grown ∙ append_assoc old here rest)) more

-- the expansion in a program, behind those in the programs before it
pub next_program : (left next programs : List (List (List ℕ))) (p read : List (List ℕ)) (u : Use) (old new : List (Option (List ℕ))) (here : Option (List ℕ)) → left ≡ p ∷ next
    → IsExpansion read u here → read ≡ p → new ≡ old ++ here ∷ []
    → ((rest : List (Option (List ℕ))) → AreExpansions left u rest → AreExpansions programs u (old ++ rest))
    → (rest : List (Option (List ℕ))) → AreExpansions next u rest → AreExpansions programs u (new ++ rest)
next_program left next programs p read u old new here e is same grown so_far rest others =
    let first : AreExpansions (p ∷ next) u (here ∷ rest) = (here, rest, subst (λ texts. IsExpansion texts u here) same is, others, refl) in
    let more = so_far (here ∷ rest) (subst (λ ps. AreExpansions ps u (here ∷ rest)) (sym e) first) in
    subst (AreExpansions programs u) (sym (ap (λ news. news ++ rest) grown ∙ append_assoc old (here ∷ []) rest)) more
