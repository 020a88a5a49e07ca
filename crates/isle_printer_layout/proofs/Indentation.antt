-- The indentation of a line, one level more.
use Rattle.std.proofs.Common.{◌≡◌, ℕ, ◌+◌, ◌*◌, List, ◌∷◌, ◌++◌, replicate, codes, ap, ◌∙◌, append_assoc, arith}
use Rattle.std.proofs.lemmas.List.{replicate-append-replicate}

indentation_more : (n : ℕ) → replicate (4 * n) 32 ++ codes "    " ≡ replicate (4 * (n + 1)) 32
indentation_more n =
    replicate-append-replicate (4 * n) 4 32 ∙ ap (λ k. replicate k 32) (omega arith)

pub new_line_more : (text : List ℕ) (n : ℕ) → (text ++ 10 ∷ replicate (4 * n) 32) ++ codes "    " ≡ text ++ 10 ∷ replicate (4 * (n + 1)) 32
new_line_more text n = append_assoc text (10 ∷ replicate (4 * n) 32) (codes "    ") ∙ ap (λ l. text ++ 10 ∷ l) (indentation_more n)
