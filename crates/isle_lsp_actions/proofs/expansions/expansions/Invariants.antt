use Rattle.std.proofs.Common.{ℕ, List, ◌++◌, Option, drop, map, option_map, string_bytes}
use Rattle.isle_lsp_actions.specs.Expansions.{AreExpansions, use_of}
use Rattle.isle_lsp_actions.proofs.expansions.expansions.Given as goal

abbrev pub invariant-loop-texts : goal.invariant-loop-texts
invariant-loop-texts l =
    (rest : List (Option (List ℕ))) → AreExpansions (map (λ p. map (λ t. t.now) p.items) (drop l.texts-index l.programs)) (use_of l.found) rest
    → AreExpansions (map (λ p. map (λ t. t.now) p.items) l.programs) (use_of l.found) (map (option_map string_bytes) l.expansions.items ++ rest)
