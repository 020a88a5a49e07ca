use Rattle.std.proofs.Common.{◌≡◌, ◌∷◌, drop, map, take}
use Rattle.isle_lsp_ranges.specs.Foldings.{is_comment}
use Rattle.isle_lsp_ranges.proofs.breaks.comments.Given as goal

abbrev pub invariant-loop-start : goal.invariant-loop-start
invariant-loop-start l = l.found.items ≡ is_comment l.text ∷ map (λ start. is_comment (drop start l.text)) (take l.start-index l.breaks)
