use Rattle.std.proofs.Common.{◌≡◌, ◌++◌, drop, map}
use Rattle.isle_lsp_actions.specs.Items.{texts_of}
use Rattle.isle_lsp_actions.proofs.items.texts_of.Given as goal

abbrev pub invariant-loop-part : goal.invariant-loop-part
invariant-loop-part l = map (λ t. t.now) l.texts.items ++ texts_of l.text (drop l.part-index l.parts) ≡ texts_of l.text l.parts
