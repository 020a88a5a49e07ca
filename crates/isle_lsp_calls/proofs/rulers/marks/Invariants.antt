use Rattle.std.specs.List.{All}
use Rattle.isle_lsp_text.specs.Positions.{IsPlace}
use Rattle.isle_lsp_calls.proofs.rulers.marks.Given as goal

abbrev pub invariant-loop-number : goal.invariant-loop-number
invariant-loop-number l = record { marks : All (IsPlace l.encoding l.text) l.marks.items; near : IsPlace l.encoding l.text l.near }
