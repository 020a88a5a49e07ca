use Rattle.std.proofs.Common.{◌≡◌, ◌+◌, drop}
use Rattle.isle_lsp_text.specs.Positions.{offset_from}
use Rattle.isle_lsp_text.proofs.positions.find_offset.Given as goal

abbrev pub invariant-loop-i : goal.invariant-loop-i
invariant-loop-i l = offset_from l.encoding l.fn.position.line l.fn.position.unit l.bytes ≡ l.i + offset_from l.encoding l.lines l.units (drop l.i l.bytes)
