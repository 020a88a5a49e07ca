use Rattle.std.proofs.Common.{◌≡◌, ◌*◌, ◌≤◌, take}
use Rattle.isle_lsp_text.specs.Positions.{units}
use Rattle.isle_lsp_text.specs.declared.positions.PositionEncoding.TheVariants.{Utf16}
use Rattle.isle_lsp_context.proofs.units.units_before.Given as goal

abbrev pub invariant-loop-byte : goal.invariant-loop-byte
invariant-loop-byte l = record {
  units : l.units ≡ units Utf16 (take l.byte-index l.byte-items);
  few : l.units ≤ 2 * l.byte-index;
}
