use Rattle.std.proofs.Common.{◌≡◌, drop, map}
use Rattle.isle_lsp_actions.specs.Names.{name_at, name_of}
use Rattle.isle_lsp_actions.proofs.names.name_at.Given as goal

abbrev pub invariant-loop-name : goal.invariant-loop-name
invariant-loop-name l = name_at l.offset (map name_of (drop l.name-index l.names)) ≡ name_at l.offset (map name_of l.names)
