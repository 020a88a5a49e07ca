use Rattle.std.proofs.Common.{◌≡◌, drop}
use Rattle.isle_lint_core.specs.Names.{names_at}
use Rattle.isle_lsp_diagnostics.specs.Hovers.{name_at}
use Rattle.isle_lsp_diagnostics.proofs.mentions.name_at.Given as goal

abbrev pub invariant-loop-name : goal.invariant-loop-name
invariant-loop-name l = name_at l.offset (names_at (drop l.name-index l.names)) ≡ name_at l.offset (names_at l.names)
