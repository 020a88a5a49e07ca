use Rattle.std.proofs.Common.{◌≡◌, ◌++◌, [], drop, take}
use Rattle.isle_check_environment.specs.Names.{Knows}
use Rattle.isle_lint_core.specs.Names.{names_at}
use Rattle.isle_lsp_diagnostics.specs.Hints.{first_ones}
use Rattle.isle_lsp_diagnostics.proofs.mentions.first_ones.Given as goal

abbrev pub invariant-loop-name : goal.invariant-loop-name
invariant-loop-name l =
    Knows l.earlier (names_at (take l.name-index l.names))
    × (names_at l.found.items ++ first_ones (names_at (take l.name-index l.names)) (names_at (drop l.name-index l.names))
    ≡ first_ones [] (names_at l.names))
