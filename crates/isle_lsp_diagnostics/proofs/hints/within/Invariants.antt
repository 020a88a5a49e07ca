use Rattle.std.proofs.Common.{◌≡◌, ◌++◌, drop, map}
use Rattle.isle_lsp_diagnostics.specs.Hints.{are_within, hint_of}
use Rattle.isle_lsp_diagnostics.proofs.hints.within.Given as goal

abbrev pub invariant-loop-hint : goal.invariant-loop-hint
invariant-loop-hint l =
    map hint_of l.found.items ++ are_within l.fn.encoding l.text l.fn.range (map hint_of (drop l.hint-index l.hints))
    ≡ are_within l.fn.encoding l.text l.fn.range (map hint_of l.hints)
