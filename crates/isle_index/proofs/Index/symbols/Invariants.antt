use Rattle.std.proofs.Common.{◌≡◌, ◌++◌, drop, map}
use Rattle.isle_index.specs.Entries.{all_of, unpacked_from}
use Rattle.isle_index.specs.Symbols.{symbol_of, symbols}
use Rattle.isle_index.proofs.Index.symbols.Given as goal

abbrev pub invariant-loop-number : goal.invariant-loop-number
invariant-loop-number l =
    map symbol_of l.found.items ++ symbols l.file (unpacked_from l.entries.texts.now l.number (drop l.number l.entries.items.now)) ≡ symbols l.file (all_of l.entries)
