use Rattle.std.proofs.Common.{◌≡◌, take}
use Rattle.isle_base_source.specs.Lines.{line_ends}
use Rattle.isle_base_source.proofs.files.LineMap.from_str.Given as goal

abbrev pub invariant-loop-offset : goal.invariant-loop-offset
invariant-loop-offset l = l.line_ends.items ≡ line_ends (take l.offset l.text)
