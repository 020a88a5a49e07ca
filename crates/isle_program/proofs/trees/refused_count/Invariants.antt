use Rattle.std.proofs.Common.{◌≡◌, ◌+◌, ◌≤◌, count_by, drop}
use Rattle.std.specs.Option.{is_some}
use Rattle.isle_program.proofs.trees.refused_count.Given as goal

abbrev pub invariant-loop-refusal : goal.invariant-loop-refusal
invariant-loop-refusal l = record {
  count : l.count + count_by is_some (drop l.refusal-index l.refusals) ≡ count_by is_some l.refusals;
  small : l.count ≤ l.refusal-index;
}
