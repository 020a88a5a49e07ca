use Rattle.std.proofs.Common.{rules}
use Rattle.isle_tidy_diff.specs.Unified.{header}
use Rattle.isle_tidy_diff.proofs.hunks.push_header.Goals as goal

pub returns : goal.returns
unfolding header
returns c = search rules
