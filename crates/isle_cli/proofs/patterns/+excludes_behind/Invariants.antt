use Rattle.std.proofs.Common.{length}
use Rattle.isle_cli.proofs.patterns.+excludes_behind.Given as goal

abbrev pub decreases-excludes_behind : goal.decreases-excludes_behind
decreases-excludes_behind l = length l.path.now
