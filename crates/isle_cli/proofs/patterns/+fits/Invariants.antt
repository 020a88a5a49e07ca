use Rattle.std.proofs.Common.{◌+◌, length}
use Rattle.isle_cli.proofs.patterns.+fits.Given as goal

abbrev pub decreases-fits : goal.decreases-fits
decreases-fits l = length l.pattern.now + length l.name.now
