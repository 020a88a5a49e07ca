use Rattle.isle_base.specs.Skips.{is_blank}
use Rattle.isle_base.proofs.Places.{run_within}
use Rattle.isle_tidy_core.proofs.reader.blanks_end.Goals as goal

pub returns-clause-within : goal.returns-clause-within
returns-clause-within c = run_within is_blank c.args.bytes.now c.args.from c.blank_end.result c.requires c.blank_end.ensures
