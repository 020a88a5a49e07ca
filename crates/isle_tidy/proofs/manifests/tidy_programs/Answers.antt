use Rattle.std.proofs.Common.{map}
use Rattle.isle_cli.specs.Arguments.{given_of}
use Rattle.isle_tidy.specs.Doing.{listing_of}
use Rattle.isle_tidy.proofs.FileLemmas.{programs-run}
use Rattle.isle_tidy.proofs.manifests.tidy_programs.Goals as goal

pub returns-clause-ok : goal.returns-clause-ok
returns-clause-ok g c = programs-run (listing_of (map given_of c.args.arguments.now)) _ _ _ _ _ _ _ c.listing_of.ensures c.run_on_paths-status.ensures
