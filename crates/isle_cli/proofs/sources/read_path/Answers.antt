use Rattle.isle_cli.proofs.SourceLemmas.{path_given_ok}
use Rattle.isle_cli.proofs.sources.read_path.Goals as goal

pub returns : goal.returns
returns g c =
    path_given_ok c.args.program.now _ c.args.name.now c.in_ok-files.files.items _ _ _ _ _ c.read_files.result c.in_ok-files.ensures
    (rw c.deref.ensures.value at c.read_files.ensures)
