use Rattle.std.proofs.lemmas.Bool.Decides.{Decides-at}
use Rattle.isle_ast.specs.TreeView.{definitions_of}
use Rattle.isle_ast.specs.WritableDeciders.{are_writable}
use Rattle.isle_ast.proofs.Writable.Decided.{definitions_decided}
use Rattle.isle_ast.proofs.ast.writability.writable.Goals as goal

pub returns : goal.returns
returns c =
    let ds = definitions_of c.args.defs.now in
    Decides-at c.are_writable.result (are_writable ds) c.are_writable.ensures (definitions_decided ds)
