use Rattle.std.proofs.lemmas.Bool.Decides.{Decides-at}
use Rattle.isle_ast.specs.TreeView.{definition_of}
use Rattle.isle_ast.specs.WritableDeciders.{is_writable}
use Rattle.isle_ast.proofs.Writable.Decided.{definition_decided}
use Rattle.isle_ast.proofs.ast.Def.is_writable.Goals as goal

pub returns : goal.returns
returns c =
    let d = definition_of c.args.self.now in
    Decides-at c.is_writable_definition.result (is_writable d) c.is_writable_definition.ensures (definition_decided d)
