use Rattle.std.proofs.lemmas.Result.{err_from_is_err_and}
use Rattle.isle_ast.specs.TreeView.{definitions_of}
use Rattle.isle_syntax.proofs.FormatLaw.{refused_start}
use Rattle.isle_syntax.proofs.TreeLaw.{refused_text, tree-of}
use Rattle.isle_syntax.proofs.trees.parse.Goals as goal

pub returns-in_err-lexer-clause-refused : goal.returns-in_err-lexer-clause-refused
returns-in_err-lexer-clause-refused c =
    let p = err_from_is_err_and c.from_residual.result c.from_residual.ensures.1 in
    rw (p.1, p.2) (refused_start c.args.text.now _ c.in_err-lexer.ensures.refused)

pub returns-in_err-defs-clause-refused : goal.returns-in_err-defs-clause-refused
returns-in_err-defs-clause-refused c =
    let p = err_from_is_err_and c.from_residual-in_err-defs.result c.from_residual-in_err-defs.ensures.1 in
    let lexed = c.in_ok-lexer.ensures in
    rw (p.1, p.2) (refused_text c.args.text.now c.in_ok-lexer.lexer _ lexed.file lexed.size lexed.tokens c.in_err-defs.ensures.refused)

pub returns-clause-tree : goal.returns-clause-tree
returns-clause-tree c =
    let lexed = c.in_ok-lexer.ensures in
    tree-of c.args.text.now c.in_ok-lexer.lexer (definitions_of c.in_ok-defs.defs.items) lexed.file lexed.tokens c.in_ok-defs.ensures.spelt c.in_ok-defs.ensures.only
