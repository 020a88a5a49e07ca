use Rattle.std.proofs.lemmas.Result.{err_from_is_err_and}
use Rattle.isle_c.proofs.ParsingLaw.{refused_start}
use Rattle.isle_c.proofs.ProgramLemmas.{tree_read, tree_refused}
use Rattle.isle_c.proofs.programs.tree_of.Goals as goal

pub returns-in_err-lexer-clause-refused : goal.returns-in_err-lexer-clause-refused
returns-in_err-lexer-clause-refused c =
    let p = err_from_is_err_and c.from_residual.result c.from_residual.ensures.1 in
    rw (p.1, p.2) (refused_start c.args.file c.args.text.now _ c.in_err-lexer.ensures.refused)

pub returns-clause-ok : goal.returns-clause-ok
returns-clause-ok c =
    let lexed = c.in_ok-lexer.ensures in
    tree_read c.args.file c.args.text.now c.in_ok-lexer.lexer c.parse.result lexed.file lexed.tokens c.parse.ensures.spelt c.parse.ensures.only

pub returns-clause-refused : goal.returns-clause-refused
returns-clause-refused c =
    tree_refused c.args.file c.args.text.now c.in_ok-lexer.lexer c.parse.result c.in_ok-lexer.ensures.tokens c.parse.ensures.refused
