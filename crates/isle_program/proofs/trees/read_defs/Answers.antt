use Rattle.std.proofs.lemmas.Result.{err_from_is_err_and}
use Rattle.isle_program.proofs.ReadingLemmas.{read-parsed, refused-start}
use Rattle.isle_program.proofs.trees.read_defs.Goals as goal

pub returns-in_err-lexer-clause-read : goal.returns-in_err-lexer-clause-read
returns-in_err-lexer-clause-read c =
    let p = err_from_is_err_and c.from_residual.result c.from_residual.ensures.1 in
    rw (p.1, p.2) (refused-start c.args.file c.args.text.now _ c.in_err-lexer.ensures.refused)

pub returns-clause-read : goal.returns-clause-read
returns-clause-read c =
    let lexed = c.in_ok-lexer.ensures in
    read-parsed c.args.file c.args.text.now c.in_ok-lexer.lexer c.parse.result lexed.file lexed.size lexed.tokens c.parse.ensures.spelt c.parse.ensures.only c.parse.ensures.refused
