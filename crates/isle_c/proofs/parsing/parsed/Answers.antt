use Rattle.std.proofs.Common.{◌≡◌, ◌++◌, ◌∷◌, ◌∙◌, [], ap, false}
use Rattle.std.proofs.lemmas.Result.{err_from_is_err_and}
use Rattle.isle_c.specs.Parsing.{IsAtStartIn}
use Rattle.isle_parser.specs.declared.parser.Parser.{Parser}
use Rattle.isle_c.proofs.ParsingLaw.{at_start, refused_start, whole_put}
use Rattle.isle_c.proofs.parsing.parsed.Goals.{In_ok-lexer}
use Rattle.isle_c.proofs.parsing.parsed.Goals as goal

pub returns-in_err-lexer-clause-refused : goal.returns-in_err-lexer-clause-refused
returns-in_err-lexer-clause-refused c =
    let p = err_from_is_err_and c.from_residual.result c.from_residual.ensures.1 in
    rw (p.1, p.2) (refused_start c.args.file c.args.text.now _ c.in_err-lexer.ensures.refused)

-- the parser is at the start of the text
starts : (c : In_ok-lexer) (parser : Parser) → parser.cursor.scanner ≡ c.in_ok-lexer.lexer → parser.cursor.disable_pos ≡ false
    → IsAtStartIn c.args.file c.args.text.now parser
starts c parser is positions =
    let lexed = c.in_ok-lexer.ensures in
    at_start c.args.file c.args.text.now c.in_ok-lexer.lexer parser is positions lexed.file lexed.live lexed.tokens

pub returns-in_err-put_all-clause-refused : goal.returns-in_err-put_all-clause-refused
returns-in_err-put_all-clause-refused c =
    let p = err_from_is_err_and c.from_residual-in_err-put_all.result c.from_residual-in_err-put_all.ensures.1 in
    let start = starts (goal.at.returns-in_err-put_all-clause-refused c).In_ok-lexer c.new-parser.result c.new-parser.ensures.lexer c.new-parser.ensures.positions in
    rw (p.1, p.2) (c.in_err-put_all.ensures.refused c.args.file c.args.text.now start)

pub returns-clause-encoded : goal.returns-clause-encoded
returns-clause-encoded c =
    let start = starts (goal.at.returns-clause-encoded c).In_ok-lexer c.new-parser.result c.new-parser.ensures.lexer c.new-parser.ensures.positions in
    let first = c.in_ok-put_start.ensures ∙ ap (λ bytes. bytes ++ 1 ∷ []) c.in_ok-answer.ensures.bytes in
    whole_put c.args.file c.args.text.now _ _ _ first (c.in_ok-put_all.ensures.put c.args.file c.args.text.now start) c.in_ok-put_end.ensures
