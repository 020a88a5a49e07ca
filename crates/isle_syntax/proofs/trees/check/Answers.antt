use Rattle.std.proofs.Common.{◌≡◌, false}
use Rattle.std.proofs.lemmas.Result.{err_from_is_err_and}
use Rattle.isle_parser.specs.declared.parser.Parser.{Parser}
use Rattle.isle_syntax.specs.Streaming.{IsAtStart}
use Rattle.isle_syntax.proofs.FormatLaw.{refused_start}
use Rattle.isle_syntax.proofs.ReadingLaw.{at_start}
use Rattle.isle_syntax.proofs.trees.check.Goals.{In_ok-lexer}
use Rattle.isle_syntax.proofs.trees.check.Goals as goal

pub returns-in_err-lexer-clause-refused : goal.returns-in_err-lexer-clause-refused
returns-in_err-lexer-clause-refused c =
    let p = err_from_is_err_and c.from_residual.result c.from_residual.ensures.1 in
    rw (p.1, p.2) (refused_start c.args.text.now _ c.in_err-lexer.ensures.refused)

-- the parser is at the start of the text
starts : (c : In_ok-lexer) (parser : Parser) → parser.cursor.scanner ≡ c.in_ok-lexer.lexer → parser.cursor.disable_pos ≡ false → IsAtStart c.args.text.now parser
starts c parser is positions =
    let lexed = c.in_ok-lexer.ensures in
    at_start c.args.text.now c.in_ok-lexer.lexer parser is positions lexed.file lexed.size lexed.live lexed.tokens

pub returns : goal.returns
returns c =
    let start = starts (goal.at.returns c).In_ok-lexer c.new-parser.result c.new-parser.ensures.lexer c.new-parser.ensures.positions in
    record {
      spelt = c.read_all.ensures.spelt c.args.text.now start;
      refused = c.read_all.ensures.refused c.args.text.now start;
      never_failed = c.read_all.ensures.never_failed;
    }
