use Rattle.std.proofs.Common.{◌≡◌, String, false, string_bytes}
use Rattle.std.specs.Global.{Global}
use Rattle.std.proofs.lemmas.Result.{err_from_is_err_and}
use Rattle.isle_base.specs.Place.{nowhere}
use Rattle.isle_ast.specs.Spelt.{IsSpelt}
use Rattle.isle_printer.specs.Lines.{WiderHasNoMoreLines}
use Rattle.isle_printer.specs.Printed.{IsPrinted}
use Rattle.isle_parser.specs.declared.parser.Parser.{Parser}
use Rattle.isle_syntax.specs.Format.{HasPrintOfItsOwn, IsFormatted, IsOnlyTree, ReadsBackAtOtherWidths}
use Rattle.isle_syntax.specs.Streaming.{IsAtStart}
use Rattle.isle_syntax.proofs.FormatLaw.{of_its_tree, refused_start}
use Rattle.isle_syntax.proofs.ReadingLaw.{at_start, says_failed_too}
use Rattle.isle_syntax.proofs.format.Goals.{In_ok-lexer}
use Rattle.isle_syntax.proofs.format.Goals as goal

pub returns-in_err-lexer-clause-refused : goal.returns-in_err-lexer-clause-refused
returns-in_err-lexer-clause-refused c =
    let p = err_from_is_err_and c.from_residual.result c.from_residual.ensures.1 in
    rw (p.1, p.2) (refused_start c.args.text.now _ c.in_err-lexer.ensures.refused)

-- the parser is at the start of the text
starts : (c : In_ok-lexer) (parser : Parser) → parser.cursor.scanner ≡ c.in_ok-lexer.lexer → parser.cursor.disable_pos ≡ false → IsAtStart c.args.text.now parser
starts c parser is positions =
    let lexed = c.in_ok-lexer.ensures in
    at_start c.args.text.now c.in_ok-lexer.lexer parser is positions lexed.file lexed.size lexed.live lexed.tokens

pub returns-in_err-put_all : goal.returns-in_err-put_all
returns-in_err-put_all c =
    let p = err_from_is_err_and c.from_residual-in_err-put_all.result c.from_residual-in_err-put_all.ensures.1 in
    let start = starts (goal.at.returns-in_err-put_all c).In_ok-lexer c.new-parser.result c.new-parser.ensures.lexer c.new-parser.ensures.positions in
    let f = c.in_err-put_all.field-0.0 in
    rw (p.1, p.2) (record {
      spelt = tt;
      only = tt;
      printed = tt;
      read_back = tt;
      equal_prints = tt;
      short_lines = tt;
      fewer_lines = tt;
      other_widths = tt;
      refused = c.in_err-put_all.ensures.refused c.args.text.now start;
      never_failed = λ is. c.in_err-put_all.ensures.never_failed (says_failed_too (String Global) (Unit {0}) f is);
    })

pub returns : goal.returns
returns c =
    let width = c.args.width in
    let text = c.args.text.now in
    let answer = string_bytes c.put_all.new.answer in
    let start = starts (goal.at.returns c).In_ok-lexer c.new-parser.result c.new-parser.ensures.lexer c.new-parser.ensures.positions in
    let f : IsFormatted width text answer = c.in_ok-put_all.ensures.formatted text start in
    record {
      spelt = (f.tree, f.spelt);
      only = of_its_tree f (IsOnlyTree text) f.only;
      printed = of_its_tree f (λ tree. IsPrinted width tree answer) f.printed;
      read_back = of_its_tree f (IsSpelt nowhere answer) f.read_back;
      equal_prints = of_its_tree f (HasPrintOfItsOwn width answer) f.equal_prints;
      short_lines = f.short_lines;
      fewer_lines = of_its_tree f (λ tree. WiderHasNoMoreLines width tree answer) f.fewer_lines;
      other_widths = of_its_tree f (ReadsBackAtOtherWidths answer) f.other_widths;
      refused = tt;
      never_failed = λ e. cc;
    }
