use Rattle.std.proofs.Common.{sym, rules}
use Rattle.isle_parser_cursor.specs.Outcomes.{left, source}
use Rattle.isle_parser_verification.proofs.Reading.HeadsAhead.{head_refused}
use Rattle.isle_parser_verification.proofs.spec_words.parse_spec_head.Goals as goal

pub returns-then-not-is_head_ahead : goal.returns-then-not-is_head_ahead
returns-then-not-is_head_ahead c = record {
  same = search rules;
  gives = head_refused (left c.args.cursor.now) (source c.args.cursor.now) c.unexpected_spec.result (sym c.if-not-is_head_ahead.ensures) c.unexpected_spec.ensures;
}
