use Rattle.std.proofs.Common.{sym, rules}
use Rattle.std.proofs.lemmas.Result.{err_from_is_err_and}
use Rattle.isle_ast_verification.specs.TreeView.{type_model_of}
use Rattle.isle_base.specs.TokenView.{token_of_ref}
use Rattle.isle_parser_cursor.specs.Outcomes.{left, source}
use Rattle.isle_parser_verification.specs.ModelReaders.{model_word}
use Rattle.isle_parser_cursor.proofs.Ahead.{stopped}
use Rattle.isle_parser_verification.proofs.Words.Models.{other_word, word_stops, word_taken}
use Rattle.isle_parser_verification.proofs.models.parse_model_word.Goals as goal

pub returns-in_err-take-in-Some : goal.returns-in_err-take-in-Some
returns-in_err-take-in-Some c = record {
  same = search rules;
  gives =
      let p = err_from_is_err_and c.from_residual.result c.from_residual.ensures.1 in
      rw (p.1, p.2) (word_stops (left c.args.cursor.now) (source c.take.new.self) c.in_err-take-in-Some.field-0.0 c.in_err-take-in-Some.ensures.reads.gives);
}

pub returns-in_ok-take-in-Some : goal.returns-in_ok-take-in-Some
returns-in_ok-take-in-Some c = record {
  same = search rules;
  gives = word_taken (left c.args.cursor.now) (left c.take.new.self) (type_model_of c.in-Some.ty) (token_of_ref c.in_ok-take-in-Some.field-0) (sym c.in-Some.ensures) c.in_ok-take-in-Some.ensures.reads.gives;
}

pub returns-in-None : goal.returns-in-None
returns-in-None c = record {
  same = search rules;
  gives = stopped (model_word (left c.args.cursor.now)) (source c.args.cursor.now) c.refuse_at.result (other_word (left c.args.cursor.now) (sym c.in-None.ensures)) c.refuse_at.ensures;
}
