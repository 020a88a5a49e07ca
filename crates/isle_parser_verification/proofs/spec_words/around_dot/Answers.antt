use Rattle.std.proofs.Common.{arith}
use Rattle.std.proofs.lemmas.Str.Pattern.{split_parts}
use Rattle.isle_parser_verification.proofs.Words.Texts.{split_around}
use Rattle.isle_parser_verification.proofs.spec_words.around_dot.Goals as goal

pub returns : goal.returns
returns c = split_around 46 c.args.word.now c.split_once.result (split_parts 46 c.args.word.now c.split_once.result c.split_once.ensures.cases (omega arith))
