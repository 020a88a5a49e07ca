use Rattle.std.proofs.Common.{arith}
use Rattle.std.proofs.lemmas.Str.Pattern.{strip_prefix_char}
use Rattle.isle_parser_verification.proofs.Words.Texts.{stripped_first}
use Rattle.isle_parser_verification.proofs.spec_words.behind_colon.Goals as goal

pub returns : goal.returns
returns c = stripped_first 58 c.args.word.now c.strip_prefix.result (strip_prefix_char 58 c.args.word.now c.strip_prefix.result c.strip_prefix.ensures.cases (omega arith))
