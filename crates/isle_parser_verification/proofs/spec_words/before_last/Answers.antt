use Rattle.std.proofs.lemmas.Str.Pattern.{strip_suffix_char}
use Rattle.isle_parser_verification.proofs.Words.Texts.{stripped_last}
use Rattle.isle_parser_verification.proofs.spec_words.before_last.Goals as goal

pub returns : goal.returns
returns c = stripped_last c.args.mark c.args.word.now c.strip_suffix.result (strip_suffix_char c.args.mark c.args.word.now c.strip_suffix.result c.strip_suffix.ensures.cases c.requires)
