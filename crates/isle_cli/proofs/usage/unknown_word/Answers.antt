use Rattle.std.proofs.Common.{Some, ap, sym, ◌∙◌}
use Rattle.isle_cli.specs.Usage.{awaited_next}
use Rattle.isle_cli.proofs.UsageLemmas.{known_word, none_unknown, word_of_none}
use Rattle.isle_cli.proofs.usage.unknown_word.Goals as goal

pub loop-word-preserved : goal.loop-word-preserved
loop-word-preserved c =
    known_word c.args.options.now (awaited_next c.loop-word.now) c.args.words.now c.loop-word.word-index c.word-item.result c.as_str.result.now (awaited_next c.in-Some.next) _
    c.loop-word-test.true c.word-item.is c.as_str.ensures.value c.in-Some.ensures c.loop-word.invariant

pub returns-in-None : goal.returns-in-None
returns-in-None c =
    ap Some (c.as_str-in-None.ensures.value ∙ sym c.as_str.ensures.value)
    ∙ word_of_none c.args.options.now (awaited_next c.loop-word.now) c.args.words.now c.loop-word.word-index c.word-item.result c.as_str.result.now _
    c.loop-word-test.true c.word-item.is c.as_str.ensures.value c.in-None.ensures c.loop-word.invariant

pub returns : goal.returns
returns c =
    none_unknown c.args.options.now (awaited_next c.loop-word.now) c.args.words.now c.loop-word.word-index _ c.loop-word-test.false c.loop-word.invariant
