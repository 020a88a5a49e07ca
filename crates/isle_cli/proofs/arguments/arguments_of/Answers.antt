use Rattle.std.proofs.Common.{inr, map, refl, sym}
use Rattle.std.proofs.lemmas.Result.{err_from_is_err_and}
use Rattle.isle_cli.specs.Arguments.{awaited_of, given_of, taken_of}
use Rattle.isle_cli.proofs.ArgumentLemmas.{failed_word, last_word, next_word, nothing_more}
use Rattle.isle_cli.proofs.arguments.arguments_of.Goals as goal

pub returns-in_err-taken-clause-err : goal.returns-in_err-taken-clause-err
returns-in_err-taken-clause-err c =
    let p = err_from_is_err_and c.from_residual.result c.from_residual.ensures.1 in
    rw (p.1, p.2) (
    failed_word c.args.options.now (map given_of c.loop-word.arguments.items) (awaited_of c.loop-word.awaited) c.args.words.now c.loop-word.word-index c.word-item.result c.as_str.result.now _ _
    c.loop-word-test.true c.word-item.is c.as_str.ensures.value c.in_err-taken.ensures.err c.loop-word.invariant
    )

pub loop-word-preserved : goal.loop-word-preserved
loop-word-preserved c =
    next_word c.args.options.now (map given_of c.loop-word.arguments.items) _ (awaited_of c.loop-word.awaited) c.args.words.now c.loop-word.word-index c.word-item.result c.as_str.result.now (taken_of c.in_ok-taken.taken) _
    c.loop-word-test.true c.word-item.is c.as_str.ensures.value c.in_ok-taken.ensures.ok c.in_ok-push_argument.ensures c.loop-word.invariant

pub returns-in-Value-clause-err : goal.returns-in-Value-clause-err
returns-in-Value-clause-err c =
    let whole = last_word c.args.options.now (map given_of c.loop-word.arguments.items) (awaited_of c.loop-word.awaited) c.args.words.now c.loop-word.word-index _ c.loop-word-test.false c.loop-word.invariant in
    let none = rw c.in-Value.is at whole in
    inr (refl, sym none)

pub returns-in-Anything : goal.returns-in-Anything
returns-in-Anything c =
    let whole = last_word c.args.options.now (map given_of c.loop-word.arguments.items) (awaited_of c.loop-word.awaited) c.args.words.now c.loop-word.word-index _ c.loop-word-test.false c.loop-word.invariant in
    let some = rw c.in-Anything.is at whole in
    record { ok = nothing_more _ _ some; err = tt }

pub returns-in-Names : goal.returns-in-Names
returns-in-Names c =
    let whole = last_word c.args.options.now (map given_of c.loop-word.arguments.items) (awaited_of c.loop-word.awaited) c.args.words.now c.loop-word.word-index _ c.loop-word-test.false c.loop-word.invariant in
    let some = rw c.in-Names.is at whole in
    record { ok = nothing_more _ _ some; err = tt }
