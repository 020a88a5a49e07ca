use Rattle.std.proofs.Common.{◌++◌, ◌∷◌, [], ap, sym, take, ◌∙◌}
use Rattle.isle_check_environment.specs.Views.{decls_at}
use Rattle.isle_check_recursion.specs.Recursion.{numbered}
use Rattle.isle_check_environment.specs.signatures.Entries.{entry, value_of}
use Rattle.isle_check_recursion.proofs.NumberLemmas.{numbered-more}
use Rattle.isle_check_recursion.proofs.uses.numbers.Goals as goal

pub loop-number-preserved : goal.loop-number-preserved
loop-number-preserved c =
    let n = c.loop-number.number in
    let front = numbered 0 (decls_at (take n c.args.decls.now)) in λ text.
    c.in_ok-put_number.ensures front c.loop-number.invariant text
    ∙ ap (λ t. value_of (front ++ entry t n ∷ []) text) c.in_ok-clone.ensures.cases
    ∙ ap (λ es. value_of es text) (sym (numbered-more c.args.decls.now n c.index-decls-number.result c.loop-number-test.true c.index-decls-number.is))
