use Rattle.std.proofs.Common.{None, map, refl}
use Rattle.std.proofs.lemmas.Result.{IfErr-weaker, IfOk-weaker}
use Rattle.isle_cli.specs.Arguments.{given_of}
use Rattle.isle_lint.proofs.DoingLemmas.{explained, told_whole}
use Rattle.isle_lint.proofs.program.lint_files.Goals as goal

pub returns-clause-ok : goal.returns-clause-ok
returns-clause-ok g c =
    IfOk-weaker c.lint_texts.result _ _
    (λ status told. told_whole (map given_of c.args.arguments.now) _ _ _ _ _ _ _ _ _ c.in_ok-lints.ensures.usable (refl, refl) c.in_ok-sources.ensures status told)
    c.lint_texts.ensures.ok

pub returns-clause-err : goal.returns-clause-err
returns-clause-err g c =
    IfErr-weaker c.lint_texts.result _ _
    (λ failure why. explained (map given_of c.args.arguments.now) _ _ _ _ _ _ _ None None c.in_ok-lints.ensures.usable (refl, refl) c.in_ok-sources.ensures failure why)
    c.lint_texts.ensures.err
