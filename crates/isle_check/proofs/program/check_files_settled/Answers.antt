use Rattle.std.proofs.Common.{◌≡◌, ◌<◌, None, ap, arith, length, map, refl, rules, string_bytes, tests}
use Rattle.std.proofs.lemmas.Grind.{common_steps}
use Rattle.std.proofs.lemmas.Result.{IfErr-weaker, IfOk-weaker}
use Rattle.isle_cli.specs.Arguments.{given_of}
use Rattle.isle_cli.specs.Sources.{source_of}
use Rattle.isle_check.proofs.DoingLemmas.{explained, told_faults, told_whole}
use Rattle.isle_check.proofs.program.check_files_settled.Goals as goal

pub returns-clause-ok : goal.returns-clause-ok
returns-clause-ok g c =
    let empty : length (string_bytes c.in_ok-sources.sources.faults) ≡ 0 = search (tests, rules) in
    IfOk-weaker c.check_texts.result _ _
    (λ status told. told_whole (map given_of c.args.arguments.now) _ _ _ _ _ _ _ _ _ (search (tests, rules)) (refl, refl) c.in_ok-sources.ensures empty (map source_of c.deref.result.now) (ap (map source_of) c.deref.ensures.value) status told)
    c.check_texts.ensures.ok

pub returns-clause-err : goal.returns-clause-err
returns-clause-err g c =
    let empty : length (string_bytes c.in_ok-sources.sources.faults) ≡ 0 = search (tests, rules) in
    IfErr-weaker c.check_texts.result _ _
    (λ failure why. explained (map given_of c.args.arguments.now) _ _ _ _ _ _ _ None None (search (tests, rules)) (refl, refl) c.in_ok-sources.ensures empty (map source_of c.deref.result.now) (ap (map source_of) c.deref.ensures.value) failure why)
    c.check_texts.ensures.err

pub returns-then-not-is_empty-clause-ok : goal.returns-then-not-is_empty-clause-ok
returns-then-not-is_empty-clause-ok g c =
    let lines = c.in_ok-sources.sources.faults in
    let some : 0 < length (string_bytes lines) = grind (arith, common_steps, c.is_empty.ensures, c.if-not-is_empty.true, lines.bytes.ok.0) in
    told_faults (map given_of c.args.arguments.now) _ _ (string_bytes lines) _ _ _ _ _ (search (tests, rules)) (search (tests, rules))
    c.in_ok-sources.ensures some (rw c.as_bytes.ensures.value at c.write_whole.ensures.part)
