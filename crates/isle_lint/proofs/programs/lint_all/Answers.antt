use Rattle.std.proofs.Common.{◌+◌, ◌∷◌, List, ap, arith, drop, map, subst, sym, ◌∙◌}
use Rattle.std.proofs.lemmas.List.{drop_all, drop_more}
use Rattle.isle_cli.specs.Sources.{source_of}
use Rattle.isle_lint.specs.Linted.{linted_of}
use Rattle.isle_lint.specs.Programs.{IsToldIn}
use Rattle.isle_program_findings.proofs.ExaminedLemmas.{Goes-on, all-examined, one-on}
use Rattle.isle_program_findings.specs.Programs.{part_of}
use Rattle.isle_program_findings.specs.declared.programs.Part.{Part}
use Rattle.isle_lint.proofs.programs.lint_all.Goals as goal

pub loop-part-preserved : goal.loop-part-preserved
loop-part-preserved c =
    let parts = c.args.parts.now in
    let i = c.loop-part.part-index in
    let part = c.part-item.result in
    let sources = map source_of c.args.sources.now in
    let before = map linted_of c.loop-part.linted.items in
    let next = drop_more parts i part c.loop-part-test.true ∙ ap (λ q. q ∷ drop (i + 1) parts) (sym c.part-item.is) in
    let Left : List Part → Type 0 = λ ps. Goes-on (IsToldIn c.args.lints.now) sources (map part_of parts) before (map part_of ps) in
    one-on (IsToldIn c.args.lints.now) sources (map part_of parts) (part_of part) (map part_of (drop (i + 1) parts)) before _
    c.in_ok-add_linted.ensures.ok (subst Left next c.loop-part.invariant)

pub returns-clause-ok : goal.returns-clause-ok
returns-clause-ok c =
    let parts = c.args.parts.now in
    let sources = map source_of c.args.sources.now in
    let linted = map linted_of c.loop-part.linted.items in
    let Left : List Part → Type 0 = λ ps. Goes-on (IsToldIn c.args.lints.now) sources (map part_of parts) linted (map part_of ps) in
    all-examined (IsToldIn c.args.lints.now) sources (map part_of parts) linted
    (subst Left (drop_all c.loop-part.part-index parts (omega (arith, c.loop-part-test.false))) c.loop-part.invariant)
