use Rattle.std.proofs.Common.{◌+◌, ◌∷◌, List, ap, arith, drop, map, subst, sym, ◌∙◌}
use Rattle.std.proofs.lemmas.List.{drop_all, drop_more}
use Rattle.isle_cli.specs.Arguments.{given_of}
use Rattle.isle_cli.specs.Sources.{source_of}
use Rattle.isle_check.specs.Programs.{IsToldIn, checked_of, is_read, read_parts}
use Rattle.isle_check.proofs.ProgramLemmas.{read-more, read-same}
use Rattle.isle_program_findings.proofs.ExaminedLemmas.{Goes-on, all-examined, one-on}
use Rattle.isle_program_findings.specs.Programs as programs
use Rattle.isle_program_findings.specs.Programs.{part_of}
use Rattle.isle_program_findings.specs.declared.programs.Part.{Part}
use Rattle.isle_check.proofs.programs.check_all.Goals.{then-is_read+in_ok-add_checked, else-is_read}
use Rattle.isle_check.proofs.programs.check_all.Goals as goal

pub loop-part-preserved : goal.loop-part-preserved
loop-part-preserved c =
    let Told = IsToldIn (map given_of c.args.arguments.now) in
    let sources = map source_of c.args.sources.now in
    let refusals = c.args.refusals.now in
    let parts = c.args.parts.now in
    let all = read_parts refusals (map part_of parts) in
    let i = c.loop-part.part-index in
    let part = c.part-item.result in
    let later = map part_of (drop (i + 1) parts) in
    let before = map checked_of c.loop-part.checked.items in
    let next = drop_more parts i part c.loop-part-test.true ∙ ap (λ q. q ∷ drop (i + 1) parts) (sym c.part-item.is) in
    let Left : List programs.Part → Type 0 = λ ps. Goes-on Told sources all before ps in
    let here = subst (λ (ps : List Part). Left (read_parts refusals (map part_of ps))) next c.loop-part.invariant in
    elim c.if-is_read.branch [
      | then-is_read+in_ok-add_checked w ↦
          let is = ap (is_read refusals 0) (sym c.deref.ensures.value) ∙ (sym c.is_read.ensures ∙ w.if-is_read.true) in
          rw w.checked-is (one-on Told sources all (part_of part) (read_parts refusals later) before _ w.in_ok-add_checked.ensures.ok (read-more refusals Left (part_of part) later is here))
      | else-is_read w ↦
          let is = ap (is_read refusals 0) (sym c.deref.ensures.value) ∙ (sym c.is_read.ensures ∙ w.if-is_read.false) in
          rw w.checked-is (read-same refusals Left (part_of part) later is here)
    ]

pub returns-clause-ok : goal.returns-clause-ok
returns-clause-ok c =
    let Told = IsToldIn (map given_of c.args.arguments.now) in
    let sources = map source_of c.args.sources.now in
    let refusals = c.args.refusals.now in
    let parts = c.args.parts.now in
    let all = read_parts refusals (map part_of parts) in
    let checked = map checked_of c.loop-part.checked.items in
    all-examined Told sources all checked
    (subst (λ (ps : List Part). Goes-on Told sources all checked (read_parts refusals (map part_of ps))) (drop_all c.loop-part.part-index parts (omega (arith, c.loop-part-test.false))) c.loop-part.invariant)
