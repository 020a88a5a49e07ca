use Rattle.std.proofs.Common.{ap, inl, inr, map, refl, ⊎_elim, ◌∙◌}
use Rattle.isle_cli.specs.Arguments.{given_of, name_list, work_asked}
use Rattle.isle_tidy.proofs.NameLemmas.{asked-named}
use Rattle.isle_tidy.proofs.StreamLemmas.{without-names}
use Rattle.isle_tidy.proofs.WordLemmas.{asked-told, past-two, words-told-here}
use Rattle.isle_tidy.proofs.program.run.Goals as goal

pub returns-in-Ok-Work-clause-unwritten : goal.returns-in-Ok-Work-clause-unwritten
returns-in-Ok-Work-clause-unwritten g c =
    λ past whole none.
    let is = rw c.in-Ok-Work.field-0-is at c.in-Ok-Work.ensures.ok in
    let empty = without-names _ (map given_of c.in-Ok-Work.arguments.items) is (λ of. none (c.this_program-program.result, c.own_options-options.result, c.this_program-program.ensures, c.own_options-options.ensures, of)) in
    c.work.ensures.unwritten past whole (ap (λ items. name_list (map given_of items)) (rw c.in-Ok-Work.field-0-is at c.deref.ensures.value) ∙ empty)

pub returns-in-Ok-Work-clause-told : goal.returns-in-Ok-Work-clause-told
returns-in-Ok-Work-clause-told g c =
    λ past other none.
    let is = rw c.in-Ok-Work.field-0-is at c.in-Ok-Work.ensures.ok in
    let empty = without-names _ (map given_of c.in-Ok-Work.arguments.items) is (λ of. none (c.this_program-program.result, c.own_options-options.result, c.this_program-program.ensures, c.own_options-options.ensures, of)) in
    let told = c.work.ensures.told past other (ap (λ items. name_list (map given_of items)) (rw c.in-Ok-Work.field-0-is at c.deref.ensures.value) ∙ empty) in
    asked-told c.this_program-program.result c.own_options-options.result _ _ c.work.result _ _ c.this_program-program.ensures c.own_options-options.ensures is told

pub returns-in-Ok-Work-clause-named : goal.returns-in-Ok-Work-clause-named
returns-in-Ok-Work-clause-named g c =
    λ used.
    let is = rw c.in-Ok-Work.field-0-is at c.in-Ok-Work.ensures.ok in
    let same = rw c.in-Ok-Work.field-0-is at c.deref.ensures.value in
    ⊎_elim (λ starved. inl starved)
    (λ runs. inr (c.this_program-program.result, c.own_options-options.result, c.this_program-program.ensures, c.own_options-options.ensures, (work_asked (map given_of c.in-Ok-Work.arguments.items), is, runs)))
    (asked-named c.this_program-program.result _ c.in-Ok-Work.arguments.items c.work.result _ _ _ _ _ _ same c.work.ensures.named)

pub returns-in-Ok-Help-clause-told : goal.returns-in-Ok-Help-clause-told
returns-in-Ok-Help-clause-told g c =
    λ past other none.
    let is = rw c.in-Ok-Help.field-0-is at c.in-Ok-Help.ensures.ok in
    asked-told c.this_program-program.result c.own_options-options.result _ _ c.tell.result _ _ c.this_program-program.ensures c.own_options-options.ensures is
    (c.tell.ensures.told (past-two c.tell.result c.tell.ensures.statuses past))

pub returns-in-Ok-Version-clause-told : goal.returns-in-Ok-Version-clause-told
returns-in-Ok-Version-clause-told g c =
    λ past other none.
    let is = rw c.in-Ok-Version.field-0-is at c.in-Ok-Version.ensures.ok in
    asked-told c.this_program-program.result c.own_options-options.result _ _ c.tell-in-Ok-Version.result _ _ c.this_program-program.ensures c.own_options-options.ensures is
    (c.tell-in-Ok-Version.ensures.told (past-two c.tell-in-Ok-Version.result c.tell-in-Ok-Version.ensures.statuses past))

pub returns-in-Err-clause-told : goal.returns-in-Err-clause-told
returns-in-Err-clause-told g c =
    λ past other none.
    words-told-here c.this_program-program.result c.own_options-options.result _ _ c.in-Err.failure c.report_words.result _ _ c.this_program-program.ensures c.own_options-options.ensures (record { flags = refl; settings = refl })
    c.in-Err.ensures.err c.report_words.ensures.status c.report_words.ensures.text
