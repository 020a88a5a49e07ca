use Rattle.isle_tidy.proofs.FileLemmas.{listed-done, listed-fails}
use Rattle.isle_tidy.proofs.program.listed.Goals as goal

pub returns-in-Ok : goal.returns-in-Ok
returns-in-Ok g c = listed-done c.args.listing c.args.name.now c.args.text.now _ _ _ c.requires c.in-Ok.ensures.ok

pub returns-in-Err : goal.returns-in-Err
returns-in-Err g c =
    listed-fails c.args.listing c.args.name.now c.args.text.now c.in-Err.failure c.report_unlisted.result _ _ _ _ c.requires c.in-Err.ensures.err c.report_unlisted.ensures
