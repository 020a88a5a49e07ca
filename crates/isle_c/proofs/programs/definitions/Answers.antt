use Rattle.std.proofs.lemmas.Result.{err_from_is_err_and}
use Rattle.isle_ast.specs.TreeView.{definitions_of}
use Rattle.isle_c.proofs.ProgramLemmas.{plain_step, program_end, program_step, reading_stops}
use Rattle.isle_c.proofs.programs.definitions.Goals as goal

pub returns-in_err-defs-clause-err : goal.returns-in_err-defs-clause-err
returns-in_err-defs-clause-err c =
    let p = err_from_is_err_and c.from_residual.result c.from_residual.ensures.1 in
    rw (p.1, p.2)
    (reading_stops c.args.texts.now c.loop-file.file _ c.loop-file-test.true c.tree_of-read.result c.in_err-defs.field-0.0
    c.tree_of-read.ensures.refused c.in_err-defs.ensures.err)

pub loop-file-preserved : goal.loop-file-preserved
loop-file-preserved c =
    let read = c.tree_of-read in
    let old = c.loop-file.defs in
    let new = c.in_ok-defs.defs in
    record {
      program = program_step c.args.texts.now c.loop-file.file _ c.loop-file-test.true old new read.result c.loop-file.invariant.program read.ensures.ok c.in_ok-defs.ensures.ok;
      plain = plain_step old new read.result c.loop-file.invariant.plain read.ensures.no_macro_arg c.in_ok-defs.ensures.ok;
    }

pub returns-clause-ok : goal.returns-clause-ok
returns-clause-ok c =
    program_end c.args.texts.now c.loop-file.file (definitions_of c.loop-file.defs.items) c.loop-file-test.false c.loop-file.invariant.program
