use Rattle.std.proofs.Common.{map, arith}
use Rattle.isle_cli.specs.Arguments.{given_of}
use Rattle.isle_expand.proofs.DoingLemmas.{texts-cut, texts-expanded, texts-failed, texts-kept, texts-statuses, texts-unwritten}
use Rattle.isle_expand.proofs.manifests.run_program.Goals as goal

pub returns-in-Ok : goal.returns-in-Ok
returns-in-Ok g c =
    let given = map given_of c.args.arguments.now in
    let before = g.W.Write.contents c.args.streams.now.output in
    let after = g.W.Write.contents c.expand_program.new.streams.output in
    let low = texts-statuses given c.in-Ok.status before after c.in-Ok.ensures.ok in
    record {
      statuses = omega (arith, low);
      expanded = texts-expanded given c.in-Ok.status before after c.in-Ok.ensures.ok;
      cut = λ five. absurd (omega (arith, low, five));
      unwritten = λ some _. texts-unwritten given c.in-Ok.status before after c.in-Ok.ensures.ok some;
    }

pub returns-in-Err : goal.returns-in-Err
returns-in-Err g c =
    let given = map given_of c.args.arguments.now in
    let before = g.W.Write.contents c.args.streams.now.output in
    let after = g.W.Write.contents c.expand_program.new.streams.output in
    let is = c.report.ensures.status in
    let known = texts-failed given c.in-Err.failure c.report.result before after c.in-Err.ensures.err is in
    record {
      statuses = known.1;
      expanded = λ zero. absurd (omega (arith, known.0, zero));
      cut = texts-cut given c.in-Err.failure c.report.result before after c.in-Err.ensures.err is;
      unwritten = λ _ other. texts-kept given c.in-Err.failure c.report.result before after c.in-Err.ensures.err is other;
    }
