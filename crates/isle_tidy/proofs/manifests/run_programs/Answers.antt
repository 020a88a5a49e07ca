use Rattle.std.proofs.Common.{map}
use Rattle.isle_cli.specs.Arguments.{given_of}
use Rattle.isle_tidy.specs.Doing.{listing_of}
use Rattle.isle_tidy.proofs.FileLemmas.{programs-fail, programs-in_place, programs-known, programs-unwritten}
use Rattle.isle_tidy.proofs.manifests.run_programs.Goals as goal

pub returns-in-Ok : goal.returns-in-Ok
returns-in-Ok g c =
    let listing = listing_of (map given_of c.args.arguments.now) in
    let before = g.W.Write.contents c.args.streams.now.output in
    let after = g.W.Write.contents c.tidy_programs.new.streams.output in
    record {
      statuses = programs-known listing c.in-Ok.status before after c.in-Ok.ensures.ok;
      ends = c.in-Ok.ensures.ok;
      unwritten = programs-unwritten listing c.in-Ok.status before after c.in-Ok.ensures.ok;
      in_place = programs-in_place listing c.in-Ok.status before after c.in-Ok.ensures.ok;
    }

pub returns-in-Err : goal.returns-in-Err
returns-in-Err g c =
    let listing = listing_of (map given_of c.args.arguments.now) in
    let before = g.W.Write.contents c.args.streams.now.output in
    let after = g.W.Write.contents c.tidy_programs.new.streams.output in
    let ends = programs-fail listing c.in-Err.failure c.report.result before after c.in-Err.ensures.err c.report.ensures.status c.in-Err.ensures.kept in
    record {
      statuses = programs-known listing c.report.result before after ends;
      ends = ends;
      unwritten = programs-unwritten listing c.report.result before after ends;
      in_place = programs-in_place listing c.report.result before after ends;
    }
