use Rattle.std.proofs.Common.{inl, inr, map}
use Rattle.std.specs.Io.KnownBytes.{Keeps}
use Rattle.isle_cli.specs.Arguments.{given_of}
use Rattle.isle_program.specs.reports.Colours.{settled}
use Rattle.isle_check.proofs.EndLemmas.{ends-cut, ends-done, ends-statuses, ends-unwritten}
use Rattle.isle_check.specs.Doing.{CutsPrograms}
use Rattle.isle_program_findings.proofs.CallLemmas.{fails-cut, fails-kept, fails-misused, fails-not-three, fails-past-one, fails-statuses}
use Rattle.isle_check.proofs.manifests.run_programs.Goals as goal

pub returns-in-Ok : goal.returns-in-Ok
returns-in-Ok g c =
    let given = settled c.args.shows_colours (map given_of c.args.arguments.items) in
    let before = g.W.Write.contents c.args.streams.now.output in
    let after = g.W.Write.contents c.check_programs.new.streams.output in
    record {
      statuses = ends-statuses given before after c.in-Ok.status c.in-Ok.ensures.ok;
      done = ends-done given before after c.in-Ok.status c.in-Ok.ensures.ok;
      unwritten = ends-unwritten given before after c.in-Ok.status c.in-Ok.ensures.ok;
      cut = ends-cut given before after c.in-Ok.status c.in-Ok.ensures.ok;
    }

pub returns-in-Err : goal.returns-in-Err
returns-in-Err g c =
    let given = settled c.args.shows_colours (map given_of c.args.arguments.items) in
    let before = g.W.Write.contents c.args.streams.now.output in
    let after = g.W.Write.contents c.check_programs.new.streams.output in
    let kept = Keeps before after in
    let cut = CutsPrograms given before after in
    let why = c.in-Err.ensures.err in
    let is = c.report.ensures.status in
    record {
      statuses = fails-statuses kept kept cut c.in-Err.failure c.report.result why is;
      done = λ low. absurd (fails-past-one kept kept cut c.in-Err.failure c.report.result why is low);
      unwritten = λ which. elim which [
        | inl two ↦ fails-misused kept kept cut c.in-Err.failure c.report.result why is two
        | inr later ↦ elim later [
          | inl three ↦ absurd (fails-not-three kept kept cut c.in-Err.failure c.report.result why is three)
          | inr four ↦ fails-kept kept kept cut c.in-Err.failure c.report.result why is four
        ]
      ];
      cut = fails-cut kept kept cut c.in-Err.failure c.report.result why is;
    }
