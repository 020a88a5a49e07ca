use Rattle.std.proofs.Common.{◌≡◌, ◌≤◌, arith, false, inl, inr, map, refl}
use Rattle.std.specs.Io.KnownBytes.{Keeps}
use Rattle.isle_cli.specs.Arguments.{given_of}
use Rattle.isle_check.proofs.DoingLemmas.{told-quiet}
use Rattle.isle_check.proofs.ThisLemmas.{this}
use Rattle.isle_check.specs.Doing.{Cuts, IsProgram}
use Rattle.isle_check.specs.Options.{are_usable}
use Rattle.isle_program_findings.proofs.CallLemmas.{failure-told, fails-cut, fails-kept, fails-misused, fails-none-else, fails-past-one, fails-statuses}
use Rattle.isle_program.specs.reports.Colours.{settled}
use Rattle.isle_check.proofs.program.work.Goals as goal

pub returns-in-Err : goal.returns-in-Err
returns-in-Err g c =
    let given = settled c.args.shows_colours (map given_of c.args.arguments.items) in
    let input = g.I.Read.remaining c.args.streams.now.input in
    let input' = g.I.Read.remaining c.check_files.new.streams.input in
    let output = g.W.Write.contents c.args.streams.now.output in
    let output' = g.W.Write.contents c.check_files.new.streams.output in
    let misused = (are_usable given ≡ false) × Keeps input input' × Keeps output output' in
    let kept = Keeps output output' in
    let cut = Cuts given input input' output output' in
    let failure = c.in-Err.failure in
    let status = c.report.result in
    let why = c.in-Err.ensures.err in
    let is = c.report.ensures.status in
    record {
      statuses = fails-statuses misused kept cut failure status why is;
      usage = λ two. let said = fails-misused misused kept cut failure status why is two in (said.0, said.1);
      done = λ two four five. absurd (fails-none-else misused kept cut failure status why is two four five);
      unwritten = λ which. elim which [
        | inl two ↦ (fails-misused misused kept cut failure status why is two).2
        | inr four ↦ fails-kept misused kept cut failure status why is four
      ];
      cut = fails-cut misused kept cut failure status why is;
      quiet = λ low. absurd (fails-past-one misused kept cut failure status why is low);
      told = λ two three. failure-told IsProgram this (refl, refl) failure status _ _ _ c.in-Err.ensures.quiet is c.report.ensures.text;
    }

pub returns-in-Ok : goal.returns-in-Ok
returns-in-Ok g c =
    let at_most : c.in-Ok.status ≤ 3 = c.in-Ok.ensures.quiet.0 in
    let not_two = c.in-Ok.ensures.quiet.1 in
    record {
      statuses = omega (arith, at_most);
      usage = λ two. absurd (not_two two);
      done = λ two four five. c.in-Ok.ensures.ok;
      unwritten = λ which. elim which [ inl two ↦ absurd (not_two two) | inr four ↦ absurd (omega (arith, at_most, four)) ];
      cut = λ five. absurd (omega (arith, at_most, five));
      quiet = λ low. told-quiet _ c.in-Ok.status _ _ _ _ _ _ c.in-Ok.ensures.ok low;
      told = λ two three. absurd (omega (arith, at_most, not_two, two, three));
    }
