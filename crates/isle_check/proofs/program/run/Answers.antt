use Rattle.std.proofs.Common.{inl, inr, map, refl, sym, ◌∙◌}
use Rattle.std.proofs.KnownBytes.{Keeps-refl}
use Rattle.isle_cli.specs.Arguments.{given_of, work_asked}
use Rattle.isle_program_findings.proofs.CallLemmas.{aside-cut, aside-done, aside-quiet, aside-statuses, aside-told, aside-unwritten, aside-usage, asked-told, settled-usable}
use Rattle.isle_check.proofs.ThisLemmas.{all}
use Rattle.isle_check.specs.Doing.{AreAllOptions, AreOptions, CutsAsked, Does, IsProgram}
use Rattle.isle_check.specs.Options.{is_usable}
use Rattle.isle_check.proofs.program.run.Goals as goal

pub returns-in-Err : goal.returns-in-Err
returns-in-Err g c =
    let aside = c.in-Err.aside in
    let why = c.in-Err.ensures.aside in
    let tells = c.tell_aside.ensures in
    let status = c.tell_aside.result in
    record {
      usage = λ two. inl (_, (refl, refl), aside-usage _ _ _ _ status _ _ _ _ aside why tells two);
      unread = λ two. Keeps-refl _;
      done = λ two four five.
          aside-done _ _ _ _ status _ _ _ _ IsProgram AreOptions AreAllOptions (refl, refl) (refl, refl) (refl, refl)
          (λ what. Does c.args.shows_colours what status _ _ _ _ _ _) aside why tells two four five
          (λ zero written quiet. (zero, Keeps-refl _, written, quiet)) (λ zero written quiet. (zero, Keeps-refl _, written, quiet));
      unwritten = aside-unwritten _ all _ _ status _ _ _ _ aside tells;
      cut = λ five.
          aside-cut _ _ _ _ status _ _ _ _ IsProgram AreOptions AreAllOptions (refl, refl) (refl, refl) (refl, refl)
          (λ what. CutsAsked c.args.shows_colours what _ _ _ _) aside why tells five (λ begun. (Keeps-refl _, begun)) (λ begun. (Keeps-refl _, begun));
      quiet = aside-quiet _ _ _ _ status _ _ _ _ aside why tells;
      told = λ two three. aside-told _ _ _ _ status _ _ _ _ IsProgram AreOptions AreAllOptions (refl, refl) (refl, refl) (refl, refl) aside why tells two;
      statuses = aside-statuses _ _ _ _ status _ _ _ _ aside why tells;
    }

pub returns-in-Ok : goal.returns-in-Ok
returns-in-Ok g c =
    let given = map given_of c.in-Ok.arguments.items in
    let asks = c.in-Ok.ensures.work in
    record {
      usage = λ two. inr (given, (_, (refl, refl), asks), sym (settled-usable is_usable c.args.shows_colours given refl) ∙ (c.work.ensures.usage two).0);
      unread = λ two. (c.work.ensures.usage two).1;
      done = λ two four five. (work_asked given, (_, (refl, refl), asks), c.work.ensures.done two four five);
      unwritten = c.work.ensures.unwritten;
      cut = λ five. (work_asked given, (_, (refl, refl), asks), c.work.ensures.cut five);
      quiet = c.work.ensures.quiet;
      told = λ two three. asked-told IsProgram AreOptions AreAllOptions _ all _ _ c.work.result _ _ (refl, refl) (refl, refl) asks (c.work.ensures.told two three);
      statuses = c.work.ensures.statuses;
    }
