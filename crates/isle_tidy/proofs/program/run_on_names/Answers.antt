use Rattle.std.proofs.Common.{map, string_bytes}
use Rattle.std.proofs.KnownBytes.{Keeps-trans}
use Rattle.isle_tidy.proofs.NameLemmas.{files-end, names-end}
use Rattle.isle_tidy.proofs.program.run_on_names.Goals as goal

pub returns : goal.returns
returns g c =
    let names = map string_bytes c.args.names.now in
    let runs = c.run_on_each-status.ensures in
    let all = names-end c.args.task.now.program.now c.args.task.now.listing c.args.task.now.stdin_name.now names c.run_on_each-status.result _ _ _ _ _ _ runs in
    let files = files-end c.args.task.now.program.now c.args.task.now.listing c.args.task.now.stdin_name.now names c.run_on_each-status.result _ _ _ _ _ _ runs in
    record {
      statuses = all.0;
      used = all.1;
      unread = λ alone. (files alone).0;
      unwritten = λ zero alone. (files alone).1.unwritten zero;
      in_place = λ alone off. (files alone).1.in_place off;
      quiet = λ zero. Keeps-trans _ _ _ (all.2 zero) (c.tell_changes.ensures.quiet zero);
      named = (_, _, runs, c.tell_changes.ensures.told);
    }
