use Rattle.std.proofs.Common.{◌≡◌, ap, arith, length, map, rules, string_bytes, tests}
use Rattle.std.proofs.lemmas.Grind.{common_steps}
use Rattle.std.proofs.lemmas.List.{nil_from_length}
use Rattle.isle_cli.proofs.SourceLemmas.{none_listed, some_listed}
use Rattle.isle_cli.proofs.folders.files_named.Goals as goal
use Rattle.isle_cli.proofs.folders.files_named.Goals.{then-is_empty+then-len-told+in_ok-line+in_ok-push_str, else-is_empty, else-is_empty-via-then-is_empty+else-len-told, else-is_empty-via-else-is_empty}

pub returns : goal.returns
returns g c =
    let files = c.in_ok-files.files in
    let before = c.args.faults.now in
    let after = c.files_of.new.faults in
    elim c.if-is_empty.branch [
      | then-is_empty+then-len-told+in_ok-line+in_ok-push_str w ↦
          let none : length files.items ≡ 0 = grind (arith, common_steps, c.is_empty.ensures, w.if-is_empty.true, files.ok.0) in
          let same : length (string_bytes after) ≡ length (string_bytes before) =
          grind (arith, common_steps, w.len.ensures, c.len-told.ensures, w.if-len-told.true, after.bytes.ok.0, before.bytes.ok.0) in
          rw w.faults-is (none_listed (map string_bytes c.args.excluded.now) c.args.program.now c.args.name.now files.items (string_bytes before) (string_bytes after) _ c.in_ok-files.ensures.told (nil_from_length files.items none) same (search (tests, rules)))
      | else-is_empty w ↦
          rw w.faults-is (some_listed (map string_bytes c.args.excluded.now) c.args.program.now c.args.name.now files.items (string_bytes before) (string_bytes after) c.in_ok-files.ensures.told c.in_ok-files.ensures.taken
          (elim w.else-is_empty.branch [
            | else-is_empty-via-then-is_empty+else-len-told v ↦
                λ both. let same : length (string_bytes after) ≡ length (string_bytes before) = ap length both.1 in
                grind (arith, common_steps, same, v.len.ensures, c.len-told.ensures, v.if-len-told.false, after.bytes.ok.0, before.bytes.ok.0)
            | else-is_empty-via-else-is_empty v ↦
                λ both. let none : length files.items ≡ 0 = ap length both.0 in
                grind (arith, common_steps, none, c.is_empty.ensures, v.if-is_empty.false, files.ok.0)
          ]))
    ]
