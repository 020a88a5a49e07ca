use Rattle.std.proofs.Common.{◌≡◌, ◌≤◌, [], arith, length, map, string_bytes, subst, sym}
use Rattle.std.proofs.lemmas.Grind.{common_steps}
use Rattle.std.proofs.lemmas.List.{nil_from_length}
use Rattle.isle_cli.specs.Arguments.{excluded, given_of}
use Rattle.isle_tidy.proofs.FileLemmas.{missed-first, runs-some, starved}
use Rattle.isle_tidy.proofs.NameLemmas.{nothing-behind, some-found}
use Rattle.isle_tidy.proofs.program.run_on_path.Goals as goal

pub returns-in-Ok : goal.returns-in-Ok
returns-in-Ok g c =
    let lines = c.files_at.new.lines in
    let listed = c.in-Ok.ensures in
    let none : length (string_bytes lines) ≡ 0 = grind (arith, common_steps, c.is_empty.ensures, c.if-is_empty.true, lines.bytes.ok.0) in
    let silent : listed.0 ≡ [] = nothing-behind (string_bytes c.new-lines.result) listed.0 (string_bytes lines) listed.2 (nil_from_length (string_bytes lines) none) in
    let some : 1 ≤ length c.in-Ok.files.items = some-found c.args.task.now.program.now (excluded (map given_of c.args.task.now.arguments.now)) c.args.name.now c.in-Ok.files.items listed.0 listed.1 silent in
    runs-some c.args.task.now.listing (length c.deref.result.now) c.run_on_files.result _ _ _ _ (subst (λ xs. 1 ≤ length xs) (sym c.deref.ensures.value) some) c.run_on_files.ensures

pub returns-in-Ok-2 : goal.returns-in-Ok-2
returns-in-Ok-2 g c = missed-first c.args.task.now.listing _ c.run_on_files-in-Ok-2.result c.max.result _ _ _ _ _ c.run_on_files-in-Ok-2.ensures c.max.ensures

pub returns : goal.returns
returns g c = starved c.args.task.now.listing c.report.result _ _ _ c.report.ensures.status
