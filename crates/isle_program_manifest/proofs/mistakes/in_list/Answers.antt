use Rattle.std.proofs.Common.{◌≡◌, ◌<◌, length, arith, ◌∙◌}
use Rattle.std.proofs.lemmas.Bool.Decides.{nat_tests}
use Rattle.std.proofs.lemmas.Grind.{common_steps}
use Rattle.isle_program_manifest.proofs.ManifestLemmas.{in_no_paths, in_some_paths}
use Rattle.isle_program_manifest.proofs.mistakes.in_list.Goals as goal

pub returns-then-is_empty : goal.returns-then-is_empty
returns-then-is_empty c =
    let none : length c.args.paths.now.items ≡ 0 = grind (arith, nat_tests, common_steps) in
    c.about.ensures ∙ in_no_paths c.args.number c.args.paths.now.items none

pub returns-else-is_empty : goal.returns-else-is_empty
returns-else-is_empty c =
    let some : 0 < length c.args.paths.now.items = grind (arith, nat_tests, common_steps) in
    c.in_paths.ensures ∙ in_some_paths c.args.number c.args.paths.now.items some
