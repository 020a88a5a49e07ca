use Rattle.std.proofs.Common.{◌≡◌, [], drop, string_bytes}
use Rattle.isle_check_core.specs.FindingWords.{path_after}
use Rattle.isle_check_recursion.specs.Views.{names_at}
use Rattle.isle_check_core.proofs.finding.path_text.Given as goal

abbrev pub invariant-loop-name : goal.invariant-loop-name
invariant-loop-name l = path_after (string_bytes l.text) (names_at (drop l.name-index l.path)) ≡ path_after [] (names_at l.path)
