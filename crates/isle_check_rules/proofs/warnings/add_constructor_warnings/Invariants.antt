use Rattle.std.proofs.Common.{◌≡◌, ◌++◌, map, take}
use Rattle.isle_check_rules.specs.Views.{heads_at, warnings_of}
use Rattle.isle_check_rules.specs.Warnings.{constructor_warning}
use Rattle.isle_check_rules.proofs.warnings.add_constructor_warnings.Given as goal

abbrev pub invariant-loop-pos : goal.invariant-loop-pos
invariant-loop-pos l =
    warnings_of l.found.items ≡ warnings_of l.fn.found.items ++ map constructor_warning (heads_at (take l.pos-index l.heads))
