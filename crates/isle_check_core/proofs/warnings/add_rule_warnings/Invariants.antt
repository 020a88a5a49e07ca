use Rattle.std.proofs.Common.{◌≡◌, ◌++◌, map}
use Rattle.std.specs.Vec.Iter.{into_iter_items}
use Rattle.isle_check_core.specs.Findings.{of_warning}
use Rattle.isle_check_core.specs.Views.{findings_of}
use Rattle.isle_check_rules.specs.Views.{warnings_of}
use Rattle.isle_check_core.proofs.warnings.add_rule_warnings.Given as goal

abbrev pub invariant-loop-warning : goal.invariant-loop-warning
invariant-loop-warning l =
    findings_of l.found.items ++ map of_warning (warnings_of (into_iter_items l.warning-iterator))
    ≡ findings_of l.fn.found.items ++ map of_warning (warnings_of l.fn.warnings.items)
