use Rattle.std.proofs.Common.{◌≡◌, ◌++◌, map, take}
use Rattle.std.specs.List.{flat_map}
use Rattle.isle_ast_rules.specs.TreeView.{conditions_of}
use Rattle.isle_check_environment.specs.signatures.Views.{environment_of}
use Rattle.isle_check_rules.specs.Constructors.{without_constructor}
use Rattle.isle_check_rules.specs.Views.{warnings_of}
use Rattle.isle_check_rules.specs.Warnings.{constructor_warning}
use Rattle.isle_check_rules.proofs.warnings.add_rule_conditions.Given as goal

abbrev pub invariant-loop-iflet : goal.invariant-loop-iflet
invariant-loop-iflet l =
    warnings_of l.found.items
    ≡ warnings_of l.fn.found.items
    ++ flat_map (λ c. map constructor_warning (without_constructor (environment_of l.env) c.expr)) (conditions_of (take l.iflet-index l.iflet-items))
