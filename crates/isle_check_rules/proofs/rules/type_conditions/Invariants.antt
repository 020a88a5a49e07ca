use Rattle.std.proofs.Common.{◌≡◌, [], drop}
use Rattle.isle_ast_rules.specs.TreeView.{conditions_of}
use Rattle.isle_check_environment.specs.signatures.Views.{environment_of}
use Rattle.isle_check_typing.specs.Views.{progress_of}
use Rattle.isle_check_rules.specs.RuleTypes.{type_conditions}
use Rattle.isle_check_rules.specs.Views.{typed_conditions_of}
use Rattle.isle_check_rules.proofs.rules.type_conditions.Given as goal

abbrev pub invariant-loop-iflet : goal.invariant-loop-iflet
invariant-loop-iflet l =
    type_conditions l.depth (environment_of l.env) l.flags (conditions_of (drop l.iflet-index l.iflets)) (typed_conditions_of l.typed.items) (progress_of l.progress)
    ≡ type_conditions l.depth (environment_of l.env) l.flags (conditions_of l.iflets) [] (progress_of l.fn.progress)
