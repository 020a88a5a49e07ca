use Rattle.std.proofs.Common.{◌≡◌, ◌+◌, ◌*◌, [], drop, map, string_bytes}
use Rattle.isle_ast_rules.specs.TreeView.{pattern_list_of, patterns_of}
use Rattle.isle_check_environment.specs.signatures.Views.{environment_of}
use Rattle.isle_check_typing.specs.PatternTypes.{arguments_by, each_by, type_at}
use Rattle.isle_check_typing.specs.TypedView.{all_typed_of}
use Rattle.isle_check_typing.specs.Views.{progress_of}
use Rattle.isle_check_typing.proofs.patterns.+pattern.Given as goal

abbrev pub invariant-type_each-loop-pattern : goal.invariant-type_each-loop-pattern
invariant-type_each-loop-pattern l =
    each_by (type_at l.depth (environment_of l.env)) (pattern_list_of (patterns_of (drop l.pattern-index l.pattern-items))) l.ty (all_typed_of l.typed.items) (progress_of l.progress)
    ≡ each_by (type_at l.depth (environment_of l.env)) (pattern_list_of (patterns_of l.pattern-items)) l.ty [] (progress_of l.fn.progress)

abbrev pub invariant-type_arguments-loop-number : goal.invariant-type_arguments-loop-number
invariant-type_arguments-loop-number l =
    arguments_by (type_at l.depth (environment_of l.env)) (pattern_list_of (patterns_of (drop l.number l.patterns))) (map string_bytes (drop l.number l.types.items)) (all_typed_of l.typed.items) (progress_of l.progress)
    ≡ arguments_by (type_at l.depth (environment_of l.env)) (pattern_list_of (patterns_of l.patterns)) (map string_bytes l.types.items) [] (progress_of l.fn.progress)

abbrev pub decreases-type_pattern : goal.decreases-type_pattern
decreases-type_pattern l = 8 * l.depth

abbrev pub decreases-type_step : goal.decreases-type_step
decreases-type_step l = 8 * l.depth + 7

abbrev pub decreases-type_term : goal.decreases-type_term
decreases-type_term l = 8 * l.depth + 6

abbrev pub decreases-type_found : goal.decreases-type_found
decreases-type_found l = 8 * l.depth + 5

abbrev pub decreases-type_own : goal.decreases-type_own
decreases-type_own l = 8 * l.depth + 4

abbrev pub decreases-type_extracted : goal.decreases-type_extracted
decreases-type_extracted l = 8 * l.depth + 3

abbrev pub decreases-type_and : goal.decreases-type_and
decreases-type_and l = 8 * l.depth + 2

abbrev pub decreases-type_copied : goal.decreases-type_copied
decreases-type_copied l = 8 * l.depth + 1

abbrev pub decreases-type_put : goal.decreases-type_put
decreases-type_put l = 8 * l.depth + 2

abbrev pub decreases-type_filled : goal.decreases-type_filled
decreases-type_filled l = 8 * l.depth + 1

abbrev pub decreases-type_each : goal.decreases-type_each
decreases-type_each l = 8 * l.depth + 1

abbrev pub decreases-type_arguments : goal.decreases-type_arguments
decreases-type_arguments l = 8 * l.depth + 1
