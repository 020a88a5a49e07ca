use Rattle.std.proofs.Common.{◌≡◌, drop}
use Rattle.isle_ast_verification.specs.TreeView.{arm_list_of, field_init_list_of, single_arms_of, single_field_inits_of, single_spec_lets_of, spec_let_list_of, spec_list_of, specs_of}
use Rattle.isle_ast_verification.specs.WritableDeciders.{are_writable_arms, are_writable_cases, are_writable_field_inits, are_writable_pairs, are_writable_spec_lets, are_writable_specs}
use Rattle.isle_ast_verification.proofs.writability.specs.+writable.Given as goal

abbrev pub invariant-are_writable_specs-loop-expr : goal.invariant-are_writable_specs-loop-expr
invariant-are_writable_specs-loop-expr l =
    are_writable_specs (spec_list_of (specs_of (drop l.expr-index l.expr-items))) ≡ are_writable_specs (spec_list_of (specs_of l.expr-items))

abbrev pub invariant-are_writable_cases-loop-i : goal.invariant-are_writable_cases-loop-i
invariant-are_writable_cases-loop-i l =
    are_writable_pairs (spec_list_of (specs_of (drop l.i l.exprs.items))) ≡ are_writable_cases (spec_list_of (specs_of l.exprs.items))

abbrev pub invariant-are_writable_arms-loop-arm : goal.invariant-are_writable_arms-loop-arm
invariant-are_writable_arms-loop-arm l =
    are_writable_arms (arm_list_of (single_arms_of (drop l.arm-index l.arm-items))) ≡ are_writable_arms (arm_list_of (single_arms_of l.arm-items))

abbrev pub invariant-are_writable_lets-loop-def : goal.invariant-are_writable_lets-loop-def
invariant-are_writable_lets-loop-def l =
    are_writable_spec_lets (spec_let_list_of (single_spec_lets_of (drop l.def-index l.def-items))) ≡ are_writable_spec_lets (spec_let_list_of (single_spec_lets_of l.def-items))

abbrev pub invariant-are_writable_fields-loop-field : goal.invariant-are_writable_fields-loop-field
invariant-are_writable_fields-loop-field l =
    are_writable_field_inits (field_init_list_of (single_field_inits_of (drop l.field-index l.field-items))) ≡ are_writable_field_inits (field_init_list_of (single_field_inits_of l.field-items))
