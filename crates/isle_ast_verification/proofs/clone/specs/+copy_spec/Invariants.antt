use Rattle.std.proofs.Common.{◌≡◌, take}
use Rattle.isle_ast_verification.specs.TreeView.{specs_of, single_arms_of, single_spec_lets_of, single_field_inits_of}
use Rattle.isle_ast_verification.proofs.clone.specs.+copy_spec.Given as goal

abbrev pub invariant-copy_specs-loop-expr : goal.invariant-copy_specs-loop-expr
invariant-copy_specs-loop-expr l = specs_of l.copies.items ≡ specs_of (take l.expr-index l.expr-items)

abbrev pub invariant-copy_arms-loop-arm : goal.invariant-copy_arms-loop-arm
invariant-copy_arms-loop-arm l = single_arms_of l.copies.items ≡ single_arms_of (take l.arm-index l.arm-items)

abbrev pub invariant-copy_spec_lets-loop-def : goal.invariant-copy_spec_lets-loop-def
invariant-copy_spec_lets-loop-def l = single_spec_lets_of l.copies.items ≡ single_spec_lets_of (take l.def-index l.def-items)

abbrev pub invariant-copy_field_inits-loop-field : goal.invariant-copy_field_inits-loop-field
invariant-copy_field_inits-loop-field l = single_field_inits_of l.copies.items ≡ single_field_inits_of (take l.field-index l.field-items)
