use Rattle.std.proofs.Common.{◌≡◌, drop}
use Rattle.isle_ast_verification.proofs.Same.SpecLists.{spec_lists, arm_lists, spec_let_lists, field_init_lists}
use Rattle.isle_ast_verification.proofs.compare.specs.+same.Given as goal

abbrev pub invariant-same_specs-loop-i : goal.invariant-same_specs-loop-i
invariant-same_specs-loop-i l = spec_lists (drop l.i l.exprs.items) (drop l.i l.others.items) ≡ spec_lists l.exprs.items l.others.items

abbrev pub invariant-same_arms-loop-i : goal.invariant-same_arms-loop-i
invariant-same_arms-loop-i l = arm_lists (drop l.i l.arms.items) (drop l.i l.others.items) ≡ arm_lists l.arms.items l.others.items

abbrev pub invariant-same_spec_lets-loop-i : goal.invariant-same_spec_lets-loop-i
invariant-same_spec_lets-loop-i l = spec_let_lists (drop l.i l.defs.items) (drop l.i l.others.items) ≡ spec_let_lists l.defs.items l.others.items

abbrev pub invariant-same_field_inits-loop-i : goal.invariant-same_field_inits-loop-i
invariant-same_field_inits-loop-i l = field_init_lists (drop l.i l.fields.items) (drop l.i l.others.items) ≡ field_init_lists l.fields.items l.others.items
