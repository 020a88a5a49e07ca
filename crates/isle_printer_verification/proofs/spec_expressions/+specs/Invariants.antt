-- The nodes on the tape are the last ones. A list that is begun has the tape of the list around it.
use Rattle.std.proofs.Common.{◌≡◌, ◌∷◌, drop}
use Rattle.isle_ast_verification.specs.TreeView.{arm_list_of, field_init_list_of, single_arms_of, single_field_inits_of, single_spec_lets_of, spec_let_list_of, spec_list_of, specs_of}
use Rattle.isle_printer_layout.specs.Pieces.{put_before}
use Rattle.isle_printer_verification.specs.SpecShapes.{arm_shapes, field_init_shapes, spec_let_shapes, spec_shapes}
use Rattle.isle_printer_verification.proofs.spec_expressions.+specs.Given as goal

abbrev pub invariant-each_spec-loop-at : goal.invariant-each_spec-loop-at
invariant-each_spec-loop-at l =
    l.tape ≡ put_before (spec_shapes (spec_list_of (specs_of (drop l.at l.nodes)))) l.fn.tape

abbrev pub invariant-each_arm-loop-at : goal.invariant-each_arm-loop-at
invariant-each_arm-loop-at l =
    l.tape ≡ put_before (arm_shapes (arm_list_of (single_arms_of (drop l.at l.nodes)))) l.fn.tape

abbrev pub invariant-spec_lets-loop-at : goal.invariant-spec_lets-loop-at
invariant-spec_lets-loop-at l =
    l.tape ≡ (spec_let_shapes (spec_let_list_of (single_spec_lets_of (drop l.at l.nodes))), l.fn.tape.0 ∷ l.fn.tape.1)

abbrev pub invariant-field_inits-loop-at : goal.invariant-field_inits-loop-at
invariant-field_inits-loop-at l =
    l.tape ≡ (field_init_shapes (field_init_list_of (single_field_inits_of (drop l.at l.nodes))), l.fn.tape.0 ∷ l.fn.tape.1)
