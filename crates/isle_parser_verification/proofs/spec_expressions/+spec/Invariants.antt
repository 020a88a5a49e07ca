use Rattle.std.proofs.Common.{◌≡◌, ◌+◌, ◌*◌, ◌≤◌, [], ◌∷◌, length}
use Rattle.isle_ast_verification.specs.TreeView.{single_arms_of, single_field_inits_of, single_spec_lets_of, spec_of, specs_of}
use Rattle.isle_parser_cursor.specs.Outcomes.{left, source}
use Rattle.isle_parser_verification.specs.SpecReaders.{arm, field_init, spec_expression, spec_let, spec_pair}
use Rattle.isle_parser_cursor.specs.Reading.{at_rparen, many}
use Rattle.isle_parser_cursor.proofs.Loops.{behind_front}
use Rattle.isle_parser_verification.proofs.spec_expressions.+spec.Given as goal

abbrev pub decreases-parse_spec_expr : goal.decreases-parse_spec_expr
decreases-parse_spec_expr l = 4 * length (left l.cursor.now)

abbrev pub decreases-parse_spec_inside : goal.decreases-parse_spec_inside
decreases-parse_spec_inside l = 4 * length (left l.cursor.now)

abbrev pub decreases-parse_case : goal.decreases-parse_case
decreases-parse_case l = 4 * length (left l.cursor.now)

abbrev pub decreases-parse_spec_letdefs : goal.decreases-parse_spec_letdefs
decreases-parse_spec_letdefs l = 4 * length (left l.cursor.now)

abbrev pub decreases-parse_spec_letdef : goal.decreases-parse_spec_letdef
decreases-parse_spec_letdef l = 4 * length (left l.cursor.now)

abbrev pub decreases-parse_arm : goal.decreases-parse_arm
decreases-parse_arm l = 4 * length (left l.cursor.now)

abbrev pub decreases-parse_field_init : goal.decreases-parse_field_init
decreases-parse_field_init l = 4 * length (left l.cursor.now)

abbrev pub decreases-parse_switch : goal.decreases-parse_switch
decreases-parse_switch l = 4 * length (left l.cursor.now) + 2

abbrev pub decreases-parse_spec_let : goal.decreases-parse_spec_let
decreases-parse_spec_let l = 4 * length (left l.cursor.now) + 2

abbrev pub decreases-parse_with : goal.decreases-parse_with
decreases-parse_with l = 4 * length (left l.cursor.now) + 2

abbrev pub decreases-parse_match : goal.decreases-parse_match
decreases-parse_match l = 4 * length (left l.cursor.now) + 2

abbrev pub decreases-parse_spec_struct : goal.decreases-parse_spec_struct
decreases-parse_spec_struct l = 4 * length (left l.cursor.now) + 2

abbrev pub decreases-parse_macro : goal.decreases-parse_macro
decreases-parse_macro l = 4 * length (left l.cursor.now) + 2

abbrev pub decreases-parse_as : goal.decreases-parse_as
decreases-parse_as l = 4 * length (left l.cursor.now) + 2

abbrev pub decreases-parse_discriminator : goal.decreases-parse_discriminator
decreases-parse_discriminator l = 4 * length (left l.cursor.now) + 2

abbrev pub decreases-parse_expansion : goal.decreases-parse_expansion
decreases-parse_expansion l = 4 * length (left l.cursor.now) + 2

abbrev pub decreases-parse_operation : goal.decreases-parse_operation
decreases-parse_operation l = 4 * length (left l.cursor.now) + 2

abbrev pub decreases-parse_field : goal.decreases-parse_field
decreases-parse_field l = 4 * length (left l.cursor.now) + 2

abbrev pub decreases-parse_variant : goal.decreases-parse_variant
decreases-parse_variant l = 4 * length (left l.cursor.now) + 2

abbrev pub decreases-parse_behind_spec_head : goal.decreases-parse_behind_spec_head
decreases-parse_behind_spec_head l = 4 * length (left l.cursor.now) + 3

abbrev pub decreases-parse_spec_exprs : goal.decreases-parse_spec_exprs
decreases-parse_spec_exprs l = 4 * length (left l.cursor.now) + 1

abbrev pub decreases-parse_spec_letdef_list : goal.decreases-parse_spec_letdef_list
decreases-parse_spec_letdef_list l = 4 * length (left l.cursor.now) + 1

abbrev pub decreases-parse_arms : goal.decreases-parse_arms
decreases-parse_arms l = 4 * length (left l.cursor.now) + 1

abbrev pub decreases-parse_field_inits : goal.decreases-parse_field_inits
decreases-parse_field_inits l = 4 * length (left l.cursor.now) + 1

abbrev pub decreases-parse_cases : goal.decreases-parse_cases
decreases-parse_cases l = 4 * length (left l.cursor.now) + 1

-- what was read, with what is still read, is the whole list
abbrev pub invariant-parse_spec_exprs-loop-alloc : goal.invariant-parse_spec_exprs-loop-alloc
invariant-parse_spec_exprs-loop-alloc l =
    record {
      same : source l.cursor ≡ source l.fn.cursor;
      so_far : behind_front (specs_of l.exprs.items) (many at_rparen spec_expression (left l.cursor)) ≡ many at_rparen spec_expression (left l.fn.cursor);
      shorter : length (left l.cursor) ≤ length (left l.fn.cursor);
    }

abbrev pub decreases-parse_spec_exprs-loop-alloc : goal.decreases-parse_spec_exprs-loop-alloc
decreases-parse_spec_exprs-loop-alloc l = length (left l.cursor)

abbrev pub invariant-parse_spec_letdef_list-loop-alloc : goal.invariant-parse_spec_letdef_list-loop-alloc
invariant-parse_spec_letdef_list-loop-alloc l =
    record {
      same : source l.cursor ≡ source l.fn.cursor;
      so_far : behind_front (single_spec_lets_of l.defs.items) (many at_rparen (spec_let spec_expression) (left l.cursor)) ≡ many at_rparen (spec_let spec_expression) (left l.fn.cursor);
      shorter : length (left l.cursor) ≤ length (left l.fn.cursor);
    }

abbrev pub decreases-parse_spec_letdef_list-loop-alloc : goal.decreases-parse_spec_letdef_list-loop-alloc
decreases-parse_spec_letdef_list-loop-alloc l = length (left l.cursor)

abbrev pub invariant-parse_arms-loop-alloc : goal.invariant-parse_arms-loop-alloc
invariant-parse_arms-loop-alloc l =
    record {
      same : source l.cursor ≡ source l.fn.cursor;
      so_far : behind_front (single_arms_of l.arms.items) (many at_rparen (arm spec_expression) (left l.cursor)) ≡ many at_rparen (arm spec_expression) (left l.fn.cursor);
      shorter : length (left l.cursor) ≤ length (left l.fn.cursor);
    }

abbrev pub decreases-parse_arms-loop-alloc : goal.decreases-parse_arms-loop-alloc
decreases-parse_arms-loop-alloc l = length (left l.cursor)

abbrev pub invariant-parse_field_inits-loop-alloc : goal.invariant-parse_field_inits-loop-alloc
invariant-parse_field_inits-loop-alloc l =
    record {
      same : source l.cursor ≡ source l.fn.cursor;
      so_far : behind_front (single_field_inits_of l.fields.items) (many at_rparen (field_init spec_expression) (left l.cursor)) ≡ many at_rparen (field_init spec_expression) (left l.fn.cursor);
      shorter : length (left l.cursor) ≤ length (left l.fn.cursor);
    }

abbrev pub decreases-parse_field_inits-loop-alloc : goal.decreases-parse_field_inits-loop-alloc
decreases-parse_field_inits-loop-alloc l = length (left l.cursor)

-- what was read, after what the `switch` looks at
abbrev pub invariant-parse_cases-loop-alloc : goal.invariant-parse_cases-loop-alloc
invariant-parse_cases-loop-alloc l =
    record {
      same : source l.cursor ≡ source l.fn.cursor;
      so_far : behind_front (specs_of l.args.items) (many at_rparen (spec_pair spec_expression) (left l.cursor)) ≡ behind_front (spec_of l.fn.subject ∷ []) (many at_rparen (spec_pair spec_expression) (left l.fn.cursor));
      shorter : length (left l.cursor) ≤ length (left l.fn.cursor);
    }

abbrev pub decreases-parse_cases-loop-alloc : goal.decreases-parse_cases-loop-alloc
decreases-parse_cases-loop-alloc l = length (left l.cursor)
