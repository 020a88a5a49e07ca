use Rattle.std.proofs.Common.{◌≡◌, drop}
use Rattle.isle_ast_names.specs.TreeView.{names_of}
use Rattle.isle_check_environment.specs.Types.{is_type_in}
use Rattle.isle_check_declarations.specs.TermFaults.{arguments_fault}
use Rattle.isle_check_declarations.proofs.terms.arguments_fault.Given as goal

abbrev pub invariant-loop-ty : goal.invariant-loop-ty
invariant-loop-ty l =
    arguments_fault (is_type_in l.known) (names_of (drop l.ty-index l.types)) ≡ arguments_fault (is_type_in l.known) (names_of l.types)
