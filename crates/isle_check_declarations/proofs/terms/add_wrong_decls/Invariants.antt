use Rattle.std.proofs.Common.{◌≡◌, ◌++◌, List, drop}
use Rattle.isle_ast_names.specs.Tree.{Name}
use Rattle.isle_check_environment.specs.Names.{Knows}
use Rattle.isle_check_environment.specs.Types.{is_type_in}
use Rattle.isle_check_environment.specs.Views.{decls_at}
use Rattle.isle_check_declarations.specs.TermFaults.{declared, wrong_decls}
use Rattle.isle_check_declarations.specs.Views.{faults_of}
use Rattle.isle_check_declarations.proofs.terms.add_wrong_decls.Given as goal

abbrev pub invariant-loop-decl : goal.invariant-loop-decl
invariant-loop-decl l =
    (earlier : List Name) → Knows l.fn.terms earlier
    → (now : List Name) × Knows l.terms now
    × (now ++ declared (is_type_in l.known) (decls_at (drop l.decl-index l.decls))
    ≡ earlier ++ declared (is_type_in l.known) (decls_at l.decls))
    × (faults_of l.found.items ++ wrong_decls (is_type_in l.known) now (decls_at (drop l.decl-index l.decls))
    ≡ faults_of l.fn.found.items ++ wrong_decls (is_type_in l.known) earlier (decls_at l.decls))
