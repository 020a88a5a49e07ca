use Rattle.std.proofs.Common.{◌≡◌, ◌++◌, [], List, drop}
use Rattle.isle_ast_names.specs.Tree.{Name}
use Rattle.isle_check_environment.specs.Names.{Knows}
use Rattle.isle_check_environment.specs.Views.{externs_at}
use Rattle.isle_check_declarations.specs.Views.{faults_of}
use Rattle.isle_check_declarations.specs.naming.Externs.{wrong_externs}
use Rattle.isle_check_declarations.specs.naming.Views.{known_of}
use Rattle.isle_check_declarations.proofs.naming.externs.wrong_externs.Given as goal

abbrev pub invariant-loop-item : goal.invariant-loop-item
invariant-loop-item l =
    (built : List Name) × (taken : List Name) × Knows l.constructors built × Knows l.extractors taken
    × (faults_of l.found.items ++ wrong_externs (known_of l.known) built taken (externs_at (drop l.item-index l.externs))
    ≡ wrong_externs (known_of l.known) [] [] (externs_at l.externs))
