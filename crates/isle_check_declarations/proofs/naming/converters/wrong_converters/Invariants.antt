use Rattle.std.proofs.Common.{◌≡◌, ◌++◌, [], List, drop}
use Rattle.isle_ast.specs.Tree.{Conversion}
use Rattle.isle_check_environment.specs.Types.{is_type_in}
use Rattle.isle_check_environment.specs.Views.{converters_at}
use Rattle.isle_check_declarations.specs.Views.{faults_of, term_in}
use Rattle.isle_check_declarations.specs.naming.Converters.{wrong_converters}
use Rattle.isle_check_declarations.specs.naming.Views.{KnowsPairs}
use Rattle.isle_check_declarations.proofs.naming.converters.wrong_converters.Given as goal

abbrev pub invariant-loop-converter : goal.invariant-loop-converter
invariant-loop-converter l =
    (now : List Conversion) × KnowsPairs l.pairs now
    × (faults_of l.found.items ++ wrong_converters (is_type_in l.known) (term_in l.terms) now (converters_at (drop l.converter-index l.converters))
    ≡ wrong_converters (is_type_in l.known) (term_in l.terms) [] (converters_at l.converters))
