use Rattle.std.proofs.Common.{◌≡◌, ◌++◌, take}
use Rattle.isle_check_environment.specs.Views.{rules_at}
use Rattle.isle_check_declarations.specs.Views.{faults_of, term_in}
use Rattle.isle_check_declarations.specs.naming.Roots.{wrong_roots}
use Rattle.isle_check_declarations.proofs.naming.roots.add_wrong_roots.Given as goal

abbrev pub invariant-loop-rule : goal.invariant-loop-rule
invariant-loop-rule l =
    faults_of l.found.items ≡ faults_of l.fn.found.items ++ wrong_roots (term_in l.terms) (rules_at (take l.rule-index l.rules))
