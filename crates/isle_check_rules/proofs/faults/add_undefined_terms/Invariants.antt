use Rattle.std.proofs.Common.{◌≡◌, ◌++◌, take}
use Rattle.isle_check_environment.specs.Views.{decls_at}
use Rattle.isle_check_environment.specs.signatures.Views.{environment_of}
use Rattle.isle_check_typing.specs.Views.{faults_of}
use Rattle.isle_check_rules.specs.RuleFaults.{undefined_terms}
use Rattle.isle_check_rules.proofs.faults.add_undefined_terms.Given as goal

abbrev pub invariant-loop-decl : goal.invariant-loop-decl
invariant-loop-decl l =
    faults_of l.found.items ≡ faults_of l.fn.found.items ++ undefined_terms (environment_of l.env) (decls_at (take l.decl-index l.decls))
