-- The errors of a program, as they are collected.
use Rattle.std.proofs.Common.{◌≡◌, List, [], ◌++◌, ap, ◌∙◌}
use Rattle.isle_check_declarations.specs.declared.fault.Fault.{Fault}
use Rattle.isle_check_declarations.specs.Faults.{FaultNode}
use Rattle.isle_check_declarations.specs.Views.{faults_of}

-- what is added to no errors for the definitions that were found is told of those of the program
pub collected : {X : Type 0} (wrong : List X → List FaultNode) (f0 f1 : List Fault) (xs ys : List X) →
    f0 ≡ [] → faults_of f1 ≡ faults_of f0 ++ wrong xs → xs ≡ ys → faults_of f1 ≡ wrong ys
collected wrong f0 f1 xs ys none adds its = adds ∙ ap (λ fs. faults_of fs ++ wrong xs) none ∙ ap wrong its
