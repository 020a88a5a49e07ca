-- The errors of a group, as its parts are collected.
use Rattle.std.proofs.Common.{◌≡◌, ℕ, List, [], ◌∷◌, ◌++◌, Bool, ap, ◌∙◌, append_assoc}
use Rattle.isle_ast.specs.Tree.{TypeDefinition, Declaration, Definition}
use Rattle.isle_check_environment.specs.Parts.{ConstantNode, decls_in, type_names, types_in}
use Rattle.isle_check_environment.specs.Types.{is_type}
use Rattle.isle_check_declarations.specs.declared.fault.Fault.{Fault}
use Rattle.isle_check_declarations.specs.TypeFaults.{doubled_types, type_faults_of, wrong_constants, wrong_types}
use Rattle.isle_check_declarations.specs.TermFaults.{declared, taken_variants, term_faults_of, wrong_decls}
use Rattle.isle_check_declarations.specs.Views.{fault_of, faults_of}
use Rattle.isle_check_declarations.specs.Faults.{FaultNode}
use Rattle.std.proofs.lemmas.List.{map-append}

-- one more fault
pub faults-pushed : (xs ys : List Fault) (f : Fault) (rest : List FaultNode) → ys ≡ xs ++ f ∷ [] → fault_of f ∷ [] ≡ rest → faults_of ys ≡ faults_of xs ++ rest
faults-pushed xs ys f rest grown told =
    ap faults_of grown ∙ map-append fault_of xs (f ∷ []) ∙ ap (λ fs. faults_of xs ++ fs) told

pub type_faults-collected : (f0 f1 f2 f3 : List Fault) (known types : List ℕ → Bool) (ts : List TypeDefinition) (cs : List ConstantNode) →
    f0 ≡ [] → faults_of f1 ≡ faults_of f0 ++ doubled_types [] ts → faults_of f2 ≡ faults_of f1 ++ wrong_types known ts →
    faults_of f3 ≡ faults_of f2 ++ wrong_constants known cs → known ≡ types → faults_of f3 ≡ type_faults_of types ts cs
type_faults-collected f0 f1 f2 f3 known types ts cs none doubled wrong constants same =
    constants
    ∙ ap (λ fs. fs ++ wrong_constants known cs) wrong
    ∙ ap (λ fs. (fs ++ wrong_types known ts) ++ wrong_constants known cs) doubled
    ∙ ap (λ fs. ((faults_of fs ++ doubled_types [] ts) ++ wrong_types known ts) ++ wrong_constants known cs) none
    ∙ append_assoc (doubled_types [] ts) (wrong_types known ts) (wrong_constants known cs)
    ∙ ap (λ k. type_faults_of k ts cs) same

pub term_faults-collected : (f0 f1 f2 : List Fault) (known : List ℕ → Bool) (ds : List Declaration) (ts : List TypeDefinition) →
    f0 ≡ [] → faults_of f1 ≡ faults_of f0 ++ wrong_decls known [] ds →
    faults_of f2 ≡ faults_of f1 ++ taken_variants (declared known ds) ts → faults_of f2 ≡ term_faults_of known ds ts
term_faults-collected f0 f1 f2 known ds ts none wrong taken =
    taken
    ∙ ap (λ fs. fs ++ taken_variants (declared known ds) ts) wrong
    ∙ ap (λ fs. (faults_of fs ++ wrong_decls known [] ds) ++ taken_variants (declared known ds) ts) none

-- what is told of the types and the declarations that were found is told of the program
pub of-program : {Y : Type 0} (f : (List ℕ → Bool) → List Declaration → List TypeDefinition → Y) (known : List ℕ → Bool) (ds : List Declaration) (ts : List TypeDefinition) (defs : List Definition) →
    known ≡ is_type (type_names ts) → ds ≡ decls_in defs → ts ≡ types_in defs →
    f known ds ts ≡ f (is_type (type_names (types_in defs))) (decls_in defs) (types_in defs)
of-program f known ds ts defs same decls types =
    ap (λ k. f k ds ts) same ∙ ap (λ es. f (is_type (type_names ts)) es ts) decls ∙ ap (λ us. f (is_type (type_names us)) (decls_in defs) us) types
