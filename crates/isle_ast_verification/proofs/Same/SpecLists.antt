-- The comparison of the lists that spec expressions hold.
use Rattle.std.proofs.Common.{◌≡◌, List, [], ◌∷◌, Bool, ◌&&◌, refl, ap}
use lib.Pointwise.{pointwise}
use Rattle.isle_ast_names.specs.declared.Ident.{Ident}
use Rattle.isle_ast_verification.specs.declared.spec.Arm.{Arm}
use Rattle.isle_ast_verification.specs.declared.spec.FieldInit.{FieldInit}
use Rattle.isle_ast_verification.specs.declared.spec.SpecExpr.{SpecExpr}
use Rattle.isle_ast_verification.specs.SameSpec.{same_names, same_spec, same_specs, same_arms, same_spec_lets, same_field_inits, same_single_arm, same_single_spec_let, same_single_field_init}
use Rattle.isle_ast_verification.specs.TreeView.{spec_of, specs_of, spec_list_of, single_arm_of, single_arms_of, arm_list_of, single_spec_let_of, single_spec_lets_of, spec_let_list_of, single_field_init_of, single_field_inits_of, field_init_list_of}
use Rattle.isle_ast_names.specs.TreeView.{names_of}
use Rattle.isle_ast_verification.proofs.Equalities.{ident_eq}
use Rattle.isle_ast_names.proofs.ListComparison.{AreLists}

-- what `==` computes of lists of identifiers
pub names_compared : (xs ys : List Ident) → pointwise ident_eq xs ys ≡ same_names (names_of xs) (names_of ys)
names_compared [] [] = refl
names_compared [] (y ∷ ys) = refl
names_compared (x ∷ xs) [] = refl
names_compared (x ∷ xs) (y ∷ ys) = ap (λ b. ident_eq x y && b) (names_compared xs ys)

abbrev pub spec_lists : List SpecExpr → List SpecExpr → Bool
spec_lists xs ys = same_specs (spec_list_of (specs_of xs)) (spec_list_of (specs_of ys))

pub specs_are_lists : AreLists spec_lists (λ x y. same_spec (spec_of x) (spec_of y))
specs_are_lists = record {
  ended = refl;
  first = λ x y xs ys. refl;
  shorter = λ y ys. refl;
  longer = λ x xs. refl;
}

abbrev pub arm_lists : List Arm → List Arm → Bool
arm_lists xs ys = same_arms (arm_list_of (single_arms_of xs)) (arm_list_of (single_arms_of ys))

pub arms_are_lists : AreLists arm_lists (λ x y. same_single_arm (single_arm_of x) (single_arm_of y))
arms_are_lists = record {
  ended = refl;
  first = λ x y xs ys. refl;
  shorter = λ y ys. refl;
  longer = λ x xs. refl;
}

abbrev pub spec_let_lists : List (Ident × SpecExpr) → List (Ident × SpecExpr) → Bool
spec_let_lists xs ys = same_spec_lets (spec_let_list_of (single_spec_lets_of xs)) (spec_let_list_of (single_spec_lets_of ys))

pub spec_lets_are_lists : AreLists spec_let_lists (λ x y. same_single_spec_let (single_spec_let_of x) (single_spec_let_of y))
spec_lets_are_lists = record {
  ended = refl;
  first = λ x y xs ys. refl;
  shorter = λ y ys. refl;
  longer = λ x xs. refl;
}

abbrev pub field_init_lists : List FieldInit → List FieldInit → Bool
field_init_lists xs ys = same_field_inits (field_init_list_of (single_field_inits_of xs)) (field_init_list_of (single_field_inits_of ys))

pub field_inits_are_lists : AreLists field_init_lists (λ x y. same_single_field_init (single_field_init_of x) (single_field_init_of y))
field_inits_are_lists = record {
  ended = refl;
  first = λ x y xs ys. refl;
  shorter = λ y ys. refl;
  longer = λ x xs. refl;
}
