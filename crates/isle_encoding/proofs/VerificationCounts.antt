-- How many there are in a list of the tree is how many the list of the code has.
use Rattle.std.proofs.Common.{◌≡◌, ℕ, suc, List, [], ◌∷◌, length, refl, ap}
use Rattle.isle_ast_names.specs.declared.Ident.{Ident}
use Rattle.isle_ast_verification.specs.TreeView.{arm_list_of, field_init_list_of, model_list_of, single_arms_of, single_field_inits_of, single_model_fields_of, single_spec_lets_of, spec_let_list_of, spec_list_of, specs_of}
use Rattle.isle_ast_verification.specs.declared.ModelField.{ModelField}
use Rattle.isle_ast_verification.specs.declared.spec.Arm.{Arm}
use Rattle.isle_ast_verification.specs.declared.spec.FieldInit.{FieldInit}
use Rattle.isle_ast_verification.specs.declared.spec.SpecExpr.{SpecExpr}
use Rattle.isle_encoding.specs.Verification.{arm_count, field_init_count, model_field_count, spec_count, spec_let_count}

pub model_field_counts : (xs : List ModelField) → model_field_count (model_list_of (single_model_fields_of xs)) ≡ length xs
model_field_counts [] = refl
model_field_counts (x ∷ xs) = ap suc (model_field_counts xs)

pub spec_counts : (xs : List SpecExpr) → spec_count (spec_list_of (specs_of xs)) ≡ length xs
spec_counts [] = refl
spec_counts (x ∷ xs) = ap suc (spec_counts xs)

pub arm_counts : (xs : List Arm) → arm_count (arm_list_of (single_arms_of xs)) ≡ length xs
arm_counts [] = refl
arm_counts (x ∷ xs) = ap suc (arm_counts xs)

pub spec_let_counts : (xs : List (Ident × SpecExpr)) → spec_let_count (spec_let_list_of (single_spec_lets_of xs)) ≡ length xs
spec_let_counts [] = refl
spec_let_counts (x ∷ xs) = ap suc (spec_let_counts xs)

pub field_init_counts : (xs : List FieldInit) → field_init_count (field_init_list_of (single_field_inits_of xs)) ≡ length xs
field_init_counts [] = refl
field_init_counts (x ∷ xs) = ap suc (field_init_counts xs)
