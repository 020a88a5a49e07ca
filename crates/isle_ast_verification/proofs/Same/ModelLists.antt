-- The comparison of the lists that models of types hold.
use Rattle.std.proofs.Common.{◌≡◌, List, Bool, true, false, ◌&&◌, refl}
use Rattle.isle_ast_verification.specs.declared.ModelField.{ModelField}
use Rattle.isle_ast_verification.specs.TreeView.{model_list_of, single_model_field_of, single_model_fields_of}
use Rattle.isle_ast_verification.specs.SameModel.{same_model, same_model_fields, same_single}
use Rattle.isle_ast_names.specs.SameParts.{same_name}
use Rattle.isle_ast_names.proofs.ListComparison.{AreLists}

and_assoc : (a b c : Bool) → (a && (b && c)) ≡ ((a && b) && c)
and_assoc true b c = refl
and_assoc false b c = refl

abbrev pub field_lists : List ModelField → List ModelField → Bool
field_lists fs gs = same_model_fields (model_list_of (single_model_fields_of fs)) (model_list_of (single_model_fields_of gs))

pub fields_are_lists : AreLists field_lists (λ f g. same_single (single_model_field_of f) (single_model_field_of g))
fields_are_lists = record {
  ended = refl;
  first = λ f g fs gs.
      let x = single_model_field_of f in
      let y = single_model_field_of g in
      and_assoc (same_name x.name y.name) (same_model x.ty y.ty) (field_lists fs gs);
  shorter = λ g gs. refl;
  longer = λ f fs. refl;
}
