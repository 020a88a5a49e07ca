-- Equality of models of types, positions included. `==` computes it, and the laws of `==` follow
-- from it.
use Rattle.std.specs.Prelude.{◌≡◌, ℕ, Bool, true, false, ◌&&◌, nat_eq, Option, None, Some}
use Rattle.std.specs.Bool.{Decides}
use Rattle.std.specs.Cmp.{IsEquivalence, decided, on_equiv}
use Rattle.std.specs.Option.{option_eq}
use Rattle.std.specs.Ordering.{on}
use Rattle.std.proofs.Common.{refl, sym, ap, subst}
use Rattle.std.proofs.lemmas.Bool.{true≢false, and_parts, and_from}
use Rattle.std.proofs.lemmas.Bool.Decides.{Decides-eqb}
use Rattle.isle_ast_names.specs.SameParts.{same_name, name_same, name_self}
use Rattle.isle_ast_verification.specs.Tree.{TypeModel, unspecified_model, auto_model, int_model, bool_model, unit_model, bit_vector_model, struct_model, named_model, ModelFieldList, no_model_field, model_field}
use Rattle.isle_ast_verification.specs.TreeView.{SingleModelField, type_model_of, single_model_field_of}

abbrev mutual
  pub same_model : TypeModel → TypeModel → Bool
  same_model unspecified_model unspecified_model = true
  same_model auto_model auto_model = true
  same_model int_model int_model = true
  same_model bool_model bool_model = true
  same_model unit_model unit_model = true
  same_model (bit_vector_model w) (bit_vector_model v) = option_eq nat_eq w v
  same_model (struct_model fs) (struct_model gs) = same_model_fields fs gs
  same_model (named_model m) (named_model n) = same_name m n
  same_model _ _ = false

  pub same_model_fields : ModelFieldList → ModelFieldList → Bool
  same_model_fields no_model_field no_model_field = true
  same_model_fields (model_field m t fs) (model_field n u gs) = same_name m n && (same_model t u && same_model_fields fs gs)
  same_model_fields _ _ = false

-- the same of one field, by itself
abbrev pub same_single : SingleModelField → SingleModelField → Bool
same_single f g = same_name f.name g.name && same_model f.ty g.ty

-- The test is true exactly of equal models.

width_same : (w v : Option ℕ) → option_eq nat_eq w v ≡ true → w ≡ v
width_same None None h = refl
width_same (Some m) (Some n) h = ap Some ((Decides-eqb m n).0 h)
width_same None (Some n) h = absurd (true≢false (sym h))
width_same (Some m) None h = absurd (true≢false (sym h))

width_self : (w : Option ℕ) → option_eq nat_eq w w ≡ true
width_self None = refl
width_self (Some n) = (Decides-eqb n n).1 refl

mutual
  pub model_same : (p q : TypeModel) → same_model p q ≡ true → p ≡ q
  model_same unspecified_model unspecified_model h = refl
  model_same auto_model auto_model h = refl
  model_same int_model int_model h = refl
  model_same bool_model bool_model h = refl
  model_same unit_model unit_model h = refl
  model_same (bit_vector_model w) (bit_vector_model v) h = ap bit_vector_model (width_same w v h)
  model_same (struct_model fs) (struct_model gs) h = ap struct_model (model_fields_same fs gs h)
  model_same (named_model m) (named_model n) h = ap named_model (name_same m n h)
  model_same _ _ h = absurd (true≢false (sym h))

  pub model_fields_same : (fs gs : ModelFieldList) → same_model_fields fs gs ≡ true → fs ≡ gs
  model_fields_same no_model_field no_model_field h = refl
  model_fields_same (model_field m t fs) (model_field n u gs) h =
      let all = and_parts (same_name m n) (same_model t u && same_model_fields fs gs) h in
      let others = and_parts (same_model t u) (same_model_fields fs gs) all.1 in
      λ i. model_field (name_same m n all.0 i) (model_same t u others.0 i) (model_fields_same fs gs others.1 i)
  model_fields_same _ _ h = absurd (true≢false (sym h))

mutual
  pub model_self : (p : TypeModel) → same_model p p ≡ true
  model_self unspecified_model = refl
  model_self auto_model = refl
  model_self int_model = refl
  model_self bool_model = refl
  model_self unit_model = refl
  model_self (bit_vector_model w) = width_self w
  model_self (struct_model fs) = model_fields_self fs
  model_self (named_model m) = name_self m

  pub model_fields_self : (fs : ModelFieldList) → same_model_fields fs fs ≡ true
  model_fields_self no_model_field = refl
  model_fields_self (model_field m t fs) =
      and_from (same_name m m) (same_model t t && same_model_fields fs fs) (name_self m)
      (and_from (same_model t t) (same_model_fields fs fs) (model_self t) (model_fields_self fs))

pub model-Decides : (p q : TypeModel) → Decides (same_model p q) (p ≡ q)
model-Decides p q = (model_same p q, λ e. subst (λ z. same_model p z ≡ true) e (model_self p))

pub single-Decides : (f g : SingleModelField) → Decides (same_single f g) (f ≡ g)
single-Decides f g = (
  λ h. let all = and_parts (same_name f.name g.name) (same_model f.ty g.ty) h in
      λ i. record { name = name_same f.name g.name all.0 i; ty = model_same f.ty g.ty all.1 i },
  λ e. subst (λ z. same_single f z ≡ true) e (and_from (same_name f.name f.name) (same_model f.ty f.ty) (name_self f.name) (model_self f.ty)),
)

pub model_types_equiv : IsEquivalence (on type_model_of same_model)
model_types_equiv = on_equiv type_model_of (decided same_model model-Decides)

pub model_fields_equiv : IsEquivalence (on single_model_field_of same_single)
model_fields_equiv = on_equiv single_model_field_of (decided same_single single-Decides)
