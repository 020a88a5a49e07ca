-- Each error of types and of constants is broken.
use Rattle.std.proofs.Common.{◌≡◌, inl, inr, ℕ, List, [], ◌∷◌, ◌++◌, map, Bool, true, ◌&&◌, Option, None, Some, Contains, refl, ap, sym, ◌∙◌, subst, if◌then◌else◌}
use Rattle.std.specs.List.{All}
use Rattle.std.proofs.lemmas.List.Elements.{All-append, All-nil}
use Rattle.isle_base_source.specs.declared.pos.Pos.{Pos}
use Rattle.isle_ast_names.specs.Tree.{Name}
use Rattle.isle_ast.specs.Tree.{Definition, EnumVariant, FieldList, IndexedField, NamedField, TypeContent, TypeDefinition, enum_type, primitive_type, struct_fields, struct_type, tuple_fields, unit_fields}
use Rattle.isle_check_declarations.specs.Faults as kinds
use Rattle.isle_check_declarations.specs.Faults.{FaultNode, fault, first_of, optional}
use Rattle.isle_check_declarations.specs.TermFaults.{variants_of}
use Rattle.isle_check_declarations.specs.TypeFaults.{content_fault, doubled_type, doubled_types, field_name, fields_fault, indexed_fields_fault, named_fields_fault, primitive_fault, type_faults, variant_name, variants_fault, wrong_constant, wrong_constants, wrong_type, wrong_types}
use Rattle.isle_check_environment.specs.Names.{has}
use Rattle.isle_check_environment.specs.Parts.{ConstantNode, constants_in, type_name, type_names, types_in}
use Rattle.isle_check_environment.specs.Types.{is_built_in, is_type}
use Rattle.isle_check_laws.specs.BrokenTypes as broken
use Rattle.isle_check_laws.specs.BrokenTypes.{IsBrokenType}
use Rattle.isle_check_laws.specs.Named.{HasFields, IsPrimitive, StandsBehind}
use Rattle.isle_check_laws.proofs.Lists.{all_parts, both_true, choice, map-append, one, optional_choice, optional_first, stands_in, step, two}
use Rattle.isle_check_laws.proofs.Names.{has_name, unknown_type}

module _ (ds : List Definition) where
  abbrev Broken : FaultNode → Type 0
  Broken f = IsBrokenType ds f.kind f.pos

  abbrev known : List ℕ → Bool
  known = is_type (type_names (types_in ds))

  -- names that are taken

  doubled : (before : List TypeDefinition) (t : TypeDefinition) → StandsBehind (types_in ds) before t → All Broken (doubled_type (type_names before) t)
  doubled before t stands =
      choice Broken (is_built_in t.name.text) (fault (kinds.type_again t.name) t.pos ∷ fault (kinds.type_built_in t.name) t.pos ∷ [])
      (if has (type_names before) t.name.text then fault (kinds.type_again t.name) t.pos ∷ [] else [])
      (λ is. two Broken (fault (kinds.type_again t.name) t.pos) (fault (kinds.type_built_in t.name) t.pos)
      (broken.type_again t before stands (inl is)) (broken.type_built_in t (stands_in (types_in ds) before t stands) is))
      (λ _. choice Broken (has (type_names before) t.name.text) (fault (kinds.type_again t.name) t.pos ∷ []) []
      (λ is. one Broken (fault (kinds.type_again t.name) t.pos) (broken.type_again t before stands (inr (has_name (type_names before) t.name.text is))))
      (λ _. All-nil Broken))

  all_doubled : (before ts : List TypeDefinition) → types_in ds ≡ before ++ ts → (earlier : List Name) → type_names before ≡ earlier →
      All Broken (doubled_types earlier ts)
  all_doubled before [] is earlier names = All-nil Broken
  all_doubled before (t ∷ ts) is earlier names =
      All-append Broken (doubled_type earlier t) (doubled_types (earlier ++ t.name ∷ []) ts)
      (subst (λ ns. All Broken (doubled_type ns t)) names (doubled before t (ts, is)))
      (all_doubled (before ++ t ∷ []) ts (step (types_in ds) before t ts is) (earlier ++ t.name ∷ [])
      (map-append type_name before (t ∷ []) ∙ ap (λ ns. ns ++ t.name ∷ []) names))

  -- fields

  module _ (t : TypeDefinition) (among : Contains (types_in ds) t) (owner : Name) where
    named_fields : (all : List NamedField) (place : Pos) → HasFields t.ty t.name owner (struct_fields all place) →
        (before fs : List NamedField) → all ≡ before ++ fs → (earlier : List Name) → map field_name before ≡ earlier →
        All Broken (optional (named_fields_fault known owner earlier fs))
    named_fields all place owns before [] is earlier names = All-nil Broken
    named_fields all place owns before (f ∷ fs) is earlier names =
        optional_choice Broken (has earlier f.name.text) (Some (fault (kinds.field_again f.name owner) f.pos))
        (if known f.ty.text then named_fields_fault known owner (earlier ++ f.name ∷ []) fs else Some (fault (kinds.field_type_unknown f.ty f.name owner) f.ty.pos))
        (λ taken. one Broken (fault (kinds.field_again f.name owner) f.pos)
        (broken.field_again t owner all place f before among owns (fs, is)
        (has_name (map field_name before) f.name.text (subst (λ ns. has ns f.name.text ≡ true) (sym names) taken))))
        (λ _. optional_choice Broken (known f.ty.text) (named_fields_fault known owner (earlier ++ f.name ∷ []) fs)
        (Some (fault (kinds.field_type_unknown f.ty f.name owner) f.ty.pos))
        (λ _. named_fields all place owns (before ++ f ∷ []) fs (step all before f fs is) (earlier ++ f.name ∷ [])
        (map-append field_name before (f ∷ []) ∙ ap (λ ns. ns ++ f.name ∷ []) names))
        (λ unknown. one Broken (fault (kinds.field_type_unknown f.ty f.name owner) f.ty.pos)
        (broken.field_type_unknown t owner all place f among owns (stands_in all before f (fs, is)) (unknown_type (types_in ds) f.ty.text unknown))))

    indexed_fields : (all : List IndexedField) (place : Pos) → HasFields t.ty t.name owner (tuple_fields all place) →
        (before fs : List IndexedField) → all ≡ before ++ fs → All Broken (optional (indexed_fields_fault known owner fs))
    indexed_fields all place owns before [] is = All-nil Broken
    indexed_fields all place owns before (f ∷ fs) is =
        optional_choice Broken (known f.ty.text) (indexed_fields_fault known owner fs) (Some (fault (kinds.index_type_unknown f.ty f.index owner) f.ty.pos))
        (λ _. indexed_fields all place owns (before ++ f ∷ []) fs (step all before f fs is))
        (λ unknown. one Broken (fault (kinds.index_type_unknown f.ty f.index owner) f.ty.pos)
        (broken.index_type_unknown t owner all place f among owns (stands_in all before f (fs, is)) (unknown_type (types_in ds) f.ty.text unknown)))

    fields : (fs : FieldList) → HasFields t.ty t.name owner fs → All Broken (optional (fields_fault known owner fs))
    fields unit_fields owns = All-nil Broken
    fields (struct_fields fs place) owns = named_fields fs place owns [] fs refl [] refl
    fields (tuple_fields fs place) owns = indexed_fields fs place owns [] fs refl

  -- variants

  all_variants : (t : TypeDefinition) → Contains (types_in ds) t → (all : List EnumVariant) (place : Pos) → t.ty ≡ enum_type all place →
      (before vs : List EnumVariant) → all ≡ before ++ vs → (earlier : List Name) → map variant_name before ≡ earlier →
      All Broken (optional (variants_fault known earlier vs))
  all_variants t among all place content before [] is earlier names = All-nil Broken
  all_variants t among all place content before (v ∷ vs) is earlier names =
      optional_choice Broken (has earlier v.name.text) (Some (fault (kinds.variant_again v.name) v.pos))
      (first_of (fields_fault known v.name v.fields) (variants_fault known (earlier ++ v.name ∷ []) vs))
      (λ taken. one Broken (fault (kinds.variant_again v.name) v.pos)
      (broken.variant_again t v before among (vs, ap variants_of content ∙ is)
      (has_name (map variant_name before) v.name.text (subst (λ ns. has ns v.name.text ≡ true) (sym names) taken))))
      (λ _. optional_first Broken (fields_fault known v.name v.fields) (variants_fault known (earlier ++ v.name ∷ []) vs)
      (fields t among v.name v.fields
      (subst (λ c. HasFields c t.name v.name v.fields) (sym content) (v, stands_in all before v (vs, is), refl, refl)))
      (all_variants t among all place content (before ++ v ∷ []) vs (step all before v vs is) (earlier ++ v.name ∷ [])
      (map-append variant_name before (v ∷ []) ∙ ap (λ ns. ns ++ v.name ∷ []) names)))

  -- types

  primitive : (t : TypeDefinition) → Contains (types_in ds) t → (n : Name) (place : Pos) → t.ty ≡ primitive_type n place →
      All Broken (optional (primitive_fault t))
  primitive t among n place content =
      optional_choice Broken t.is_nodebug (Some (fault kinds.primitive_nodebug t.pos)) (if t.is_extern then Some (fault kinds.primitive_extern t.pos) else None)
      (λ is. one Broken (fault kinds.primitive_nodebug t.pos) (broken.primitive_nodebug t among (subst IsPrimitive (sym content) tt) is))
      (λ _. optional_choice Broken t.is_extern (Some (fault kinds.primitive_extern t.pos)) None
      (λ is. one Broken (fault kinds.primitive_extern t.pos) (broken.primitive_extern t among (subst IsPrimitive (sym content) tt) is))
      (λ _. All-nil Broken))

  not_both : (t : TypeDefinition) → Contains (types_in ds) t → (IsPrimitive t.ty → ⊥) → (o : Option FaultNode) → All Broken (optional o) →
      All Broken (optional (if t.is_extern && t.is_nodebug then Some (fault kinds.extern_nodebug t.pos) else o))
  not_both t among other o h =
      optional_choice Broken (t.is_extern && t.is_nodebug) (Some (fault kinds.extern_nodebug t.pos)) o
      (λ is. let both = both_true t.is_extern t.is_nodebug is in
      one Broken (fault kinds.extern_nodebug t.pos) (broken.extern_nodebug t among other both.0 both.1))
      (λ _. h)

  content : (t : TypeDefinition) → Contains (types_in ds) t → (c : TypeContent) → t.ty ≡ c → All Broken (optional (content_fault known t c))
  content t among (primitive_type n place) is = primitive t among n place is
  content t among (enum_type vs place) is =
      not_both t among (λ p. subst IsPrimitive is p) (variants_fault known [] vs) (all_variants t among vs place is [] vs refl [] refl)
  content t among (struct_type fs place) is =
      not_both t among (λ p. subst IsPrimitive is p) (fields_fault known t.name fs)
      (fields t among t.name fs (subst (λ c. HasFields c t.name t.name fs) (sym is) (refl, refl)))

  constant : (c : ConstantNode) → Contains (constants_in ds) c → All Broken (wrong_constant known c)
  constant c among =
      choice Broken (known c.ty.text) [] (fault kinds.constant_type_unknown c.pos ∷ []) (λ _. All-nil Broken)
      (λ unknown. one Broken (fault kinds.constant_type_unknown c.pos) (broken.constant_type_unknown c among (unknown_type (types_in ds) c.ty.text unknown)))

pub types_broken : (ds : List Definition) → All (λ f. IsBrokenType ds f.kind f.pos) (type_faults ds)
types_broken ds =
    let doubled = all_doubled ds [] (types_in ds) refl [] refl in
    let wrong = all_parts (Broken ds) (wrong_type (known ds)) (types_in ds) (λ t among. content ds t among t.ty refl) in
    let constants = all_parts (Broken ds) (wrong_constant (known ds)) (constants_in ds) (constant ds) in
    All-append (Broken ds) (doubled_types [] (types_in ds)) (wrong_types (known ds) (types_in ds) ++ wrong_constants (known ds) (constants_in ds)) doubled
    (All-append (Broken ds) (wrong_types (known ds) (types_in ds)) (wrong_constants (known ds) (constants_in ds)) wrong constants)
