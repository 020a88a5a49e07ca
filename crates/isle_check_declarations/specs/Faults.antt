-- Errors of definitions: what is wrong, and where.
use Rattle.std.specs.Prelude.{ℕ, List, [], ◌∷◌, Option, None, Some}
use Rattle.isle_base_source.specs.declared.pos.Pos.{Pos}
use Rattle.isle_ast_names.specs.Tree.{Name}

pub data KindNode : Type 0 where
  type_again : Name → KindNode
  type_built_in : Name → KindNode
  primitive_nodebug : KindNode
  primitive_extern : KindNode
  extern_nodebug : KindNode
  variant_again : Name → KindNode
  field_again : (field variant : Name) → KindNode
  field_type_unknown : (ty field variant : Name) → KindNode
  index_type_unknown : (ty : Name) → (index : ℕ) → (variant : Name) → KindNode
  constant_type_unknown : KindNode
  term_again : Name → KindNode
  multi_and_partial : Name → KindNode
  argument_type_unknown : Name → KindNode
  result_type_unknown : Name → KindNode
  variant_taken : (ty variant : Name) → KindNode
  root_no_term : KindNode
  root_unknown : Name → KindNode
  root_variant : Name → KindNode
  extractor_unknown : Name → KindNode
  template_unknown : (term extractor : Name) → KindNode
  extractor_variant : Name → KindNode
  extractor_multi : Name → KindNode
  extractor_again : Name → KindNode
  extractor_before : Name → KindNode
  inner_type_unknown : Name → KindNode
  outer_type_unknown : Name → KindNode
  converter_unknown : Name → KindNode
  converter_again : (inner outer : Name) → KindNode
  constructor_unknown : Name → KindNode
  constructor_variant : Name → KindNode
  constructor_ruled : Name → KindNode
  constructor_again : Name → KindNode
  external_unknown : Name → KindNode
  external_variant : Name → KindNode
  external_internal : Name → KindNode
  internal_before : Name → KindNode
  external_again : Name → KindNode
  external_before : Name → KindNode

pub record FaultNode : Type 0 where
  pub kind : KindNode
  pub pos : Pos

abbrev pub fault : KindNode → Pos → FaultNode
fault kind pos = record { kind = kind; pos = pos }

-- the first fault if there is one, and otherwise the second
abbrev pub first_of : Option FaultNode → Option FaultNode → Option FaultNode
first_of None second = second
first_of (Some f) second = Some f

abbrev pub optional : Option FaultNode → List FaultNode
optional None = []
optional (Some f) = f ∷ []
