-- What the errors of converters say of a program.
use Rattle.std.specs.Prelude.{◌≡◌, List, Contains}
use Rattle.isle_base_source.specs.declared.pos.Pos.{Pos}
use Rattle.isle_ast.specs.Tree.{Conversion, Definition}
use Rattle.isle_check_declarations.specs.Faults as kinds
use Rattle.isle_check_environment.specs.Parts.{converters_in}
use Rattle.isle_check_laws.specs.Named.{IsUnknownTerm, IsUnknownType, StandsBehind}

-- by the kind of an error and its position
pub data IsBrokenConverter (ds : List Definition) : kinds.KindNode → Pos → Type 0 where
  -- at the inner type of a converter: it is unknown
  inner_type_unknown : (c : Conversion) → Contains (converters_in ds) c → IsUnknownType ds c.inner_ty.text →
      IsBrokenConverter ds (kinds.inner_type_unknown c.inner_ty) c.inner_ty.pos
  -- at the outer type of a converter: it is unknown
  outer_type_unknown : (c : Conversion) → Contains (converters_in ds) c → IsUnknownType ds c.outer_ty.text →
      IsBrokenConverter ds (kinds.outer_type_unknown c.outer_ty) c.outer_ty.pos
  -- at the term of a converter: it is unknown
  converter_unknown : (c : Conversion) → Contains (converters_in ds) c → IsUnknownTerm ds c.term.text →
      IsBrokenConverter ds (kinds.converter_unknown c.term) c.term.pos
  -- at a converter: one before it is of the same types
  converter_again : (c first : Conversion) (before : List Conversion) → StandsBehind (converters_in ds) before c → Contains before first →
      first.inner_ty.text ≡ c.inner_ty.text → first.outer_ty.text ≡ c.outer_ty.text →
      IsBrokenConverter ds (kinds.converter_again c.inner_ty c.outer_ty) c.pos
