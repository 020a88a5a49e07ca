-- What the errors of declared terms and of variants as terms say of a program.
use Rattle.std.specs.Prelude.{◌≡◌, List, true, Contains, ◌⊎◌}
use Rattle.isle_base_source.specs.declared.pos.Pos.{Pos}
use Rattle.isle_ast_names.specs.Tree.{Name}
use Rattle.isle_ast.specs.Roots.{full_name}
use Rattle.isle_ast.specs.Tree.{Declaration, Definition, EnumVariant, TypeDefinition}
use Rattle.isle_check_declarations.specs.Faults as kinds
use Rattle.isle_check_declarations.specs.TermFaults.{variants_of}
use Rattle.isle_check_environment.specs.Parts.{decls_in, types_in}
use Rattle.isle_check_laws.specs.Named.{HasDeclaration, HasVariant, HasVariantOf, IsDeclared, IsUnknownType, StandsBehind}

-- by the kind of an error and its position
pub data IsBrokenTerm (ds : List Definition) : kinds.KindNode → Pos → Type 0 where
  -- at a declaration: one before it declares the same term
  term_again : (d : Declaration) (before : List Declaration) → StandsBehind (decls_in ds) before d → HasDeclaration before d.term.text →
      IsBrokenTerm ds (kinds.term_again d.term) d.pos
  -- at a declaration: one behind it declares the same term
  term_before : (d first : Declaration) (before : List Declaration) → StandsBehind (decls_in ds) before d → Contains before first →
      first.term.text ≡ d.term.text → IsBrokenTerm ds (kinds.term_again d.term) first.pos
  -- at a declaration: the term is both `multi` and `partial`
  multi_and_partial : (d : Declaration) → Contains (decls_in ds) d → d.multi ≡ true → d.partial ≡ true →
      IsBrokenTerm ds (kinds.multi_and_partial d.term) d.pos
  -- at the type of an argument: it is unknown
  argument_type_unknown : (d : Declaration) (ty : Name) → Contains (decls_in ds) d → Contains d.arg_tys ty → IsUnknownType ds ty.text →
      IsBrokenTerm ds (kinds.argument_type_unknown ty) ty.pos
  -- at the type of a result: it is unknown
  result_type_unknown : (d : Declaration) → Contains (decls_in ds) d → IsUnknownType ds d.ret_ty.text →
      IsBrokenTerm ds (kinds.result_type_unknown d.ret_ty) d.ret_ty.pos
  -- at a type: one of its variants has the name of a declared term, of a variant of a type before it, or of a variant before it
  variant_taken : (t : TypeDefinition) (before : List TypeDefinition) (v : EnumVariant) (others : List EnumVariant) →
      StandsBehind (types_in ds) before t → StandsBehind (variants_of t.ty) others v →
      IsDeclared ds (full_name t.name v.name).text
      ⊎ (HasVariantOf before (full_name t.name v.name).text ⊎ HasVariant t.name others (full_name t.name v.name).text) →
      IsBrokenTerm ds (kinds.variant_taken t.name v.name) t.pos
