-- The errors of declared terms and of variants as terms. `known` says which types are known.
use Rattle.std.specs.Prelude.{ℕ, List, [], ◌∷◌, ◌++◌, Bool, ◌&&◌, Option, None, Some, if◌then◌else◌}
use Rattle.std.specs.List.{flat_map}
use Rattle.isle_base_source.specs.declared.pos.Pos.{Pos}
use Rattle.isle_ast_names.specs.Tree.{Name}
use Rattle.isle_ast.specs.Roots.{full_name}
use Rattle.isle_ast.specs.Tree.{Declaration, EnumVariant, TypeContent, enum_type, TypeDefinition, Definition}
use Rattle.isle_check_environment.specs.Names.{has, place_of}
use Rattle.isle_check_environment.specs.Parts.{decls_in, type_names, types_in}
use Rattle.isle_check_environment.specs.Types.{is_type}
use Rattle.isle_check_declarations.specs.Faults.{FaultNode, fault, first_of, optional, term_again, multi_and_partial, argument_type_unknown, result_type_unknown, variant_taken}

-- the first type of a term that is not known: those of its arguments, then that of its result
abbrev pub arguments_fault : (List ℕ → Bool) → List Name → Option FaultNode
arguments_fault known [] = None
arguments_fault known (a ∷ more) =
    if known a.text then arguments_fault known more else Some (fault (argument_type_unknown a) a.pos)

abbrev pub result_fault : (List ℕ → Bool) → Name → Option FaultNode
result_fault known r = if known r.text then None else Some (fault (result_type_unknown r) r.pos)

abbrev pub signature_fault : (List ℕ → Bool) → Declaration → Option FaultNode
signature_fault known d = first_of (arguments_fault known d.arg_tys) (result_fault known d.ret_ty)

-- a declaration counts if its types are known. Its term then is at its position
abbrev pub counted_at : Option FaultNode → Declaration → List Name
counted_at None d = record { text = d.term.text; pos = d.pos } ∷ []
counted_at (Some _) d = []

abbrev pub counted : (List ℕ → Bool) → Declaration → List Name
counted known d = counted_at (signature_fault known d) d

-- both declarations of a term are reported, the earlier one being the last that counts
abbrev pub doubled_decl : Option Pos → Declaration → List FaultNode
doubled_decl None d = []
doubled_decl (Some place) d = fault (term_again d.term) d.pos ∷ fault (term_again d.term) place ∷ []

abbrev pub wrong_flags : Declaration → List FaultNode
wrong_flags d = if d.multi && d.partial then fault (multi_and_partial d.term) d.pos ∷ [] else []

abbrev pub wrong_decl : (List ℕ → Bool) → (earlier : List Name) → Declaration → List FaultNode
wrong_decl known earlier d =
    doubled_decl (place_of earlier d.term.text) d ++ (wrong_flags d ++ optional (signature_fault known d))

abbrev pub wrong_decls : (List ℕ → Bool) → (earlier : List Name) → List Declaration → List FaultNode
wrong_decls known earlier [] = []
wrong_decls known earlier (d ∷ ds) = wrong_decl known earlier d ++ wrong_decls known (earlier ++ counted known d) ds

-- the terms that are declared
abbrev pub declared : (List ℕ → Bool) → List Declaration → List Name
declared known ds = flat_map (counted known) ds

-- the variants of an enum up to the first whose name as a term is taken
abbrev pub free_variants : (enum : Name) → (terms : List Name) → List EnumVariant → List Name
free_variants enum terms [] = []
free_variants enum terms (v ∷ vs) =
    if has terms (full_name enum v.name).text then []
    else full_name enum v.name ∷ free_variants enum (terms ++ full_name enum v.name ∷ []) vs

-- the first of the variants of an enum whose name as a term is taken
abbrev pub taken_variant : TypeDefinition → (terms : List Name) → List EnumVariant → List FaultNode
taken_variant t terms [] = []
taken_variant t terms (v ∷ vs) =
    if has terms (full_name t.name v.name).text then fault (variant_taken t.name v.name) t.pos ∷ []
    else taken_variant t (terms ++ full_name t.name v.name ∷ []) vs

abbrev pub variants_of : TypeContent → List EnumVariant
variants_of (enum_type vs _) = vs
variants_of _ = []

abbrev pub taken_variants : (terms : List Name) → List TypeDefinition → List FaultNode
taken_variants terms [] = []
taken_variants terms (t ∷ ts) =
    taken_variant t terms (variants_of t.ty) ++ taken_variants (terms ++ free_variants t.name terms (variants_of t.ty)) ts

-- the terms once the variants of types are added, of each type those up to the first that is taken
abbrev pub with_variants : (terms : List Name) → List TypeDefinition → List Name
with_variants terms [] = terms
with_variants terms (t ∷ ts) = with_variants (terms ++ free_variants t.name terms (variants_of t.ty)) ts

-- the names of the terms: those that are declared, and then variants
abbrev pub term_names : (List ℕ → Bool) → List Declaration → List TypeDefinition → List Name
term_names known ds ts = with_variants (declared known ds) ts

abbrev pub term_faults_of : (List ℕ → Bool) → List Declaration → List TypeDefinition → List FaultNode
term_faults_of known ds ts = wrong_decls known [] ds ++ taken_variants (declared known ds) ts

-- the errors of the terms of a program: those of declarations, then variants whose names are taken
abbrev pub term_faults : List Definition → List FaultNode
term_faults ds = term_faults_of (is_type (type_names (types_in ds))) (decls_in ds) (types_in ds)
