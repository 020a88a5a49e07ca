-- What a text means as the name of a term. `known` says which types are known.
use Rattle.std.specs.Prelude.{ℕ, List, [], ◌∷◌, Bool, true, false, Option, None, Some, if◌then◌else◌}
use Rattle.std.specs.List.{flat_map}
use Rattle.std.specs.Str.{bytes_eq}
use Rattle.isle_ast.specs.Tree.{Declaration, TypeDefinition, Definition}
use Rattle.isle_check_environment.specs.Names.{has, or_else}
use Rattle.isle_check_environment.specs.Parts.{decls_in, type_names, types_in}
use Rattle.isle_check_environment.specs.Types.{is_type}
use Rattle.isle_check_declarations.specs.Faults.{FaultNode}
use Rattle.isle_check_declarations.specs.TermFaults.{signature_fault, term_names}

-- a term is not known, a variant of a type, or declared
pub data TermNode : Type 0 where
  unknown_term : TermNode
  variant_term : TermNode
  declared_term : Declaration → TermNode

abbrev pub is_unknown : TermNode → Bool
is_unknown unknown_term = true
is_unknown variant_term = false
is_unknown (declared_term _) = false

-- a declaration counts if its types are known
abbrev pub counted_by : Option FaultNode → Declaration → List Declaration
counted_by None d = d ∷ []
counted_by (Some _) d = []

abbrev pub counted_decl : (List ℕ → Bool) → Declaration → List Declaration
counted_decl known d = counted_by (signature_fault known d) d

abbrev pub counted_decls : (List ℕ → Bool) → List Declaration → List Declaration
counted_decls known ds = flat_map (counted_decl known) ds

-- the last of these declarations that is one of this term
abbrev pub decl_of : List Declaration → List ℕ → Option Declaration
decl_of [] text = None
decl_of (d ∷ ds) text = or_else (decl_of ds text) (if bytes_eq d.term.text text then Some d else None)

-- a term by its declaration, and by whether its name is that of a term
abbrev pub term_by : Option Declaration → Bool → TermNode
term_by (Some d) named = declared_term d
term_by None true = variant_term
term_by None false = unknown_term

abbrev pub terms_of : (List ℕ → Bool) → List Declaration → List TypeDefinition → List ℕ → TermNode
terms_of known ds ts text = term_by (decl_of (counted_decls known ds) text) (has (term_names known ds ts) text)

-- the terms of a program, by their names
abbrev pub terms : List Definition → List ℕ → TermNode
terms ds = terms_of (is_type (type_names (types_in ds))) (decls_in ds) (types_in ds)
