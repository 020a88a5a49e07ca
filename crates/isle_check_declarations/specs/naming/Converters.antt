-- The errors of converters. `known` says which types are known, `terms` what a text means as the
-- name of a term.
use Rattle.std.specs.Prelude.{ℕ, List, [], ◌∷◌, ◌++◌, Bool, ◌&&◌, Option, None, Some, if◌then◌else◌}
use Rattle.std.specs.List.{list_any}
use Rattle.std.specs.Str.{bytes_eq}
use Rattle.isle_ast.specs.Tree.{Conversion, Definition}
use Rattle.isle_check_environment.specs.Parts.{converters_in, type_names, types_in}
use Rattle.isle_check_environment.specs.Types.{is_type}
use Rattle.isle_check_declarations.specs.Faults.{FaultNode, fault, inner_type_unknown, outer_type_unknown, converter_unknown, converter_again}
use Rattle.isle_check_declarations.specs.Terms.{TermNode, is_unknown, terms}

-- the first of the types and the term of a converter that is not known
abbrev pub unknown_name : (List ℕ → Bool) → (List ℕ → TermNode) → Conversion → Option FaultNode
unknown_name known terms c =
    if known c.inner_ty.text then
    (if known c.outer_ty.text then
    (if is_unknown (terms c.term.text) then Some (fault (converter_unknown c.term) c.term.pos) else None)
    else Some (fault (outer_type_unknown c.outer_ty) c.outer_ty.pos))
    else Some (fault (inner_type_unknown c.inner_ty) c.inner_ty.pos)

-- whether one of these converters has these types
abbrev pub has_pair : List Conversion → (inner outer : List ℕ) → Bool
has_pair cs inner outer = list_any (λ c. bytes_eq c.inner_ty.text inner && bytes_eq c.outer_ty.text outer) cs

-- a pair of types has one converter
abbrev pub doubled_converter : (earlier : List Conversion) → Conversion → List FaultNode
doubled_converter earlier c =
    if has_pair earlier c.inner_ty.text c.outer_ty.text then fault (converter_again c.inner_ty c.outer_ty) c.pos ∷ []
    else []

-- a converter counts if its types and its term are known
abbrev pub counted_by : Option FaultNode → Conversion → List Conversion
counted_by None c = c ∷ []
counted_by (Some _) c = []

abbrev pub counted : (List ℕ → Bool) → (List ℕ → TermNode) → Conversion → List Conversion
counted known terms c = counted_by (unknown_name known terms c) c

abbrev pub wrong_converter_by : Option FaultNode → (earlier : List Conversion) → Conversion → List FaultNode
wrong_converter_by None earlier c = doubled_converter earlier c
wrong_converter_by (Some f) earlier c = f ∷ []

abbrev pub wrong_converter : (List ℕ → Bool) → (List ℕ → TermNode) → (earlier : List Conversion) → Conversion → List FaultNode
wrong_converter known terms earlier c = wrong_converter_by (unknown_name known terms c) earlier c

abbrev pub wrong_converters : (List ℕ → Bool) → (List ℕ → TermNode) → (earlier : List Conversion) → List Conversion → List FaultNode
wrong_converters known terms earlier [] = []
wrong_converters known terms earlier (c ∷ cs) =
    wrong_converter known terms earlier c ++ wrong_converters known terms (earlier ++ counted known terms c) cs

-- the errors of a program's converters
abbrev pub converter_faults_by : (List ℕ → TermNode) → List Definition → List FaultNode
converter_faults_by terms ds = wrong_converters (is_type (type_names (types_in ds))) terms [] (converters_in ds)

abbrev pub converter_faults : List Definition → List FaultNode
converter_faults ds = converter_faults_by (terms ds) ds
