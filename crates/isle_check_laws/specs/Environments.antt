-- What an environment says of a program, in words of its definitions.
use Rattle.std.specs.Prelude.{◌≡◌, ℕ, List, false, None, Some, Contains, ◌⊎◌}
use Rattle.isle_base_source.specs.declared.pos.Pos.{Pos}
use Rattle.isle_ast_names.specs.Tree.{Name}
use Rattle.isle_ast.specs.Roots.{full_name}
use Rattle.isle_ast.specs.Tree.{Conversion, Declaration, Definition, EnumVariant, ExternDefinition, TypeDefinition}
use Rattle.isle_check_declarations.specs.TermFaults.{variants_of}
use Rattle.isle_check_environment.specs.Parts.{ConstantNode, constants_in, converters_in, decls_in, extractors_in, types_in}
use Rattle.isle_check_environment.specs.Terms.{externs_in}
use Rattle.isle_check_environment.specs.signatures.Environment.{EnvironmentNode}
use Rattle.isle_check_environment.specs.signatures.Signatures.{TermNode, declared_term, variant_term}
use Rattle.isle_check_laws.specs.BrokenExterns.{HasRule, IsConstructorOf, IsExtractorOf}
use Rattle.isle_check_laws.specs.BrokenExtractors.{HasExtractor}
use Rattle.isle_check_laws.specs.Named.{HasVariantOf, IsUnknownTerm, IsUnknownType}

-- a declaration of this name, as a term
abbrev pub IsDeclaredTerm : List Definition → List ℕ → TermNode → Type 0
IsDeclaredTerm ds text t = (d : Declaration) × Contains (decls_in ds) d × (d.term.text ≡ text) × (declared_term d ≡ t)

-- a variant of this name, as a term
abbrev pub IsVariantTerm : List Definition → List ℕ → TermNode → Type 0
IsVariantTerm ds text t =
    (ty : TypeDefinition) × (v : EnumVariant) × Contains (types_in ds) ty × Contains (variants_of ty.ty) v
    × ((full_name ty.name v.name).text ≡ text) × (variant_term ty.name v ≡ t)

abbrev pub IsTermOf : List Definition → List ℕ → TermNode → Type 0
IsTermOf ds text t = IsDeclaredTerm ds text t ⊎ IsVariantTerm ds text t

-- an external constant of this name
abbrev pub HasConstant : List Definition → List ℕ → Type 0
HasConstant ds text = (c : ConstantNode) × Contains (constants_in ds) c × (c.name.text ≡ text)

-- an external constructor of the term of this name
abbrev pub HasConstructor : List Definition → List ℕ → Type 0
HasConstructor ds text = (x : ExternDefinition) × (term : Name) × (pos : Pos) × Contains (externs_in ds) x × IsConstructorOf x term pos × (term.text ≡ text)

-- an external extractor of the term of this name
abbrev pub HasExternalExtractor : List Definition → List ℕ → Type 0
HasExternalExtractor ds text =
    (x : ExternDefinition) × (term : Name) × (pos : Pos) × Contains (externs_in ds) x × IsExtractorOf x term pos × (term.text ≡ text)

-- a variant, or a term with a rule or an external constructor
abbrev pub CanConstruct : List Definition → List ℕ → Type 0
CanConstruct ds text = HasVariantOf (types_in ds) text ⊎ (HasRule ds text ⊎ HasConstructor ds text)

-- a variant, or a term with an internal or an external extractor
abbrev pub CanExtract : List Definition → List ℕ → Type 0
CanExtract ds text = HasVariantOf (types_in ds) text ⊎ (HasExtractor (extractors_in ds) text ⊎ HasExternalExtractor ds text)

-- what the environment knows is in the program, and what it doesn't know is not
pub record IsTrueOf (ds : List Definition) (env : EnvironmentNode) : Type 0 where
  pub unknown_type : (text : List ℕ) → env.is_type text ≡ false → IsUnknownType ds text
  pub unknown_constant : (text : List ℕ) → env.constants text ≡ None → HasConstant ds text → ⊥
  pub known_constant : (text ty : List ℕ) → env.constants text ≡ Some ty →
      (c : ConstantNode) × Contains (constants_in ds) c × (c.name.text ≡ text) × (c.ty.text ≡ ty)
  pub unknown_term : (text : List ℕ) → env.terms text ≡ None → IsUnknownTerm ds text
  pub known_term : (text : List ℕ) (t : TermNode) → env.terms text ≡ Some t → IsTermOf ds text t
  pub no_template : (text : List ℕ) → env.templates text ≡ None → HasExtractor (extractors_in ds) text → ⊥
  pub no_constructor : (text : List ℕ) → env.has_constructor text ≡ false → CanConstruct ds text → ⊥
  pub no_extractor : (text : List ℕ) → env.has_extractor text ≡ false → CanExtract ds text → ⊥
  pub converter : (inner outer term : List ℕ) → env.converters inner outer ≡ Some term →
      (c : Conversion) × Contains (converters_in ds) c × (c.inner_ty.text ≡ inner) × (c.outer_ty.text ≡ outer) × (c.term.text ≡ term)
