-- The definitions of a program by kind, each kind in its order.
use Rattle.std.specs.Prelude.{List, [], ◌∷◌, map}
use Rattle.std.specs.List.{flat_map}
use Rattle.isle_base_source.specs.declared.pos.Pos.{Pos}
use Rattle.isle_ast_names.specs.Tree.{Name}
use Rattle.isle_ast_rules.specs.Tree.{RuleDefinition, ExtractorDefinition}
use Rattle.isle_ast.specs.Tree.{TypeDefinition, Declaration, Conversion, ExternDefinition, extern_const, Definition, type_def, rule, extractor, decl, external, converter}

-- an external constant
pub record ConstantNode : Type 0 where
  pub name : Name
  pub ty : Name
  pub pos : Pos

abbrev pub type_in : Definition → List TypeDefinition
type_in (type_def t) = t ∷ []
type_in _ = []

abbrev pub decl_in : Definition → List Declaration
decl_in (decl d) = d ∷ []
decl_in _ = []

abbrev pub rule_in : Definition → List RuleDefinition
rule_in (rule r) = r ∷ []
rule_in _ = []

abbrev pub extractor_in : Definition → List ExtractorDefinition
extractor_in (extractor x) = x ∷ []
extractor_in _ = []

abbrev pub converter_in : Definition → List Conversion
converter_in (converter c) = c ∷ []
converter_in _ = []

abbrev pub constant_of_extern : ExternDefinition → List ConstantNode
constant_of_extern (extern_const name ty pos) = record { name = name; ty = ty; pos = pos } ∷ []
constant_of_extern _ = []

abbrev pub constant_in : Definition → List ConstantNode
constant_in (external e) = constant_of_extern e
constant_in _ = []

abbrev pub types_in : List Definition → List TypeDefinition
types_in ds = flat_map type_in ds

abbrev pub decls_in : List Definition → List Declaration
decls_in ds = flat_map decl_in ds

abbrev pub rules_in : List Definition → List RuleDefinition
rules_in ds = flat_map rule_in ds

abbrev pub extractors_in : List Definition → List ExtractorDefinition
extractors_in ds = flat_map extractor_in ds

abbrev pub converters_in : List Definition → List Conversion
converters_in ds = flat_map converter_in ds

abbrev pub constants_in : List Definition → List ConstantNode
constants_in ds = flat_map constant_in ds

abbrev pub type_name : TypeDefinition → Name
type_name t = t.name

-- the names of types, in order
abbrev pub type_names : List TypeDefinition → List Name
type_names ts = map type_name ts
