-- The definitions of code, as pure values.
use Rattle.std.specs.Prelude.{List, map}
use Rattle.isle_ast_verification.specs.TreeView.{spec_of, spec_definition_of, spec_macro_of, state_of, type_model_of}
use Rattle.isle_ast.specs.Tree.{Declaration, Conversion, NamedField, IndexedField, FieldList, unit_fields, struct_fields, tuple_fields, EnumVariant, TypeContent, primitive_type, enum_type, struct_type, TypeDefinition, AttributeTarget, term_target, rule_target, AttributeKind, chain_kind, priority_kind, tag_kind, Attribute, TermSignature, FormDefinition, TermInstantiation, ModelContent, type_model, const_model, ModelDefinition, ExternDefinition, extern_extractor, extern_constructor, extern_const, Definition, type_def, rule, extractor, decl, attr, spec, spec_macro, model, state, form, instantiation, external, converter}
use Rattle.isle_ast_names.specs.TreeView.{name_of, names_of, optional_name_of}
use Rattle.isle_ast.specs.declared.ast.TypeDef.{TypeDef}
use Rattle.isle_ast.specs.declared.ast.TypeValue.{TypeValue}
use Rattle.isle_ast.specs.declared.ast.Variant.{Variant}
use Rattle.isle_ast.specs.declared.ast.Fields.{Fields}
use Rattle.isle_ast.specs.declared.ast.StructFields.{StructFields}
use Rattle.isle_ast.specs.declared.ast.StructField.{StructField}
use Rattle.isle_ast.specs.declared.ast.TupleFields.{TupleFields}
use Rattle.isle_ast.specs.declared.ast.TupleField.{TupleField}
use Rattle.isle_ast.specs.declared.ast.Decl.{Decl}
use Rattle.isle_ast.specs.declared.ast.Instantiation.{Instantiation}
use Rattle.isle_ast.specs.declared.ast.Attr.{Attr}
use Rattle.isle_ast.specs.declared.ast.AttrTarget.{AttrTarget}
use Rattle.isle_ast.specs.declared.ast.AttrKind.{AttrKind}
use Rattle.isle_ast.specs.declared.ast.ModelValue.{ModelValue}
use Rattle.isle_ast.specs.declared.ast.Model.{Model}
use Rattle.isle_ast.specs.declared.ast.Signature.{Signature}
use Rattle.isle_ast.specs.declared.ast.Form.{Form}
use Rattle.isle_ast.specs.declared.ast.Extern.{Extern}
use Rattle.isle_ast.specs.declared.ast.Converter.{Converter}
use Rattle.isle_ast.specs.declared.ast.Def.{Def}
use Rattle.isle_ast_rules.specs.TreeView.{rule_of, extractor_of}
use Rattle.isle_ast.specs.declared.ast.TypeValue.TheVariants as type_values
use Rattle.isle_ast.specs.declared.ast.Fields.TheVariants as fields
use Rattle.isle_ast.specs.declared.ast.AttrTarget.TheVariants as targets
use Rattle.isle_ast.specs.declared.ast.AttrKind.TheVariants as kinds
use Rattle.isle_ast.specs.declared.ast.ModelValue.TheVariants as model_values
use Rattle.isle_ast.specs.declared.ast.Extern.TheVariants as externs
use Rattle.isle_ast.specs.declared.ast.Def.TheVariants as variants

abbrev pub declaration_of : Decl → Declaration
declaration_of d =
    record {
      term = name_of d.term;
      arg_tys = names_of d.arg_tys.items;
      ret_ty = name_of d.ret_ty;
      pure = d.pure;
      multi = d.multi;
      partial = d.partial;
      rec = d.rec;
      pos = d.pos;
    }

abbrev pub conversion_of : Converter → Conversion
conversion_of c =
    record {
      term = name_of c.term;
      inner_ty = name_of c.inner_ty;
      outer_ty = name_of c.outer_ty;
      pos = c.pos;
    }

abbrev pub named_field_of : StructField → NamedField
named_field_of f = record { name = name_of f.name; ty = name_of f.ty; pos = f.pos }

abbrev pub indexed_field_of : TupleField → IndexedField
indexed_field_of f = record { index = f.index; ty = name_of f.ty; pos = f.pos }

abbrev pub struct_fields_of : StructFields → FieldList
struct_fields_of fs = struct_fields (map named_field_of fs.fields.items) fs.pos

abbrev pub tuple_fields_of : TupleFields → FieldList
tuple_fields_of fs = tuple_fields (map indexed_field_of fs.fields.items) fs.pos

abbrev pub fields_of : Fields → FieldList
fields_of fields.Unit = unit_fields
fields_of (fields.Struct fs) = struct_fields_of fs
fields_of (fields.Tuple fs) = tuple_fields_of fs

abbrev pub variant_of : Variant → EnumVariant
variant_of v = record { name = name_of v.name; fields = fields_of v.fields; pos = v.pos }

abbrev pub type_content_of : TypeValue → TypeContent
type_content_of (type_values.Primitive name place) = primitive_type (name_of name) place
type_content_of (type_values.Enum variants place) = enum_type (map variant_of variants.items) place
type_content_of (type_values.Struct fs place) = struct_type (fields_of fs) place

abbrev pub type_definition_of : TypeDef → TypeDefinition
type_definition_of t =
    record {
      name = name_of t.name;
      is_extern = t.is_extern;
      is_nodebug = t.is_nodebug;
      ty = type_content_of t.ty;
      pos = t.pos;
    }

abbrev pub target_of : AttrTarget → AttributeTarget
target_of (targets.Term name) = term_target (name_of name)
target_of (targets.Rule name) = rule_target (name_of name)

abbrev pub kind_of : AttrKind → AttributeKind
kind_of kinds.Chain = chain_kind
kind_of kinds.Priority = priority_kind
kind_of (kinds.Tag name) = tag_kind (name_of name)

abbrev pub attribute_of : Attr → Attribute
attribute_of a = record { target = target_of a.target; kinds = map kind_of a.kinds.items; pos = a.pos }

abbrev pub model_content_of : ModelValue → ModelContent
model_content_of (model_values.TypeValue ty) = type_model (type_model_of ty)
model_content_of (model_values.ConstValue value) = const_model (spec_of value)

abbrev pub model_definition_of : Model → ModelDefinition
model_definition_of m = record { name = name_of m.name; val = model_content_of m.val }

abbrev pub signature_of : Signature → TermSignature
signature_of s = record { args = map type_model_of s.args.items; ret = type_model_of s.ret; pos = s.pos }

abbrev pub signatures_of : List Signature → List TermSignature
signatures_of ss = map signature_of ss

abbrev pub form_of : Form → FormDefinition
form_of f = record { name = name_of f.name; signatures = signatures_of f.signatures.items; pos = f.pos }

abbrev pub instantiation_of : Instantiation → TermInstantiation
instantiation_of i =
    record {
      term = name_of i.term;
      form = optional_name_of i.form;
      signatures = signatures_of i.signatures.items;
      tags = names_of i.tags.items;
      pos = i.pos;
    }

abbrev pub extern_of : Extern → ExternDefinition
extern_of (externs.Extractor term func place infallible) =
    extern_extractor (name_of term) (name_of func) place infallible
extern_of (externs.Constructor term func place) = extern_constructor (name_of term) (name_of func) place
extern_of (externs.Const name ty place) = extern_const (name_of name) (name_of ty) place

-- there are no pragmas
abbrev pub definition_of : Def → Definition
definition_of (variants.Pragma p) = elim p [ ]
definition_of (variants.TypeDef t) = type_def (type_definition_of t)
definition_of (variants.Rule r) = rule (rule_of r)
definition_of (variants.Extractor e) = extractor (extractor_of e)
definition_of (variants.Decl d) = decl (declaration_of d)
definition_of (variants.Attr a) = attr (attribute_of a)
definition_of (variants.Spec s) = spec (spec_definition_of s)
definition_of (variants.SpecMacro m) = spec_macro (spec_macro_of m)
definition_of (variants.Model m) = model (model_definition_of m)
definition_of (variants.State s) = state (state_of s)
definition_of (variants.Form f) = form (form_of f)
definition_of (variants.Instantiation i) = instantiation (instantiation_of i)
definition_of (variants.Extern e) = external (extern_of e)
definition_of (variants.Converter c) = converter (conversion_of c)

abbrev pub definitions_of : List Def → List Definition
definitions_of ds = map definition_of ds
