-- Definitions and events with the names replaced that events are about. All else stays as it is.
use Rattle.std.specs.Prelude.{List, map}
use Rattle.isle_ast_names.specs.Tree.{Name}
use Rattle.isle_ast_rules.specs.Tree.{PatternNode, var_pattern, bind_pattern, bool_pattern, int_pattern, constant_pattern, term_pattern, wildcard_pattern, and_pattern, macro_arg_pattern, PatternList, no_pattern, more_pattern, Expression, term_expression, var_expression, bool_expression, int_expression, constant_expression, let_expression, ExpressionList, no_expression, more_expression, LetList, no_let, more_let, Condition, RuleDefinition, ExtractorDefinition}
use Rattle.isle_ast_verification.specs.Tree.{SpecDefinition}
use Rattle.isle_ast.specs.Tree.{NamedField, IndexedField, FieldList, unit_fields, struct_fields, tuple_fields, EnumVariant, TypeContent, primitive_type, enum_type, struct_type, TypeDefinition, Declaration, Attribute, AttributeTarget, term_target, rule_target, ModelDefinition, ModelContent, type_model, const_model, TermInstantiation, ExternDefinition, extern_extractor, extern_constructor, extern_const, Conversion, Definition, type_def, rule, extractor, decl, attr, spec, spec_macro, model, state, form, instantiation, external, converter}
use Rattle.isle_resolve.specs.Event.{EventNode, defines, uses, defines_variant, occurs, binds, reads, closes, ends}

abbrev mutual
  pub map_pattern : (Name → Name) → PatternNode → PatternNode
  map_pattern f (var_pattern var place) = var_pattern (f var) place
  map_pattern f (bind_pattern var subpat place) = bind_pattern (f var) (map_pattern f subpat) place
  map_pattern f (bool_pattern val place) = bool_pattern val place
  map_pattern f (int_pattern val place) = int_pattern val place
  map_pattern f (constant_pattern val place) = constant_pattern (f val) place
  map_pattern f (term_pattern sym args place) = term_pattern (f sym) (map_pattern_list f args) place
  map_pattern f (wildcard_pattern place) = wildcard_pattern place
  map_pattern f (and_pattern subpats place) = and_pattern (map_pattern_list f subpats) place
  map_pattern f (macro_arg_pattern index place) = macro_arg_pattern index place

  pub map_pattern_list : (Name → Name) → PatternList → PatternList
  map_pattern_list f no_pattern = no_pattern
  map_pattern_list f (more_pattern p ps) = more_pattern (map_pattern f p) (map_pattern_list f ps)

abbrev mutual
  pub map_expression : (Name → Name) → Expression → Expression
  map_expression f (term_expression sym args place) = term_expression (f sym) (map_expression_list f args) place
  map_expression f (var_expression name place) = var_expression (f name) place
  map_expression f (bool_expression val place) = bool_expression val place
  map_expression f (int_expression val place) = int_expression val place
  map_expression f (constant_expression val place) = constant_expression (f val) place
  map_expression f (let_expression defs body place) = let_expression (map_lets f defs) (map_expression f body) place

  pub map_expression_list : (Name → Name) → ExpressionList → ExpressionList
  map_expression_list f no_expression = no_expression
  map_expression_list f (more_expression x xs) = more_expression (map_expression f x) (map_expression_list f xs)

  pub map_lets : (Name → Name) → LetList → LetList
  map_lets f no_let = no_let
  map_lets f (more_let var ty val place ds) = more_let (f var) (f ty) (map_expression f val) place (map_lets f ds)

abbrev pub map_condition : (Name → Name) → Condition → Condition
map_condition f c = record c { pattern = map_pattern f c.pattern; expr = map_expression f c.expr }

abbrev pub map_rule : (Name → Name) → RuleDefinition → RuleDefinition
map_rule f r =
    record r { pattern = map_pattern f r.pattern; iflets = map (map_condition f) r.iflets; expr = map_expression f r.expr }

abbrev pub map_extractor : (Name → Name) → ExtractorDefinition → ExtractorDefinition
map_extractor f e = record e { term = f e.term; args = map f e.args; template = map_pattern f e.template }

abbrev pub map_named_field : (Name → Name) → NamedField → NamedField
map_named_field f x = record x { ty = f x.ty }

abbrev pub map_indexed_field : (Name → Name) → IndexedField → IndexedField
map_indexed_field f x = record x { ty = f x.ty }

abbrev pub map_fields : (Name → Name) → FieldList → FieldList
map_fields f unit_fields = unit_fields
map_fields f (struct_fields fs place) = struct_fields (map (map_named_field f) fs) place
map_fields f (tuple_fields fs place) = tuple_fields (map (map_indexed_field f) fs) place

abbrev pub map_variant : (Name → Name) → EnumVariant → EnumVariant
map_variant f v = record v { name = f v.name; fields = map_fields f v.fields }

abbrev pub map_content : (Name → Name) → TypeContent → TypeContent
map_content f (primitive_type name place) = primitive_type name place
map_content f (enum_type variants place) = enum_type (map (map_variant f) variants) place
map_content f (struct_type fields place) = struct_type (map_fields f fields) place

abbrev pub map_type : (Name → Name) → TypeDefinition → TypeDefinition
map_type f t = record t { name = f t.name; ty = map_content f t.ty }

abbrev pub map_declaration : (Name → Name) → Declaration → Declaration
map_declaration f d = record d { term = f d.term; arg_tys = map f d.arg_tys; ret_ty = f d.ret_ty }

abbrev pub map_target : (Name → Name) → AttributeTarget → AttributeTarget
map_target f (term_target term) = term_target (f term)
map_target f (rule_target name) = rule_target name

abbrev pub map_attribute : (Name → Name) → Attribute → Attribute
map_attribute f a = record a { target = map_target f a.target }

abbrev pub map_spec : (Name → Name) → SpecDefinition → SpecDefinition
map_spec f s = record s { term = f s.term }

abbrev pub map_model_name : (Name → Name) → Name → ModelContent → Name
map_model_name f name (type_model _) = f name
map_model_name f name (const_model _) = name

abbrev pub map_model : (Name → Name) → ModelDefinition → ModelDefinition
map_model f m = record m { name = map_model_name f m.name m.val }

abbrev pub map_instantiation : (Name → Name) → TermInstantiation → TermInstantiation
map_instantiation f i = record i { term = f i.term }

abbrev pub map_extern : (Name → Name) → ExternDefinition → ExternDefinition
map_extern f (extern_extractor term func place infallible) = extern_extractor (f term) func place infallible
map_extern f (extern_constructor term func place) = extern_constructor (f term) func place
map_extern f (extern_const name ty place) = extern_const (f name) (f ty) place

abbrev pub map_conversion : (Name → Name) → Conversion → Conversion
map_conversion f c = record c { term = f c.term; inner_ty = f c.inner_ty; outer_ty = f c.outer_ty }

abbrev pub map_definition : (Name → Name) → Definition → Definition
map_definition f (type_def t) = type_def (map_type f t)
map_definition f (rule r) = rule (map_rule f r)
map_definition f (extractor e) = extractor (map_extractor f e)
map_definition f (decl d) = decl (map_declaration f d)
map_definition f (attr a) = attr (map_attribute f a)
map_definition f (spec s) = spec (map_spec f s)
map_definition f (spec_macro m) = spec_macro m
map_definition f (model m) = model (map_model f m)
map_definition f (state s) = state s
map_definition f (form g) = form g
map_definition f (instantiation i) = instantiation (map_instantiation f i)
map_definition f (external e) = external (map_extern f e)
map_definition f (converter c) = converter (map_conversion f c)

-- definitions, with f applied to each name in them that an event is about
abbrev pub map_definitions : (Name → Name) → List Definition → List Definition
map_definitions f ds = map (map_definition f) ds

abbrev pub map_event : (Name → Name) → EventNode → EventNode
map_event f (defines kind name) = defines kind (f name)
map_event f (uses kind name) = uses kind (f name)
map_event f (defines_variant owner member) = defines_variant (f owner) (f member)
map_event f (occurs role name) = occurs role (f name)
map_event f (binds name) = binds (f name)
map_event f (reads name) = reads (f name)
map_event f closes = closes
map_event f ends = ends
