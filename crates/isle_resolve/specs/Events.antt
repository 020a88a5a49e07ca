-- The events of definitions, in the order in which scopes are entered: the expression of a condition comes before its
-- pattern, and the value of a `let`'s definition before its variable. Specs and models name a term or a type; names
-- inside them have no events, since upstream's semantic pass does not look at them.
use Rattle.std.specs.Prelude.{List, [], ◌∷◌, ◌++◌, map}
use Rattle.std.specs.List.{flat_map}
use Rattle.isle_ast_names.specs.Tree.{Name}
use Rattle.isle_ast_rules.specs.Tree.{PatternNode, var_pattern, bind_pattern, bool_pattern, int_pattern, constant_pattern, term_pattern, wildcard_pattern, and_pattern, macro_arg_pattern, PatternList, no_pattern, more_pattern, Expression, term_expression, var_expression, bool_expression, int_expression, constant_expression, let_expression, ExpressionList, no_expression, more_expression, LetList, no_let, more_let, Condition, RuleDefinition, ExtractorDefinition}
use Rattle.isle_ast.specs.Tree.{FieldList, unit_fields, struct_fields, tuple_fields, EnumVariant, TypeContent, primitive_type, enum_type, struct_type, TypeDefinition, Declaration, AttributeTarget, term_target, rule_target, ModelContent, type_model, const_model, ExternDefinition, extern_extractor, extern_constructor, extern_const, Conversion, Definition, type_def, rule, extractor, decl, attr, spec, model, instantiation, external, converter}
use Rattle.isle_resolve.specs.declared.event.Kind.TheVariants as kinds
use Rattle.isle_resolve.specs.declared.event.Role.{Role}
use Rattle.isle_resolve.specs.declared.event.Role.TheVariants as roles
use Rattle.isle_resolve.specs.Event.{EventNode, defines, uses, defines_variant, occurs, binds, reads, closes, ends}

-- the role of a variable before an `@`, where those that stand alone have this role
abbrev pub named : Role → Role
named roles.Plain = roles.Plain
named roles.Parameter = roles.Parameter
named roles.Template = roles.Named
named roles.Named = roles.Named

abbrev mutual
  pub pattern_events : Role → PatternNode → List EventNode
  pattern_events role (var_pattern var _) = occurs role var ∷ []
  pattern_events role (bind_pattern var subpat _) = occurs (named role) var ∷ [] ++ pattern_events role subpat
  pattern_events role (bool_pattern _ _) = []
  pattern_events role (int_pattern _ _) = []
  pattern_events role (constant_pattern val _) = uses kinds.Constant val ∷ []
  pattern_events role (term_pattern sym args _) = uses kinds.Term sym ∷ [] ++ pattern_list_events role args
  pattern_events role (wildcard_pattern _) = []
  pattern_events role (and_pattern subpats _) = pattern_list_events role subpats
  pattern_events role (macro_arg_pattern _ _) = []

  pub pattern_list_events : Role → PatternList → List EventNode
  pattern_list_events role no_pattern = []
  pattern_list_events role (more_pattern p ps) = pattern_events role p ++ pattern_list_events role ps

abbrev mutual
  pub expression_events : Expression → List EventNode
  expression_events (term_expression sym args _) = uses kinds.Term sym ∷ [] ++ expression_list_events args
  expression_events (var_expression name _) = reads name ∷ []
  expression_events (bool_expression _ _) = []
  expression_events (int_expression _ _) = []
  expression_events (constant_expression val _) = uses kinds.Constant val ∷ []
  expression_events (let_expression defs body _) = let_events defs ++ expression_events body ++ let_ends defs

  pub expression_list_events : ExpressionList → List EventNode
  expression_list_events no_expression = []
  expression_list_events (more_expression x xs) = expression_events x ++ expression_list_events xs

  -- the definitions of a `let`: each value, then its type and its variable
  pub let_events : LetList → List EventNode
  let_events no_let = []
  let_events (more_let var ty val _ ds) = expression_events val ++ (uses kinds.Type ty ∷ binds var ∷ []) ++ let_events ds

  -- the end of each of its variables
  pub let_ends : LetList → List EventNode
  let_ends no_let = []
  let_ends (more_let _ _ _ _ ds) = closes ∷ [] ++ let_ends ds

abbrev pub condition_events : Condition → List EventNode
condition_events c = expression_events c.expr ++ pattern_events roles.Plain c.pattern

abbrev pub rule_events : RuleDefinition → List EventNode
rule_events r = pattern_events roles.Plain r.pattern ++ flat_map condition_events r.iflets ++ expression_events r.expr ++ ends ∷ []

abbrev pub extractor_events : ExtractorDefinition → List EventNode
extractor_events e = uses kinds.Term e.term ∷ [] ++ map (occurs roles.Parameter) e.args ++ pattern_events roles.Template e.template ++ ends ∷ []

-- the types of fields
abbrev pub field_events : FieldList → List EventNode
field_events unit_fields = []
field_events (struct_fields fs _) = map (λ f. uses kinds.Type f.ty) fs
field_events (tuple_fields fs _) = map (λ f. uses kinds.Type f.ty) fs

abbrev pub variant_events : Name → EnumVariant → List EventNode
variant_events owner v = defines_variant owner v.name ∷ [] ++ field_events v.fields

abbrev pub content_events : Name → TypeContent → List EventNode
content_events owner (primitive_type _ _) = []
content_events owner (enum_type variants _) = flat_map (variant_events owner) variants
content_events owner (struct_type fields _) = field_events fields

abbrev pub type_events : TypeDefinition → List EventNode
type_events t = defines kinds.Type t.name ∷ [] ++ content_events t.name t.ty

abbrev pub declaration_events : Declaration → List EventNode
declaration_events d = defines kinds.Term d.term ∷ [] ++ map (uses kinds.Type) d.arg_tys ++ uses kinds.Type d.ret_ty ∷ []

abbrev pub target_events : AttributeTarget → List EventNode
target_events (term_target term) = uses kinds.Term term ∷ []
target_events (rule_target _) = []

abbrev pub model_events : Name → ModelContent → List EventNode
model_events name (type_model _) = uses kinds.Type name ∷ []
model_events name (const_model _) = []

abbrev pub extern_events : ExternDefinition → List EventNode
extern_events (extern_extractor term _ _ _) = uses kinds.Term term ∷ []
extern_events (extern_constructor term _ _) = uses kinds.Term term ∷ []
extern_events (extern_const name ty _) = defines kinds.Constant name ∷ uses kinds.Type ty ∷ []

abbrev pub conversion_events : Conversion → List EventNode
conversion_events c = uses kinds.Type c.inner_ty ∷ uses kinds.Type c.outer_ty ∷ uses kinds.Term c.term ∷ []

abbrev pub definition_events : Definition → List EventNode
definition_events (type_def t) = type_events t
definition_events (rule r) = rule_events r
definition_events (extractor e) = extractor_events e
definition_events (decl d) = declaration_events d
definition_events (attr a) = target_events a.target
definition_events (spec s) = uses kinds.Term s.term ∷ []
definition_events (model m) = model_events m.name m.val
definition_events (instantiation i) = uses kinds.Term i.term ∷ []
definition_events (external e) = extern_events e
definition_events (converter c) = conversion_events c
definition_events _ = []

abbrev pub events : List Definition → List EventNode
events ds = flat_map definition_events ds
