-- No list in the S-expression of a definition begins with a binding: bindings are patterns alone, and the list
-- of a pattern begins with a name.
use Rattle.std.proofs.Common.{◌≡◌, List, [], ◌∷◌, ◌++◌, map, true, Bool, false, refl, ℤ, ℕ, Option, None, Some, codes}
use Rattle.isle_ast.specs.Tree.{Definition, type_def, rule, extractor, decl, attr, spec, spec_macro, model, state, form, instantiation, external, converter, Declaration, TypeDefinition, NamedField, IndexedField, FieldList, unit_fields, struct_fields, tuple_fields, EnumVariant, TypeContent, primitive_type, enum_type, struct_type, AttributeTarget, term_target, rule_target, AttributeKind, chain_kind, priority_kind, tag_kind, TermSignature, ExternDefinition, extern_extractor, extern_constructor, extern_const, ModelContent, type_model, const_model}
use Rattle.isle_ast_names.specs.Tree.{Name}
use Rattle.isle_ast_rules.specs.Tree.{PatternNode, var_pattern, bind_pattern, bool_pattern, int_pattern, constant_pattern, term_pattern, wildcard_pattern, and_pattern, macro_arg_pattern, PatternList, no_pattern, more_pattern, Expression, term_expression, var_expression, bool_expression, int_expression, constant_expression, let_expression, ExpressionList, no_expression, more_expression, LetList, no_let, more_let, Condition, RuleDefinition}
use Rattle.isle_ast_verification.specs.Tree.{TypeModel, unspecified_model, auto_model, int_model, bool_model, unit_model, bit_vector_model, struct_model, named_model, ModelFieldList, no_model_field, model_field, SpecNode, int_spec, bit_vector_spec, bool_spec, var_spec, as_spec, field_spec, discriminator_spec, op_spec, match_spec, let_spec, with_spec, macro_spec, expand_spec, pair_spec, enum_spec, struct_spec, SpecList, no_spec, more_spec, ArmList, no_arm, more_arm, SpecLetList, no_spec_let, more_spec_let, FieldInitList, no_field_init, more_field_init, ModifiedState, SpecDefinition}
use Rattle.isle_ast_verification.specs.SpecGrammar.{field_mark, discriminator_mark, expansion_mark, dotted}
use Rattle.isle_tidy_laws.specs.Prints.{is_plain, HasPlainHeads, HavePlainHeads, AllHavePlainHeads}
use Rattle.isle_printer.specs.DefinitionShapes.{definition_shape, type_shape, declaration_shape, field_shapes, variant_shape, named_field_shape, indexed_field_shape, type_content_shape, target_shape, kind_shape, signature_shape, instance_shapes, tag_shape, model_content_shape}
use Rattle.isle_printer_layout.specs.NameShapes.{name_shape, name_shapes, flag_shape, constant_shape}
use Rattle.isle_printer_layout.specs.Sexp.{Sexp, atom, sexps, list_of}
use Rattle.isle_printer.specs.RuleShapes.{rule_shape, pattern_shape, pattern_shapes, expression_shape, expression_shapes, let_shapes, condition_shape, rule_name_shape, priority_shape}
use Rattle.isle_printer_verification.specs.SpecShapes.{operator_shape, width_shape, model_shape, model_field_shapes, spec_shape, spec_shapes, arm_shapes, spec_let_shapes, field_init_shapes, state_condition_shape, modifies_shape, clause_shape, spec_definition_shape}

-- lists of S-expressions

items : (ss : List Sexp) → AllHavePlainHeads ss → HavePlainHeads (sexps ss)
items [] h = tt
items (s ∷ ss) h = (h.0, items ss h.1)

-- a list that begins with no binding
headed : (s : Sexp) (ss : List Sexp) → is_plain s ≡ true → HasPlainHeads s → AllHavePlainHeads ss → HasPlainHeads (list_of (s ∷ ss))
headed s ss p h hs = (p, (h, items ss hs))

both : (xs ys : List Sexp) → AllHavePlainHeads xs → AllHavePlainHeads ys → AllHavePlainHeads (xs ++ ys)
both [] ys h k = k
both (x ∷ xs) ys h k = (h.0, both xs ys h.1 k)

names : (ns : List Name) → AllHavePlainHeads (name_shapes ns)
names [] = tt
names (n ∷ ns) = (tt, names ns)

named : (ns : List Name) → HasPlainHeads (list_of (name_shapes ns))
named [] = (tt, tt)
named (n ∷ ns) = (refl, (tt, items (name_shapes ns) (names ns)))

flag : (word : List ℕ) (is : Bool) → AllHavePlainHeads (flag_shape word is)
flag word true = (tt, tt)
flag word false = tt

-- patterns, expressions and rules

mutual
  pattern : (p : PatternNode) → HasPlainHeads (pattern_shape p)
  pattern (var_pattern var pos) = tt
  pattern (bind_pattern var p pos) = pattern p
  pattern (bool_pattern val pos) = tt
  pattern (int_pattern val pos) = tt
  pattern (constant_pattern val pos) = tt
  pattern (term_pattern sym args pos) = headed (name_shape sym) (pattern_shapes args) refl tt (patterns args)
  pattern (wildcard_pattern pos) = tt
  pattern (and_pattern ps pos) = headed (atom (codes "and")) (pattern_shapes ps) refl tt (patterns ps)
  pattern (macro_arg_pattern index pos) = tt

  patterns : (ps : PatternList) → AllHavePlainHeads (pattern_shapes ps)
  patterns no_pattern = tt
  patterns (more_pattern p ps) = (pattern p, patterns ps)

lets_plain : (ls : LetList) → AllHavePlainHeads (let_shapes ls) → HasPlainHeads (list_of (let_shapes ls))
lets_plain no_let h = (tt, tt)
lets_plain (more_let var ty val pos ls) h = (refl, items (let_shapes (more_let var ty val pos ls)) h)

mutual
  expression : (x : Expression) → HasPlainHeads (expression_shape x)
  expression (term_expression sym args pos) = headed (name_shape sym) (expression_shapes args) refl tt (expressions args)
  expression (var_expression name pos) = tt
  expression (bool_expression val pos) = tt
  expression (int_expression val pos) = tt
  expression (constant_expression val pos) = tt
  expression (let_expression defs body pos) =
      headed (atom (codes "let")) (list_of (let_shapes defs) ∷ expression_shape body ∷ []) refl tt (lets_plain defs (lets defs), (expression body, tt))

  expressions : (xs : ExpressionList) → AllHavePlainHeads (expression_shapes xs)
  expressions no_expression = tt
  expressions (more_expression x xs) = (expression x, expressions xs)

  lets : (ls : LetList) → AllHavePlainHeads (let_shapes ls)
  lets no_let = tt
  lets (more_let var ty val pos ls) =
      (headed (name_shape var) (name_shape ty ∷ expression_shape val ∷ []) refl tt (tt, (expression val, tt)), lets ls)

condition : (c : Condition) → HasPlainHeads (condition_shape c)
condition c = headed (atom (codes "if-let")) (pattern_shape c.pattern ∷ expression_shape c.expr ∷ []) refl tt (pattern c.pattern, (expression c.expr, tt))

conditions : (cs : List Condition) → AllHavePlainHeads (map condition_shape cs)
conditions [] = tt
conditions (c ∷ cs) = (condition c, conditions cs)

rule_name : (name : Option Name) → AllHavePlainHeads (rule_name_shape name)
rule_name None = tt
rule_name (Some name) = (tt, tt)

priority : (prio : Option ℤ) → AllHavePlainHeads (priority_shape prio)
priority None = tt
priority (Some prio) = (tt, tt)

-- specs

width_plain : (width : Option ℕ) → AllHavePlainHeads (width_shape width)
width_plain None = tt
width_plain (Some n) = (tt, tt)

mutual
  model_plain : (m : TypeModel) → HasPlainHeads (model_shape m)
  model_plain unspecified_model = tt
  model_plain auto_model = tt
  model_plain int_model = tt
  model_plain bool_model = tt
  model_plain unit_model = tt
  model_plain (bit_vector_model width) = headed (atom (codes "bv")) (width_shape width) refl tt (width_plain width)
  model_plain (struct_model fields) = headed (atom (codes "struct")) (model_field_shapes fields) refl tt (model_fields fields)
  model_plain (named_model name) = headed (atom (codes "named")) (name_shape name ∷ []) refl tt (tt, tt)

  model_fields : (fs : ModelFieldList) → AllHavePlainHeads (model_field_shapes fs)
  model_fields no_model_field = tt
  model_fields (model_field name ty fs) = (headed (name_shape name) (model_shape ty ∷ []) refl tt (model_plain ty, tt), model_fields fs)

models : (ms : List TypeModel) → AllHavePlainHeads (map model_shape ms)
models [] = tt
models (m ∷ ms) = (model_plain m, models ms)

spec_is_plain : (x : SpecNode) → is_plain (spec_shape x) ≡ true
spec_is_plain (int_spec val pos) = refl
spec_is_plain (bit_vector_spec val width pos) = refl
spec_is_plain (bool_spec val pos) = refl
spec_is_plain (var_spec var pos) = refl
spec_is_plain (as_spec x ty pos) = refl
spec_is_plain (field_spec field x pos) = refl
spec_is_plain (discriminator_spec variant x pos) = refl
spec_is_plain (op_spec op args pos) = refl
spec_is_plain (match_spec x arms pos) = refl
spec_is_plain (let_spec defs body pos) = refl
spec_is_plain (with_spec decls body pos) = refl
spec_is_plain (macro_spec params body pos) = refl
spec_is_plain (expand_spec name args pos) = refl
spec_is_plain (pair_spec l r pos) = refl
spec_is_plain (enum_spec name variant args pos) = refl
spec_is_plain (struct_spec fields pos) = refl

spec_lets_plain : (ls : SpecLetList) → AllHavePlainHeads (spec_let_shapes ls) → HasPlainHeads (list_of (spec_let_shapes ls))
spec_lets_plain no_spec_let h = (tt, tt)
spec_lets_plain (more_spec_let name value ls) h = (refl, items (spec_let_shapes (more_spec_let name value ls)) h)

mutual
  spec_plain : (x : SpecNode) → HasPlainHeads (spec_shape x)
  spec_plain (int_spec val pos) = tt
  spec_plain (bit_vector_spec val width pos) = tt
  spec_plain (bool_spec val pos) = tt
  spec_plain (var_spec var pos) = tt
  spec_plain (as_spec x ty pos) = headed (atom (codes "as")) (spec_shape x ∷ model_shape ty ∷ []) refl tt (spec_plain x, (model_plain ty, tt))
  spec_plain (field_spec field x pos) = headed (atom (field_mark field.text)) (spec_shape x ∷ []) refl tt (spec_plain x, tt)
  spec_plain (discriminator_spec variant x pos) = headed (atom (discriminator_mark variant.text)) (spec_shape x ∷ []) refl tt (spec_plain x, tt)
  spec_plain (op_spec op args pos) = headed (operator_shape op) (spec_shapes args) refl tt (specs_plain args)
  spec_plain (match_spec x arms pos) = headed (atom (codes "match")) (spec_shape x ∷ arm_shapes arms) refl tt (spec_plain x, arms_plain arms)
  spec_plain (let_spec defs body pos) =
      headed (atom (codes "let")) (list_of (spec_let_shapes defs) ∷ spec_shape body ∷ []) refl tt (spec_lets_plain defs (spec_lets defs), (spec_plain body, tt))
  spec_plain (with_spec decls body pos) = headed (atom (codes "with")) (list_of (name_shapes decls) ∷ spec_shape body ∷ []) refl tt (named decls, (spec_plain body, tt))
  spec_plain (macro_spec params body pos) = headed (atom (codes "macro")) (list_of (name_shapes params) ∷ spec_shape body ∷ []) refl tt (named params, (spec_plain body, tt))
  spec_plain (expand_spec name args pos) = headed (atom (expansion_mark name.text)) (spec_shapes args) refl tt (specs_plain args)
  spec_plain (pair_spec l r pos) = headed (spec_shape l) (spec_shape r ∷ []) (spec_is_plain l) (spec_plain l) (spec_plain r, tt)
  spec_plain (enum_spec name variant args pos) = headed (atom (dotted name variant)) (spec_shapes args) refl tt (specs_plain args)
  spec_plain (struct_spec fields pos) = headed (atom (codes "struct")) (field_init_shapes fields) refl tt (field_inits fields)

  specs_plain : (xs : SpecList) → AllHavePlainHeads (spec_shapes xs)
  specs_plain no_spec = tt
  specs_plain (more_spec x xs) = (spec_plain x, specs_plain xs)

  arms_plain : (arms : ArmList) → AllHavePlainHeads (arm_shapes arms)
  arms_plain no_arm = tt
  arms_plain (more_arm variant args body pos arms) =
      (headed (list_of (name_shape variant ∷ name_shapes args)) (spec_shape body ∷ []) refl (headed (name_shape variant) (name_shapes args) refl tt (names args)) (spec_plain body, tt), arms_plain arms)

  spec_lets : (ls : SpecLetList) → AllHavePlainHeads (spec_let_shapes ls)
  spec_lets no_spec_let = tt
  spec_lets (more_spec_let name value ls) = (headed (name_shape name) (spec_shape value ∷ []) refl tt (spec_plain value, tt), spec_lets ls)

  field_inits : (fs : FieldInitList) → AllHavePlainHeads (field_init_shapes fs)
  field_inits no_field_init = tt
  field_inits (more_field_init name value pos fs) = (headed (name_shape name) (spec_shape value ∷ []) refl tt (spec_plain value, tt), field_inits fs)

spec_list : (xs : List SpecNode) → AllHavePlainHeads (map spec_shape xs)
spec_list [] = tt
spec_list (x ∷ xs) = (spec_plain x, spec_list xs)

clause : (word : List ℕ) (xs : List SpecNode) → AllHavePlainHeads (clause_shape word xs)
clause word [] = tt
clause word (x ∷ xs) = (headed (atom word) (map spec_shape (x ∷ xs)) refl tt (spec_list (x ∷ xs)), tt)

state_condition : (cond : Option Name) → AllHavePlainHeads (state_condition_shape cond)
state_condition None = tt
state_condition (Some name) = (tt, tt)

modified : (ms : List ModifiedState) → AllHavePlainHeads (map modifies_shape ms)
modified [] = tt
modified (m ∷ ms) = (headed (atom (codes "modifies")) (name_shape m.state ∷ state_condition_shape m.cond) refl tt (tt, state_condition m.cond), modified ms)

-- the other definitions

named_fields : (fs : List NamedField) → AllHavePlainHeads (map named_field_shape fs)
named_fields [] = tt
named_fields (f ∷ fs) = (headed (name_shape f.name) (name_shape f.ty ∷ []) refl tt (tt, tt), named_fields fs)

indexed_fields : (fs : List IndexedField) → AllHavePlainHeads (map indexed_field_shape fs)
indexed_fields [] = tt
indexed_fields (f ∷ fs) = (tt, indexed_fields fs)

fields_plain : (fs : FieldList) → AllHavePlainHeads (field_shapes fs)
fields_plain unit_fields = tt
fields_plain (struct_fields fields pos) = named_fields fields
fields_plain (tuple_fields fields pos) = indexed_fields fields

variants_plain : (vs : List EnumVariant) → AllHavePlainHeads (map variant_shape vs)
variants_plain [] = tt
variants_plain (v ∷ vs) = (headed (name_shape v.name) (field_shapes v.fields) refl tt (fields_plain v.fields), variants_plain vs)

content : (c : TypeContent) → HasPlainHeads (type_content_shape c)
content (primitive_type name pos) = headed (atom (codes "primitive")) (name_shape name ∷ []) refl tt (tt, tt)
content (enum_type variants pos) = headed (atom (codes "enum")) (map variant_shape variants) refl tt (variants_plain variants)
content (struct_type fields pos) = headed (atom (codes "struct")) (field_shapes fields) refl tt (fields_plain fields)

target : (t : AttributeTarget) → AllHavePlainHeads (target_shape t)
target (term_target name) = (tt, tt)
target (rule_target name) = (tt, (tt, tt))

tag : (name : Name) → HasPlainHeads (tag_shape name)
tag name = headed (atom (codes "tag")) (name_shape name ∷ []) refl tt (tt, tt)

tags : (ns : List Name) → AllHavePlainHeads (map tag_shape ns)
tags [] = tt
tags (n ∷ ns) = (tag n, tags ns)

kind : (k : AttributeKind) → HasPlainHeads (kind_shape k)
kind chain_kind = headed (atom (codes "veri")) (atom (codes "chain") ∷ []) refl tt (tt, tt)
kind priority_kind = headed (atom (codes "veri")) (atom (codes "priority") ∷ []) refl tt (tt, tt)
kind (tag_kind name) = tag name

kinds : (ks : List AttributeKind) → AllHavePlainHeads (map kind_shape ks)
kinds [] = tt
kinds (k ∷ ks) = (kind k, kinds ks)

signature : (s : TermSignature) → HasPlainHeads (signature_shape s)
signature s =
    headed (list_of (atom (codes "args") ∷ map model_shape s.args)) (list_of (atom (codes "ret") ∷ model_shape s.ret ∷ []) ∷ []) refl
    (headed (atom (codes "args")) (map model_shape s.args) refl tt (models s.args))
    (headed (atom (codes "ret")) (model_shape s.ret ∷ []) refl tt (model_plain s.ret, tt), tt)

signatures : (ss : List TermSignature) → AllHavePlainHeads (map signature_shape ss)
signatures [] = tt
signatures (s ∷ ss) = (signature s, signatures ss)

instance_plain : (form : Option Name) (ss : List TermSignature) → AllHavePlainHeads (instance_shapes form ss)
instance_plain None ss = signatures ss
instance_plain (Some name) ss = (tt, tt)

model_content : (c : ModelContent) → HasPlainHeads (model_content_shape c)
model_content (type_model ty) = headed (atom (codes "type")) (model_shape ty ∷ []) refl tt (model_plain ty, tt)
model_content (const_model value) = headed (atom (codes "const")) (spec_shape value ∷ []) refl tt (spec_plain value, tt)

external_plain : (e : ExternDefinition) → HasPlainHeads (definition_shape (external e))
external_plain (extern_extractor term func pos infallible) =
    headed (atom (codes "extern")) (atom (codes "extractor") ∷ (flag_shape (codes "infallible") infallible ++ (name_shape term ∷ []) ++ (name_shape func ∷ []))) refl tt
    (tt, both (flag_shape (codes "infallible") infallible ++ (name_shape term ∷ [])) (name_shape func ∷ []) (both (flag_shape (codes "infallible") infallible) (name_shape term ∷ []) (flag (codes "infallible") infallible) (tt, tt)) (tt, tt))
external_plain (extern_constructor term func pos) =
    headed (atom (codes "extern")) (atom (codes "constructor") ∷ name_shape term ∷ name_shape func ∷ []) refl tt (tt, (tt, (tt, tt)))
external_plain (extern_const name ty pos) =
    headed (atom (codes "extern")) (atom (codes "const") ∷ constant_shape name ∷ name_shape ty ∷ []) refl tt (tt, (tt, (tt, tt)))

-- a word and what follows it
form_plain : (word : List ℕ) (ss : List Sexp) → AllHavePlainHeads ss → HasPlainHeads (list_of (atom word ∷ ss))
form_plain word ss h = headed (atom word) ss refl tt h

-- a name and names
name_list : (n : Name) (ns : List Name) → HasPlainHeads (list_of (name_shape n ∷ name_shapes ns))
name_list n ns = headed (name_shape n) (name_shapes ns) refl tt (names ns)

type_plain : (t : TypeDefinition) → HasPlainHeads (type_shape t)
type_plain t =
    let e = flag_shape (codes "extern") t.is_extern in
    let n = flag_shape (codes "nodebug") t.is_nodebug in
    let c = type_content_shape t.ty ∷ [] in
    form_plain (codes "type") (name_shape t.name ∷ ((e ++ n) ++ c))
    (tt, both (e ++ n) c (both e n (flag (codes "extern") t.is_extern) (flag (codes "nodebug") t.is_nodebug)) (content t.ty, tt))

rule_plain : (r : RuleDefinition) → HasPlainHeads (rule_shape r)
rule_plain r =
    let n = rule_name_shape r.name in
    let p = priority_shape r.prio in
    let q = pattern_shape r.pattern ∷ [] in
    let cs = map condition_shape r.iflets in
    let x = expression_shape r.expr ∷ [] in
    form_plain (codes "rule") ((((n ++ p) ++ q) ++ cs) ++ x)
    (both (((n ++ p) ++ q) ++ cs) x (both ((n ++ p) ++ q) cs (both (n ++ p) q (both n p (rule_name r.name) (priority r.prio)) (pattern r.pattern, tt)) (conditions r.iflets)) (expression r.expr, tt))

declaration_plain : (d : Declaration) → HasPlainHeads (declaration_shape d)
declaration_plain d =
    let p = flag_shape (codes "pure") d.pure in
    let m = flag_shape (codes "multi") d.multi in
    let q = flag_shape (codes "partial") d.partial in
    let r = flag_shape (codes "rec") d.rec in
    let t = name_shape d.term ∷ [] in
    let a = list_of (name_shapes d.arg_tys) ∷ [] in
    let o = name_shape d.ret_ty ∷ [] in
    form_plain (codes "decl") ((((((p ++ m) ++ q) ++ r) ++ t) ++ a) ++ o)
    (both (((((p ++ m) ++ q) ++ r) ++ t) ++ a) o
    (both ((((p ++ m) ++ q) ++ r) ++ t) a
    (both (((p ++ m) ++ q) ++ r) t
    (both ((p ++ m) ++ q) r (both (p ++ m) q (both p m (flag (codes "pure") d.pure) (flag (codes "multi") d.multi)) (flag (codes "partial") d.partial)) (flag (codes "rec") d.rec))
    (tt, tt))
    (named d.arg_tys, tt))
    (tt, tt))

spec_definition_plain : (s : SpecDefinition) → HasPlainHeads (spec_definition_shape s)
spec_definition_plain s =
    let p = clause_shape (codes "provide") s.provides in
    let q = clause_shape (codes "require") s.requires_ in
    let m = clause_shape (codes "match") s.matches in
    let c = map modifies_shape s.modifies in
    form_plain (codes "spec") (list_of (name_shape s.term ∷ name_shapes s.args) ∷ (((p ++ q) ++ m) ++ c)) (
      name_list s.term s.args,
      both ((p ++ q) ++ m) c (both (p ++ q) m (both p q (clause (codes "provide") s.provides) (clause (codes "require") s.requires_)) (clause (codes "match") s.matches)) (modified s.modifies),
    )

pub definition_plain : (d : Definition) → HasPlainHeads (definition_shape d)
definition_plain (type_def t) = type_plain t
definition_plain (rule r) = rule_plain r
definition_plain (extractor e) =
    form_plain (codes "extractor") (list_of (name_shape e.term ∷ name_shapes e.args) ∷ pattern_shape e.template ∷ []) (name_list e.term e.args, (pattern e.template, tt))
definition_plain (decl d) = declaration_plain d
definition_plain (attr a) =
    form_plain (codes "attr") (target_shape a.target ++ map kind_shape a.kinds) (both (target_shape a.target) (map kind_shape a.kinds) (target a.target) (kinds a.kinds))
definition_plain (spec s) = spec_definition_plain s
definition_plain (spec_macro m) =
    form_plain (codes "macro") (list_of (name_shape m.name ∷ name_shapes m.params) ∷ spec_shape m.body ∷ []) (name_list m.name m.params, (spec_plain m.body, tt))
definition_plain (model m) = form_plain (codes "model") (name_shape m.name ∷ model_content_shape m.val ∷ []) (tt, (model_content m.val, tt))
definition_plain (state s) =
    form_plain (codes "state") (name_shape s.name ∷ list_of (atom (codes "type") ∷ model_shape s.ty ∷ []) ∷ list_of (atom (codes "default") ∷ spec_shape s.default ∷ []) ∷ [])
    (tt, (form_plain (codes "type") (model_shape s.ty ∷ []) (model_plain s.ty, tt), (form_plain (codes "default") (spec_shape s.default ∷ []) (spec_plain s.default, tt), tt)))
definition_plain (form f) = form_plain (codes "form") (name_shape f.name ∷ map signature_shape f.signatures) (tt, signatures f.signatures)
definition_plain (instantiation i) =
    form_plain (codes "instantiate") (name_shape i.term ∷ (instance_shapes i.form i.signatures ++ map tag_shape i.tags))
    (tt, both (instance_shapes i.form i.signatures) (map tag_shape i.tags) (instance_plain i.form i.signatures) (tags i.tags))
definition_plain (external e) = external_plain e
definition_plain (converter c) = form_plain (codes "convert") (name_shape c.inner_ty ∷ name_shape c.outer_ty ∷ name_shape c.term ∷ []) (tt, (tt, (tt, tt)))

pub definitions_plain : (ds : List Definition) → AllHavePlainHeads (map definition_shape ds)
definitions_plain [] = tt
definitions_plain (d ∷ ds) = (definition_plain d, definitions_plain ds)
