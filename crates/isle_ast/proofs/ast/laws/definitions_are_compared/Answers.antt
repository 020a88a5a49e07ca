use Rattle.std.proofs.Common.{refl, ap}
use Rattle.isle_ast_verification.specs.SameModel.{model-Decides, single-Decides}
use Rattle.isle_ast_verification.specs.SameSpec.{operator-Decides, spec-Decides, single_arm-Decides, single_field_init-Decides}
use Rattle.isle_ast_verification.specs.TreeView.{spec_of, single_arm_of, single_field_init_of, modified_of, type_model_of, single_model_field_of}
use Rattle.isle_ast.specs.Tree.{primitive_type, enum_type, struct_type, struct_fields, tuple_fields, term_target, rule_target, tag_kind, type_model, const_model, extern_extractor, extern_constructor, extern_const, type_def, rule, extractor, decl, attr, spec, spec_macro, model, state, form, instantiation, external, converter}
use Rattle.isle_ast_verification.proofs.Equalities.{pos_eq-Decides, ident_eq-Decides, nat_eq-Decides, beq-Decides, and-Decides, Decides-map, lists-Decides, names-Decides, option-Decides, priority-Decides}
use Rattle.isle_ast_rules.specs.SameExpression.{expression-Decides, single_let-Decides}
use Rattle.isle_ast_rules.specs.SamePattern.{pattern-Decides}
use Rattle.isle_ast.specs.TreeView.{named_field_of, indexed_field_of, variant_of, kind_of, signature_of}
use Rattle.isle_ast_rules.specs.TreeView.{pattern_of, expression_of, single_let_of, condition_of}
use Rattle.isle_ast.specs.declared.ast.TypeValue.TheVariants as type_values
use Rattle.isle_ast.specs.declared.ast.Fields.TheVariants as fields
use Rattle.isle_ast.specs.declared.ast.AttrTarget.TheVariants as targets
use Rattle.isle_ast.specs.declared.ast.AttrKind.TheVariants as kinds
use Rattle.isle_ast.specs.declared.ast.ModelValue.TheVariants as model_values
use Rattle.isle_ast.specs.declared.ast.Extern.TheVariants as externs
use Rattle.isle_ast.specs.declared.ast.Def.TheVariants as defs
use Rattle.isle_ast.proofs.ast.laws.definitions_are_compared.Goals as goal

pub returns-clause-struct_field : goal.returns-clause-struct_field
returns-clause-struct_field c a b =
    Decides-map _ (λ h. λ i. record { name = h.0 i; ty = h.1.0 i; pos = h.1.1 i }) (λ e. ((λ i. (e i).name), ((λ i. (e i).ty), (λ i. (e i).pos))))
    (and-Decides _ _ (ident_eq-Decides a.name b.name) (and-Decides _ _ (ident_eq-Decides a.ty b.ty) (pos_eq-Decides a.pos b.pos)))

pub returns-clause-struct_fields : goal.returns-clause-struct_fields
returns-clause-struct_fields c a b =
    Decides-map _ (λ h. λ i. struct_fields (h.0 i) (h.1 i)) (λ e. (cc, cc))
    (and-Decides _ _ (lists-Decides _ named_field_of (returns-clause-struct_field c) a.fields.items b.fields.items) (pos_eq-Decides a.pos b.pos))

pub returns-clause-tuple_field : goal.returns-clause-tuple_field
returns-clause-tuple_field c a b =
    Decides-map _ (λ h. λ i. record { index = h.0 i; ty = h.1.0 i; pos = h.1.1 i }) (λ e. ((λ i. (e i).index), ((λ i. (e i).ty), (λ i. (e i).pos))))
    (and-Decides _ _ (nat_eq-Decides a.index b.index) (and-Decides _ _ (ident_eq-Decides a.ty b.ty) (pos_eq-Decides a.pos b.pos)))

pub returns-clause-tuple_fields : goal.returns-clause-tuple_fields
returns-clause-tuple_fields c a b =
    Decides-map _ (λ h. λ i. tuple_fields (h.0 i) (h.1 i)) (λ e. (cc, cc))
    (and-Decides _ _ (lists-Decides _ indexed_field_of (returns-clause-tuple_field c) a.fields.items b.fields.items) (pos_eq-Decides a.pos b.pos))

pub returns-clause-fields : goal.returns-clause-fields
returns-clause-fields c fields.Unit fields.Unit = (λ e. refl, λ e. refl)
returns-clause-fields c (fields.Struct a) (fields.Struct b) = returns-clause-struct_fields c a b
returns-clause-fields c (fields.Tuple a) (fields.Tuple b) = returns-clause-tuple_fields c a b
returns-clause-fields c _ _ = (λ e. cc, λ e. cc)

pub returns-clause-variants : goal.returns-clause-variants
returns-clause-variants c a b =
    Decides-map _ (λ h. λ i. record { name = h.0 i; fields = h.1.0 i; pos = h.1.1 i }) (λ e. ((λ i. (e i).name), ((λ i. (e i).fields), (λ i. (e i).pos))))
    (and-Decides _ _ (ident_eq-Decides a.name b.name) (and-Decides _ _ (returns-clause-fields c a.fields b.fields) (pos_eq-Decides a.pos b.pos)))

pub returns-clause-type_values : goal.returns-clause-type_values
returns-clause-type_values c (type_values.Primitive a p) (type_values.Primitive b q) =
    Decides-map _ (λ h. λ i. primitive_type (h.0 i) (h.1 i)) (λ e. (cc, cc)) (and-Decides _ _ (ident_eq-Decides a b) (pos_eq-Decides p q))
returns-clause-type_values c (type_values.Enum a p) (type_values.Enum b q) =
    Decides-map _ (λ h. λ i. enum_type (h.0 i) (h.1 i)) (λ e. (cc, cc))
    (and-Decides _ _ (lists-Decides _ variant_of (returns-clause-variants c) a.items b.items) (pos_eq-Decides p q))
returns-clause-type_values c (type_values.Struct a p) (type_values.Struct b q) =
    Decides-map _ (λ h. λ i. struct_type (h.0 i) (h.1 i)) (λ e. (cc, cc)) (and-Decides _ _ (returns-clause-fields c a b) (pos_eq-Decides p q))
returns-clause-type_values c _ _ = (λ e. cc, λ e. cc)

pub returns-clause-type_defs : goal.returns-clause-type_defs
returns-clause-type_defs c a b =
    Decides-map _ (λ h. λ i. record { name = h.0 i; is_extern = h.1.0 i; is_nodebug = h.1.1.0 i; ty = h.1.1.1.0 i; pos = h.1.1.1.1 i })
    (λ e. ((λ i. (e i).name), ((λ i. (e i).is_extern), ((λ i. (e i).is_nodebug), ((λ i. (e i).ty), (λ i. (e i).pos))))))
    (and-Decides _ _ (ident_eq-Decides a.name b.name)
    (and-Decides _ _ (beq-Decides a.is_extern b.is_extern)
    (and-Decides _ _ (beq-Decides a.is_nodebug b.is_nodebug)
    (and-Decides _ _ (returns-clause-type_values c a.ty b.ty) (pos_eq-Decides a.pos b.pos)))))

pub returns-clause-decls : goal.returns-clause-decls
returns-clause-decls c a b =
    Decides-map _
    (λ h. λ i. record {
      term = h.0 i;
      arg_tys = h.1.0 i;
      ret_ty = h.1.1.0 i;
      pure = h.1.1.1.0 i;
      multi = h.1.1.1.1.0 i;
      partial = h.1.1.1.1.1.0 i;
      rec = h.1.1.1.1.1.1.0 i;
      pos = h.1.1.1.1.1.1.1 i;
    })
    (λ e. ((λ i. (e i).term), ((λ i. (e i).arg_tys), ((λ i. (e i).ret_ty), ((λ i. (e i).pure), ((λ i. (e i).multi), ((λ i. (e i).partial), ((λ i. (e i).rec), (λ i. (e i).pos)))))))))
    (and-Decides _ _ (ident_eq-Decides a.term b.term)
    (and-Decides _ _ (names-Decides a.arg_tys.items b.arg_tys.items)
    (and-Decides _ _ (ident_eq-Decides a.ret_ty b.ret_ty)
    (and-Decides _ _ (beq-Decides a.pure b.pure)
    (and-Decides _ _ (beq-Decides a.multi b.multi)
    (and-Decides _ _ (beq-Decides a.partial b.partial)
    (and-Decides _ _ (beq-Decides a.rec b.rec) (pos_eq-Decides a.pos b.pos))))))))

pub returns-clause-attr_targets : goal.returns-clause-attr_targets
returns-clause-attr_targets c (targets.Term a) (targets.Term b) = Decides-map _ (λ e. ap term_target e) (λ e. cc) (ident_eq-Decides a b)
returns-clause-attr_targets c (targets.Rule a) (targets.Rule b) = Decides-map _ (λ e. ap rule_target e) (λ e. cc) (ident_eq-Decides a b)
returns-clause-attr_targets c _ _ = (λ e. cc, λ e. cc)

pub returns-clause-attr_kinds : goal.returns-clause-attr_kinds
returns-clause-attr_kinds c kinds.Chain kinds.Chain = (λ e. refl, λ e. refl)
returns-clause-attr_kinds c kinds.Priority kinds.Priority = (λ e. refl, λ e. refl)
returns-clause-attr_kinds c (kinds.Tag a) (kinds.Tag b) = Decides-map _ (λ e. ap tag_kind e) (λ e. cc) (ident_eq-Decides a b)
returns-clause-attr_kinds c _ _ = (λ e. cc, λ e. cc)

pub returns-clause-attrs : goal.returns-clause-attrs
returns-clause-attrs c a b =
    Decides-map _ (λ h. λ i. record { target = h.0 i; kinds = h.1.0 i; pos = h.1.1 i }) (λ e. ((λ i. (e i).target), ((λ i. (e i).kinds), (λ i. (e i).pos))))
    (and-Decides _ _ (returns-clause-attr_targets c a.target b.target)
    (and-Decides _ _ (lists-Decides _ kind_of (returns-clause-attr_kinds c) a.kinds.items b.kinds.items) (pos_eq-Decides a.pos b.pos)))

pub returns-clause-model_types : goal.returns-clause-model_types
returns-clause-model_types c a b = model-Decides (type_model_of a) (type_model_of b)

pub returns-clause-model_fields : goal.returns-clause-model_fields
returns-clause-model_fields c a b = single-Decides (single_model_field_of a) (single_model_field_of b)

pub returns-clause-spec_ops : goal.returns-clause-spec_ops
returns-clause-spec_ops c a b = operator-Decides a b

pub returns-clause-spec_exprs : goal.returns-clause-spec_exprs
returns-clause-spec_exprs c a b = spec-Decides (spec_of a) (spec_of b)

pub returns-clause-arms : goal.returns-clause-arms
returns-clause-arms c a b = single_arm-Decides (single_arm_of a) (single_arm_of b)

pub returns-clause-field_inits : goal.returns-clause-field_inits
returns-clause-field_inits c a b = single_field_init-Decides (single_field_init_of a) (single_field_init_of b)

pub returns-clause-model_values : goal.returns-clause-model_values
returns-clause-model_values c (model_values.TypeValue a) (model_values.TypeValue b) =
    Decides-map _ (λ e. ap type_model e) (λ e. cc) (returns-clause-model_types c a b)
returns-clause-model_values c (model_values.ConstValue a) (model_values.ConstValue b) =
    Decides-map _ (λ e. ap const_model e) (λ e. cc) (returns-clause-spec_exprs c a b)
returns-clause-model_values c _ _ = (λ e. cc, λ e. cc)

pub returns-clause-models : goal.returns-clause-models
returns-clause-models c a b =
    Decides-map _ (λ h. λ i. record { name = h.0 i; val = h.1 i }) (λ e. ((λ i. (e i).name), (λ i. (e i).val)))
    (and-Decides _ _ (ident_eq-Decides a.name b.name) (returns-clause-model_values c a.val b.val))

pub returns-clause-signatures : goal.returns-clause-signatures
returns-clause-signatures c a b =
    Decides-map _ (λ h. λ i. record { args = h.0 i; ret = h.1.0 i; pos = h.1.1 i }) (λ e. ((λ i. (e i).args), ((λ i. (e i).ret), (λ i. (e i).pos))))
    (and-Decides _ _ (lists-Decides _ type_model_of (returns-clause-model_types c) a.args.items b.args.items)
    (and-Decides _ _ (returns-clause-model_types c a.ret b.ret) (pos_eq-Decides a.pos b.pos)))

pub returns-clause-forms : goal.returns-clause-forms
returns-clause-forms c a b =
    Decides-map _ (λ h. λ i. record { name = h.0 i; signatures = h.1.0 i; pos = h.1.1 i }) (λ e. ((λ i. (e i).name), ((λ i. (e i).signatures), (λ i. (e i).pos))))
    (and-Decides _ _ (ident_eq-Decides a.name b.name)
    (and-Decides _ _ (lists-Decides _ signature_of (returns-clause-signatures c) a.signatures.items b.signatures.items) (pos_eq-Decides a.pos b.pos)))

pub returns-clause-instantiations : goal.returns-clause-instantiations
returns-clause-instantiations c a b =
    Decides-map _ (λ h. λ i. record { term = h.0 i; form = h.1.0 i; signatures = h.1.1.0 i; tags = h.1.1.1.0 i; pos = h.1.1.1.1 i })
    (λ e. ((λ i. (e i).term), ((λ i. (e i).form), ((λ i. (e i).signatures), ((λ i. (e i).tags), (λ i. (e i).pos))))))
    (and-Decides _ _ (ident_eq-Decides a.term b.term)
    (and-Decides _ _ (option-Decides a.form b.form)
    (and-Decides _ _ (lists-Decides _ signature_of (returns-clause-signatures c) a.signatures.items b.signatures.items)
    (and-Decides _ _ (names-Decides a.tags.items b.tags.items) (pos_eq-Decides a.pos b.pos)))))

pub returns-clause-patterns : goal.returns-clause-patterns
returns-clause-patterns c a b = pattern-Decides (pattern_of a) (pattern_of b)

pub returns-clause-exprs : goal.returns-clause-exprs
returns-clause-exprs c a b = expression-Decides (expression_of a) (expression_of b)

pub returns-clause-let_defs : goal.returns-clause-let_defs
returns-clause-let_defs c a b = single_let-Decides (single_let_of a) (single_let_of b)

pub returns-clause-if_lets : goal.returns-clause-if_lets
returns-clause-if_lets c a b =
    Decides-map _ (λ h. λ i. record { pattern = h.0 i; expr = h.1.0 i; pos = h.1.1 i }) (λ e. ((λ i. (e i).pattern), ((λ i. (e i).expr), (λ i. (e i).pos))))
    (and-Decides _ _ (returns-clause-patterns c a.pattern b.pattern)
    (and-Decides _ _ (returns-clause-exprs c a.expr b.expr) (pos_eq-Decides a.pos b.pos)))

pub returns-clause-rules : goal.returns-clause-rules
returns-clause-rules c a b =
    Decides-map _
    (λ h. λ i. record { pattern = h.0 i; iflets = h.1.0 i; expr = h.1.1.0 i; pos = h.1.1.1.0 i; prio = h.1.1.1.1.0 i; name = h.1.1.1.1.1 i })
    (λ e. ((λ i. (e i).pattern), ((λ i. (e i).iflets), ((λ i. (e i).expr), ((λ i. (e i).pos), ((λ i. (e i).prio), (λ i. (e i).name)))))))
    (and-Decides _ _ (returns-clause-patterns c a.pattern b.pattern)
    (and-Decides _ _ (lists-Decides _ condition_of (returns-clause-if_lets c) a.iflets.items b.iflets.items)
    (and-Decides _ _ (returns-clause-exprs c a.expr b.expr)
    (and-Decides _ _ (pos_eq-Decides a.pos b.pos)
    (and-Decides _ _ (priority-Decides a.prio b.prio) (option-Decides a.name b.name))))))

pub returns-clause-extractors : goal.returns-clause-extractors
returns-clause-extractors c a b =
    Decides-map _ (λ h. λ i. record { term = h.0 i; args = h.1.0 i; template = h.1.1.0 i; pos = h.1.1.1 i })
    (λ e. ((λ i. (e i).term), ((λ i. (e i).args), ((λ i. (e i).template), (λ i. (e i).pos)))))
    (and-Decides _ _ (ident_eq-Decides a.term b.term)
    (and-Decides _ _ (names-Decides a.args.items b.args.items)
    (and-Decides _ _ (returns-clause-patterns c a.template b.template) (pos_eq-Decides a.pos b.pos))))

pub returns-clause-modifies : goal.returns-clause-modifies
returns-clause-modifies c a b =
    Decides-map _ (λ h. λ i. record { state = h.0 i; cond = h.1 i }) (λ e. ((λ i. (e i).state), (λ i. (e i).cond)))
    (and-Decides _ _ (ident_eq-Decides a.state b.state) (option-Decides a.cond b.cond))

pub returns-clause-specs : goal.returns-clause-specs
returns-clause-specs c a b =
    Decides-map _
    (λ h. λ i. record {
      term = h.0 i;
      args = h.1.0 i;
      provides = h.1.1.0 i;
      requires_ = h.1.1.1.0 i;
      matches = h.1.1.1.1.0 i;
      modifies = h.1.1.1.1.1.0 i;
      pos = h.1.1.1.1.1.1 i;
    })
    (λ e. ((λ i. (e i).term), ((λ i. (e i).args), ((λ i. (e i).provides), ((λ i. (e i).requires_), ((λ i. (e i).matches), ((λ i. (e i).modifies), (λ i. (e i).pos))))))))
    (and-Decides _ _ (ident_eq-Decides a.term b.term)
    (and-Decides _ _ (names-Decides a.args.items b.args.items)
    (and-Decides _ _ (lists-Decides _ spec_of (returns-clause-spec_exprs c) a.provides.items b.provides.items)
    (and-Decides _ _ (lists-Decides _ spec_of (returns-clause-spec_exprs c) a.requires_.items b.requires_.items)
    (and-Decides _ _ (lists-Decides _ spec_of (returns-clause-spec_exprs c) a.matches.items b.matches.items)
    (and-Decides _ _ (lists-Decides _ modified_of (returns-clause-modifies c) a.modifies.items b.modifies.items) (pos_eq-Decides a.pos b.pos)))))))

pub returns-clause-spec_macros : goal.returns-clause-spec_macros
returns-clause-spec_macros c a b =
    Decides-map _ (λ h. λ i. record { name = h.0 i; params = h.1.0 i; body = h.1.1.0 i; pos = h.1.1.1 i })
    (λ e. ((λ i. (e i).name), ((λ i. (e i).params), ((λ i. (e i).body), (λ i. (e i).pos)))))
    (and-Decides _ _ (ident_eq-Decides a.name b.name)
    (and-Decides _ _ (names-Decides a.params.items b.params.items)
    (and-Decides _ _ (returns-clause-spec_exprs c a.body b.body) (pos_eq-Decides a.pos b.pos))))

pub returns-clause-states : goal.returns-clause-states
returns-clause-states c a b =
    Decides-map _ (λ h. λ i. record { name = h.0 i; ty = h.1.0 i; default = h.1.1.0 i; pos = h.1.1.1 i })
    (λ e. ((λ i. (e i).name), ((λ i. (e i).ty), ((λ i. (e i).default), (λ i. (e i).pos)))))
    (and-Decides _ _ (ident_eq-Decides a.name b.name)
    (and-Decides _ _ (returns-clause-model_types c a.ty b.ty)
    (and-Decides _ _ (returns-clause-spec_exprs c a.default b.default) (pos_eq-Decides a.pos b.pos))))

pub returns-clause-externs : goal.returns-clause-externs
returns-clause-externs c (externs.Extractor a f p s) (externs.Extractor b g q t) =
    Decides-map _ (λ h. λ i. extern_extractor (h.0 i) (h.1.0 i) (h.1.1.0 i) (h.1.1.1 i)) (λ e. (cc, (cc, (cc, cc))))
    (and-Decides _ _ (ident_eq-Decides a b) (and-Decides _ _ (ident_eq-Decides f g) (and-Decides _ _ (pos_eq-Decides p q) (beq-Decides s t))))
returns-clause-externs c (externs.Constructor a f p) (externs.Constructor b g q) =
    Decides-map _ (λ h. λ i. extern_constructor (h.0 i) (h.1.0 i) (h.1.1 i)) (λ e. (cc, (cc, cc)))
    (and-Decides _ _ (ident_eq-Decides a b) (and-Decides _ _ (ident_eq-Decides f g) (pos_eq-Decides p q)))
returns-clause-externs c (externs.Const a f p) (externs.Const b g q) =
    Decides-map _ (λ h. λ i. extern_const (h.0 i) (h.1.0 i) (h.1.1 i)) (λ e. (cc, (cc, cc)))
    (and-Decides _ _ (ident_eq-Decides a b) (and-Decides _ _ (ident_eq-Decides f g) (pos_eq-Decides p q)))
returns-clause-externs c _ _ = (λ e. cc, λ e. cc)

pub returns-clause-converters : goal.returns-clause-converters
returns-clause-converters c a b =
    Decides-map _ (λ h. λ i. record { term = h.0 i; inner_ty = h.1.0 i; outer_ty = h.1.1.0 i; pos = h.1.1.1 i })
    (λ e. ((λ i. (e i).term), ((λ i. (e i).inner_ty), ((λ i. (e i).outer_ty), (λ i. (e i).pos)))))
    (and-Decides _ _ (ident_eq-Decides a.term b.term)
    (and-Decides _ _ (ident_eq-Decides a.inner_ty b.inner_ty)
    (and-Decides _ _ (ident_eq-Decides a.outer_ty b.outer_ty) (pos_eq-Decides a.pos b.pos))))

pub returns-clause-defs : goal.returns-clause-defs
returns-clause-defs c (defs.Pragma p) _ = elim p [ ]
returns-clause-defs c _ (defs.Pragma p) = elim p [ ]
returns-clause-defs c (defs.TypeDef a) (defs.TypeDef b) = Decides-map _ (λ e. ap type_def e) (λ e. cc) (returns-clause-type_defs c a b)
returns-clause-defs c (defs.Rule a) (defs.Rule b) = Decides-map _ (λ e. ap rule e) (λ e. cc) (returns-clause-rules c a b)
returns-clause-defs c (defs.Extractor a) (defs.Extractor b) = Decides-map _ (λ e. ap extractor e) (λ e. cc) (returns-clause-extractors c a b)
returns-clause-defs c (defs.Decl a) (defs.Decl b) = Decides-map _ (λ e. ap decl e) (λ e. cc) (returns-clause-decls c a b)
returns-clause-defs c (defs.Attr a) (defs.Attr b) = Decides-map _ (λ e. ap attr e) (λ e. cc) (returns-clause-attrs c a b)
returns-clause-defs c (defs.Spec a) (defs.Spec b) = Decides-map _ (λ e. ap spec e) (λ e. cc) (returns-clause-specs c a b)
returns-clause-defs c (defs.SpecMacro a) (defs.SpecMacro b) = Decides-map _ (λ e. ap spec_macro e) (λ e. cc) (returns-clause-spec_macros c a b)
returns-clause-defs c (defs.Model a) (defs.Model b) = Decides-map _ (λ e. ap model e) (λ e. cc) (returns-clause-models c a b)
returns-clause-defs c (defs.State a) (defs.State b) = Decides-map _ (λ e. ap state e) (λ e. cc) (returns-clause-states c a b)
returns-clause-defs c (defs.Form a) (defs.Form b) = Decides-map _ (λ e. ap form e) (λ e. cc) (returns-clause-forms c a b)
returns-clause-defs c (defs.Instantiation a) (defs.Instantiation b) = Decides-map _ (λ e. ap instantiation e) (λ e. cc) (returns-clause-instantiations c a b)
returns-clause-defs c (defs.Extern a) (defs.Extern b) = Decides-map _ (λ e. ap external e) (λ e. cc) (returns-clause-externs c a b)
returns-clause-defs c (defs.Converter a) (defs.Converter b) = Decides-map _ (λ e. ap converter e) (λ e. cc) (returns-clause-converters c a b)
returns-clause-defs c _ _ = (λ e. cc, λ e. cc)
