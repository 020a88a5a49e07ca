-- Between definitions no variable is bound.
use Rattle.std.proofs.Common.{◌≡◌, ℕ, ◌+◌, List, [], ◌∷◌, ◌++◌, length, map, refl, sym, ap, ◌∙◌, append_assoc, suc, arith}
use Rattle.std.proofs.lemmas.List.{append-nil}
use Rattle.std.specs.List.{AllByRecursion, flat_map}
use Rattle.isle_ast_names.specs.Tree.{Name}
use Rattle.isle_ast.specs.Tree.{NamedField, IndexedField, FieldList, unit_fields, struct_fields, tuple_fields, EnumVariant, TypeContent, primitive_type, enum_type, struct_type, AttributeTarget, term_target, rule_target, ModelContent, type_model, const_model, ExternDefinition, extern_extractor, extern_constructor, extern_const, Definition, type_def, rule, extractor, decl, attr, spec, spec_macro, model, state, form, instantiation, external, converter}
use Rattle.isle_resolve.specs.declared.event.Kind.TheVariants as kinds
use Rattle.isle_resolve.specs.declared.event.Role.TheVariants as roles
use Rattle.isle_resolve.specs.Event.{EventNode, defines, uses, defines_variant, occurs, binds, reads, closes, ends}
use Rattle.isle_resolve.specs.Events.{pattern_events, expression_events, condition_events, field_events, variant_events, content_events, target_events, model_events, extern_events, definition_events, events}
use Rattle.isle_resolve.specs.Scopes.{BoundNode, after, binder, seen, seen_from}

-- the variables that are bound after events
abbrev pub bound_after : ℕ → List BoundNode → List EventNode → List BoundNode
bound_after i bound [] = bound
bound_after i bound (e ∷ es) = bound_after (i + 1) (after e i bound) es

pub seen-append : (i : ℕ) (bound : List BoundNode) (xs ys : List EventNode) → seen_from i bound (xs ++ ys) ≡ seen_from i bound xs ++ seen_from (i + length xs) (bound_after i bound xs) ys
seen-append i bound [] ys = let at : i ≡ i + 0 = omega arith in ap (λ j. seen_from j bound ys) at
seen-append i bound (x ∷ xs) ys =
    let at : i + 1 + length xs ≡ i + length (x ∷ xs) = omega arith in
    let rest = after x i bound in
    ap (λ ss. record { event = x; number = i; binder = binder x i bound } ∷ ss)
    (seen-append (i + 1) rest xs ys ∙ ap (λ j. seen_from (i + 1) rest xs ++ seen_from j (bound_after (i + 1) rest xs) ys) at)

bound-append : (i : ℕ) (bound : List BoundNode) (xs ys : List EventNode) → bound_after i bound (xs ++ ys) ≡ bound_after (i + length xs) (bound_after i bound xs) ys
bound-append i bound [] ys = let at : i ≡ i + 0 = omega arith in ap (λ j. bound_after j bound ys) at
bound-append i bound (x ∷ xs) ys =
    let at : i + 1 + length xs ≡ i + length (x ∷ xs) = omega arith in
    bound-append (i + 1) (after x i bound) xs ys ∙ ap (λ j. bound_after j (bound_after (i + 1) (after x i bound) xs) ys) at

pub length-seen : (i : ℕ) (bound : List BoundNode) (es : List EventNode) → length (seen_from i bound es) ≡ length es
length-seen i bound [] = refl
length-seen i bound (e ∷ es) = ap suc (length-seen (i + 1) (after e i bound) es)

-- after the end of a rule or of an extractor nothing is bound
ended : (i : ℕ) (bound : List BoundNode) (es : List EventNode) → bound_after i bound (es ++ ends ∷ []) ≡ []
ended i bound [] = refl
ended i bound (e ∷ es) = ended (i + 1) (after e i bound) es

-- an event of no variable
abbrev IsQuiet : EventNode → Type 0
IsQuiet (defines _ _) = Unit {0}
IsQuiet (uses _ _) = Unit {0}
IsQuiet (defines_variant _ _) = Unit {0}
IsQuiet (occurs _ _) = ⊥
IsQuiet (binds _) = ⊥
IsQuiet (reads _) = Unit {0}
IsQuiet closes = ⊥
IsQuiet ends = ⊥

quiet : (i : ℕ) (bound : List BoundNode) (es : List EventNode) → AllByRecursion IsQuiet es → bound_after i bound es ≡ bound
quiet i bound [] are = refl
quiet i bound (defines k n ∷ es) are = quiet (i + 1) bound es are.1
quiet i bound (uses k n ∷ es) are = quiet (i + 1) bound es are.1
quiet i bound (defines_variant o m ∷ es) are = quiet (i + 1) bound es are.1
quiet i bound (occurs role n ∷ es) are = absurd are.0
quiet i bound (binds n ∷ es) are = absurd are.0
quiet i bound (reads n ∷ es) are = quiet (i + 1) bound es are.1
quiet i bound (closes ∷ es) are = absurd are.0
quiet i bound (ends ∷ es) are = absurd are.0

join : (xs ys : List EventNode) → AllByRecursion IsQuiet xs → AllByRecursion IsQuiet ys → AllByRecursion IsQuiet (xs ++ ys)
join [] ys a b = b
join (x ∷ xs) ys a b = (a.0, join xs ys a.1 b)

quiet_types : (ns : List Name) → AllByRecursion IsQuiet (map (uses kinds.Type) ns)
quiet_types [] = tt
quiet_types (n ∷ ns) = (tt, quiet_types ns)

quiet_named : (fs : List NamedField) → AllByRecursion IsQuiet (map (λ f. uses kinds.Type f.ty) fs)
quiet_named [] = tt
quiet_named (f ∷ fs) = (tt, quiet_named fs)

quiet_indexed : (fs : List IndexedField) → AllByRecursion IsQuiet (map (λ f. uses kinds.Type f.ty) fs)
quiet_indexed [] = tt
quiet_indexed (f ∷ fs) = (tt, quiet_indexed fs)

quiet_fields : (fs : FieldList) → AllByRecursion IsQuiet (field_events fs)
quiet_fields unit_fields = tt
quiet_fields (struct_fields fs place) = quiet_named fs
quiet_fields (tuple_fields fs place) = quiet_indexed fs

quiet_variants : (owner : Name) (vs : List EnumVariant) → AllByRecursion IsQuiet (flat_map (variant_events owner) vs)
quiet_variants owner [] = tt
quiet_variants owner (v ∷ vs) = join (variant_events owner v) (flat_map (variant_events owner) vs) (tt, quiet_fields v.fields) (quiet_variants owner vs)

quiet_content : (owner : Name) (c : TypeContent) → AllByRecursion IsQuiet (content_events owner c)
quiet_content owner (primitive_type name place) = tt
quiet_content owner (enum_type variants place) = quiet_variants owner variants
quiet_content owner (struct_type fields place) = quiet_fields fields

quiet_target : (t : AttributeTarget) → AllByRecursion IsQuiet (target_events t)
quiet_target (term_target term) = (tt, tt)
quiet_target (rule_target name) = tt

quiet_model : (name : Name) (content : ModelContent) → AllByRecursion IsQuiet (model_events name content)
quiet_model name (type_model _) = (tt, tt)
quiet_model name (const_model _) = tt

quiet_extern : (e : ExternDefinition) → AllByRecursion IsQuiet (extern_events e)
quiet_extern (extern_extractor term func place infallible) = (tt, tt)
quiet_extern (extern_constructor term func place) = (tt, tt)
quiet_extern (extern_const name ty place) = (tt, (tt, tt))

definition_ends : (i : ℕ) (d : Definition) → bound_after i [] (definition_events d) ≡ []
definition_ends i (type_def t) = quiet i [] (definition_events (type_def t)) (tt, quiet_content t.name t.ty)
definition_ends i (rule r) = ended i [] (pattern_events roles.Plain r.pattern ++ flat_map condition_events r.iflets ++ expression_events r.expr)
definition_ends i (extractor e) = ended i [] (uses kinds.Term e.term ∷ [] ++ map (occurs roles.Parameter) e.args ++ pattern_events roles.Template e.template)
definition_ends i (decl d) =
    quiet i [] (definition_events (decl d))
    (join (defines kinds.Term d.term ∷ [] ++ map (uses kinds.Type) d.arg_tys) (uses kinds.Type d.ret_ty ∷ []) (tt, quiet_types d.arg_tys) (tt, tt))
definition_ends i (attr a) = quiet i [] (target_events a.target) (quiet_target a.target)
definition_ends i (spec s) = refl
definition_ends i (spec_macro m) = refl
definition_ends i (model m) = quiet i [] (model_events m.name m.val) (quiet_model m.name m.val)
definition_ends i (state s) = refl
definition_ends i (form g) = refl
definition_ends i (instantiation t) = refl
definition_ends i (external e) = quiet i [] (extern_events e) (quiet_extern e)
definition_ends i (converter c) = refl

pub definitions_end : (i : ℕ) (ds : List Definition) → bound_after i [] (events ds) ≡ []
definitions_end i [] = refl
definitions_end i (d ∷ ds) =
    bound-append i [] (definition_events d) (events ds)
    ∙ ap (λ b. bound_after (i + length (definition_events d)) b (events ds)) (definition_ends i d)
    ∙ definitions_end (i + length (definition_events d)) ds

events-append : (ds : List Definition) (d : Definition) → events (ds ++ d ∷ []) ≡ events ds ++ definition_events d
events-append [] d = append-nil (definition_events d)
events-append (x ∷ xs) d = ap (λ es. definition_events x ++ es) (events-append xs d) ∙ sym (append_assoc (definition_events x) (events xs) (definition_events d))

-- the events of one more definition come behind those of the others
pub seen-more : (ds : List Definition) (d : Definition) → seen (events (ds ++ d ∷ [])) ≡ seen (events ds) ++ seen_from (length (events ds)) [] (definition_events d)
seen-more ds d =
    let at : 0 + length (events ds) ≡ length (events ds) = omega arith in
    ap seen (events-append ds d)
    ∙ seen-append 0 [] (events ds) (definition_events d)
    ∙ ap (λ j. seen (events ds) ++ seen_from j (bound_after 0 [] (events ds)) (definition_events d)) at
    ∙ ap (λ b. seen (events ds) ++ seen_from (length (events ds)) b (definition_events d)) (definitions_end 0 ds)
