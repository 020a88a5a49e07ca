-- The tokens of the shape of a writable definition spell it, erased.
use Rattle.std.proofs.Common.{ℕ, ◌+◌, List, [], ◌∷◌, ◌++◌, map, codes, Bool, true, false, Option, None, Some, inr, refl}
use Rattle.isle_base.specs.Place.{Placed, unknown}
use Rattle.isle_base.specs.Token.{Tok, rparen}
use Rattle.isle_ast_verification.specs.Erased.{erase_spec, erase_model}
use Rattle.isle_ast_names.specs.Tree.{Name}
use Rattle.isle_ast.specs.Tree.{Declaration, Conversion, NamedField, IndexedField, FieldList, unit_fields, struct_fields, tuple_fields, EnumVariant, TypeContent, primitive_type, enum_type}
use Rattle.isle_ast.specs.Tree.{struct_type, AttributeTarget, term_target, rule_target, AttributeKind, chain_kind, priority_kind, tag_kind, TermSignature, ModelContent, type_model, const_model}
use Rattle.isle_ast.specs.Tree.{ExternDefinition, extern_extractor, extern_constructor, extern_const, Definition, type_def, rule, extractor, decl, attr, spec, spec_macro, model, state, form}
use Rattle.isle_ast.specs.Tree.{instantiation, external, converter}
use Rattle.isle_ast_names.specs.Words.{SpellsWord, BeginsAt, SpellsAll, InParentheses, BehindWord, SpellsName}
use Rattle.isle_ast_names.specs.Erased.{erase_name, erase_names, erase_optional}
use Rattle.isle_ast.specs.Erased.{erase_declaration, erase_conversion, erase_type, erase_attribute, erase_form, erase_instantiation, erase_model_definition, erase_named_field, erase_indexed_field}
use Rattle.isle_ast.specs.Erased.{erase_fields, erase_variant, erase_type_content, erase_target, erase_kind, erase_signature, erase_model_content, erase_extern, erase_definition}
use Rattle.isle_ast.specs.Grammar.{SpellsDefinition}
use Rattle.isle_ast_verification.specs.SpecGrammar.{SpellsSpec}
use Rattle.isle_ast_verification.specs.TypeModelGrammar.{SpellsTypeModel}
use Rattle.isle_ast.specs.ModelGrammar.{SpellsSignature, SpellsTag, SpellsInstances, SpellsModelContent, SpellsModel, SpellsForm, SpellsInstantiation}
use Rattle.isle_ast.specs.TermGrammar.{SpellsDeclaration, SpellsConversion, SpellsAttributeKind, SpellsAttributeTarget, SpellsPair, SpellsExtern, SpellsAttribute}
use Rattle.isle_ast.specs.TypeGrammar.{SpellsNamedField, SpellsIndexedFields, SpellsFields, SpellsVariant, SpellsTypeContent, SpellsModifiers, SpellsTypeDefinition}
use Rattle.isle_ast_names.specs.Writable.{IsName, Each}
use Rattle.isle_ast.specs.Writable.{IsWritableDeclaration, IsWritableConversion, IsWritableNamedField, AreWritableIndexedFields, AreWritableFields, IsWritableVariant, IsWritableTypeContent}
use Rattle.isle_ast.specs.Writable.{IsWritableTarget, IsWritableKind, IsWritableSignature, AreWritableInstances, IsWritableModelContent, IsWritableExtern, IsWritable}
use Rattle.isle_ast_verification.specs.Writable.{IsWritableModel}
use Rattle.isle_printer.specs.DefinitionShapes.{definition_shape, named_field_shape, indexed_field_shape, field_shapes, variant_shape, type_content_shape, target_shape, tag_shape, kind_shape}
use Rattle.isle_printer.specs.DefinitionShapes.{signature_shape, instance_shapes, extern_shape, model_content_shape}
use Rattle.isle_printer_layout.specs.Sexp.{atom}
use Rattle.isle_printer_layout.specs.NameShapes.{name_shape, name_shapes, flag_shape, form_shape, constant_shape}
use Rattle.isle_printer_verification.specs.SpecShapes.{model_shape, spec_shape}
use Rattle.isle_printer_layout.specs.ReadBack.{unplaced}
use Rattle.isle_printer_verification.proofs.ShapeLaw.Models.{spell-model}
use Rattle.isle_printer_verification.proofs.ShapeLaw.SpecDefinitions.{spell-spec_definition, spell-spec_macro, spell-state}
use Rattle.isle_printer_verification.proofs.ShapeLaw.Specs.{spell-spec}
use Rattle.isle_printer.proofs.ShapeLaw.Rules.{spell-rule, spell-extractor_definition}
use Rattle.isle_printer_layout.proofs.Spellings.{ItemTokens, ◌then◌, IsAhead, item-ahead, items-ahead, Spelling, spell-nothing, spell-word, spell-flag, spell-name, spell-all, spell-names, spell-list}
use Rattle.isle_printer_layout.proofs.Spellings.{spell-behind, spell-form, InTurn, spell-turn, differs-test, regrouped, spell-constant}
use Rattle.isle_printer_layout.proofs.WordSymbols.{word-decl, word-convert, word-pure, word-multi, word-partial, word-rec, word-type, word-extern, word-nodebug, word-primitive, word-enum, word-struct}
use Rattle.isle_printer_layout.proofs.WordSymbols.{word-attr, word-rule, word-veri, word-chain, word-priority, word-tag, word-model, word-form, word-instantiate, word-args, word-ret, word-extractor}
use Rattle.isle_printer_layout.proofs.WordSymbols.{word-infallible, word-constructor, word-const}

spell-named_field : (f : NamedField) → IsWritableNamedField f → (rest : List Tok) → Spelling (named_field_shape f ∷ []) (SpellsNamedField (erase_named_field f)) rest
spell-named_field f is rest =
    let second = spell-name f.ty is.1 (rparen ∷ rest) in
    let first = spell-name f.name is.0 second.all in
    let field = spell-list (name_shape f.name ∷ name_shape f.ty ∷ []) (InTurn (SpellsName (erase_name f.name)) (SpellsName (erase_name f.ty))) rest (spell-turn second first) in
    record { all = field.all; tokens = field.tokens; spells = (item-ahead field.tokens, field.spells) }

spell-indexed_fields : (place : ℕ) (fs : List IndexedField) → AreWritableIndexedFields place fs → (rest : List Tok) → Spelling (map indexed_field_shape fs) (SpellsIndexedFields place (map erase_indexed_field fs)) rest
spell-indexed_fields place [] is rest = spell-nothing rest
spell-indexed_fields place (f ∷ fs) is rest =
    let behind = spell-indexed_fields (place + 1) fs is.2 rest in
    let first = spell-name f.ty is.1 behind.all in
    record {
      all = first.all;
      tokens = first.tokens then behind.tokens;
      spells = (is.0, item-ahead first.tokens, unplaced behind.all, first.spells, behind.spells);
    }

spell-fields : (fields : FieldList) → AreWritableFields fields → (rest : List Tok) → Spelling (field_shapes fields) (SpellsFields (erase_fields fields)) rest
spell-fields unit_fields is rest = spell-nothing rest
spell-fields (struct_fields [] _) is rest = absurd is.0
spell-fields (struct_fields (f ∷ fs) _) is rest =
    let s = spell-all named_field_shape erase_named_field SpellsNamedField IsWritableNamedField spell-named_field (f ∷ fs) is.1 rest in
    record { all = s.all; tokens = s.tokens; spells = (tt, item-ahead s.tokens, s.spells) }
spell-fields (tuple_fields [] _) is rest = absurd is.0
spell-fields (tuple_fields (f ∷ fs) _) is rest =
    let s = spell-indexed_fields 0 (f ∷ fs) is.1 rest in
    record { all = s.all; tokens = s.tokens; spells = (tt, item-ahead s.tokens, s.spells) }

spell-variant : (v : EnumVariant) → IsWritableVariant v → (rest : List Tok) → Spelling (variant_shape v ∷ []) (SpellsVariant (erase_variant v)) rest
spell-variant v is rest =
    let fields = spell-fields v.fields is.1 (rparen ∷ rest) in
    let name = spell-name v.name is.0 fields.all in
    let s = spell-list (name_shape v.name ∷ field_shapes v.fields) (InTurn (SpellsName (erase_name v.name)) (SpellsFields (erase_fields v.fields))) rest (spell-turn fields name) in
    record { all = s.all; tokens = s.tokens; spells = (item-ahead s.tokens, inr s.spells) }

spell-type_content : (t : TypeContent) → IsWritableTypeContent t → (rest : List Tok) → Spelling (type_content_shape t ∷ []) (SpellsTypeContent (erase_type_content t)) rest
spell-type_content (primitive_type name _) is rest =
    let s = spell-form (codes "primitive") word-primitive (name_shape name ∷ []) (SpellsName (erase_name name)) rest (spell-name name is (rparen ∷ rest)) in
    record { all = s.all; tokens = s.tokens; spells = (item-ahead s.tokens, s.spells) }
spell-type_content (enum_type variants _) is rest =
    let inner = spell-all variant_shape erase_variant SpellsVariant IsWritableVariant spell-variant variants is (rparen ∷ rest) in
    let s = spell-form (codes "enum") word-enum (map variant_shape variants) (SpellsAll SpellsVariant (map erase_variant variants)) rest inner in
    record { all = s.all; tokens = s.tokens; spells = (item-ahead s.tokens, s.spells) }
spell-type_content (struct_type fields _) is rest =
    let s = spell-form (codes "struct") word-struct (field_shapes fields) (SpellsFields (erase_fields fields)) rest (spell-fields fields is (rparen ∷ rest)) in
    record { all = s.all; tokens = s.tokens; spells = (item-ahead s.tokens, s.spells) }

-- the modifiers as they are printed: each flag that is set, once
spell-modifiers : (is_extern is_nodebug : Bool) (rest : List Tok) → Spelling (flag_shape (codes "extern") is_extern ++ flag_shape (codes "nodebug") is_nodebug) (SpellsModifiers is_extern is_nodebug) rest
spell-modifiers true true rest =
    let second = spell-word (codes "nodebug") word-nodebug rest in
    let first = spell-word (codes "extern") word-extern second.all in
    record {
      all = first.all;
      tokens = first.tokens then second.tokens;
      spells = record {
        words = codes "extern" ∷ codes "nodebug" ∷ [];
        each = refl;
        extern_set = refl;
        nodebug_set = refl;
        spelt = (unplaced second.all, first.spells, (unplaced rest, second.spells, refl));
      };
    }
spell-modifiers true false rest =
    let first = spell-word (codes "extern") word-extern rest in
    record {
      all = first.all;
      tokens = first.tokens;
      spells = record {
        words = codes "extern" ∷ [];
        each = refl;
        extern_set = refl;
        nodebug_set = refl;
        spelt = (unplaced rest, first.spells, refl);
      };
    }
spell-modifiers false true rest =
    let first = spell-word (codes "nodebug") word-nodebug rest in
    record {
      all = first.all;
      tokens = first.tokens;
      spells = record {
        words = codes "nodebug" ∷ [];
        each = refl;
        extern_set = refl;
        nodebug_set = refl;
        spelt = (unplaced rest, first.spells, refl);
      };
    }
spell-modifiers false false rest = record {
  all = rest;
  tokens = record { are = refl };
  spells = record { words = []; each = refl; extern_set = refl; nodebug_set = refl; spelt = refl };
}

spell-target : (t : AttributeTarget) → IsWritableTarget t → (rest : List Tok) → Spelling (target_shape t) (SpellsAttributeTarget (erase_target t)) rest
spell-target (term_target name) is rest =
    let s = spell-name name is.1 rest in
    record { all = s.all; tokens = s.tokens; spells = (differs-test name.text (codes "rule") _ refl is.0, s.spells) }
spell-target (rule_target name) is rest =
    spell-behind (codes "rule") word-rule (name_shape name ∷ []) (SpellsName (erase_name name)) rest (spell-name name is rest)

target-ahead : (t : AttributeTarget) {all rest : List Tok} → ItemTokens (target_shape t) all rest → IsAhead all
target-ahead (term_target name) t = item-ahead t
target-ahead (rule_target name) t = item-ahead t

spell-tag : (name : Name) → IsName name → (rest : List Tok) → Spelling (tag_shape name ∷ []) (SpellsTag (erase_name name)) rest
spell-tag name is rest =
    spell-form (codes "tag") word-tag (name_shape name ∷ []) (SpellsName (erase_name name)) rest (spell-name name is (rparen ∷ rest))

spell-kind : (k : AttributeKind) → IsWritableKind k → (rest : List Tok) → Spelling (kind_shape k ∷ []) (SpellsAttributeKind (erase_kind k)) rest
spell-kind chain_kind is rest =
    spell-form (codes "veri") word-veri (atom (codes "chain") ∷ []) (SpellsWord (codes "chain")) rest (spell-word (codes "chain") word-chain (rparen ∷ rest))
spell-kind priority_kind is rest =
    spell-form (codes "veri") word-veri (atom (codes "priority") ∷ []) (SpellsWord (codes "priority")) rest (spell-word (codes "priority") word-priority (rparen ∷ rest))
spell-kind (tag_kind name) is rest = spell-tag name is rest

spell-signature : (g : TermSignature) → IsWritableSignature g → (rest : List Tok) → Spelling (signature_shape g ∷ []) (SpellsSignature (erase_signature g)) rest
spell-signature g is rest =
    let ret = spell-form (codes "ret") word-ret (model_shape g.ret ∷ []) (SpellsTypeModel (erase_model g.ret)) (rparen ∷ rest) (spell-model g.ret is.1 (rparen ∷ rparen ∷ rest)) in
    let models = spell-all model_shape erase_model SpellsTypeModel IsWritableModel spell-model g.args is.0 (rparen ∷ ret.all) in
    let args = spell-form (codes "args") word-args (map model_shape g.args) (SpellsAll SpellsTypeModel (map erase_model g.args)) ret.all models in
    spell-list
    (form_shape (codes "args") (map model_shape g.args) ∷ form_shape (codes "ret") (model_shape g.ret ∷ []) ∷ [])
    (λ inner close. BeginsAt unknown inner × (mid : List Placed)
    × InParentheses (BehindWord (codes "args") (SpellsAll SpellsTypeModel (map erase_model g.args))) inner mid
    × InParentheses (BehindWord (codes "ret") (SpellsTypeModel (erase_model g.ret))) mid close)
    rest
    (record {
      all = args.all;
      tokens = args.tokens then ret.tokens;
      spells = (item-ahead args.tokens, unplaced ret.all, args.spells, ret.spells);
    })

spell-signatures : (gs : List TermSignature) → Each IsWritableSignature gs → (rest : List Tok) → Spelling (map signature_shape gs) (SpellsAll SpellsSignature (map erase_signature gs)) rest
spell-signatures = spell-all signature_shape erase_signature SpellsSignature IsWritableSignature spell-signature

-- the form or the signatures, and then the tags
spell-instances : (o : Option Name) (gs : List TermSignature) (tags : List Name)
    → AreWritableInstances o gs tags → (rest : List Tok)
    → Spelling (instance_shapes o gs ++ map tag_shape tags) (SpellsInstances (erase_optional o) (map erase_signature gs) (erase_names tags)) rest
spell-instances None [] tags is rest = absurd is.0
spell-instances None (g ∷ gs) [] is rest =
    let s = spell-signatures (g ∷ gs) is.1 rest in
    let nothing_more : ItemTokens [] rest rest = record { are = refl } in
    record {
      all = s.all;
      tokens = s.tokens then nothing_more;
      spells = (tt, refl, s.spells);
    }
spell-instances None (g ∷ gs) (t ∷ ts) is rest = absurd (cc (is.2))
spell-instances (Some name) (g ∷ gs) tags is rest = absurd (cc (is.1))
spell-instances (Some name) [] tags is rest =
    let behind = spell-all tag_shape erase_name SpellsTag IsName spell-tag tags is.2 rest in
    let first = spell-name name is.0 behind.all in
    record {
      all = first.all;
      tokens = first.tokens then behind.tokens;
      spells = (refl, unplaced behind.all, first.spells, behind.spells);
    }

spell-model_content : (m : ModelContent) → IsWritableModelContent m → (rest : List Tok) → Spelling (model_content_shape m ∷ []) (SpellsModelContent (erase_model_content m)) rest
spell-model_content (type_model ty) is rest =
    spell-form (codes "type") word-type (model_shape ty ∷ []) (SpellsTypeModel (erase_model ty)) rest (spell-model ty is (rparen ∷ rest))
spell-model_content (const_model value) is rest =
    spell-form (codes "const") word-const (spec_shape value ∷ []) (SpellsSpec (erase_spec value)) rest (spell-spec value is (rparen ∷ rest))

spell-pair : (first second : Name) → IsName first → IsName second → (rest : List Tok) → Spelling (name_shape first ∷ name_shape second ∷ []) (SpellsPair (erase_name first) (erase_name second)) rest
spell-pair first second is so rest =
    let b = spell-name second so rest in
    let a = spell-name first is b.all in
    spell-turn b a

-- `extern`, a word, and what comes after it
spell-extern : (e : ExternDefinition) → IsWritableExtern e → (rest : List Tok) → Spelling (extern_shape e ∷ []) (SpellsDefinition (external (erase_extern e))) rest
spell-extern (extern_extractor term func _ infallible) is rest =
    let pair = spell-pair term func is.0 is.1 (rparen ∷ rest) in
    let flag = spell-flag (codes "infallible") word-infallible infallible pair.all in
    let kind = spell-word (codes "extractor") word-extractor flag.all in
    let word = spell-word (codes "extern") word-extern kind.all in
    spell-list
    (atom (codes "extern") ∷ [] ++ atom (codes "extractor") ∷ [] ++ flag_shape (codes "infallible") infallible ++ name_shape term ∷ [] ++ name_shape func ∷ [])
    (BehindWord (codes "extern") (SpellsExtern (erase_extern (extern_extractor term func unknown infallible))))
    rest
    (record {
      all = word.all;
      tokens = regrouped (name_shape term ∷ []) (name_shape func ∷ []) (word.tokens then kind.tokens then flag.tokens) pair.tokens;
      spells = (
        unplaced kind.all,
        word.spells,
        (
          is.2,
          item-ahead kind.tokens,
          (unplaced flag.all, kind.spells, (unplaced pair.all, flag.spells, pair.spells)),
        ),
      );
    })
spell-extern (extern_constructor term func _) is rest =
    let pair = spell-pair term func is.0 is.1 (rparen ∷ rest) in
    let kind = spell-word (codes "constructor") word-constructor pair.all in
    let word = spell-word (codes "extern") word-extern kind.all in
    spell-list
    (atom (codes "extern") ∷ [] ++ atom (codes "constructor") ∷ [] ++ name_shape term ∷ [] ++ name_shape func ∷ [])
    (BehindWord (codes "extern") (SpellsExtern (erase_extern (extern_constructor term func unknown))))
    rest
    (record {
      all = word.all;
      tokens = regrouped (name_shape term ∷ []) (name_shape func ∷ []) (word.tokens then kind.tokens) pair.tokens;
      spells = (unplaced kind.all, word.spells, (item-ahead kind.tokens, (unplaced pair.all, kind.spells, pair.spells)));
    })
spell-extern (extern_const name ty _) is rest =
    let second = spell-name ty is.1 (rparen ∷ rest) in
    let first = spell-constant name is.0 second.all in
    let kind = spell-word (codes "const") word-const first.all in
    let word = spell-word (codes "extern") word-extern kind.all in
    spell-list
    (atom (codes "extern") ∷ [] ++ atom (codes "const") ∷ [] ++ constant_shape name ∷ [] ++ name_shape ty ∷ [])
    (BehindWord (codes "extern") (SpellsExtern (erase_extern (extern_const name ty unknown))))
    rest
    (record {
      all = word.all;
      tokens = word.tokens then kind.tokens then first.tokens then second.tokens;
      spells = (
        unplaced kind.all,
        word.spells,
        (refl, (unplaced first.all, kind.spells, (unplaced second.all, first.spells, second.spells))),
      );
    })

spell-declaration : (d : Declaration) → IsWritableDeclaration d → (rest : List Tok) → Spelling (definition_shape (decl d) ∷ []) (SpellsDefinition (erase_definition (decl d))) rest
spell-declaration d is rest =
    let ret = spell-name d.ret_ty is.ret_ty (rparen ∷ rest) in
    let args = spell-list (name_shapes d.arg_tys) (SpellsAll SpellsName (erase_names d.arg_tys)) ret.all (spell-names d.arg_tys is.arg_tys (rparen ∷ ret.all)) in
    let term = spell-name d.term is.term args.all in
    let rec = spell-flag (codes "rec") word-rec d.rec term.all in
    let partial = spell-flag (codes "partial") word-partial d.partial rec.all in
    let multi = spell-flag (codes "multi") word-multi d.multi partial.all in
    let pure = spell-flag (codes "pure") word-pure d.pure multi.all in
    let word = spell-word (codes "decl") word-decl pure.all in
    spell-list _
    (BehindWord (codes "decl") (SpellsDeclaration (erase_declaration d)))
    rest
    (record {
      all = word.all;
      tokens = word.tokens then pure.tokens then multi.tokens then partial.tokens then rec.tokens
          then term.tokens then args.tokens then ret.tokens;
      spells = (
        unplaced pure.all,
        word.spells,
        record {
          term_is_no_flag = is.term_is_no_flag;
          position = items-ahead pure.tokens (items-ahead multi.tokens (items-ahead partial.tokens (items-ahead rec.tokens (item-ahead term.tokens))));
          behind_pure = unplaced multi.all;
          pure = pure.spells;
          behind_multi = unplaced partial.all;
          multi = multi.spells;
          behind_partial = unplaced rec.all;
          partial = partial.spells;
          behind_rec = unplaced term.all;
          rec = rec.spells;
          behind_term = unplaced args.all;
          term = term.spells;
          behind_arg_tys = unplaced ret.all;
          arg_tys = args.spells;
          ret_ty = ret.spells;
        },
      );
    })

spell-conversion : (c : Conversion) → IsWritableConversion c → (rest : List Tok) → Spelling (definition_shape (converter c) ∷ []) (SpellsDefinition (erase_definition (converter c))) rest
spell-conversion c is rest =
    let term = spell-name c.term is.0 (rparen ∷ rest) in
    let outer = spell-name c.outer_ty is.2 term.all in
    let inner = spell-name c.inner_ty is.1 outer.all in
    let word = spell-word (codes "convert") word-convert inner.all in
    spell-list _
    (BehindWord (codes "convert") (SpellsConversion (erase_conversion c)))
    rest
    (record {
      all = word.all;
      tokens = word.tokens then inner.tokens then outer.tokens then term.tokens;
      spells = (
        unplaced inner.all,
        word.spells,
        record {
          position = item-ahead inner.tokens;
          behind_inner = unplaced outer.all;
          inner_ty = inner.spells;
          behind_outer = unplaced term.all;
          outer_ty = outer.spells;
          term = term.spells;
        },
      );
    })

-- The tokens of the shape of a writable definition spell it, erased.
pub spell-definition : (d : Definition) → IsWritable d → (rest : List Tok) → Spelling (definition_shape d ∷ []) (SpellsDefinition (erase_definition d)) rest
spell-definition (type_def t) is rest =
    let content = spell-type_content t.ty is.1 (rparen ∷ rest) in
    let modifiers = spell-modifiers t.is_extern t.is_nodebug content.all in
    let name = spell-name t.name is.0 modifiers.all in
    let word = spell-word (codes "type") word-type name.all in
    spell-list
    (atom (codes "type") ∷ [] ++ name_shape t.name ∷ [] ++ flag_shape (codes "extern") t.is_extern ++ flag_shape (codes "nodebug") t.is_nodebug ++ type_content_shape t.ty ∷ [])
    (BehindWord (codes "type") (SpellsTypeDefinition (erase_type t)))
    rest
    (record {
      all = word.all;
      tokens = regrouped (flag_shape (codes "extern") t.is_extern) (flag_shape (codes "nodebug") t.is_nodebug) (word.tokens then name.tokens) modifiers.tokens then content.tokens;
      spells = (
        unplaced name.all,
        word.spells,
        record {
          position = item-ahead name.tokens;
          behind_name = unplaced modifiers.all;
          name = name.spells;
          behind_modifiers = unplaced content.all;
          modifiers = modifiers.spells;
          ty = content.spells;
        },
      );
    })
spell-definition (rule r) is rest = spell-rule r is rest
spell-definition (extractor e) is rest = spell-extractor_definition e is rest
spell-definition (decl d) is rest = spell-declaration d is rest
spell-definition (attr a) is rest =
    let kinds = spell-all kind_shape erase_kind SpellsAttributeKind IsWritableKind spell-kind a.kinds is.1 (rparen ∷ rest) in
    let target = spell-target a.target is.0 kinds.all in
    let word = spell-word (codes "attr") word-attr target.all in
    spell-list
    (atom (codes "attr") ∷ [] ++ target_shape a.target ++ map kind_shape a.kinds)
    (BehindWord (codes "attr") (SpellsAttribute (erase_attribute a)))
    rest
    (record {
      all = word.all;
      tokens = word.tokens then target.tokens then kinds.tokens;
      spells = (
        unplaced target.all,
        word.spells,
        record {
          position = target-ahead a.target target.tokens;
          behind_target = unplaced kinds.all;
          target = target.spells;
          kinds = kinds.spells;
        },
      );
    })
spell-definition (spec s) is rest = spell-spec_definition s is rest
spell-definition (spec_macro m) is rest = spell-spec_macro m is rest
spell-definition (state s) is rest = spell-state s is rest
spell-definition (model m) is rest =
    let val = spell-model_content m.val is.1 (rparen ∷ rest) in
    let name = spell-name m.name is.0 val.all in
    let word = spell-word (codes "model") word-model name.all in
    spell-list
    (atom (codes "model") ∷ [] ++ name_shape m.name ∷ [] ++ model_content_shape m.val ∷ [])
    (BehindWord (codes "model") (SpellsModel (erase_model_definition m)))
    rest
    (record {
      all = word.all;
      tokens = word.tokens then name.tokens then val.tokens;
      spells = (unplaced name.all, word.spells, record { behind_name = unplaced val.all; name = name.spells; val = val.spells });
    })
spell-definition (form f) is rest =
    let signatures = spell-signatures f.signatures is.1 (rparen ∷ rest) in
    let name = spell-name f.name is.0 signatures.all in
    let word = spell-word (codes "form") word-form name.all in
    spell-list
    (atom (codes "form") ∷ [] ++ name_shape f.name ∷ [] ++ map signature_shape f.signatures)
    (BehindWord (codes "form") (SpellsForm (erase_form f)))
    rest
    (record {
      all = word.all;
      tokens = word.tokens then name.tokens then signatures.tokens;
      spells = (
        unplaced name.all,
        word.spells,
        record {
          position = item-ahead name.tokens;
          behind_name = unplaced signatures.all;
          name = name.spells;
          signatures = signatures.spells;
        },
      );
    })
spell-definition (instantiation i) is rest =
    let instances = spell-instances i.form i.signatures i.tags is.1 (rparen ∷ rest) in
    let term = spell-name i.term is.0 instances.all in
    let word = spell-word (codes "instantiate") word-instantiate term.all in
    spell-list
    (atom (codes "instantiate") ∷ [] ++ name_shape i.term ∷ [] ++ instance_shapes i.form i.signatures ++ map tag_shape i.tags)
    (BehindWord (codes "instantiate") (SpellsInstantiation (erase_instantiation i)))
    rest
    (record {
      all = word.all;
      tokens = regrouped (instance_shapes i.form i.signatures) (map tag_shape i.tags) (word.tokens then term.tokens) instances.tokens;
      spells = (
        unplaced term.all,
        word.spells,
        record {
          position = item-ahead term.tokens;
          behind_term = unplaced instances.all;
          term = term.spells;
          instances = instances.spells;
        },
      );
    })
spell-definition (external e) is rest = spell-extern e is rest
spell-definition (converter c) is rest = spell-conversion c is rest
