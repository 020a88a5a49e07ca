-- Definitions are read as the grammar spells them, and one list of tokens spells one list of them.
use Rattle.std.proofs.Common.{◌≡◌, ℕ, ◌≤◌, ◌<◌, Bool, true, cond, List, [], ◌∷◌, length, suc, Option, Some, None, refl, sym, subst, ◌∙◌, arith, inl, inr}
use Rattle.std.specs.Prelude.{codes}
use Rattle.std.specs.Str.{bytes_eq}
use Rattle.isle_base.specs.Place.{Placed}
use Rattle.isle_base.specs.Token.{symbol}
use Rattle.isle_ast_names.specs.Words.{BeginsAt, SpellsName, SpellsAll, InParentheses, BehindWord}
use Rattle.isle_ast_names.specs.Tree.{Name}
use Rattle.isle_ast.specs.Tree.{Declaration, Conversion, Definition, type_def, rule, extractor, decl, attr, spec, spec_macro, model, state, form, instantiation, external, converter}
use Rattle.isle_ast.specs.Grammar.{SpellsDefinition, SpellsDefinitions}
use Rattle.isle_ast.specs.ModelGrammar.{SpellsForm, SpellsInstantiation, SpellsModel}
use Rattle.isle_ast_rules.specs.RuleGrammar.{SpellsRule, SpellsExtractor}
use Rattle.isle_ast_verification.specs.SpecDefinitionGrammar.{SpellsSpecDefinition, SpellsSpecMacro, SpellsState}
use Rattle.isle_ast.specs.TermGrammar.{SpellsDeclaration, SpellsAttribute, SpellsExtern, SpellsConversion}
use Rattle.isle_ast.specs.TypeGrammar.{SpellsTypeDefinition}
use Rattle.isle_parser_cursor.specs.Reading.{Reader, ◌>>=◌, is_ahead, ends, pos_ahead, text, flag}
use Rattle.isle_parser_cursor.specs.NameReaders.{name, names}
use Rattle.isle_parser.specs.DefinitionReaders.{declaration, conversion, as_definition, behind_keyword, keyword_form, definition, definitions}
use Rattle.isle_parser.specs.FormReaders.{form_definition, instantiation_of_term}
use Rattle.isle_parser.specs.ModelReaders.{model_definition}
use Rattle.isle_parser_rules.specs.RuleReaders.{rule_definition, extractor_definition}
use Rattle.isle_parser_verification.specs.SpecDefinitionReaders.{spec_definition, spec_macro_definition, state_definition}
use Rattle.isle_parser.specs.TermReaders.{attribute, extern_definition}
use Rattle.isle_parser.specs.TypeReaders.{type_definition}
use Rattle.isle_parser_cursor.proofs.ReaderSteps.{nothing, made_of, word_is, word_read, word_shorter, CompleteClosed, enclosed_complete}
use Rattle.isle_parser.proofs.Flags.{Front, flag_shorter, front_sound, front_unset}
use Rattle.isle_parser_cursor.proofs.Flags.{flag_sound, flag_complete}
use Rattle.isle_parser_cursor.proofs.Names.{SpellsNames, name_sound, name_complete, name_begins, names_sound, names_complete}
use Rattle.isle_parser.proofs.Reading.Forms.{form_definition_sound, form_definition_complete, form_definition_shorter, instantiation_sound, instantiation_complete, instantiation_shorter}
use Rattle.isle_parser.proofs.Reading.Models.{model_definition_sound, model_definition_complete, model_definition_shorter}
use Rattle.isle_parser_rules.proofs.Reading.Rules.{rule_sound, rule_complete, rule_shorter, extractor_sound, extractor_complete, extractor_shorter}
use Rattle.isle_parser_verification.proofs.Reading.SpecDefinitions.{spec_definition_sound, spec_definition_complete, spec_definition_shorter, spec_macro_sound, spec_macro_complete, spec_macro_shorter}
use Rattle.isle_parser_verification.proofs.Reading.SpecDefinitions.{state_sound, state_complete, state_shorter}
use Rattle.isle_parser.proofs.Reading.Terms.{attribute_sound, attribute_complete, attribute_shorter, extern_sound, extern_complete, extern_shorter}
use Rattle.isle_parser.proofs.Reading.Types.{type_definition_sound, type_definition_complete, type_definition_shorter}
use Rattle.isle_parser_cursor.proofs.Readers.{Spelling, Sound, Complete, Begins, Shrinks, Goes, begins_node, bind_some, chosen, done, done_is, shrinks, many_sound, many_complete, stopping_closes}
use Rattle.isle_parser_cursor.proofs.Readers.{stopping_ends, list_shorter, moved, parentheses_sound, parentheses_begin}

-- ---- what does not go on

-- After a name of a form stands another token of it, and no pattern.
name_goes : (n : Name) (all rest : List Placed) → SpellsName n all rest → Goes all
name_goes n all rest h = rw h.1 refl

names_go : (ns : List Name) (all rest : List Placed) → SpellsNames ns all rest → Goes all
names_go ns all rest h = rw h.2.1 refl

-- a position ahead of a name
begins_at : (n : Name) (all rest : List Placed) → SpellsName n all rest → BeginsAt (pos_ahead all) all
begins_at n all rest h = (symbol n.text, rest, rw h.1 refl)

names_begin : (ns : List Name) (all rest : List Placed) → SpellsNames ns all rest → (is_ahead begins_node all ≡ true) × (length rest < length all)
names_begin ns = parentheses_begin (SpellsAll SpellsName ns) (list_shorter SpellsName name_begins ns)

-- ---- convert

conversion_sound : Sound SpellsConversion conversion
unfolding conversion
conversion_sound all rest c e =
    let a = bind_some (name all) (λ inner_ty. name inner_ty.1 >>= λ outer_ty. name outer_ty.1 >>= λ term. Some (record { term = term.0; inner_ty = inner_ty.0; outer_ty = outer_ty.0; pos = pos_ahead all }, term.1)) (c, rest) e in
    let b = bind_some (name a.0.1) (λ outer_ty. name outer_ty.1 >>= λ term. Some (record { term = term.0; inner_ty = a.0.0; outer_ty = outer_ty.0; pos = pos_ahead all }, term.1)) (c, rest) a.2 in
    let t = bind_some (name b.0.1) (λ term. Some (record { term = term.0; inner_ty = a.0.0; outer_ty = b.0.0; pos = pos_ahead all }, term.1)) (c, rest) b.2 in
    let made : Conversion = record { term = t.0.0; inner_ty = a.0.0; outer_ty = b.0.0; pos = pos_ahead all } in
    let is = done_is made c t.0.1 rest t.2 in
    let inner = name_sound all a.0.1 a.0.0 a.1 in
    let spelt : SpellsConversion made all t.0.1 =
    record {
      position = begins_at a.0.0 all a.0.1 inner;
      behind_inner = a.0.1;
      inner_ty = inner;
      behind_outer = b.0.1;
      outer_ty = name_sound a.0.1 b.0.1 b.0.0 b.1;
      term = name_sound b.0.1 t.0.1 t.0.0 t.1;
    } in
    moved SpellsConversion made c all t.0.1 rest is spelt

conversion_complete : Complete SpellsConversion conversion
unfolding conversion
conversion_complete c all rest goes h =
    let position : pos_ahead all ≡ c.pos = rw h.position.2 refl in
    let inner = name_complete c.inner_ty all h.behind_inner (name_goes c.outer_ty h.behind_inner h.behind_outer h.outer_ty) h.inner_ty in
    let outer = name_complete c.outer_ty h.behind_inner h.behind_outer (name_goes c.term h.behind_outer rest h.term) h.outer_ty in
    let term = name_complete c.term h.behind_outer rest goes h.term in
    rw (inner, outer, term, position) refl

conversion_shorter : (c : Conversion) (all rest : List Placed) → SpellsConversion c all rest → length rest ≤ length all
conversion_shorter c all rest h =
    let a : length h.behind_inner < length all = (name_begins c.inner_ty all h.behind_inner h.inner_ty).1 in
    let b : length h.behind_outer < length h.behind_inner = (name_begins c.outer_ty h.behind_inner h.behind_outer h.outer_ty).1 in
    let t : length rest < length h.behind_outer = (name_begins c.term h.behind_outer rest h.term).1 in
    omega arith

-- ---- decl

-- the node that is read, from its parts
abbrev made : Bool → Bool → Bool → Bool → Name → List Name → Name → List Placed → Declaration
made u m p r term arg_tys ret_ty all = record { term = term; arg_tys = arg_tys; ret_ty = ret_ty; pure = u; multi = m; partial = p; rec = r; pos = pos_ahead all }

declaration_begins : (all rest : List Placed) (d : Declaration) → declaration all ≡ Some (d, rest) → BeginsAt (pos_ahead all) all
unfolding declaration flag name text
declaration_begins [] rest d e = absurd cc
declaration_begins (x ∷ xs) rest d e = (x.token, xs, refl)

-- what is read of each part, put together
declared : (all rest : List Placed) (d : Declaration) (u m p r : Bool) (t : Name) (a : List Name) (v : Name) (i1 i2 i3 i4 i5 i6 i7 : List Placed)
    → BeginsAt (pos_ahead all) all
    → flag (codes "pure") all ≡ Some (u, i1)
    → flag (codes "multi") i1 ≡ Some (m, i2)
    → flag (codes "partial") i2 ≡ Some (p, i3)
    → flag (codes "rec") i3 ≡ Some (r, i4)
    → name i4 ≡ Some (t, i5)
    → names i5 ≡ Some (a, i6)
    → name i6 ≡ Some (v, i7)
    → done {A = Declaration × List Placed} (made u m p r t a v all, i7) ≡ done {A = Declaration × List Placed} (d, rest)
    → SpellsDeclaration d all rest
declared all rest d u m p r t a v i1 i2 i3 i4 i5 i6 i7 begins eu em ep er et ea ev last =
    let node : Declaration = made u m p r t a v all in
    let is = done_is node d i7 rest last in
    let front = front_sound node all i1 i2 i3 i4 i5 (record {
      pure = flag_sound (codes "pure") all i1 u eu;
      multi = flag_sound (codes "multi") i1 i2 m em;
      partial = flag_sound (codes "partial") i2 i3 p ep;
      rec = flag_sound (codes "rec") i3 i4 r er;
      term = name_sound i4 i5 t et;
    }) in
    let spelt : SpellsDeclaration node all i7 =
    record {
      term_is_no_flag = front.demands;
      position = begins;
      behind_pure = i1;
      pure = front.pure;
      behind_multi = i2;
      multi = front.multi;
      behind_partial = i3;
      partial = front.partial;
      behind_rec = i4;
      rec = front.rec;
      behind_term = i5;
      term = front.term;
      behind_arg_tys = i6;
      arg_tys = names_sound i5 i6 a ea;
      ret_ty = name_sound i6 i7 v ev;
    } in
    moved SpellsDeclaration node d all i7 rest is spelt

declaration_sound : Sound SpellsDeclaration declaration
unfolding declaration
declaration_sound all rest d e =
    let u = bind_some (flag (codes "pure") all) (λ u. flag (codes "multi") u.1 >>= λ m. flag (codes "partial") m.1 >>= λ p. flag (codes "rec") p.1 >>= λ r. name r.1 >>= λ t. names t.1 >>= λ a. name
    a.1 >>= λ v. Some (made u.0 m.0 p.0 r.0 t.0 a.0 v.0 all, v.1)) (d, rest) e in
    let m = bind_some (flag (codes "multi") u.0.1) (λ m. flag (codes "partial") m.1 >>= λ p. flag (codes "rec") p.1 >>= λ r. name r.1 >>= λ t. names t.1 >>= λ a. name a.1 >>= λ v. Some
    (made u.0.0 m.0 p.0 r.0 t.0 a.0 v.0 all, v.1)) (d, rest) u.2 in
    let p = bind_some (flag (codes "partial") m.0.1) (λ p. flag (codes "rec") p.1 >>= λ r. name r.1 >>= λ t. names t.1 >>= λ a. name a.1 >>= λ v. Some (made u.0.0 m.0.0 p.0 r.0 t.0 a.0 v.0 all, v.1)) (d, rest) m.2 in
    let r = bind_some (flag (codes "rec") p.0.1) (λ r. name r.1 >>= λ t. names t.1 >>= λ a. name a.1 >>= λ v. Some (made u.0.0 m.0.0 p.0.0 r.0 t.0 a.0 v.0 all, v.1)) (d, rest) p.2 in
    let t = bind_some (name r.0.1) (λ t. names t.1 >>= λ a. name a.1 >>= λ v. Some (made u.0.0 m.0.0 p.0.0 r.0.0 t.0 a.0 v.0 all, v.1)) (d, rest) r.2 in
    let a = bind_some (names t.0.1) (λ a. name a.1 >>= λ v. Some (made u.0.0 m.0.0 p.0.0 r.0.0 t.0.0 a.0 v.0 all, v.1)) (d, rest) t.2 in
    let v = bind_some (name a.0.1) (λ v. Some (made u.0.0 m.0.0 p.0.0 r.0.0 t.0.0 a.0.0 v.0 all, v.1)) (d, rest) a.2 in
    declared all rest d u.0.0 m.0.0 p.0.0 r.0.0 t.0.0 a.0.0 v.0.0 u.0.1 m.0.1 p.0.1 r.0.1 t.0.1 a.0.1 v.0.1 (declaration_begins all rest d e) u.1 m.1 p.1 r.1 t.1 a.1 v.1 v.2

front_of : (d : Declaration) (all rest : List Placed) (h : SpellsDeclaration d all rest) → Front d all h.behind_pure h.behind_multi h.behind_partial h.behind_rec h.behind_term
front_of d all rest h =
    record {
      demands = h.term_is_no_flag;
      pure = h.pure;
      multi = h.multi;
      partial = h.partial;
      rec = h.rec;
      term = h.term;
    }

declaration_complete : Complete SpellsDeclaration declaration
unfolding declaration
declaration_complete d all rest goes h =
    let unset = front_unset d all h.behind_pure h.behind_multi h.behind_partial h.behind_rec h.behind_term (front_of d all rest h) in
    let position : pos_ahead all ≡ d.pos = rw h.position.2 refl in
    let u = flag_complete (codes "pure") d.pure all h.behind_pure unset.pure h.pure in
    let m = flag_complete (codes "multi") d.multi h.behind_pure h.behind_multi unset.multi h.multi in
    let p = flag_complete (codes "partial") d.partial h.behind_multi h.behind_partial unset.partial h.partial in
    let r = flag_complete (codes "rec") d.rec h.behind_partial h.behind_rec unset.rec h.rec in
    let t = name_complete d.term h.behind_rec h.behind_term (names_go d.arg_tys h.behind_term h.behind_arg_tys h.arg_tys) h.term in
    let a = names_complete d.arg_tys h.behind_term h.behind_arg_tys (name_goes d.ret_ty h.behind_arg_tys rest h.ret_ty) h.arg_tys in
    let v = name_complete d.ret_ty h.behind_arg_tys rest goes h.ret_ty in
    rw (u, m, p, r, t, a, v, position) refl

names_shorter : (ns : List Name) (all rest : List Placed) → SpellsNames ns all rest → length rest ≤ length all
names_shorter ns all rest h = omega (arith, (names_begin ns all rest h).1)

declaration_shorter : (d : Declaration) (all rest : List Placed) → SpellsDeclaration d all rest → length rest ≤ length all
declaration_shorter d all rest h =
    let u : length h.behind_pure ≤ length all = flag_shorter (codes "pure") d.pure all h.behind_pure h.pure in
    let m : length h.behind_multi ≤ length h.behind_pure = flag_shorter (codes "multi") d.multi h.behind_pure h.behind_multi h.multi in
    let p : length h.behind_partial ≤ length h.behind_multi = flag_shorter (codes "partial") d.partial h.behind_multi h.behind_partial h.partial in
    let r : length h.behind_rec ≤ length h.behind_partial = flag_shorter (codes "rec") d.rec h.behind_partial h.behind_rec h.rec in
    let t : length h.behind_term < length h.behind_rec = (name_begins d.term h.behind_rec h.behind_term h.term).1 in
    let a : length h.behind_arg_tys ≤ length h.behind_term = names_shorter d.arg_tys h.behind_term h.behind_arg_tys h.arg_tys in
    let v : length rest < length h.behind_arg_tys = (name_begins d.ret_ty h.behind_arg_tys rest h.ret_ty).1 in
    omega arith

-- ---- a definition

-- a keyword and what follows it, as a definition spells them
abbrev pub SpellsKeyword : Definition → List Placed → List Placed → Type 0
SpellsKeyword (type_def x) = BehindWord (codes "type") (SpellsTypeDefinition x)
SpellsKeyword (rule x) = BehindWord (codes "rule") (SpellsRule x)
SpellsKeyword (extractor x) = BehindWord (codes "extractor") (SpellsExtractor x)
SpellsKeyword (decl x) = BehindWord (codes "decl") (SpellsDeclaration x)
SpellsKeyword (attr x) = BehindWord (codes "attr") (SpellsAttribute x)
SpellsKeyword (spec x) = BehindWord (codes "spec") (SpellsSpecDefinition x)
SpellsKeyword (spec_macro x) = BehindWord (codes "macro") (SpellsSpecMacro x)
SpellsKeyword (model x) = BehindWord (codes "model") (SpellsModel x)
SpellsKeyword (state x) = BehindWord (codes "state") (SpellsState x)
SpellsKeyword (form x) = BehindWord (codes "form") (SpellsForm x)
SpellsKeyword (instantiation x) = BehindWord (codes "instantiate") (SpellsInstantiation x)
SpellsKeyword (external x) = BehindWord (codes "extern") (SpellsExtern x)
SpellsKeyword (converter x) = BehindWord (codes "convert") (SpellsConversion x)

-- one of the keywords
keyword_chosen : {A : Type 0} {all inner rest : List Placed} {w : List ℕ} {x : Definition} (word : List ℕ) (R : Spelling A) (read : Reader A) (make : A → Definition)
    (other : Option (Definition × List Placed)) → Sound R read → text all ≡ Some (w, inner) → ((y : A) → BehindWord word (R y) all rest → SpellsKeyword (make y) all rest)
    → (other ≡ Some (x, rest) → SpellsKeyword x all rest) → cond (bytes_eq w word) (◌>>=◌ {B = Definition × List Placed} (read inner) (λ y. Some (make y.0, y.1))) other ≡ Some (x, rest)
    → SpellsKeyword x all rest
keyword_chosen {A = A} {all = all} {inner = inner} {rest = rest} {w = w} {x = x} word R read make other sound e spelt otherwise is =
    elim (chosen (bytes_eq w word) (◌>>=◌ {B = Definition × List Placed} (read inner) (λ y. Some (make y.0, y.1))) other (Some (x, rest)) is) [
      | inl h ↦
          let y = made_of make h.1 in
          subst (λ (x : Definition). SpellsKeyword x all rest) y.2 (spelt y.0 (inner, word_is e h.0, sound inner rest y.0 y.1))
      | inr h ↦ otherwise h.1
    ]

keyword_form_sound : Sound SpellsKeyword keyword_form
unfolding keyword_form behind_keyword as_definition
keyword_form_sound all rest x e =
    let w = bind_some (text all) (λ word. behind_keyword word.0 word.1) (x, rest) e in
    keyword_chosen (codes "type") SpellsTypeDefinition type_definition type_def _ type_definition_sound w.1 (λ y h. h)
    (keyword_chosen (codes "decl") SpellsDeclaration declaration decl _ declaration_sound w.1 (λ y h. h)
    (keyword_chosen (codes "attr") SpellsAttribute attribute attr _ attribute_sound w.1 (λ y h. h)
    (keyword_chosen (codes "spec") SpellsSpecDefinition spec_definition spec _ spec_definition_sound w.1 (λ y h. h)
    (keyword_chosen (codes "macro") SpellsSpecMacro spec_macro_definition spec_macro _ spec_macro_sound w.1 (λ y h. h)
    (keyword_chosen (codes "model") SpellsModel model_definition model _ model_definition_sound w.1 (λ y h. h)
    (keyword_chosen (codes "state") SpellsState state_definition state _ state_sound w.1 (λ y h. h)
    (keyword_chosen (codes "form") SpellsForm form_definition form _ form_definition_sound w.1 (λ y h. h)
    (keyword_chosen (codes "instantiate") SpellsInstantiation instantiation_of_term instantiation _ instantiation_sound w.1 (λ y h. h)
    (keyword_chosen (codes "rule") SpellsRule rule_definition rule _ rule_sound w.1 (λ y h. h)
    (keyword_chosen (codes "extractor") SpellsExtractor extractor_definition extractor _ extractor_sound w.1 (λ y h. h)
    (keyword_chosen (codes "extern") SpellsExtern extern_definition external _ extern_sound w.1 (λ y h. h)
    (keyword_chosen (codes "convert") SpellsConversion conversion converter _ conversion_sound w.1 (λ y h. h)
    (λ h. absurd (nothing h)))))))))))))) w.2

keyword_form_complete : CompleteClosed SpellsKeyword keyword_form
unfolding keyword_form behind_keyword as_definition
keyword_form_complete (type_def x) all rest closed h = rw (word_read h.1, type_definition_complete x h.0 rest h.2) refl
keyword_form_complete (rule x) all rest closed h = rw (word_read h.1, rule_complete x h.0 rest h.2) refl
keyword_form_complete (extractor x) all rest closed h = rw (word_read h.1, extractor_complete x h.0 rest closed h.2) refl
keyword_form_complete (decl x) all rest closed h = rw (word_read h.1, declaration_complete x h.0 rest (stopping_closes.goes rest closed) h.2) refl
keyword_form_complete (attr x) all rest closed h = rw (word_read h.1, attribute_complete x h.0 rest closed h.2) refl
keyword_form_complete (spec x) all rest closed h = rw (word_read h.1, spec_definition_complete x h.0 rest closed h.2) refl
keyword_form_complete (spec_macro x) all rest closed h = rw (word_read h.1, spec_macro_complete x h.0 rest h.2) refl
keyword_form_complete (model x) all rest closed h = rw (word_read h.1, model_definition_complete x h.0 rest closed h.2) refl
keyword_form_complete (state x) all rest closed h = rw (word_read h.1, state_complete x h.0 rest h.2) refl
keyword_form_complete (form x) all rest closed h = rw (word_read h.1, form_definition_complete x h.0 rest closed h.2) refl
keyword_form_complete (instantiation x) all rest closed h = rw (word_read h.1, instantiation_complete x h.0 rest closed h.2) refl
keyword_form_complete (external x) all rest closed h = rw (word_read h.1, extern_complete x h.0 rest h.2) refl
keyword_form_complete (converter x) all rest closed h = rw (word_read h.1, conversion_complete x h.0 rest (stopping_closes.goes rest closed) h.2) refl

keyword_form_shorter : (x : Definition) (all rest : List Placed) → SpellsKeyword x all rest → length rest ≤ length all
keyword_form_shorter (type_def x) all rest h = omega (arith, word_shorter (codes "type") all h.0 h.1, type_definition_shorter x h.0 rest h.2)
keyword_form_shorter (rule x) all rest h = omega (arith, word_shorter (codes "rule") all h.0 h.1, rule_shorter x h.0 rest h.2)
keyword_form_shorter (extractor x) all rest h = omega (arith, word_shorter (codes "extractor") all h.0 h.1, extractor_shorter x h.0 rest h.2)
keyword_form_shorter (decl x) all rest h = omega (arith, word_shorter (codes "decl") all h.0 h.1, declaration_shorter x h.0 rest h.2)
keyword_form_shorter (attr x) all rest h = omega (arith, word_shorter (codes "attr") all h.0 h.1, attribute_shorter x h.0 rest h.2)
keyword_form_shorter (spec x) all rest h = omega (arith, word_shorter (codes "spec") all h.0 h.1, spec_definition_shorter x h.0 rest h.2)
keyword_form_shorter (spec_macro x) all rest h = omega (arith, word_shorter (codes "macro") all h.0 h.1, spec_macro_shorter x h.0 rest h.2)
keyword_form_shorter (model x) all rest h = omega (arith, word_shorter (codes "model") all h.0 h.1, model_definition_shorter x h.0 rest h.2)
keyword_form_shorter (state x) all rest h = omega (arith, word_shorter (codes "state") all h.0 h.1, state_shorter x h.0 rest h.2)
keyword_form_shorter (form x) all rest h = omega (arith, word_shorter (codes "form") all h.0 h.1, form_definition_shorter x h.0 rest h.2)
keyword_form_shorter (instantiation x) all rest h = omega (arith, word_shorter (codes "instantiate") all h.0 h.1, instantiation_shorter x h.0 rest h.2)
keyword_form_shorter (external x) all rest h = omega (arith, word_shorter (codes "extern") all h.0 h.1, extern_shorter x h.0 rest h.2)
keyword_form_shorter (converter x) all rest h = omega (arith, word_shorter (codes "convert") all h.0 h.1, conversion_shorter x h.0 rest h.2)

pub to_keyword : (x : Definition) (all rest : List Placed) → SpellsDefinition x all rest → InParentheses (SpellsKeyword x) all rest
to_keyword (type_def x) all rest h = h
to_keyword (rule x) all rest h = h
to_keyword (extractor x) all rest h = h
to_keyword (decl x) all rest h = h
to_keyword (attr x) all rest h = h
to_keyword (spec x) all rest h = h
to_keyword (spec_macro x) all rest h = h
to_keyword (model x) all rest h = h
to_keyword (state x) all rest h = h
to_keyword (form x) all rest h = h
to_keyword (instantiation x) all rest h = h
to_keyword (external x) all rest h = h
to_keyword (converter x) all rest h = h

from_keyword : (x : Definition) (all rest : List Placed) → InParentheses (SpellsKeyword x) all rest → SpellsDefinition x all rest
from_keyword (type_def x) all rest h = h
from_keyword (rule x) all rest h = h
from_keyword (extractor x) all rest h = h
from_keyword (decl x) all rest h = h
from_keyword (attr x) all rest h = h
from_keyword (spec x) all rest h = h
from_keyword (spec_macro x) all rest h = h
from_keyword (model x) all rest h = h
from_keyword (state x) all rest h = h
from_keyword (form x) all rest h = h
from_keyword (instantiation x) all rest h = h
from_keyword (external x) all rest h = h
from_keyword (converter x) all rest h = h

pub definition_sound : Sound SpellsDefinition definition
unfolding definition
definition_sound all rest x e = from_keyword x all rest (parentheses_sound SpellsKeyword keyword_form keyword_form_sound all rest x e)

-- a definition that is spelt is read, whatever stands after it
pub definition_read : (d : Definition) (all rest : List Placed) → SpellsDefinition d all rest → definition all ≡ Some (d, rest)
unfolding definition
definition_read d all rest h = enclosed_complete SpellsKeyword keyword_form keyword_form_complete d all rest (to_keyword d all rest h)

-- two definitions at the front of one list of tokens are one, and so is what follows them
pub one_definition : (d e : Definition) (all i j : List Placed) → SpellsDefinition d all i → SpellsDefinition e all j → (d ≡ e) × (i ≡ j)
one_definition d e all i j p q = done_is d e i j (sym (definition_read d all i p) ∙ definition_read e all j q)

read_nothing : (read : Option (Definition × List Placed)) → ((d : Definition) (rest : List Placed) → read ≡ Some (d, rest) → ⊥) → read ≡ None
read_nothing None h = refl
read_nothing (Some x) h = absurd (h x.0 x.1 refl)

-- where no definition is spelt, none is read
pub definition_not_read : (all : List Placed) → ((d : Definition) (rest : List Placed) → SpellsDefinition d all rest → ⊥) → definition all ≡ None
definition_not_read all h = read_nothing (definition all) (λ d rest e. h d rest (definition_sound all rest d e))

pub definition_begins : Begins SpellsDefinition
definition_begins x all rest h = parentheses_begin (SpellsKeyword x) (keyword_form_shorter x) all rest (to_keyword x all rest h)

pub definition_shrinks : Shrinks definition
definition_shrinks = shrinks SpellsDefinition definition definition_sound definition_begins

-- ---- definitions

ends_nothing : (all : List Placed) → ends all ≡ true → all ≡ []
ends_nothing [] e = refl
ends_nothing (x ∷ xs) e = absurd cc

pub definitions_sound : (all rest : List Placed) (ds : List Definition) → definitions all ≡ Some (ds, rest) → SpellsDefinitions ds all
unfolding definitions
definitions_sound all rest ds e =
    let s = many_sound SpellsDefinition definition ends definition_sound all rest ds e in
    subst (λ (r : List Placed). SpellsAll SpellsDefinition ds all r) (ends_nothing rest s.1) s.0

pub definitions_complete : (ds : List Definition) (all : List Placed) → SpellsDefinitions ds all → definitions all ≡ Some (ds, [])
unfolding definitions
definitions_complete ds all h = many_complete SpellsDefinition definition ends (suc (length all)) (λ x i j below goes. definition_read x i j) definition_begins stopping_ends ds all [] (omega arith) h refl

-- one list of tokens spells one list of definitions
pub one_list : (all : List Placed) (ds es : List Definition) → SpellsDefinitions ds all → SpellsDefinitions es all → ds ≡ es
one_list all ds es p q = (done_is ds es [] [] (sym (definitions_complete ds all p) ∙ definitions_complete es all q)).0
