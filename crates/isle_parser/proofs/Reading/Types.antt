-- Definitions of types are read as the grammar spells them.
use Rattle.std.proofs.Common.{◌≡◌, inl, inr, ℕ, zero, suc, ◌+◌, ◌≤◌, ◌<◌, Bool, true, false, cond, List, [], ◌∷◌, length, Some, None, refl, sym, ap, subst, ◌∙◌, arith}
use Rattle.std.specs.Prelude.{codes, ◌&&◌, ◌||◌}
use Rattle.std.specs.List.{list_all, list_any}
use Rattle.isle_base_source.specs.declared.pos.Pos.{Pos}
use Rattle.isle_base.specs.Place.{Placed}
use Rattle.isle_base.specs.Token.{symbol, is_symbol}
use Rattle.isle_ast_names.specs.Tree.{Name}
use Rattle.isle_ast.specs.Tree.{NamedField, IndexedField, FieldList, unit_fields, struct_fields, tuple_fields, EnumVariant, TypeContent, primitive_type, enum_type, struct_type, TypeDefinition}
use Rattle.isle_ast_names.specs.Words.{SpellsWord, BeginsAt, SpellsAll, InParentheses, BehindWord, SpellsName, IsNonEmpty}
use Rattle.isle_ast.specs.TypeGrammar.{SpellsNamedField, SpellsIndexedFields, SpellsFields, SpellsVariant, SpellsTypeContent, is_extern_word, is_nodebug_word, SpellsTypeDefinition}
use Rattle.isle_parser_cursor.specs.Reading.{◌>>=◌, is_ahead, is_lparen, at_rparen, pos_ahead, text, in_parentheses, many, many_within}
use Rattle.isle_parser_cursor.specs.NameReaders.{name}
use Rattle.isle_parser.specs.TypeReaders.{field_inside, named_field, numbered, fields, variant_inside, variant, struct_content, enum_content, content_inside, type_content, modifier, no_symbol, modifiers, type_definition}
use Rattle.isle_parser_cursor.proofs.ReaderSteps.{nothing, made_of, word_read, word_ahead, word_shorter, flag_read, flag_absent, choice, CompleteClosed, list_sound, list_complete, enclosed_complete}
use Rattle.isle_parser_cursor.proofs.ReaderSteps.{position_of, name_at, opens, opens_not_closes, list_nonempty, list_at, at_place, from_place}
use Rattle.isle_parser_cursor.proofs.Names.{text_sound, name_sound, name_read, name_complete, name_begins}
use Rattle.isle_parser_cursor.proofs.Readers.{Sound, Complete, Begins, Shrinks, bind_some, chosen, chosen_some, done_is, moved, shrinks, many_sound, list_shorter, parentheses_sound, parentheses_begin}

-- ---- fields with names

abbrev SpellsFieldInside : NamedField → List Placed → List Placed → Type 0
SpellsFieldInside f inner close = (mid : List Placed) × SpellsName f.name inner mid × SpellsName f.ty mid close

abbrev field_pos : NamedField → Pos
field_pos f = f.pos

abbrev SpellsFieldAt : Pos → NamedField → List Placed → List Placed → Type 0
SpellsFieldAt place f inner close = (f.pos ≡ place) × SpellsFieldInside f inner close

field_inside_sound : (place : Pos) → Sound (SpellsFieldAt place) (field_inside place)
unfolding field_inside
field_inside_sound place all rest f e =
    let n = bind_some (name all) (λ n. name n.1 >>= λ ty. Some (record { name = n.0; ty = ty.0; pos = place }, ty.1)) (f, rest) e in
    let ty = bind_some (name n.0.1) (λ ty. Some (record { name = n.0.0; ty = ty.0; pos = place }, ty.1)) (f, rest) n.2 in
    let made : NamedField = record { name = n.0.0; ty = ty.0.0; pos = place } in
    let is = done_is made f ty.0.1 rest ty.2 in
    moved (SpellsFieldAt place) made f all ty.0.1 rest is (refl, (n.0.1, name_sound all n.0.1 n.0.0 n.1, name_sound n.0.1 ty.0.1 ty.0.0 ty.1))

field_inside_complete : (place : Pos) → CompleteClosed (SpellsFieldAt place) (field_inside place)
unfolding field_inside
field_inside_complete place f all rest closed h =
    let place_is : place ≡ f.pos = sym h.0 in
    rw (name_read f.name all h.1.0 h.1.1, name_read f.ty h.1.0 rest h.1.2, place_is) refl

pub named_field_sound : Sound SpellsNamedField named_field
unfolding named_field
named_field_sound all rest f e =
    at_place SpellsFieldInside field_pos f all rest (parentheses_sound (SpellsFieldAt (pos_ahead all)) (field_inside (pos_ahead all)) (field_inside_sound (pos_ahead all)) all rest f e)

pub named_field_complete : Complete SpellsNamedField named_field
unfolding named_field
named_field_complete f all rest goes h =
    enclosed_complete (SpellsFieldAt (pos_ahead all)) (field_inside (pos_ahead all)) (field_inside_complete (pos_ahead all)) f all rest (from_place SpellsFieldInside field_pos f all rest h.0 h.1)

pub named_field_begins : Begins SpellsNamedField
named_field_begins f all rest h =
    parentheses_begin (SpellsFieldInside f) (λ i j b. omega (arith, (name_begins f.name i b.0 b.1).1, (name_begins f.ty b.0 j b.2).1)) all rest h.1

pub named_field_shrinks : Shrinks named_field
named_field_shrinks = shrinks SpellsNamedField named_field named_field_sound named_field_begins

-- ---- fields without

numbered_spelt : (index : ℕ) (tys : List Name) (all rest : List Placed) → SpellsAll SpellsName tys all rest → SpellsIndexedFields index (numbered index tys) all rest
numbered_spelt index [] all rest h = h
numbered_spelt index (ty ∷ tys) all rest h = (refl, (symbol ty.text, h.0, h.1.1), h.0, h.1, numbered_spelt (index + 1) tys h.0 rest h.2)

numbered_nonempty : (index : ℕ) (tys : List Name) → IsNonEmpty tys → IsNonEmpty (numbered index tys)
numbered_nonempty index [] h = h
numbered_nonempty index (ty ∷ tys) h = tt

abbrev types_of : List IndexedField → List Name
types_of [] = []
types_of (f ∷ fs) = f.ty ∷ types_of fs

same_field : (f : IndexedField) (index : ℕ) (place : Pos) → f.index ≡ index → place ≡ f.pos → record { index = index; ty = f.ty; pos = place } ≡ f
same_field f index place e q =
    ap (λ (n : ℕ). record { index = n; ty = f.ty; pos = place }) (sym e) ∙ ap (λ (p : Pos). record { index = f.index; ty = f.ty; pos = p }) q

name_pos : (n : Name) (pos : Pos) (all rest : List Placed) → BeginsAt pos all → SpellsName n all rest → n.pos ≡ pos
name_pos n pos all rest p h =
    let one : pos_ahead all ≡ n.pos = rw h.1 refl in
    sym one ∙ position_of p

indexed_types : (index : ℕ) (fs : List IndexedField) (all rest : List Placed) → SpellsIndexedFields index fs all rest → SpellsAll SpellsName (types_of fs) all rest
indexed_types index [] all rest h = h
indexed_types index (f ∷ fs) all rest h = (h.2, h.3, indexed_types (index + 1) fs h.2 rest h.4)

indexed_numbered : (index : ℕ) (fs : List IndexedField) (all rest : List Placed) → SpellsIndexedFields index fs all rest → numbered index (types_of fs) ≡ fs
indexed_numbered index [] all rest h = refl
indexed_numbered index (f ∷ fs) all rest h =
    let one = same_field f index f.ty.pos h.0 (name_pos f.ty f.pos all h.2 h.1 h.3) in
    let others = indexed_numbered (index + 1) fs h.2 rest h.4 in
    ap (λ (g : IndexedField). g ∷ numbered (index + 1) (types_of fs)) one ∙ ap (λ (gs : List IndexedField). f ∷ gs) others

-- ---- fields

fields_sound : Sound SpellsFields fields
unfolding fields
fields_sound all rest x e =
    elim (chosen (at_rparen all) (Some (unit_fields, all)) (cond (is_ahead is_lparen all) (many at_rparen named_field all >>= λ fs. Some (struct_fields fs.0 (pos_ahead all), fs.1))
    (many at_rparen name all >>= λ tys. Some (tuple_fields (numbered 0 tys.0) (pos_ahead all), tys.1))) (Some (x, rest)) e) [
      | inl h ↦ moved SpellsFields unit_fields x all all rest (done_is unit_fields x all rest h.1) refl
      | inr h ↦
          elim (chosen (is_ahead is_lparen all) (many at_rparen named_field all >>= λ fs. Some (struct_fields fs.0 (pos_ahead all), fs.1))
          (many at_rparen name all >>= λ tys. Some (tuple_fields (numbered 0 tys.0) (pos_ahead all), tys.1)) (Some (x, rest)) h.1) [
            | inl g ↦
                let fs = made_of (λ (fs : List NamedField). struct_fields fs (pos_ahead all)) g.1 in
                let list = many_sound SpellsNamedField named_field at_rparen named_field_sound all rest fs.0 fs.1 in
                let some = list_nonempty SpellsNamedField fs.0 all rest list.0 list.1 h.0 in
                subst (λ (x : FieldList). SpellsFields x all rest) fs.2 (some, list_at SpellsNamedField named_field_begins fs.0 all rest some list.0, list.0)
            | inr g ↦
                let tys = made_of (λ (tys : List Name). tuple_fields (numbered 0 tys) (pos_ahead all)) g.1 in
                let list = many_sound SpellsName name at_rparen name_sound all rest tys.0 tys.1 in
                let some = list_nonempty SpellsName tys.0 all rest list.0 list.1 h.0 in
                subst (λ (x : FieldList). SpellsFields x all rest) tys.2 (numbered_nonempty 0 tys.0 some, list_at SpellsName name_begins tys.0 all rest some list.0, numbered_spelt 0 tys.0 all rest list.0)
          ]
    ]

fields_complete : CompleteClosed SpellsFields fields
unfolding fields
fields_complete unit_fields all rest closed h = rw (h, closed) refl
fields_complete (struct_fields [] pos) all rest closed h = absurd h.0
fields_complete (struct_fields (f ∷ fs) pos) all rest closed h =
    let here : is_ahead is_lparen all ≡ true = opens (SpellsFieldInside f) all h.2.0 h.2.1.1 in
    let list = list_complete SpellsNamedField named_field named_field_complete named_field_begins (f ∷ fs) all rest closed h.2 in
    rw (opens_not_closes all here, here, list, position_of h.1) refl
fields_complete (tuple_fields [] pos) all rest closed h = absurd h.0
fields_complete (tuple_fields (f ∷ fs) pos) all rest closed h =
    let open_ : at_rparen all ≡ false = rw h.2.3.1 refl in
    let here : is_ahead is_lparen all ≡ false = rw h.2.3.1 refl in
    let list = list_complete SpellsName name name_complete name_begins (types_of (f ∷ fs)) all rest closed (indexed_types 0 (f ∷ fs) all rest h.2) in
    rw (open_, here, list, indexed_numbered 0 (f ∷ fs) all rest h.2, position_of h.1) refl

fields_shorter : (x : FieldList) (all rest : List Placed) → SpellsFields x all rest → length rest ≤ length all
fields_shorter unit_fields all rest h = rw h (omega arith)
fields_shorter (struct_fields fs pos) all rest h = list_shorter SpellsNamedField named_field_begins fs all rest h.2
fields_shorter (tuple_fields fs pos) all rest h = list_shorter SpellsName name_begins (types_of fs) all rest (indexed_types 0 fs all rest h.2)

-- ---- variants

abbrev SpellsVariantInside : EnumVariant → List Placed → List Placed → Type 0
SpellsVariantInside v inner close = (mid : List Placed) × SpellsName v.name inner mid × SpellsFields v.fields mid close

abbrev variant_pos : EnumVariant → Pos
variant_pos v = v.pos

abbrev SpellsVariantAt : Pos → EnumVariant → List Placed → List Placed → Type 0
SpellsVariantAt place v inner close = (v.pos ≡ place) × SpellsVariantInside v inner close

variant_inside_sound : (place : Pos) → Sound (SpellsVariantAt place) (variant_inside place)
unfolding variant_inside
variant_inside_sound place all rest v e =
    let n = bind_some (name all) (λ n. fields n.1 >>= λ fs. Some (record { name = n.0; fields = fs.0; pos = place }, fs.1)) (v, rest) e in
    let fs = bind_some (fields n.0.1) (λ fs. Some (record { name = n.0.0; fields = fs.0; pos = place }, fs.1)) (v, rest) n.2 in
    let made : EnumVariant = record { name = n.0.0; fields = fs.0.0; pos = place } in
    let is = done_is made v fs.0.1 rest fs.2 in
    moved (SpellsVariantAt place) made v all fs.0.1 rest is (refl, (n.0.1, name_sound all n.0.1 n.0.0 n.1, fields_sound n.0.1 fs.0.1 fs.0.0 fs.1))

variant_inside_complete : (place : Pos) → CompleteClosed (SpellsVariantAt place) (variant_inside place)
unfolding variant_inside
variant_inside_complete place v all rest closed h =
    let place_is : place ≡ v.pos = sym h.0 in
    rw (name_read v.name all h.1.0 h.1.1, fields_complete v.fields h.1.0 rest closed h.1.2, place_is) refl

abbrev bare : Name → Pos → EnumVariant
bare n place = record { name = n; fields = unit_fields; pos = place }

pub variant_sound : Sound SpellsVariant variant
unfolding variant
variant_sound all rest v e =
    elim (chosen (is_ahead is_symbol all) (name all >>= λ n. Some (bare n.0 (pos_ahead all), n.1)) (in_parentheses (variant_inside (pos_ahead all)) all) (Some (v, rest)) e) [
      | inl h ↦
          let n = made_of (λ (n : Name). bare n (pos_ahead all)) h.1 in
          let spelt = name_sound all rest n.0 n.1 in
          subst (λ (v : EnumVariant). SpellsVariant v all rest) n.2 (name_at n.0 all rest spelt, inl (spelt, refl))
      | inr h ↦
          let spelt = at_place SpellsVariantInside variant_pos v all rest (parentheses_sound (SpellsVariantAt (pos_ahead all)) (variant_inside (pos_ahead all)) (variant_inside_sound (pos_ahead all)) all rest v h.1) in
          (spelt.0, inr spelt.1)
    ]

same_variant : (v : EnumVariant) → v.fields ≡ unit_fields → bare v.name v.pos ≡ v
same_variant v e = ap (λ (fs : FieldList). record { name = v.name; fields = fs; pos = v.pos }) (sym e)

bare_complete : (v : EnumVariant) (all rest : List Placed) → BeginsAt v.pos all → SpellsName v.name all rest → v.fields ≡ unit_fields → variant all ≡ Some (v, rest)
unfolding variant
bare_complete v all rest p h e =
    let here : is_ahead is_symbol all ≡ true = rw h.1 refl in
    rw (here, name_read v.name all rest h, position_of p) (ap (λ (v : EnumVariant). Some (v, rest)) (same_variant v e))

full_complete : (v : EnumVariant) (all rest : List Placed) → BeginsAt v.pos all → InParentheses (SpellsVariantInside v) all rest → variant all ≡ Some (v, rest)
unfolding variant
full_complete v all rest p h =
    let here : is_ahead is_symbol all ≡ false = rw h.2.1 refl in
    rw here (enclosed_complete (SpellsVariantAt (pos_ahead all)) (variant_inside (pos_ahead all)) (variant_inside_complete (pos_ahead all)) v all rest (from_place SpellsVariantInside variant_pos v all rest p h))

pub variant_complete : Complete SpellsVariant variant
variant_complete v all rest goes h =
    elim h.1 [
      | inl g ↦ bare_complete v all rest h.0 g.0 g.1
      | inr g ↦ full_complete v all rest h.0 g
    ]

pub variant_begins : Begins SpellsVariant
variant_begins v all rest h =
    elim h.1 [
      | inl g ↦ name_begins v.name all rest g.0
      | inr g ↦ parentheses_begin (SpellsVariantInside v) (λ i j b. omega (arith, (name_begins v.name i b.0 b.1).1, fields_shorter v.fields b.0 j b.2)) all rest g
    ]

pub variant_shrinks : Shrinks variant
variant_shrinks = shrinks SpellsVariant variant variant_sound variant_begins

-- ---- contents

abbrev content_pos : TypeContent → Pos
content_pos (primitive_type n pos) = pos
content_pos (enum_type vs pos) = pos
content_pos (struct_type fs pos) = pos

abbrev SpellsContentInside : TypeContent → List Placed → List Placed → Type 0
SpellsContentInside (primitive_type n pos) all rest = BehindWord (codes "primitive") (SpellsName n) all rest
SpellsContentInside (enum_type vs pos) all rest = BehindWord (codes "enum") (SpellsAll SpellsVariant vs) all rest
SpellsContentInside (struct_type fs pos) all rest = BehindWord (codes "struct") (SpellsFields fs) all rest

abbrev SpellsContentAt : Pos → TypeContent → List Placed → List Placed → Type 0
SpellsContentAt place c inner close = (content_pos c ≡ place) × SpellsContentInside c inner close

from_content : (c : TypeContent) (all rest : List Placed) → BeginsAt (content_pos c) all × InParentheses (SpellsContentInside c) all rest → SpellsTypeContent c all rest
from_content (primitive_type n pos) all rest h = h
from_content (enum_type vs pos) all rest h = h
from_content (struct_type fs pos) all rest h = h

pub to_content : (c : TypeContent) (all rest : List Placed) → SpellsTypeContent c all rest → BeginsAt (content_pos c) all × InParentheses (SpellsContentInside c) all rest
to_content (primitive_type n pos) all rest h = h
to_content (enum_type vs pos) all rest h = h
to_content (struct_type fs pos) all rest h = h

struct_sound : (place : Pos) → Sound (SpellsContentAt place) (struct_content place)
unfolding struct_content
struct_sound place all rest c e =
    elim (choice (codes "struct") (λ i. fields i >>= λ fs. Some (struct_type fs.0 place, fs.1)) (λ i. None) all e) [
      | inl h ↦
          let fs = made_of (λ (fs : FieldList). struct_type fs place) h.2 in
          subst (λ (c : TypeContent). SpellsContentAt place c all rest) fs.2 (refl, (h.0, h.1, fields_sound h.0 rest fs.0 fs.1))
      | inr h ↦ absurd (nothing h.1)
    ]

enum_sound : (place : Pos) → Sound (SpellsContentAt place) (enum_content place)
unfolding enum_content
enum_sound place all rest c e =
    elim (choice (codes "enum") (λ i. many at_rparen variant i >>= λ vs. Some (enum_type vs.0 place, vs.1)) (struct_content place) all e) [
      | inl h ↦
          let vs = made_of (λ (vs : List EnumVariant). enum_type vs place) h.2 in
          subst (λ (c : TypeContent). SpellsContentAt place c all rest) vs.2 (refl, (h.0, h.1, list_sound SpellsVariant variant variant_sound h.0 rest vs.0 vs.1))
      | inr h ↦ struct_sound place all rest c h.1
    ]

content_inside_sound : (place : Pos) → Sound (SpellsContentAt place) (content_inside place)
unfolding content_inside
content_inside_sound place all rest c e =
    elim (choice (codes "primitive") (λ i. name i >>= λ n. Some (primitive_type n.0 place, n.1)) (enum_content place) all e) [
      | inl h ↦
          let n = made_of (λ (n : Name). primitive_type n place) h.2 in
          subst (λ (c : TypeContent). SpellsContentAt place c all rest) n.2 (refl, (h.0, h.1, name_sound h.0 rest n.0 n.1))
      | inr h ↦ enum_sound place all rest c h.1
    ]

content_inside_complete : (place : Pos) → CompleteClosed (SpellsContentAt place) (content_inside place)
unfolding content_inside enum_content struct_content
content_inside_complete place (primitive_type n pos) all rest closed h =
    let b = h.1 in
    let place_is : place ≡ pos = sym h.0 in
    rw (flag_read (codes "primitive") all b.0 b.1, name_read n b.0 rest b.2, place_is) refl
content_inside_complete place (enum_type vs pos) all rest closed h =
    let b = h.1 in
    let place_is : place ≡ pos = sym h.0 in
    rw (flag_absent (codes "primitive") all (word_ahead b.1 (codes "primitive")), flag_read (codes "enum") all b.0 b.1, list_complete SpellsVariant variant variant_complete variant_begins vs b.0 rest closed b.2, place_is) refl
content_inside_complete place (struct_type fs pos) all rest closed h =
    let b = h.1 in
    let place_is : place ≡ pos = sym h.0 in
    rw (flag_absent (codes "primitive") all (word_ahead b.1 (codes "primitive")), flag_absent (codes "enum") all (word_ahead b.1 (codes "enum")), flag_read (codes "struct") all b.0 b.1, fields_complete fs b.0 rest closed b.2, place_is) refl

pub type_content_sound : Sound SpellsTypeContent type_content
unfolding type_content
type_content_sound all rest c e =
    from_content c all rest (at_place SpellsContentInside content_pos c all rest (parentheses_sound (SpellsContentAt (pos_ahead all)) (content_inside (pos_ahead all)) (content_inside_sound (pos_ahead all)) all rest c e))

pub type_content_complete : (c : TypeContent) (all rest : List Placed) → SpellsTypeContent c all rest → type_content all ≡ Some (c, rest)
unfolding type_content
type_content_complete c all rest h =
    let g = to_content c all rest h in
    enclosed_complete (SpellsContentAt (pos_ahead all)) (content_inside (pos_ahead all)) (content_inside_complete (pos_ahead all)) c all rest (from_place SpellsContentInside content_pos c all rest g.0 g.1)

content_inside_shorter : (c : TypeContent) (all rest : List Placed) → SpellsContentInside c all rest → length rest ≤ length all
content_inside_shorter (primitive_type n pos) all rest h = omega (arith, word_shorter (codes "primitive") all h.0 h.1, (name_begins n h.0 rest h.2).1)
content_inside_shorter (enum_type vs pos) all rest h = omega (arith, word_shorter (codes "enum") all h.0 h.1, list_shorter SpellsVariant variant_begins vs h.0 rest h.2)
content_inside_shorter (struct_type fs pos) all rest h = omega (arith, word_shorter (codes "struct") all h.0 h.1, fields_shorter fs h.0 rest h.2)

type_content_begins : Begins SpellsTypeContent
type_content_begins c all rest h = parentheses_begin (SpellsContentInside c) (content_inside_shorter c) all rest (to_content c all rest h).1

-- ---- modifiers

abbrev is_modifier : List ℕ → Bool
is_modifier word = is_extern_word word || is_nodebug_word word

abbrev SpellsModifier : List ℕ → List Placed → List Placed → Type 0
SpellsModifier word all rest = (is_modifier word ≡ true) × SpellsWord word all rest

pub modifier_sound : Sound SpellsModifier modifier
unfolding modifier
modifier_sound all rest w e =
    let t = bind_some (text all) (λ word. cond (is_modifier word.0) (Some word) None) (w, rest) e in
    let c = chosen_some (is_modifier t.0.0) t.0 (w, rest) t.2 in
    let is = done_is t.0.0 w t.0.1 rest c.1 in
    moved SpellsModifier t.0.0 w all t.0.1 rest is (c.0, (pos_ahead all, text_sound all t.0.1 t.0.0 t.1))

pub modifier_shrinks : Shrinks modifier
modifier_shrinks all rest w e = word_shorter w all rest (modifier_sound all rest w e).1

each_modifier : (words : List (List ℕ)) (all rest : List Placed) → SpellsAll SpellsModifier words all rest → (list_all is_modifier words ≡ true) × SpellsAll SpellsWord words all rest
each_modifier [] all rest h = (refl, h)
each_modifier (w ∷ ws) all rest h =
    let others = each_modifier ws h.0 rest h.2 in
    (rw (h.1.0, others.0) refl, (h.0, h.1.1, others.1))

and_both : (a b : Bool) → (a && b) ≡ true → (a ≡ true) × (b ≡ true)
and_both true b e = (refl, e)
and_both false b e = absurd cc

modifiers_within : (m : ℕ) (words : List (List ℕ)) (all rest : List Placed) → length all < m → list_all is_modifier words ≡ true → SpellsAll SpellsWord words all rest → no_symbol rest ≡ true
    → many_within m no_symbol modifier all ≡ Some (words, rest)
unfolding many_within modifier
modifiers_within zero words all rest lt each h e = absurd (omega arith)
modifiers_within (suc m) [] all rest lt each h e =
    let here : no_symbol all ≡ true = rw h e in
    rw here (ap (λ (r : List Placed). Some ([], r)) h)
modifiers_within (suc m) (w ∷ ws) all rest lt each h e =
    let shorter : length h.0 < length all = word_shorter w all h.0 h.1 in
    let here : no_symbol all ≡ false = rw h.1.1 refl in
    let a = and_both (is_modifier w) (list_all is_modifier ws) each in
    let others : many_within m no_symbol modifier h.0 ≡ Some (ws, rest) = modifiers_within m ws h.0 rest (omega arith) a.1 h.2 e in
    rw (here, word_read h.1, a.0, others) refl

words_shorter : (words : List (List ℕ)) (all rest : List Placed) → SpellsAll SpellsWord words all rest → length rest ≤ length all
words_shorter [] all rest h = rw h (omega arith)
words_shorter (w ∷ ws) all rest h = omega (arith, word_shorter w all h.0 h.1, words_shorter ws h.0 rest h.2)

-- ---- definitions of types

abbrev made : Name → List (List ℕ) → TypeContent → Pos → TypeDefinition
made n words c place = record { name = n; is_extern = list_any is_extern_word words; is_nodebug = list_any is_nodebug_word words; ty = c; pos = place }

pub type_definition_sound : Sound SpellsTypeDefinition type_definition
unfolding type_definition modifiers
type_definition_sound all rest t e =
    let n = bind_some (name all) (λ n. modifiers n.1 >>= λ words. type_content words.1 >>= λ c. Some (made n.0 words.0 c.0 (pos_ahead all), c.1)) (t, rest) e in
    let words = bind_some (modifiers n.0.1) (λ words. type_content words.1 >>= λ c. Some (made n.0.0 words.0 c.0 (pos_ahead all), c.1)) (t, rest) n.2 in
    let c = bind_some (type_content words.0.1) (λ c. Some (made n.0.0 words.0.0 c.0 (pos_ahead all), c.1)) (t, rest) words.2 in
    let node : TypeDefinition = made n.0.0 words.0.0 c.0.0 (pos_ahead all) in
    let is = done_is node t c.0.1 rest c.2 in
    let list = many_sound SpellsModifier modifier no_symbol modifier_sound n.0.1 words.0.1 words.0.0 words.1 in
    let each = each_modifier words.0.0 n.0.1 words.0.1 list.0 in
    let spelt : SpellsTypeDefinition node all c.0.1 =
    record {
      position = name_at n.0.0 all n.0.1 (name_sound all n.0.1 n.0.0 n.1);
      behind_name = n.0.1;
      name = name_sound all n.0.1 n.0.0 n.1;
      behind_modifiers = words.0.1;
      modifiers = record { words = words.0.0; each = each.0; extern_set = refl; nodebug_set = refl; spelt = each.1 };
      ty = type_content_sound words.0.1 c.0.1 c.0.0 c.1;
    } in
    moved SpellsTypeDefinition node t all c.0.1 rest is spelt

pub type_definition_complete : (t : TypeDefinition) (all rest : List Placed) → SpellsTypeDefinition t all rest → type_definition all ≡ Some (t, rest)
unfolding type_definition modifiers many
type_definition_complete t all rest h =
    let content = to_content t.ty h.behind_modifiers rest h.ty in
    let ahead : no_symbol h.behind_modifiers ≡ true = rw content.1.2.1 refl in
    let words = modifiers_within (suc (length h.behind_name)) h.modifiers.words h.behind_name h.behind_modifiers (omega arith) h.modifiers.each h.modifiers.spelt ahead in
    let body = type_content_complete t.ty h.behind_modifiers rest h.ty in
    rw (name_read t.name all h.behind_name h.name, words, body, h.modifiers.extern_set, h.modifiers.nodebug_set, position_of h.position) refl

pub type_definition_shorter : (t : TypeDefinition) (all rest : List Placed) → SpellsTypeDefinition t all rest → length rest ≤ length all
type_definition_shorter t all rest h =
    omega (arith, (name_begins t.name all h.behind_name h.name).1, words_shorter h.modifiers.words h.behind_name h.behind_modifiers h.modifiers.spelt, (type_content_begins t.ty h.behind_modifiers rest h.ty).1)
