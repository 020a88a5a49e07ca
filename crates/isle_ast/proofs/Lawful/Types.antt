-- The relations of the definitions of types keep the laws.
use Rattle.std.proofs.Common.{◌≡◌, ℕ, ◌+◌, List, [], ◌∷◌, Bool, codes, map, refl, sym, subst, ◌∙◌, ◌⊎◌, inl, inr}
use Rattle.isle_base_source.specs.declared.pos.Pos.{Pos}
use Rattle.isle_base.specs.Place.{Placed, unknown}
use Rattle.isle_base.specs.Token.{lparen, symbol}
use Rattle.isle_ast_names.specs.Tree.{Name}
use Rattle.isle_ast.specs.Tree.{NamedField, IndexedField, FieldList, unit_fields, struct_fields, tuple_fields, EnumVariant, TypeContent, primitive_type, enum_type, struct_type, TypeDefinition}
use Rattle.isle_ast_names.specs.Words.{SpellsToken, SpellsWord, SpellsAll, InParentheses, BehindWord, SpellsName, IsNonEmpty}
use Rattle.isle_ast_names.specs.Erased.{erase_name, erase_tokens}
use Rattle.isle_ast.specs.Erased.{erase_named_field, erase_indexed_field, erase_fields, erase_variant, erase_type_content, erase_type}
use Rattle.isle_ast.specs.TypeGrammar.{SpellsNamedField, SpellsIndexedFields, SpellsFields, SpellsVariant, SpellsTypeContent, SpellsModifiers, SpellsTypeDefinition}
use Rattle.isle_ast_names.proofs.Lawful.{Cuts, Erases, Places, Plain, Lawful, Begins, Then, At, agree_from, then_cuts, word_plain, nothing_plain, then_plain, plain_lawful, name_lawful, Pair, erase_pair, pair_of_names, pair_lawful, all_lawful, at_lawful, non_empty_lawful, settled_lawful, either_lawful, made_lawful, parentheses_lawful, word_lawful, name_begins, parentheses_begin}

-- fields

abbrev FieldParts : Pos × (Name × Name) → List Placed → List Placed → Type 0
FieldParts p = At p.0 (InParentheses (Pair p.1))

named_field_lawful : (f : NamedField) → Lawful SpellsNamedField erase_named_field f
named_field_lawful f =
    made_lawful SpellsNamedField erase_named_field FieldParts (λ p. (unknown, erase_pair p.1)) (λ p. record { name = p.1.0; ty = p.1.1; pos = p.0 })
    (λ y all rest h. h) (λ y all rest h. h) (λ y. refl) (f.pos, (f.name, f.ty))
    (λ y same. ((y.pos, (y.name, y.ty)), refl, λ i. (unknown, ((same i).name, (same i).ty))))
    (at_lawful (λ p. InParentheses (Pair p)) erase_pair f.pos (f.name, f.ty) (parentheses_begin (Pair (f.name, f.ty)))
    (parentheses_lawful Pair erase_pair (f.name, f.ty)
    (pair_of_names f.name f.ty)))

nothing_mapped : {A : Type 0} (erase : A → A) (ys : List A) → ◌≡◌ {A = List A} [] (map erase ys) → [] ≡ ys
nothing_mapped erase [] same = refl
nothing_mapped erase (y ∷ ys) same = cc

abbrev IndexedNode : Type 0
IndexedNode = ℕ × (Pos × (Name × List IndexedField))

abbrev erase_indexed : IndexedNode → IndexedNode
erase_indexed p = (p.0, (unknown, (erase_name p.1.1.0, map erase_indexed_field p.1.1.1)))

abbrev indexed : IndexedNode → List IndexedField
indexed p = record { index = p.0; ty = p.1.1.0; pos = p.1.0 } ∷ p.1.1.1

abbrev Indexed : ℕ → IndexedNode → List Placed → List Placed → Type 0
Indexed index p all rest = (p.0 ≡ index) × At p.1.0 (Then (SpellsName p.1.1.0) (SpellsIndexedFields (index + 1) p.1.1.1)) all rest

is_indexed : (f : IndexedField) (fs ys : List IndexedField) → erase_indexed_field f ∷ map erase_indexed_field fs ≡ map erase_indexed_field ys →
    (z : IndexedNode) × (ys ≡ indexed z) × (erase_indexed (f.index, (f.pos, (f.ty, fs))) ≡ erase_indexed z)
is_indexed f fs [] same = cc
is_indexed f fs (g ∷ gs) same =
    let heads : erase_indexed_field f ≡ erase_indexed_field g = cc in
    let tails : map erase_indexed_field fs ≡ map erase_indexed_field gs = cc in
    ((g.index, (g.pos, (g.ty, gs))), refl, λ i. ((heads i).index, (unknown, ((heads i).ty, tails i))))

indexed_lawful : (index : ℕ) (fs : List IndexedField) → Lawful (SpellsIndexedFields index) (map erase_indexed_field) fs
indexed_lawful index [] = plain_lawful (SpellsIndexedFields index) (map erase_indexed_field) [] refl (nothing_mapped erase_indexed_field) nothing_plain
indexed_lawful index (f ∷ fs) =
    made_lawful (SpellsIndexedFields index) (map erase_indexed_field) (Indexed index) erase_indexed indexed
    (λ y all rest h. (h.0, h.1.0, h.1.1.0, h.1.1.1, h.1.1.2)) (λ y all rest h. (h.0, (h.1, (h.2, h.3, h.4)))) (λ y. refl)
    (f.index, (f.pos, (f.ty, fs))) (is_indexed f fs)
    (settled_lawful (λ p. index) (λ i. i) (λ p. At p.0 (Then (SpellsName p.1.0) (SpellsIndexedFields (index + 1) p.1.1)))
    (λ p. (unknown, (erase_name p.1.0, map erase_indexed_field p.1.1))) f.index (f.pos, (f.ty, fs)) (λ y. refl)
    (at_lawful (λ p. Then (SpellsName p.0) (SpellsIndexedFields (index + 1) p.1)) (λ p. (erase_name p.0, map erase_indexed_field p.1)) f.pos (f.ty, fs)
    (λ all rest h. name_begins f.ty all h.0 h.1)
    (pair_lawful SpellsName erase_name (SpellsIndexedFields (index + 1)) (map erase_indexed_field) f.ty fs (name_lawful f.ty) (indexed_lawful (index + 1) fs))))

-- one or more, at the position of the first token
abbrev Several : {A : Type 0} → (List A → List Placed → List Placed → Type 0) → Pos × List A → List Placed → List Placed → Type 0
Several Spells p = At p.0 (λ all rest. IsNonEmpty p.1 × Spells p.1 all rest)

several_lawful : {A : Type 0} (Spells : List A → List Placed → List Placed → Type 0) (erase : A → A) (pos : Pos) (xs : List A) →
    (IsNonEmpty xs → Begins (Spells xs)) → Lawful Spells (map erase) xs → Lawful (Several Spells) (λ p. (unknown, map erase p.1)) (pos, xs)
several_lawful Spells erase pos xs begins lawful =
    at_lawful (λ ys all rest. IsNonEmpty ys × Spells ys all rest) (map erase) pos xs (λ all rest h. begins h.0 all rest h.1)
    (non_empty_lawful Spells erase xs lawful)

named_begin : (fs : List NamedField) → IsNonEmpty fs → Begins (SpellsAll SpellsNamedField fs)
named_begin [] full all rest h e = absurd full
named_begin (f ∷ fs) full all rest h e = parentheses_begin (Pair (f.name, f.ty)) all h.0 h.1.1 e

indexed_begin : (fs : List IndexedField) → IsNonEmpty fs → Begins (SpellsIndexedFields 0 fs)
indexed_begin [] full all rest h e = absurd full
indexed_begin (f ∷ fs) full all rest h e = name_begins f.ty all h.2 h.3 e

is_unit : (y : FieldList) → unit_fields ≡ erase_fields y → unit_fields ≡ y
is_unit unit_fields same = refl
is_unit _ same = cc

is_struct : (fs : List NamedField) (y : FieldList) → struct_fields (map erase_named_field fs) unknown ≡ erase_fields y →
    (z : Pos × List NamedField) × (y ≡ struct_fields z.1 z.0) × (◌≡◌ {A = Pos × List NamedField} (unknown, map erase_named_field fs) (unknown, map erase_named_field z.1))
is_struct fs (struct_fields gs p) same =
    let lists : map erase_named_field fs ≡ map erase_named_field gs = cc in
    ((p, gs), refl, λ i. (unknown, lists i))
is_struct fs _ same = cc

is_tuple : (fs : List IndexedField) (y : FieldList) → tuple_fields (map erase_indexed_field fs) unknown ≡ erase_fields y →
    (z : Pos × List IndexedField) × (y ≡ tuple_fields z.1 z.0) × (◌≡◌ {A = Pos × List IndexedField} (unknown, map erase_indexed_field fs) (unknown, map erase_indexed_field z.1))
is_tuple fs (tuple_fields gs p) same =
    let lists : map erase_indexed_field fs ≡ map erase_indexed_field gs = cc in
    ((p, gs), refl, λ i. (unknown, lists i))
is_tuple fs _ same = cc

pub fields_lawful : (fs : FieldList) → Lawful SpellsFields erase_fields fs
fields_lawful unit_fields = plain_lawful SpellsFields erase_fields unit_fields refl is_unit nothing_plain
fields_lawful (struct_fields fs pos) =
    made_lawful SpellsFields erase_fields (Several (SpellsAll SpellsNamedField)) (λ p. (unknown, map erase_named_field p.1)) (λ p. struct_fields p.1 p.0)
    (λ y all rest h. (h.1.0, h.0, h.1.1)) (λ y all rest h. (h.1, (h.0, h.2))) (λ y. refl) (pos, fs) (is_struct fs)
    (several_lawful (SpellsAll SpellsNamedField) erase_named_field pos fs (named_begin fs) (all_lawful SpellsNamedField erase_named_field named_field_lawful fs))
fields_lawful (tuple_fields fs pos) =
    made_lawful SpellsFields erase_fields (Several (SpellsIndexedFields 0)) (λ p. (unknown, map erase_indexed_field p.1)) (λ p. tuple_fields p.1 p.0)
    (λ y all rest h. (h.1.0, h.0, h.1.1)) (λ y all rest h. (h.1, (h.0, h.2))) (λ y. refl) (pos, fs) (is_tuple fs)
    (several_lawful (SpellsIndexedFields 0) erase_indexed_field pos fs (indexed_begin fs) (indexed_lawful 0 fs))

-- variants

abbrev VariantNode : Type 0
VariantNode = Name × FieldList

abbrev erase_parts : VariantNode → VariantNode
erase_parts p = (erase_name p.0, erase_fields p.1)

abbrev Bare : VariantNode → List Placed → List Placed → Type 0
Bare p all rest = SpellsName p.0 all rest × (p.1 ≡ unit_fields)

abbrev Full : VariantNode → List Placed → List Placed → Type 0
Full p = InParentheses (Then (SpellsName p.0) (SpellsFields p.1))

bare_lawful : (name : Name) (fields : FieldList) → Lawful Bare erase_parts (name, fields)
bare_lawful name fields =
    made_lawful Bare erase_parts (λ (p : FieldList × Name). λ all rest. (p.0 ≡ unit_fields) × SpellsName p.1 all rest) (λ p. (erase_fields p.0, erase_name p.1)) (λ p. (p.1, p.0))
    (λ y all rest h. (h.1, h.0)) (λ y all rest h. (h.1, h.0)) (λ y. refl) (fields, name)
    (λ y same. ((y.1, y.0), refl, λ i. ((same i).1, (same i).0)))
    (settled_lawful (λ n. unit_fields) erase_fields SpellsName erase_name fields name (λ y. refl) (name_lawful name))

full_lawful : (name : Name) (fields : FieldList) → Lawful Full erase_parts (name, fields)
full_lawful name fields =
    parentheses_lawful (λ p. Then (SpellsName p.0) (SpellsFields p.1)) erase_parts (name, fields)
    (pair_lawful SpellsName erase_name SpellsFields erase_fields name fields (name_lawful name) (fields_lawful fields))

-- a symbol isn't `(`
symbol_or_opening : (text : List ℕ) (pos : Pos) (all rest inner : List Placed) → all ≡ record { pos = pos; token = symbol text } ∷ rest → SpellsToken lparen all inner → ⊥
symbol_or_opening text pos all rest inner h k =
    let both = sym h ∙ k.1 in
    let heads : ◌≡◌ {A = Placed} (record { pos = pos; token = symbol text }) (record { pos = k.0; token = lparen }) = cc in
    let tokens : symbol text ≡ lparen = λ i. (heads i).token in
    cc

bare_or_full : (y z : VariantNode) (all rest after : List Placed) → Bare y all rest → Full z all after → ⊥
bare_or_full y z all rest after h k = symbol_or_opening y.0.text y.0.pos all rest k.0 h.0.1 k.2

abbrev Either : VariantNode → List Placed → List Placed → Type 0
Either p all rest = Bare p all rest ⊎ Full p all rest

either_begins : (p : VariantNode) → Begins (Either p)
either_begins p all rest (inl h) e = name_begins p.0 all rest h.0 e
either_begins p all rest (inr h) e = parentheses_begin (Then (SpellsName p.0) (SpellsFields p.1)) all rest h e

pub variant_lawful : (v : EnumVariant) → Lawful SpellsVariant erase_variant v
variant_lawful v =
    made_lawful SpellsVariant erase_variant (λ (p : Pos × VariantNode). At p.0 (Either p.1)) (λ p. (unknown, erase_parts p.1))
    (λ p. record { name = p.1.0; fields = p.1.1; pos = p.0 })
    (λ y all rest h. h) (λ y all rest h. h) (λ y. refl) (v.pos, (v.name, v.fields))
    (λ y same. ((y.pos, (y.name, y.fields)), refl, λ i. (unknown, ((same i).name, (same i).fields))))
    (at_lawful Either erase_parts v.pos (v.name, v.fields) (either_begins (v.name, v.fields))
    (either_lawful Bare Full erase_parts (v.name, v.fields) bare_or_full (bare_lawful v.name v.fields) (full_lawful v.name v.fields)))

-- contents

abbrev Content : {A : Type 0} → List ℕ → (A → List Placed → List Placed → Type 0) → Pos × A → List Placed → List Placed → Type 0
Content word Spells p = At p.0 (InParentheses (BehindWord word (Spells p.1)))

content_part : {A : Type 0} (word : List ℕ) (Spells : A → List Placed → List Placed → Type 0) (erase : A → A) (pos : Pos) (x : A) →
    Lawful Spells erase x → Lawful (Content word Spells) (λ p. (unknown, erase p.1)) (pos, x)
content_part word Spells erase pos x lawful =
    at_lawful (λ y. InParentheses (BehindWord word (Spells y))) erase pos x (parentheses_begin (BehindWord word (Spells x)))
    (parentheses_lawful (λ y. BehindWord word (Spells y)) erase x (word_lawful word Spells erase x lawful))

is_primitive : (name : Name) (y : TypeContent) → primitive_type (erase_name name) unknown ≡ erase_type_content y →
    (z : Pos × Name) × (y ≡ primitive_type z.1 z.0) × (◌≡◌ {A = Pos × Name} (unknown, erase_name name) (unknown, erase_name z.1))
is_primitive name (primitive_type n p) same =
    let names : erase_name name ≡ erase_name n = cc in
    ((p, n), refl, λ i. (unknown, names i))
is_primitive name _ same = cc

is_enum : (vs : List EnumVariant) (y : TypeContent) → enum_type (map erase_variant vs) unknown ≡ erase_type_content y →
    (z : Pos × List EnumVariant) × (y ≡ enum_type z.1 z.0) × (◌≡◌ {A = Pos × List EnumVariant} (unknown, map erase_variant vs) (unknown, map erase_variant z.1))
is_enum vs (enum_type ws p) same =
    let lists : map erase_variant vs ≡ map erase_variant ws = cc in
    ((p, ws), refl, λ i. (unknown, lists i))
is_enum vs _ same = cc

is_struct_type : (fs : FieldList) (y : TypeContent) → struct_type (erase_fields fs) unknown ≡ erase_type_content y →
    (z : Pos × FieldList) × (y ≡ struct_type z.1 z.0) × (◌≡◌ {A = Pos × FieldList} (unknown, erase_fields fs) (unknown, erase_fields z.1))
is_struct_type fs (struct_type gs p) same =
    let fields : erase_fields fs ≡ erase_fields gs = cc in
    ((p, gs), refl, λ i. (unknown, fields i))
is_struct_type fs _ same = cc

pub content_lawful : (ty : TypeContent) → Lawful SpellsTypeContent erase_type_content ty
content_lawful (primitive_type name pos) =
    made_lawful SpellsTypeContent erase_type_content (Content (codes "primitive") SpellsName) (λ p. (unknown, erase_name p.1)) (λ p. primitive_type p.1 p.0)
    (λ y all rest h. h) (λ y all rest h. h) (λ y. refl) (pos, name) (is_primitive name)
    (content_part (codes "primitive") SpellsName erase_name pos name (name_lawful name))
content_lawful (enum_type variants pos) =
    made_lawful SpellsTypeContent erase_type_content (Content (codes "enum") (SpellsAll SpellsVariant)) (λ p. (unknown, map erase_variant p.1)) (λ p. enum_type p.1 p.0)
    (λ y all rest h. h) (λ y all rest h. h) (λ y. refl) (pos, variants) (is_enum variants)
    (content_part (codes "enum") (SpellsAll SpellsVariant) (map erase_variant) pos variants (all_lawful SpellsVariant erase_variant variant_lawful variants))
content_lawful (struct_type fields pos) =
    made_lawful SpellsTypeContent erase_type_content (Content (codes "struct") SpellsFields) (λ p. (unknown, erase_fields p.1)) (λ p. struct_type p.1 p.0)
    (λ y all rest h. h) (λ y all rest h. h) (λ y. refl) (pos, fields) (is_struct_type fields)
    (content_part (codes "struct") SpellsFields erase_fields pos fields (fields_lawful fields))

-- modifiers, whose end the `(` of the content shows

words_plain : (words : List (List ℕ)) → Plain (SpellsAll SpellsWord words)
words_plain [] = nothing_plain
words_plain (word ∷ words) = then_plain (SpellsWord word) (SpellsAll SpellsWord words) (word_plain word) (words_plain words)

words_end : (ws vs : List (List ℕ)) (all alls rest inner after behind : List Placed) → all ≡ alls →
    SpellsAll SpellsWord ws all rest → SpellsToken lparen rest inner → SpellsAll SpellsWord vs alls after → SpellsToken lparen after behind → rest ≡ after
words_end [] [] all alls rest inner after behind e h opens k closes = sym h ∙ e ∙ k
words_end [] (v ∷ vs) all alls rest inner after behind e h opens k closes =
    absurd (symbol_or_opening v k.1.0 alls k.0 inner k.1.1 (subst (λ xs. SpellsToken lparen xs inner) (sym h ∙ e) opens))
words_end (w ∷ ws) [] all alls rest inner after behind e h opens k closes =
    absurd (symbol_or_opening w h.1.0 all h.0 behind h.1.1 (subst (λ xs. SpellsToken lparen xs behind) (sym k ∙ sym e) closes))
words_end (w ∷ ws) (v ∷ vs) all alls rest inner after behind e h opens k closes =
    let first = h.1.1 in
    let second = k.1.1 in
    let tails : h.0 ≡ k.0 = cc in
    words_end ws vs h.0 k.0 rest inner after behind tails h.2 opens k.2 closes

content_opens : (ty : TypeContent) (all rest : List Placed) → SpellsTypeContent ty all rest → (inner : List Placed) × SpellsToken lparen all inner
content_opens (primitive_type _ _) all rest h = (h.1.0, h.1.2)
content_opens (enum_type _ _) all rest h = (h.1.0, h.1.2)
content_opens (struct_type _ _) all rest h = (h.1.0, h.1.2)

abbrev ModifiedNode : Type 0
ModifiedNode = (Bool × Bool) × TypeContent

abbrev erase_modified : ModifiedNode → ModifiedNode
erase_modified p = (p.0, erase_type_content p.1)

abbrev Modified : ModifiedNode → List Placed → List Placed → Type 0
Modified p = Then (SpellsModifiers p.0.0 p.0.1) (SpellsTypeContent p.1)

module _ (is_extern is_nodebug : Bool) where
  modifiers_cut : Cuts (SpellsModifiers is_extern is_nodebug)
  modifiers_cut all rest h =
      let p = (words_plain h.words).cuts all rest h.spelt in
      (p.0, p.1, λ after. record { words = h.words; each = h.each; extern_set = h.extern_set; nodebug_set = h.nodebug_set; spelt = p.2 after })

  modifiers_erased : Erases (SpellsModifiers is_extern is_nodebug) (SpellsModifiers is_extern is_nodebug)
  modifiers_erased all rest h = record {
    words = h.words;
    each = h.each;
    extern_set = h.extern_set;
    nodebug_set = h.nodebug_set;
    spelt = (words_plain h.words).erased all rest h.spelt;
  }

  modifiers_placed : Places (SpellsModifiers is_extern is_nodebug)
  modifiers_placed all after h =
      let p = (words_plain h.words).placed all after h.spelt in
      (p.0, p.1, record { words = h.words; each = h.each; extern_set = h.extern_set; nodebug_set = h.nodebug_set; spelt = p.2 })

modified_lawful : (is_extern is_nodebug : Bool) (ty : TypeContent) → Lawful Modified erase_modified ((is_extern, is_nodebug), ty)
modified_lawful is_extern is_nodebug ty = record {
  cuts = then_cuts (SpellsModifiers is_extern is_nodebug) (SpellsTypeContent ty) (modifiers_cut is_extern is_nodebug) (content_lawful ty).cuts;
  erased = λ all rest h. (erase_tokens h.0, modifiers_erased is_extern is_nodebug all h.0 h.1, (content_lawful ty).erased h.0 rest h.2);
  placed = λ all after h.
      let p = modifiers_placed is_extern is_nodebug all h.0 h.1 in
      let q = (content_lawful ty).placed p.0 after (subst (λ xs. SpellsTypeContent ty xs after) (sym p.1) h.2) in
      (((is_extern, is_nodebug), q.0), q.1, (λ i. ((is_extern, is_nodebug), q.2 i)), q.3, (p.0, p.2, q.4));
  agree = λ z same all rest after h k.
      let opens = content_opens ty h.0 rest h.2 in
      let other = content_opens z.1 k.0 after k.2 in
      let mids = words_end h.1.words k.1.words all all h.0 opens.0 k.0 other.0 refl h.1.spelt opens.1 k.1.spelt other.1 in
      let q = agree_from (SpellsTypeContent ty) (SpellsTypeContent z.1) (ty ≡ z.1) ((content_lawful ty).agree z.1 (λ i. (same i).1)) h.0 k.0 rest after mids h.2 k.2 in
      ((λ i. ((same i).0, q.0 i)), q.1);
}

-- definitions of types

abbrev TypeNode : Type 0
TypeNode = Pos × (Name × ModifiedNode)

abbrev type_definition : TypeNode → TypeDefinition
type_definition p = record { name = p.1.0; is_extern = p.1.1.0.0; is_nodebug = p.1.1.0.1; ty = p.1.1.1; pos = p.0 }

abbrev type_node : TypeDefinition → TypeNode
type_node t = (t.pos, (t.name, ((t.is_extern, t.is_nodebug), t.ty)))

pub type_lawful : (t : TypeDefinition) → Lawful SpellsTypeDefinition erase_type t
type_lawful t =
    made_lawful SpellsTypeDefinition erase_type (λ (p : TypeNode). At p.0 (Then (SpellsName p.1.0) (Modified p.1.1))) (λ p. (unknown, (erase_name p.1.0, erase_modified p.1.1)))
    type_definition
    (λ y all rest h. record { position = h.0; behind_name = h.1.0; name = h.1.1; behind_modifiers = h.1.2.0; modifiers = h.1.2.1; ty = h.1.2.2 })
    (λ y all rest h. (h.position, (h.behind_name, h.name, (h.behind_modifiers, h.modifiers, h.ty))))
    (λ y. refl) (type_node t)
    (λ y same. (type_node y, refl, λ i. type_node (same i)))
    (at_lawful (λ p. Then (SpellsName p.0) (Modified p.1)) (λ p. (erase_name p.0, erase_modified p.1)) t.pos (t.name, ((t.is_extern, t.is_nodebug), t.ty))
    (λ all rest h. name_begins t.name all h.0 h.1)
    (pair_lawful SpellsName erase_name Modified erase_modified t.name ((t.is_extern, t.is_nodebug), t.ty) (name_lawful t.name)
    (modified_lawful t.is_extern t.is_nodebug t.ty)))
