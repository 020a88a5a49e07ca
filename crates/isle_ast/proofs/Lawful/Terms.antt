-- The relations of the definitions of terms keep the laws.
use Rattle.std.proofs.Common.{◌≡◌, ℕ, List, [], Bool, true, false, codes, map, refl, sym, ◌∙◌}
use Rattle.std.specs.Str.{bytes_eq}
use Rattle.isle_base_source.specs.declared.pos.Pos.{Pos}
use Rattle.isle_base.specs.Place.{Placed, unknown}
use Rattle.isle_base.specs.Token.{symbol}
use Rattle.isle_ast_names.specs.Tree.{Name}
use Rattle.isle_ast.specs.Tree.{Declaration, Conversion, Attribute, AttributeTarget, term_target, rule_target, AttributeKind, chain_kind, priority_kind, tag_kind, ExternDefinition, extern_extractor, extern_constructor, extern_const}
use Rattle.isle_ast_names.specs.Words.{SpellsWord, SpellsAll, InParentheses, BehindWord, SpellsName, SpellsFlag, demands, SpellsConstant}
use Rattle.isle_ast_names.specs.Erased.{erase_name, erase_names}
use Rattle.isle_ast.specs.Erased.{erase_declaration, erase_conversion, erase_target, erase_kind, erase_attribute, erase_extern}
use Rattle.isle_ast.specs.TermGrammar.{term_is_no_flag, SpellsDeclaration, SpellsConversion, SpellsAttributeKind, SpellsAttributeTarget, SpellsAttribute, SpellsExtern}
use Rattle.isle_ast_names.proofs.Lawful.{Lawful, Begins, Then, At, word_plain, flag_plain, then_plain, parentheses_plain, plain_lawful, value_lawful, name_lawful, constant_lawful, Pair, erase_pair, pair_of_names, pair_lawful, all_lawful, at_lawful, where_lawful, settled_lawful, made_lawful, parentheses_lawful, word_lawful, token_begins, name_begins}

names_lawful : (ns : List Name) → Lawful (SpellsAll SpellsName) erase_names ns
names_lawful ns = all_lawful SpellsName erase_name name_lawful ns

-- conversions

abbrev Converted : Pos × (Name × (Name × Name)) → List Placed → List Placed → Type 0
Converted p = At p.0 (Then (SpellsName p.1.0) (Pair p.1.1))

abbrev conversion : Pos × (Name × (Name × Name)) → Conversion
conversion p = record { term = p.1.1.1; inner_ty = p.1.0; outer_ty = p.1.1.0; pos = p.0 }

pub conversion_lawful : (c : Conversion) → Lawful SpellsConversion erase_conversion c
conversion_lawful c =
    made_lawful SpellsConversion erase_conversion Converted (λ p. (unknown, (erase_name p.1.0, erase_pair p.1.1))) conversion
    (λ y all rest h. record {
      position = h.0;
      behind_inner = h.1.0;
      inner_ty = h.1.1;
      behind_outer = h.1.2.0;
      outer_ty = h.1.2.1;
      term = h.1.2.2;
    })
    (λ y all rest h. (h.position, (h.behind_inner, h.inner_ty, (h.behind_outer, h.outer_ty, h.term))))
    (λ y. refl) (c.pos, (c.inner_ty, (c.outer_ty, c.term)))
    (λ y same. ((y.pos, (y.inner_ty, (y.outer_ty, y.term))), refl, λ i. (unknown, ((same i).inner_ty, ((same i).outer_ty, (same i).term)))))
    (at_lawful (λ p. Then (SpellsName p.0) (Pair p.1)) (λ p. (erase_name p.0, erase_pair p.1)) c.pos (c.inner_ty, (c.outer_ty, c.term))
    (λ all rest h. name_begins c.inner_ty all h.0 h.1)
    (pair_lawful SpellsName erase_name Pair erase_pair c.inner_ty (c.outer_ty, c.term) (name_lawful c.inner_ty) (pair_of_names c.outer_ty c.term)))

-- declarations

-- a flag, and a node
flagged : {A : Type 0} (word : List ℕ) (Spells : A → List Placed → List Placed → Type 0) (erase : A → A) (flag : Bool) (x : A) → Lawful Spells erase x →
    Lawful (λ (p : Bool × A). Then (SpellsFlag word p.0) (Spells p.1)) (λ p. (p.0, erase p.1)) (flag, x)
flagged word Spells erase flag x lawful =
    pair_lawful (SpellsFlag word) (λ b. b) Spells erase flag x (value_lawful (SpellsFlag word) flag (flag_plain word)) lawful

flag_ends : (word : List ℕ) (flag : Bool) (all rest : List Placed) → SpellsFlag word flag all rest → all ≡ [] → rest ≡ []
flag_ends word true all rest h e = let f = h.1 in cc
flag_ends word false all rest h e = sym h ∙ e

abbrev TermNode : Type 0
TermNode = Name × (List Name × Name)

abbrev Term : TermNode → List Placed → List Placed → Type 0
Term p = Then (SpellsName p.0) (Then (InParentheses (SpellsAll SpellsName p.1.0)) (SpellsName p.1.1))

abbrev FlagsNode : Type 0
FlagsNode = Bool × (Bool × (Bool × (Bool × TermNode)))

abbrev Flags : FlagsNode → List Placed → List Placed → Type 0
Flags p =
    Then (SpellsFlag (codes "pure") p.0) (Then (SpellsFlag (codes "multi") p.1.0)
    (Then (SpellsFlag (codes "partial") p.1.1.0) (Then (SpellsFlag (codes "rec") p.1.1.1.0) (Term p.1.1.1.1))))

abbrev erase_term : TermNode → TermNode
erase_term p = (erase_name p.0, (erase_names p.1.0, erase_name p.1.1))

abbrev erase_flags : FlagsNode → FlagsNode
erase_flags p = (p.0, (p.1.0, (p.1.1.0, (p.1.1.1.0, erase_term p.1.1.1.1))))

abbrev declaration : Pos × FlagsNode → Declaration
declaration p = record {
  term = p.1.1.1.1.1.0;
  arg_tys = p.1.1.1.1.1.1.0;
  ret_ty = p.1.1.1.1.1.1.1;
  pure = p.1.0;
  multi = p.1.1.0;
  partial = p.1.1.1.0;
  rec = p.1.1.1.1.0;
  pos = p.0;
}

abbrev flags_of : Declaration → FlagsNode
flags_of d = (d.pure, (d.multi, (d.partial, (d.rec, (d.term, (d.arg_tys, d.ret_ty))))))

flags_begin : (p : FlagsNode) → Begins (Flags p)
flags_begin p all rest h e =
    let behind_pure = flag_ends (codes "pure") p.0 all h.0 h.1 e in
    let behind_multi = flag_ends (codes "multi") p.1.0 h.0 h.2.0 h.2.1 behind_pure in
    let behind_partial = flag_ends (codes "partial") p.1.1.0 h.2.0 h.2.2.0 h.2.2.1 behind_multi in
    let behind_rec = flag_ends (codes "rec") p.1.1.1.0 h.2.2.0 h.2.2.2.0 h.2.2.2.1 behind_partial in
    name_begins p.1.1.1.1.0 h.2.2.2.0 h.2.2.2.2.0 h.2.2.2.2.1 behind_rec

term_lawful : (term : Name) (arg_tys : List Name) (ret_ty : Name) → Lawful Term erase_term (term, (arg_tys, ret_ty))
term_lawful term arg_tys ret_ty =
    pair_lawful SpellsName erase_name (λ p. Then (InParentheses (SpellsAll SpellsName p.0)) (SpellsName p.1)) (λ p. (erase_names p.0, erase_name p.1))
    term (arg_tys, ret_ty) (name_lawful term)
    (pair_lawful (λ ns. InParentheses (SpellsAll SpellsName ns)) erase_names SpellsName erase_name arg_tys ret_ty
    (parentheses_lawful (SpellsAll SpellsName) erase_names arg_tys (names_lawful arg_tys)) (name_lawful ret_ty))

flags_lawful : (d : Declaration) → Lawful Flags erase_flags (flags_of d)
flags_lawful d =
    let rec = flagged (codes "rec") Term erase_term d.rec (d.term, (d.arg_tys, d.ret_ty)) (term_lawful d.term d.arg_tys d.ret_ty) in
    let partial = flagged (codes "partial") _ _ d.partial _ rec in
    let multi = flagged (codes "multi") _ _ d.multi _ partial in
    flagged (codes "pure") _ _ d.pure _ multi

abbrev Declared : Pos × FlagsNode → List Placed → List Placed → Type 0
Declared p all rest = (term_is_no_flag (declaration p) ≡ true) × At p.0 (Flags p.1) all rest

pub declaration_lawful : (d : Declaration) → Lawful SpellsDeclaration erase_declaration d
declaration_lawful d =
    made_lawful SpellsDeclaration erase_declaration Declared (λ p. (unknown, erase_flags p.1)) declaration
    (λ y all rest h. record {
      term_is_no_flag = h.0;
      position = h.1.0;
      behind_pure = h.1.1.0;
      pure = h.1.1.1;
      behind_multi = h.1.1.2.0;
      multi = h.1.1.2.1;
      behind_partial = h.1.1.2.2.0;
      partial = h.1.1.2.2.1;
      behind_rec = h.1.1.2.2.2.0;
      rec = h.1.1.2.2.2.1;
      behind_term = h.1.1.2.2.2.2.0;
      term = h.1.1.2.2.2.2.1;
      behind_arg_tys = h.1.1.2.2.2.2.2.0;
      arg_tys = h.1.1.2.2.2.2.2.1;
      ret_ty = h.1.1.2.2.2.2.2.2;
    })
    (λ y all rest h. (
      h.term_is_no_flag,
      (
        h.position,
        (
          h.behind_pure,
          h.pure,
          (
            h.behind_multi,
            h.multi,
            (
              h.behind_partial,
              h.partial,
              (
                h.behind_rec,
                h.rec,
                (h.behind_term, h.term, (h.behind_arg_tys, h.arg_tys, h.ret_ty)),
              ),
            ),
          ),
        ),
      ),
    ))
    (λ y. refl) (d.pos, flags_of d)
    (λ y same. ((y.pos, flags_of y), refl, λ i. (unknown, flags_of (same i))))
    (where_lawful (λ p. term_is_no_flag (declaration p) ≡ true) (λ p. At p.0 (Flags p.1)) (λ p. (unknown, erase_flags p.1)) (d.pos, flags_of d)
    (λ y h. h) (λ y h. h)
    (at_lawful Flags erase_flags d.pos (flags_of d) (flags_begin (flags_of d)) (flags_lawful d)))

-- attributes

kind_is_chain : (y : AttributeKind) → chain_kind ≡ erase_kind y → chain_kind ≡ y
kind_is_chain chain_kind same = refl
kind_is_chain _ same = cc

kind_is_priority : (y : AttributeKind) → priority_kind ≡ erase_kind y → priority_kind ≡ y
kind_is_priority priority_kind same = refl
kind_is_priority _ same = cc

kind_is_tag : (n : Name) (y : AttributeKind) → tag_kind (erase_name n) ≡ erase_kind y → (z : Name) × (y ≡ tag_kind z) × (erase_name n ≡ erase_name z)
kind_is_tag n (tag_kind m) same = (m, refl, cc)
kind_is_tag n _ same = cc

kind_lawful : (kind : AttributeKind) → Lawful SpellsAttributeKind erase_kind kind
kind_lawful chain_kind =
    plain_lawful SpellsAttributeKind erase_kind chain_kind refl kind_is_chain
    (parentheses_plain (BehindWord (codes "veri") (SpellsWord (codes "chain")))
    (then_plain (SpellsWord (codes "veri")) (SpellsWord (codes "chain")) (word_plain (codes "veri")) (word_plain (codes "chain"))))
kind_lawful priority_kind =
    plain_lawful SpellsAttributeKind erase_kind priority_kind refl kind_is_priority
    (parentheses_plain (BehindWord (codes "veri") (SpellsWord (codes "priority")))
    (then_plain (SpellsWord (codes "veri")) (SpellsWord (codes "priority")) (word_plain (codes "veri")) (word_plain (codes "priority"))))
kind_lawful (tag_kind name) =
    made_lawful SpellsAttributeKind erase_kind (λ n. InParentheses (BehindWord (codes "tag") (SpellsName n))) erase_name tag_kind
    (λ y all rest h. h) (λ y all rest h. h) (λ y. refl) name (kind_is_tag name)
    (parentheses_lawful (λ n. BehindWord (codes "tag") (SpellsName n)) erase_name name
    (word_lawful (codes "tag") SpellsName erase_name name (name_lawful name)))

target_is_term : (n : Name) (y : AttributeTarget) → term_target (erase_name n) ≡ erase_target y → (z : Name) × (y ≡ term_target z) × (erase_name n ≡ erase_name z)
target_is_term n (term_target m) same = (m, refl, cc)
target_is_term n (rule_target m) same = cc

target_is_rule : (n : Name) (y : AttributeTarget) → rule_target (erase_name n) ≡ erase_target y → (z : Name) × (y ≡ rule_target z) × (erase_name n ≡ erase_name z)
target_is_rule n (rule_target m) same = (m, refl, cc)
target_is_rule n (term_target m) same = cc

target_lawful : (target : AttributeTarget) → Lawful SpellsAttributeTarget erase_target target
target_lawful (term_target name) =
    made_lawful SpellsAttributeTarget erase_target (λ n all rest. (bytes_eq n.text (codes "rule") ≡ false) × SpellsName n all rest) erase_name term_target
    (λ y all rest h. h) (λ y all rest h. h) (λ y. refl) name (target_is_term name)
    (where_lawful (λ n. bytes_eq n.text (codes "rule") ≡ false) SpellsName erase_name name (λ y h. h) (λ y h. h) (name_lawful name))
target_lawful (rule_target name) =
    made_lawful SpellsAttributeTarget erase_target (λ n. BehindWord (codes "rule") (SpellsName n)) erase_name rule_target
    (λ y all rest h. h) (λ y all rest h. h) (λ y. refl) name (target_is_rule name)
    (word_lawful (codes "rule") SpellsName erase_name name (name_lawful name))

target_begins : (target : AttributeTarget) → Begins (SpellsAttributeTarget target)
target_begins (term_target name) all rest h e = name_begins name all rest h.1 e
target_begins (rule_target name) all rest h e = token_begins (symbol (codes "rule")) all h.0 h.1 e

abbrev Attributed : Pos × (AttributeTarget × List AttributeKind) → List Placed → List Placed → Type 0
Attributed p = At p.0 (Then (SpellsAttributeTarget p.1.0) (SpellsAll SpellsAttributeKind p.1.1))

pub attribute_lawful : (a : Attribute) → Lawful SpellsAttribute erase_attribute a
attribute_lawful a =
    made_lawful SpellsAttribute erase_attribute Attributed (λ p. (unknown, (erase_target p.1.0, map erase_kind p.1.1)))
    (λ p. record { target = p.1.0; kinds = p.1.1; pos = p.0 })
    (λ y all rest h. record { position = h.0; behind_target = h.1.0; target = h.1.1; kinds = h.1.2 })
    (λ y all rest h. (h.position, (h.behind_target, h.target, h.kinds)))
    (λ y. refl) (a.pos, (a.target, a.kinds))
    (λ y same. ((y.pos, (y.target, y.kinds)), refl, λ i. (unknown, ((same i).target, (same i).kinds))))
    (at_lawful (λ p. Then (SpellsAttributeTarget p.0) (SpellsAll SpellsAttributeKind p.1)) (λ p. (erase_target p.0, map erase_kind p.1)) a.pos (a.target, a.kinds)
    (λ all rest h. target_begins a.target all h.0 h.1)
    (pair_lawful SpellsAttributeTarget erase_target (SpellsAll SpellsAttributeKind) (map erase_kind) a.target a.kinds
    (target_lawful a.target) (all_lawful SpellsAttributeKind erase_kind kind_lawful a.kinds)))

-- definitions outside

abbrev Extracted : Pos × (Bool × (Name × Name)) → List Placed → List Placed → Type 0
Extracted p all rest =
    (demands p.1.1.0.text (codes "infallible") p.1.0 ≡ true)
    × At p.0 (BehindWord (codes "extractor") (Then (SpellsFlag (codes "infallible") p.1.0) (Pair p.1.1))) all rest

abbrev extractor : Pos × (Bool × (Name × Name)) → ExternDefinition
extractor p = extern_extractor p.1.1.0 p.1.1.1 p.0 p.1.0

abbrev erase_extracted : Bool × (Name × Name) → Bool × (Name × Name)
erase_extracted p = (p.0, erase_pair p.1)

is_extractor : (term func : Name) (pos : Pos) (infallible : Bool) (y : ExternDefinition) →
    extern_extractor (erase_name term) (erase_name func) unknown infallible ≡ erase_extern y →
    (z : Pos × (Bool × (Name × Name))) × (y ≡ extractor z) × (◌≡◌ {A = Pos × (Bool × (Name × Name))} (unknown, (infallible, (erase_name term, erase_name func))) (unknown, erase_extracted z.1))
is_extractor term func pos infallible (extern_extractor t f p b) same =
    let terms : erase_name term ≡ erase_name t = cc in
    let funcs : erase_name func ≡ erase_name f = cc in
    let flags : infallible ≡ b = cc in
    ((p, (b, (t, f))), refl, λ i. (unknown, (flags i, (terms i, funcs i))))
is_extractor term func pos infallible _ same = cc

abbrev Constructed : Pos × (Name × Name) → List Placed → List Placed → Type 0
Constructed p = At p.0 (BehindWord (codes "constructor") (Pair p.1))

abbrev constructor_of : Pos × (Name × Name) → ExternDefinition
constructor_of p = extern_constructor p.1.0 p.1.1 p.0

is_constructor : (term func : Name) (y : ExternDefinition) →
    extern_constructor (erase_name term) (erase_name func) unknown ≡ erase_extern y →
    (z : Pos × (Name × Name)) × (y ≡ constructor_of z) × (◌≡◌ {A = Pos × (Name × Name)} (unknown, (erase_name term, erase_name func)) (unknown, erase_pair z.1))
is_constructor term func (extern_constructor t f p) same =
    let terms : erase_name term ≡ erase_name t = cc in
    let funcs : erase_name func ≡ erase_name f = cc in
    ((p, (t, f)), refl, λ i. (unknown, (terms i, funcs i)))
is_constructor term func _ same = cc

abbrev Constant : Name × Name → List Placed → List Placed → Type 0
Constant p = Then (SpellsConstant p.0) (SpellsName p.1)

abbrev ConstantOutside : Pos × (Name × Name) → List Placed → List Placed → Type 0
ConstantOutside p all rest = (p.0 ≡ p.1.0.pos) × BehindWord (codes "const") (Constant p.1) all rest

abbrev constant_of : Pos × (Name × Name) → ExternDefinition
constant_of p = extern_const p.1.0 p.1.1 p.0

is_a_constant : (name ty : Name) (y : ExternDefinition) →
    extern_const (erase_name name) (erase_name ty) unknown ≡ erase_extern y →
    (z : Pos × (Name × Name)) × (y ≡ constant_of z) × (◌≡◌ {A = Pos × (Name × Name)} (unknown, (erase_name name, erase_name ty)) (unknown, erase_pair z.1))
is_a_constant name ty (extern_const n t p) same =
    let names : erase_name name ≡ erase_name n = cc in
    let types : erase_name ty ≡ erase_name t = cc in
    ((p, (n, t)), refl, λ i. (unknown, (names i, types i)))
is_a_constant name ty _ same = cc

pub extern_lawful : (e : ExternDefinition) → Lawful SpellsExtern erase_extern e
extern_lawful (extern_extractor term func pos infallible) =
    made_lawful SpellsExtern erase_extern Extracted (λ p. (unknown, erase_extracted p.1)) extractor
    (λ y all rest h. (h.0, h.1.0, h.1.1)) (λ y all rest h. (h.0, (h.1, h.2))) (λ y. refl)
    (pos, (infallible, (term, func))) (is_extractor term func pos infallible)
    (where_lawful (λ p. demands p.1.1.0.text (codes "infallible") p.1.0 ≡ true)
    (λ p. At p.0 (BehindWord (codes "extractor") (Then (SpellsFlag (codes "infallible") p.1.0) (Pair p.1.1)))) (λ p. (unknown, erase_extracted p.1))
    (pos, (infallible, (term, func))) (λ y h. h) (λ y h. h)
    (at_lawful (λ p. BehindWord (codes "extractor") (Then (SpellsFlag (codes "infallible") p.0) (Pair p.1))) erase_extracted pos (infallible, (term, func))
    (λ all rest h. token_begins (symbol (codes "extractor")) all h.0 h.1)
    (word_lawful (codes "extractor") (λ p. Then (SpellsFlag (codes "infallible") p.0) (Pair p.1)) erase_extracted (infallible, (term, func))
    (flagged (codes "infallible") Pair erase_pair infallible (term, func) (pair_of_names term func)))))
extern_lawful (extern_constructor term func pos) =
    made_lawful SpellsExtern erase_extern Constructed (λ p. (unknown, erase_pair p.1)) constructor_of
    (λ y all rest h. h) (λ y all rest h. h) (λ y. refl)
    (pos, (term, func)) (is_constructor term func)
    (at_lawful (λ p. BehindWord (codes "constructor") (Pair p)) erase_pair pos (term, func)
    (λ all rest h. token_begins (symbol (codes "constructor")) all h.0 h.1)
    (word_lawful (codes "constructor") Pair erase_pair (term, func) (pair_of_names term func)))
extern_lawful (extern_const name ty pos) =
    made_lawful SpellsExtern erase_extern ConstantOutside (λ p. (unknown, erase_pair p.1)) constant_of
    (λ y all rest h. h) (λ y all rest h. h) (λ y. refl)
    (pos, (name, ty)) (is_a_constant name ty)
    (settled_lawful (λ p. p.0.pos) (λ p. unknown) (λ p. BehindWord (codes "const") (Constant p)) erase_pair pos (name, ty) (λ y. refl)
    (word_lawful (codes "const") Constant erase_pair (name, ty)
    (pair_lawful SpellsConstant erase_name SpellsName erase_name name ty (constant_lawful name) (name_lawful ty))))
