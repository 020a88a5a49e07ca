-- Attributes of terms and rules, and what is defined outside, are read as the grammar spells them.
use Rattle.std.proofs.Common.{◌≡◌, inl, inr, ℕ, ◌≤◌, ◌<◌, Bool, true, false, cond, List, length, Option, Some, None, refl, sym, subst, ◌∙◌, arith}
use Rattle.std.specs.Prelude.{codes}
use Rattle.std.specs.Str.{bytes_eq}
use Rattle.isle_base_source.specs.declared.pos.Pos.{Pos}
use Rattle.isle_base.specs.Place.{Placed}
use Rattle.isle_ast_names.specs.Tree.{Name}
use Rattle.isle_ast.specs.Tree.{AttributeTarget, term_target, rule_target, AttributeKind, chain_kind, priority_kind, tag_kind, Attribute, ExternDefinition, extern_extractor, extern_constructor, extern_const}
use Rattle.isle_ast_names.specs.Words.{SpellsWord, BeginsAt, SpellsAll, InParentheses, BehindWord, SpellsName, demands, SpellsConstant}
use Rattle.isle_ast.specs.TermGrammar.{SpellsAttributeKind, SpellsAttributeTarget, SpellsAttribute, SpellsPair, SpellsExtern}
use Rattle.isle_parser_cursor.specs.Reading.{◌>>=◌, is_ahead, is_symbol_of, at_rparen, flag, pos_ahead, text, many}
use Rattle.isle_parser_cursor.specs.NameReaders.{name}
use Rattle.isle_parser.specs.TermReaders.{veri_kind, kind_inside, kind, attribute, extern_constant, extern_etor, extern_definition}
use Rattle.isle_parser_rules.specs.ConstantReaders.{constant}
use Rattle.isle_parser_cursor.proofs.ReaderSteps.{nothing, made_of, word_is, word_read, word_ahead, word_at, word_shorter, flag_read, flag_absent, choice, CompleteClosed, list_sound, list_complete, enclosed_complete, position_of, name_at}
use Rattle.isle_parser_cursor.proofs.Flags.{ReadsFlag, flag_sound, flag_complete, name_ahead}
use Rattle.isle_parser.proofs.Flags.{flag_shorter, demand_met, demand_unset}
use Rattle.isle_parser_cursor.proofs.Names.{name_sound, name_read, name_begins}
use Rattle.isle_parser_cursor.proofs.Readers.{Sound, Complete, Begins, Shrinks, bind_some, chosen, chosen_some, done_is, moved, shrinks, list_shorter, parentheses_sound, parentheses_begin}
use Rattle.isle_parser_rules.proofs.Reading.Constants.{constant_sound, constant_complete}

-- ---- kinds of attributes

abbrev SpellsVeri : AttributeKind → List Placed → List Placed → Type 0
SpellsVeri chain_kind = SpellsWord (codes "chain")
SpellsVeri priority_kind = SpellsWord (codes "priority")
SpellsVeri (tag_kind n) = λ all rest. ⊥

abbrev SpellsKindInside : AttributeKind → List Placed → List Placed → Type 0
SpellsKindInside chain_kind = BehindWord (codes "veri") (SpellsWord (codes "chain"))
SpellsKindInside priority_kind = BehindWord (codes "veri") (SpellsWord (codes "priority"))
SpellsKindInside (tag_kind n) = BehindWord (codes "tag") (SpellsName n)

from_kind : (k : AttributeKind) (all rest : List Placed) → InParentheses (SpellsKindInside k) all rest → SpellsAttributeKind k all rest
from_kind chain_kind all rest h = h
from_kind priority_kind all rest h = h
from_kind (tag_kind n) all rest h = h

pub to_kind : (k : AttributeKind) (all rest : List Placed) → SpellsAttributeKind k all rest → InParentheses (SpellsKindInside k) all rest
to_kind chain_kind all rest h = h
to_kind priority_kind all rest h = h
to_kind (tag_kind n) all rest h = h

from_veri : (k : AttributeKind) (all inner rest : List Placed) → SpellsWord (codes "veri") all inner → SpellsVeri k inner rest → SpellsKindInside k all rest
from_veri chain_kind all inner rest w h = (inner, w, h)
from_veri priority_kind all inner rest w h = (inner, w, h)
from_veri (tag_kind n) all inner rest w h = absurd h

veri_sound : Sound SpellsVeri veri_kind
unfolding veri_kind
veri_sound all rest k e =
    let w = bind_some (text all) (λ w. cond (bytes_eq w.0 (codes "chain")) (Some (chain_kind, w.1)) (cond (bytes_eq w.0 (codes "priority")) (Some (priority_kind, w.1)) None)) (k, rest) e in
    elim (chosen (bytes_eq w.0.0 (codes "chain")) (Some (chain_kind, w.0.1)) (cond (bytes_eq w.0.0 (codes "priority")) (Some (priority_kind, w.0.1)) None) (Some (k, rest)) w.2) [
      | inl h ↦ moved SpellsVeri chain_kind k all w.0.1 rest (done_is chain_kind k w.0.1 rest h.1) (word_is w.1 h.0)
      | inr h ↦
          let c = chosen_some (bytes_eq w.0.0 (codes "priority")) (priority_kind, w.0.1) (k, rest) h.1 in
          moved SpellsVeri priority_kind k all w.0.1 rest (done_is priority_kind k w.0.1 rest c.1) (word_is w.1 c.0)
    ]

kind_inside_sound : Sound SpellsKindInside kind_inside
unfolding kind_inside
kind_inside_sound all rest k e =
    let w = bind_some (text all) (λ w. cond (bytes_eq w.0 (codes "veri")) (veri_kind w.1) (cond (bytes_eq w.0 (codes "tag")) (name w.1 >>= λ n. Some (tag_kind n.0, n.1)) None)) (k, rest) e in
    elim (chosen (bytes_eq w.0.0 (codes "veri")) (veri_kind w.0.1) (cond (bytes_eq w.0.0 (codes "tag")) (name w.0.1 >>= λ n. Some (tag_kind n.0, n.1)) None) (Some (k, rest)) w.2) [
      | inl h ↦ from_veri k all w.0.1 rest (word_is w.1 h.0) (veri_sound w.0.1 rest k h.1)
      | inr h ↦
          elim (chosen (bytes_eq w.0.0 (codes "tag")) (name w.0.1 >>= λ n. Some (tag_kind n.0, n.1)) None (Some (k, rest)) h.1) [
            | inl g ↦
                let n = made_of tag_kind g.1 in
                subst (λ (k : AttributeKind). SpellsKindInside k all rest) n.2 (w.0.1, word_is w.1 g.0, name_sound w.0.1 rest n.0 n.1)
            | inr g ↦ absurd (nothing g.1)
          ]
    ]

kind_inside_complete : CompleteClosed SpellsKindInside kind_inside
unfolding kind_inside veri_kind
kind_inside_complete chain_kind all rest closed h = rw (word_read h.1, word_read h.2) refl
kind_inside_complete priority_kind all rest closed h = rw (word_read h.1, word_read h.2) refl
kind_inside_complete (tag_kind n) all rest closed h = rw (word_read h.1, name_read n h.0 rest h.2) refl

kind_inside_shorter : (k : AttributeKind) (all rest : List Placed) → SpellsKindInside k all rest → length rest ≤ length all
kind_inside_shorter chain_kind all rest h = omega (arith, word_shorter (codes "veri") all h.0 h.1, word_shorter (codes "chain") h.0 rest h.2)
kind_inside_shorter priority_kind all rest h = omega (arith, word_shorter (codes "veri") all h.0 h.1, word_shorter (codes "priority") h.0 rest h.2)
kind_inside_shorter (tag_kind n) all rest h = omega (arith, word_shorter (codes "tag") all h.0 h.1, (name_begins n h.0 rest h.2).1)

pub kind_sound : Sound SpellsAttributeKind kind
unfolding kind
kind_sound all rest k e = from_kind k all rest (parentheses_sound SpellsKindInside kind_inside kind_inside_sound all rest k e)

pub kind_complete : Complete SpellsAttributeKind kind
unfolding kind
kind_complete k all rest goes h = enclosed_complete SpellsKindInside kind_inside kind_inside_complete k all rest (to_kind k all rest h)

pub kind_begins : Begins SpellsAttributeKind
kind_begins k all rest h = parentheses_begin (SpellsKindInside k) (kind_inside_shorter k) all rest (to_kind k all rest h)

pub kind_shrinks : Shrinks kind
kind_shrinks = shrinks SpellsAttributeKind kind kind_sound kind_begins

-- ---- attributes

-- a name after a flag that isn't set is another word
other_name : (word : List ℕ) (n : Name) (all inner rest : List Placed) → ReadsFlag word false all inner → SpellsName n inner rest → bytes_eq n.text word ≡ false
other_name word n all inner rest f h =
    let unset = f.unset refl in
    let here : SpellsName n all rest = subst (λ (i : List Placed). SpellsName n i rest) (sym unset.0) h in
    sym (name_ahead word n all rest here) ∙ unset.1

target_sound : (b : Bool) (n : Name) (all inner rest : List Placed) → ReadsFlag (codes "rule") b all inner → SpellsName n inner rest → SpellsAttributeTarget (cond b (rule_target n) (term_target n)) all rest
target_sound true n all inner rest f h = (inner, f.spelt, h)
target_sound false n all inner rest f h =
    (other_name (codes "rule") n all inner rest f h, subst (λ (i : List Placed). SpellsName n i rest) (sym (f.unset refl).0) h)

target_at : (t : AttributeTarget) (all rest : List Placed) → SpellsAttributeTarget t all rest → BeginsAt (pos_ahead all) all
target_at (term_target n) all rest h = name_at n all rest h.1
target_at (rule_target n) all rest h = word_at h.1

abbrev made : Bool → Name → List AttributeKind → Pos → Attribute
made b n ks place = record { target = cond b (rule_target n) (term_target n); kinds = ks; pos = place }

pub attribute_sound : Sound SpellsAttribute attribute
unfolding attribute
attribute_sound all rest a e =
    let w = bind_some (flag (codes "rule") all) (λ w. name w.1 >>= λ n. many at_rparen kind n.1 >>= λ ks. Some (made w.0 n.0 ks.0 (pos_ahead all), ks.1)) (a, rest) e in
    let n = bind_some (name w.0.1) (λ n. many at_rparen kind n.1 >>= λ ks. Some (made w.0.0 n.0 ks.0 (pos_ahead all), ks.1)) (a, rest) w.2 in
    let ks = bind_some (many at_rparen kind n.0.1) (λ ks. Some (made w.0.0 n.0.0 ks.0 (pos_ahead all), ks.1)) (a, rest) n.2 in
    let node : Attribute = made w.0.0 n.0.0 ks.0.0 (pos_ahead all) in
    let is = done_is node a ks.0.1 rest ks.2 in
    let target = target_sound w.0.0 n.0.0 all w.0.1 n.0.1 (flag_sound (codes "rule") all w.0.1 w.0.0 w.1) (name_sound w.0.1 n.0.1 n.0.0 n.1) in
    let list = list_sound SpellsAttributeKind kind kind_sound n.0.1 ks.0.1 ks.0.0 ks.1 in
    let whole : SpellsAttribute node all ks.0.1 = record { position = target_at _ all n.0.1 target; behind_target = n.0.1; target = target; kinds = list } in
    moved SpellsAttribute node a all ks.0.1 rest is whole

target_complete : (t : AttributeTarget) (ks : List AttributeKind) (place : Pos) (all behind rest : List Placed) → at_rparen rest ≡ true → BeginsAt place all → SpellsAttributeTarget t all behind
    → SpellsAll SpellsAttributeKind ks behind rest → attribute all ≡ Some (record { target = t; kinds = ks; pos = place }, rest)
unfolding attribute
target_complete (term_target n) ks place all behind rest closed p h list =
    let absent : is_ahead (is_symbol_of (codes "rule")) all ≡ false = name_ahead (codes "rule") n all behind h.1 ∙ h.0 in
    rw (flag_absent (codes "rule") all absent, name_read n all behind h.1, list_complete SpellsAttributeKind kind kind_complete kind_begins ks behind rest closed list, position_of p) refl
target_complete (rule_target n) ks place all behind rest closed p h list =
    rw (flag_read (codes "rule") all h.0 h.1, name_read n h.0 behind h.2, list_complete SpellsAttributeKind kind kind_complete kind_begins ks behind rest closed list, position_of p) refl

pub attribute_complete : CompleteClosed SpellsAttribute attribute
attribute_complete a all rest closed h = target_complete a.target a.kinds a.pos all h.behind_target rest closed h.position h.target h.kinds

target_shorter : (t : AttributeTarget) (all rest : List Placed) → SpellsAttributeTarget t all rest → length rest ≤ length all
target_shorter (term_target n) all rest h = omega (arith, (name_begins n all rest h.1).1)
target_shorter (rule_target n) all rest h = omega (arith, word_shorter (codes "rule") all h.0 h.1, (name_begins n h.0 rest h.2).1)

pub attribute_shorter : (a : Attribute) (all rest : List Placed) → SpellsAttribute a all rest → length rest ≤ length all
attribute_shorter a all rest h = omega (arith, target_shorter a.target all h.behind_target h.target, list_shorter SpellsAttributeKind kind_begins a.kinds h.behind_target rest h.kinds)

constant_pos : (n : Name) (all rest : List Placed) → SpellsConstant n all rest → pos_ahead all ≡ n.pos
constant_pos n all rest h = rw h.1 refl

constant_shorter : (n : Name) (all rest : List Placed) → SpellsConstant n all rest → length rest < length all
constant_shorter n all rest h = rw h.1 (omega arith)

-- ---- extern

extern_constant_sound : Sound SpellsExtern extern_constant
unfolding extern_constant
extern_constant_sound all rest x e =
    elim (choice (codes "const") (λ i. constant i >>= λ n. name n.1 >>= λ ty. Some (extern_const n.0 ty.0 (pos_ahead i), ty.1)) (λ i. None) all e) [
      | inl h ↦
          let n = bind_some (constant h.0) (λ n. name n.1 >>= λ ty. Some (extern_const n.0 ty.0 (pos_ahead h.0), ty.1)) (x, rest) h.2 in
          let ty = made_of (λ (ty : Name). extern_const n.0.0 ty (pos_ahead h.0)) n.2 in
          let spelt = constant_sound h.0 n.0.1 n.0.0 n.1 in
          let place : pos_ahead h.0 ≡ n.0.0.pos = constant_pos n.0.0 h.0 n.0.1 spelt in
          subst (λ (x : ExternDefinition). SpellsExtern x all rest) ty.2 (place, (h.0, h.1, (n.0.1, spelt, name_sound n.0.1 rest ty.0 ty.1)))
      | inr h ↦ absurd (nothing h.1)
    ]

infallible_demands : (b : Bool) (term : Name) (all inner rest : List Placed) → ReadsFlag (codes "infallible") b all inner → SpellsName term inner rest → demands term.text (codes "infallible") b ≡ true
infallible_demands true term all inner rest f h = demand_met term.text (codes "infallible") true (λ e. absurd cc)
infallible_demands false term all inner rest f h = demand_met term.text (codes "infallible") false (λ e. other_name (codes "infallible") term all inner rest f h)

abbrev as_extractor : Pos → Bool × List Placed → Option (ExternDefinition × List Placed)
as_extractor place i = name i.1 >>= λ term. name term.1 >>= λ func. Some (extern_extractor term.0 func.0 place i.0, func.1)

extern_etor_sound : (place : Pos) (all rest : List Placed) (x : ExternDefinition) → place ≡ pos_ahead all → extern_etor place all ≡ Some (x, rest) → SpellsExtern x all rest
unfolding extern_etor
extern_etor_sound place all rest x is e =
    elim (choice (codes "extractor") (λ i. flag (codes "infallible") i >>= as_extractor place) extern_constant all e) [
      | inl h ↦
          let i = bind_some (flag (codes "infallible") h.0) (as_extractor place) (x, rest) h.2 in
          let term = bind_some (name i.0.1) (λ term. name term.1 >>= λ func. Some (extern_extractor term.0 func.0 place i.0.0, func.1)) (x, rest) i.2 in
          let func = made_of (λ (func : Name). extern_extractor term.0.0 func place i.0.0) term.2 in
          let read = flag_sound (codes "infallible") h.0 i.0.1 i.0.0 i.1 in
          let spelt = name_sound i.0.1 term.0.1 term.0.0 term.1 in
          let at : BeginsAt place all = subst (λ (p : Pos). BeginsAt p all) (sym is) (word_at h.1) in
          subst (λ (x : ExternDefinition). SpellsExtern x all rest) func.2
          (infallible_demands i.0.0 term.0.0 h.0 i.0.1 term.0.1 read spelt, at, (h.0, h.1, (i.0.1, read.spelt, (term.0.1, spelt, name_sound term.0.1 rest func.0 func.1))))
      | inr h ↦ extern_constant_sound all rest x h.1
    ]

pub extern_sound : Sound SpellsExtern extern_definition
unfolding extern_definition
extern_sound all rest x e =
    elim (choice (codes "constructor") (λ i. name i >>= λ term. name term.1 >>= λ func. Some (extern_constructor term.0 func.0 (pos_ahead all), func.1)) (extern_etor (pos_ahead all)) all e) [
      | inl h ↦
          let term = bind_some (name h.0) (λ term. name term.1 >>= λ func. Some (extern_constructor term.0 func.0 (pos_ahead all), func.1)) (x, rest) h.2 in
          let func = made_of (λ (func : Name). extern_constructor term.0.0 func (pos_ahead all)) term.2 in
          subst (λ (x : ExternDefinition). SpellsExtern x all rest) func.2
          (word_at h.1, (h.0, h.1, (term.0.1, name_sound h.0 term.0.1 term.0.0 term.1, name_sound term.0.1 rest func.0 func.1)))
      | inr h ↦ extern_etor_sound (pos_ahead all) all rest x refl h.1
    ]

pub extern_complete : (x : ExternDefinition) (all rest : List Placed) → SpellsExtern x all rest → extern_definition all ≡ Some (x, rest)
unfolding extern_definition extern_etor extern_constant
extern_complete (extern_extractor term func pos b) all rest h =
    let w = h.2 in
    let body = w.2 in
    let pair = body.2 in
    let unset : b ≡ false → is_ahead (is_symbol_of (codes "infallible")) body.0 ≡ false = λ e. name_ahead (codes "infallible") term body.0 pair.0 pair.1 ∙ demand_unset term.text (codes "infallible") b h.0 e in
    let i = flag_complete (codes "infallible") b w.0 body.0 unset body.1 in
    rw (flag_absent (codes "constructor") all (word_ahead w.1 (codes "constructor")), flag_read (codes "extractor") all w.0 w.1, i, name_read term body.0 pair.0 pair.1, name_read func pair.0 rest pair.2, position_of h.1) refl
extern_complete (extern_constructor term func pos) all rest h =
    let w = h.1 in
    let pair = w.2 in
    rw (flag_read (codes "constructor") all w.0 w.1, name_read term w.0 pair.0 pair.1, name_read func pair.0 rest pair.2, position_of h.0) refl
extern_complete (extern_const n ty pos) all rest h =
    let w = h.1 in
    let body = w.2 in
    let place : pos_ahead w.0 ≡ pos = constant_pos n w.0 body.0 body.1 ∙ sym h.0 in
    rw (
      flag_absent (codes "constructor") all (word_ahead w.1 (codes "constructor")),
      flag_absent (codes "extractor") all (word_ahead w.1 (codes "extractor")),
      flag_read (codes "const") all w.0 w.1,
      constant_complete n w.0 body.0 body.1,
      name_read ty body.0 rest body.2,
      place,
    ) refl

pair_shorter : (first second : Name) (all rest : List Placed) → SpellsPair first second all rest → length rest < length all
pair_shorter first second all rest h = omega (arith, (name_begins first all h.0 h.1).1, (name_begins second h.0 rest h.2).1)

pub extern_shorter : (x : ExternDefinition) (all rest : List Placed) → SpellsExtern x all rest → length rest ≤ length all
extern_shorter (extern_extractor term func pos b) all rest h =
    let w = h.2 in
    let body = w.2 in
    omega (arith, word_shorter (codes "extractor") all w.0 w.1, flag_shorter (codes "infallible") b w.0 body.0 body.1, pair_shorter term func body.0 rest body.2)
extern_shorter (extern_constructor term func pos) all rest h =
    let w = h.1 in
    omega (arith, word_shorter (codes "constructor") all w.0 w.1, pair_shorter term func w.0 rest w.2)
extern_shorter (extern_const n ty pos) all rest h =
    let w = h.1 in
    let body = w.2 in
    omega (arith, word_shorter (codes "const") all w.0 w.1, constant_shorter n w.0 body.0 body.1, (name_begins ty body.0 rest body.2).1)
