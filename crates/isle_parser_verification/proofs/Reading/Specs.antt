-- Spec expressions are read as the grammar spells them.
use Rattle.std.proofs.Common.{◌≡◌, inl, inr, ℕ, zero, suc, ◌<◌, true, false, cond, List, ◌∷◌, length, Option, Some, None, refl, sym, ap, subst, ◌∙◌, arith}
use Rattle.std.specs.Prelude.{ℤ, codes}
use Rattle.isle_base_source.specs.declared.pos.Pos.{Pos}
use Rattle.isle_base.specs.Place.{Placed}
use Rattle.isle_base.specs.Token.{symbol, is_int, is_symbol}
use Rattle.isle_ast_verification.specs.Operators.{operator_text, is_operator_text}
use Rattle.isle_ast_verification.specs.TreeView.{SingleArm, SingleFieldInit, spec_list_of, arm_list_of, field_init_list_of, spec_let_list_of}
use Rattle.isle_ast_names.specs.Tree.{Name}
use Rattle.isle_ast_verification.specs.Tree.{TypeModel, SpecNode, int_spec, bit_vector_spec, bool_spec, var_spec, as_spec, field_spec, discriminator_spec, op_spec, match_spec, let_spec, with_spec}
use Rattle.isle_ast_verification.specs.Tree.{macro_spec, expand_spec, pair_spec, enum_spec, struct_spec, SpecList, no_spec, more_spec, ArmList, SpecLetList, FieldInitList}
use Rattle.isle_ast_names.specs.Words.{SpellsWord, BeginsAt, SpellsAll, InParentheses, bool_word}
use Rattle.isle_ast_verification.specs.SpecGrammar.{AreVariant, SpellsSpec, SpellsSpecs, SpellsCases, SpellsPairs, SpellsArms, SpellsSpecLets, SpellsFieldInits, dotted, discriminator_mark, expansion_mark, field_mark}
use Rattle.isle_parser_cursor.specs.Reading.{Reader, ◌>>=◌, is_ahead, is_lparen, at_rparen, pos_ahead, in_parentheses, many}
use Rattle.isle_parser_cursor.specs.NameReaders.{names, head_inside}
use Rattle.isle_parser_cursor.specs.NumberReaders.{integer_within}
use Rattle.isle_parser_verification.specs.SpecReaders.{spec_pair_inside, spec_pair, arm_inside, arm, spec_let_inside, spec_let, spec_lets, field_init_inside, field_init, behind_spec_head, spec_inside}
use Rattle.isle_parser_verification.specs.SpecReaders.{spec_word, spec_layer, spec_within, spec_expression}
use Rattle.isle_parser_verification.specs.SpecWords.{SpecHead, switch_head, let_head, with_head, match_head, struct_head, macro_head, as_head, discriminator_head, expansion_head, operator_head, field_head, variant_head, IsHead, word_of}
use Rattle.isle_parser_cursor.proofs.ReaderSteps.{bound, both, nothing, made_of, list_sound, position_of, begins_here, name_at, opened_at}
use Rattle.isle_parser_cursor.proofs.Names.{SpellsNames, SpellsText, text_sound, text_complete, name_sound, name_read, name_begins, names_sound, names_complete}
use Rattle.isle_parser_verification.proofs.Reading.Models.{model_type_sound, model_type_complete}
use Rattle.isle_parser_cursor.proofs.Reading.Numbers.{signed_sound, signed_complete, signed_begins}
use Rattle.isle_parser_cursor.proofs.Reading.Heads.{SpellsHead, head_sound, head_complete, head_begins}
use Rattle.isle_parser_cursor.proofs.Readers.{Sound, chosen, begins_goes, moved, many_complete, stopping_closes, parentheses_sound, parentheses_complete, parentheses_begin}
use Rattle.isle_parser_verification.proofs.Reading.Begins.{names_begin, spec_begins, spec_lets_shorter, pair_begins, arm_begins, spec_let_begins, field_init_begins}
use Rattle.isle_parser_verification.proofs.Reading.Inside.{SpellsInside, from_inside, to_inside}
use Rattle.isle_parser_verification.proofs.Reading.Lists.{listed, list_listed, specs_spelt, specs_listed, SpellsPairInside, SpellsPair, pairs_spelt, pairs_listed, SpellsArmInside, SpellsArm}
use Rattle.isle_parser_verification.proofs.Reading.Lists.{listed_arms, arms_list, arms_spelt, arms_listed, SpellsSpecLetInside, SpellsSpecLet, listed_lets, lets_list, lets_spelt, lets_listed}
use Rattle.isle_parser_verification.proofs.Reading.Lists.{SpellsFieldInitInside, SpellsFieldInit, listed_fields, fields_list, fields_spelt, fields_listed}
use Rattle.isle_parser_verification.proofs.Words.Specs.{head_is, is_head, word_is, bit_vector_word, bool_word_is, variable_word}
use Rattle.isle_ast_verification.specs.declared.spec.SpecOp.TheVariants as op

-- ---- what is read of the parts is spelt

pair_inside_sound : (read : Reader SpecNode) → Sound SpellsSpec read → Sound SpellsPairInside (spec_pair_inside read)
unfolding spec_pair_inside
pair_inside_sound read sound all rest x e =
    let l = bound e in
    let r = bound l.2 in
    let spelt = sound all l.0.1 l.0.0 l.1 in
    moved SpellsPairInside (pair_spec l.0.0 r.0.0 (pos_ahead all)) x all r.0.1 rest (both r.2) (begins_here all (spec_begins l.0.0 all l.0.1 spelt).0, l.0.1, spelt, sound l.0.1 r.0.1 r.0.0 r.1)

pub pair_sound : (read : Reader SpecNode) → Sound SpellsSpec read → Sound SpellsPair (spec_pair read)
unfolding spec_pair
pair_sound read sound = parentheses_sound SpellsPairInside (spec_pair_inside read) (pair_inside_sound read sound)

arm_inside_sound : (read : Reader SpecNode) → Sound SpellsSpec read → Sound SpellsArmInside (arm_inside read)
unfolding arm_inside
arm_inside_sound read sound all rest a e =
    let head = bound e in
    let body = bound head.2 in
    let made : SingleArm = record { variant = head.0.0.0; args = head.0.0.1; body = body.0.0; pos = pos_ahead all } in
    let front = parentheses_sound SpellsHead head_inside head_sound all head.0.1 head.0.0 head.1 in
    moved SpellsArmInside made a all body.0.1 rest (both body.2) (opened_at (SpellsHead head.0.0) all head.0.1 front, head.0.1, front, sound head.0.1 body.0.1 body.0.0 body.1)

pub arm_sound : (read : Reader SpecNode) → Sound SpellsSpec read → Sound SpellsArm (arm read)
unfolding arm
arm_sound read sound = parentheses_sound SpellsArmInside (arm_inside read) (arm_inside_sound read sound)

let_inside_sound : (read : Reader SpecNode) → Sound SpellsSpec read → Sound SpellsSpecLetInside (spec_let_inside read)
unfolding spec_let_inside
let_inside_sound read sound all rest d e =
    let n = bound e in
    let x = bound n.2 in
    moved SpellsSpecLetInside (n.0.0, x.0.0) d all x.0.1 rest (both x.2) (n.0.1, name_sound all n.0.1 n.0.0 n.1, sound n.0.1 x.0.1 x.0.0 x.1)

pub let_sound : (read : Reader SpecNode) → Sound SpellsSpec read → Sound SpellsSpecLet (spec_let read)
unfolding spec_let
let_sound read sound = parentheses_sound SpellsSpecLetInside (spec_let_inside read) (let_inside_sound read sound)

lets_sound : (read : Reader SpecNode) → Sound SpellsSpec read → (all rest : List Placed) (ds : List (Name × SpecNode)) → spec_lets read all ≡ Some (ds, rest) → InParentheses (SpellsSpecLets (spec_let_list_of ds)) all rest
unfolding spec_lets
lets_sound read sound all rest ds e =
    let h = parentheses_sound (SpellsAll SpellsSpecLet) (many at_rparen (spec_let read)) (list_sound SpellsSpecLet (spec_let read) (let_sound read sound)) all rest ds e in
    (h.0, h.1, h.2, lets_spelt ds h.0 h.1 h.3, h.4)

field_inside_sound : (read : Reader SpecNode) → Sound SpellsSpec read → Sound SpellsFieldInitInside (field_init_inside read)
unfolding field_init_inside
field_inside_sound read sound all rest f e =
    let n = bound e in
    let x = bound n.2 in
    let made : SingleFieldInit = record { name = n.0.0; value = x.0.0; pos = pos_ahead all } in
    let spelt = name_sound all n.0.1 n.0.0 n.1 in
    moved SpellsFieldInitInside made f all x.0.1 rest (both x.2) (name_at n.0.0 all n.0.1 spelt, n.0.1, spelt, sound n.0.1 x.0.1 x.0.0 x.1)

pub field_sound : (read : Reader SpecNode) → Sound SpellsSpec read → Sound SpellsFieldInit (field_init read)
unfolding field_init
field_sound read sound = parentheses_sound SpellsFieldInitInside (field_init_inside read) (field_inside_sound read sound)

-- ---- what is read after a head is spelt

same_text : {text word : List ℕ} {all inner : List Placed} → SpellsText text all inner → text ≡ word → SpellsText word all inner
same_text {all = all} {inner = inner} t is = t ∙ ap (λ (w : List ℕ). record { pos = pos_ahead all; token = symbol w } ∷ inner) is

worded : {text word : List ℕ} {all inner : List Placed} → SpellsText text all inner → text ≡ word → SpellsWord word all inner
worded {all = all} t is = (pos_ahead all, same_text t is)

specs_sound : (read : Reader SpecNode) → Sound SpellsSpec read → (all rest : List Placed) (xs : List SpecNode) → many at_rparen read all ≡ Some (xs, rest) → SpellsSpecs (spec_list_of xs) all rest
specs_sound read sound all rest xs e = specs_spelt xs all rest (list_sound SpellsSpec read sound all rest xs e)

behind_sound : (start : Pos) (read : Reader SpecNode) → Sound SpellsSpec read → (head : SpecHead) (text : List ℕ) (all inner rest : List Placed) (x : SpecNode) → SpellsText text all inner
    → IsHead head text → behind_spec_head read start (pos_ahead all) head inner ≡ Some (x, rest) → SpellsInside start x all rest
unfolding behind_spec_head
behind_sound start read sound switch_head text all inner rest x t h e =
    let one = bound e in
    let ps = made_of (λ (ps : List SpecNode). op_spec op.Switch (spec_list_of (one.0.0 ∷ ps)) start) one.2 in
    let list = pairs_spelt ps.0 one.0.1 rest (list_sound SpellsPair (spec_pair read) (pair_sound read sound) one.0.1 rest ps.0 ps.1) in
    subst (λ (x : SpecNode). SpellsInside start x all rest) ps.2 (refl, (inner, worded t h, inr (refl, (one.0.1, sound inner one.0.1 one.0.0 one.1, list))))
behind_sound start read sound let_head text all inner rest x t h e =
    let ds = bound e in
    let body = made_of (λ (body : SpecNode). let_spec (spec_let_list_of ds.0.0) body start) ds.2 in
    subst (λ (x : SpecNode). SpellsInside start x all rest) body.2 (refl, (inner, worded t h, (ds.0.1, lets_sound read sound inner ds.0.1 ds.0.0 ds.1, sound ds.0.1 rest body.0 body.1)))
behind_sound start read sound with_head text all inner rest x t h e =
    let ns = bound e in
    let body = made_of (λ (body : SpecNode). with_spec ns.0.0 body start) ns.2 in
    subst (λ (x : SpecNode). SpellsInside start x all rest) body.2 (refl, (inner, worded t h, (ns.0.1, names_sound inner ns.0.1 ns.0.0 ns.1, sound ns.0.1 rest body.0 body.1)))
behind_sound start read sound match_head text all inner rest x t h e =
    let one = bound e in
    let arms = made_of (λ (arms : List SingleArm). match_spec one.0.0 (arm_list_of arms) start) one.2 in
    let list = arms_spelt arms.0 one.0.1 rest (list_sound SpellsArm (arm read) (arm_sound read sound) one.0.1 rest arms.0 arms.1) in
    subst (λ (x : SpecNode). SpellsInside start x all rest) arms.2 (refl, (inner, worded t h, (one.0.1, sound inner one.0.1 one.0.0 one.1, list)))
behind_sound start read sound struct_head text all inner rest x t h e =
    let fs = made_of (λ (fs : List SingleFieldInit). struct_spec (field_init_list_of fs) start) e in
    let list = fields_spelt fs.0 inner rest (list_sound SpellsFieldInit (field_init read) (field_sound read sound) inner rest fs.0 fs.1) in
    subst (λ (x : SpecNode). SpellsInside start x all rest) fs.2 (refl, (inner, worded t h, list))
behind_sound start read sound macro_head text all inner rest x t h e =
    let ns = bound e in
    let body = made_of (λ (body : SpecNode). macro_spec ns.0.0 body start) ns.2 in
    subst (λ (x : SpecNode). SpellsInside start x all rest) body.2 (refl, (inner, worded t h, (ns.0.1, names_sound inner ns.0.1 ns.0.0 ns.1, sound ns.0.1 rest body.0 body.1)))
behind_sound start read sound as_head text all inner rest x t h e =
    let one = bound e in
    let ty = made_of (λ (ty : TypeModel). as_spec one.0.0 ty start) one.2 in
    subst (λ (x : SpecNode). SpellsInside start x all rest) ty.2 (refl, (inner, worded t h, (one.0.1, sound inner one.0.1 one.0.0 one.1, model_type_sound one.0.1 rest ty.0 ty.1)))
behind_sound start read sound (discriminator_head variant) text all inner rest x t h e =
    let name : Name = record { text = variant; pos = pos_ahead all } in
    let one = made_of (λ (x : SpecNode). discriminator_spec name x start) e in
    subst (λ (x : SpecNode). SpellsInside start x all rest) one.2 (refl, inner, (h.0, same_text t h.1), sound inner rest one.0 one.1)
behind_sound start read sound (expansion_head macro) text all inner rest x t h e =
    let name : Name = record { text = macro; pos = pos_ahead all } in
    let xs = made_of (λ (xs : List SpecNode). expand_spec name (spec_list_of xs) start) e in
    subst (λ (x : SpecNode). SpellsInside start x all rest) xs.2 (refl, inner, (h.0, same_text t h.1), specs_sound read sound inner rest xs.0 xs.1)
behind_sound start read sound (operator_head operator) text all inner rest x t h e =
    let xs = made_of (λ (xs : List SpecNode). op_spec operator (spec_list_of xs) start) e in
    subst (λ (x : SpecNode). SpellsInside start x all rest) xs.2 (refl, (inner, worded t h.1, inl (h.0, specs_sound read sound inner rest xs.0 xs.1)))
behind_sound start read sound (field_head field) text all inner rest x t h e =
    let name : Name = record { text = field; pos = pos_ahead all } in
    let one = made_of (λ (x : SpecNode). field_spec name x start) e in
    subst (λ (x : SpecNode). SpellsInside start x all rest) one.2 (refl, inner, (h.0, same_text t h.1), sound inner rest one.0 one.1)
behind_sound start read sound (variant_head enum case) text all inner rest x t h e =
    let name : Name = record { text = enum; pos = start } in
    let variant : Name = record { text = case; pos = start } in
    let xs = made_of (λ (xs : List SpecNode). enum_spec name variant (spec_list_of xs) start) e in
    let names : AreVariant name variant start =
    record {
      name = h.0;
      variant = h.1;
      no_dot = h.2;
      no_operator = sym (ap is_operator_text h.4) ∙ h.3;
      name_position = refl;
      variant_position = refl;
    } in
    subst (λ (x : SpecNode). SpellsInside start x all rest) xs.2 (refl, names, (inner, worded t h.4, specs_sound read sound inner rest xs.0 xs.1))

inside_sound : (start : Pos) (read : Reader SpecNode) → Sound SpellsSpec read → Sound (SpellsInside start) (spec_inside start read)
unfolding spec_inside
inside_sound start read sound all rest x e =
    let word = bound e in
    let head = bound word.2 in
    behind_sound start read sound head.0 word.0.0 all word.0.1 rest x (text_sound all word.0.1 word.0.0 word.1) (head_is word.0.0 head.0 head.1) head.2

word_sound : Sound SpellsSpec spec_word
unfolding spec_word
word_sound all rest x e =
    let word = bound e in
    let node = bound word.2 in
    let here : SpellsSpec node.0 (record { pos = pos_ahead all; token = symbol word.0.0 } ∷ word.0.1) word.0.1 = word_is (pos_ahead all) word.0.0 node.0 word.0.1 node.1 in
    let there = subst (λ (i : List Placed). SpellsSpec node.0 i word.0.1) (sym (text_sound all word.0.1 word.0.0 word.1)) here in
    moved SpellsSpec node.0 x all word.0.1 rest (both node.2) there

step_sound : (read : Reader SpecNode) → Sound SpellsSpec read → Sound SpellsSpec (spec_layer read)
unfolding spec_layer
step_sound read sound all rest x e =
    elim (chosen (is_ahead is_lparen all) (in_parentheses (spec_inside (pos_ahead all) read) all)
    (cond (is_ahead is_symbol all) (spec_word all) (cond (is_ahead is_int all) (integer_within 127 all >>= λ n. Some (int_spec n.0 (pos_ahead all), n.1)) None)) (Some (x, rest)) e) [
      | inl h ↦ from_inside x all rest (parentheses_sound (SpellsInside (pos_ahead all)) (spec_inside (pos_ahead all) read) (inside_sound (pos_ahead all) read sound) all rest x h.1)
      | inr h ↦
          elim (chosen (is_ahead is_symbol all) (spec_word all) (cond (is_ahead is_int all) (integer_within 127 all >>= λ n. Some (int_spec n.0 (pos_ahead all), n.1)) None) (Some (x, rest)) h.1) [
            | inl g ↦ word_sound all rest x g.1
            | inr g ↦
                elim (chosen (is_ahead is_int all) (integer_within 127 all >>= λ n. Some (int_spec n.0 (pos_ahead all), n.1)) None (Some (x, rest)) g.1) [
                  | inl f ↦
                      let n = made_of (λ (n : ℤ). int_spec n (pos_ahead all)) f.1 in
                      let spelt = signed_sound 127 all rest n.0 n.1 in
                      subst (λ (x : SpecNode). SpellsSpec x all rest) n.2 (begins_here all (signed_begins 127 n.0 all rest spelt).0, spelt)
                  | inr f ↦ absurd (nothing f.1)
                ]
          ]
    ]

-- ---- what is spelt is read

-- complete on expressions of fewer tokens than this
abbrev Fits : ℕ → Reader SpecNode → Type 0
Fits n read = (x : SpecNode) (all rest : List Placed) → length all < n → SpellsSpec x all rest → read all ≡ Some (x, rest)

specs_complete : (n : ℕ) (read : Reader SpecNode) → Fits n read → (xs : SpecList) (all rest : List Placed) → length all < n → at_rparen rest ≡ true → SpellsSpecs xs all rest → many at_rparen read all ≡ Some (listed xs, rest)
specs_complete n read fits xs all rest below closed h =
    many_complete SpellsSpec read at_rparen n (λ x i j lt goes. fits x i j lt) spec_begins stopping_closes (listed xs) all rest below (specs_listed xs all rest h) closed

pair_inside_complete : (n : ℕ) (read : Reader SpecNode) → Fits n read → (x : SpecNode) (all rest : List Placed) → length all < n → SpellsPairInside x all rest → spec_pair_inside read all ≡ Some (x, rest)
unfolding spec_pair_inside
pair_inside_complete n read fits (pair_spec l r pos) all rest below h =
    let shorter : length h.1 < length all = (spec_begins l all h.1 h.2).1 in
    rw (fits l all h.1 below h.2, fits r h.1 rest (omega arith) h.3, position_of h.0) refl
pair_inside_complete n read fits _ all rest below h = absurd h

pairs_complete : (n : ℕ) (read : Reader SpecNode) → Fits n read → (xs : SpecList) (all rest : List Placed) → length all < n → at_rparen rest ≡ true → SpellsPairs xs all rest → many at_rparen (spec_pair read) all ≡ Some (listed xs, rest)
unfolding spec_pair
pairs_complete n read fits xs all rest below closed h =
    many_complete SpellsPair (spec_pair read) at_rparen n (λ x i j lt goes. parentheses_complete SpellsPairInside (spec_pair_inside read) x i j
    (λ k l less shut. pair_inside_complete n read fits x k l (omega (arith, less, lt)))) pair_begins stopping_closes (listed xs) all rest below (pairs_listed xs all rest h) closed

arm_inside_complete : (n : ℕ) (read : Reader SpecNode) → Fits n read → (a : SingleArm) (all rest : List Placed) → length all < n → SpellsArmInside a all rest → arm_inside read all ≡ Some (a, rest)
unfolding arm_inside
arm_inside_complete n read fits a all rest below h =
    let shorter : length h.1 < length all = (head_begins (a.variant, a.args) all h.1 h.2).1 in
    let front = parentheses_complete SpellsHead head_inside (a.variant, a.args) all h.1 (λ i j lt shut. head_complete (a.variant, a.args) i j shut) h.2 in
    rw (front, fits a.body h.1 rest (omega arith) h.3, position_of h.0) refl

arms_complete : (n : ℕ) (read : Reader SpecNode) → Fits n read → (arms : ArmList) (all rest : List Placed) → length all < n → at_rparen rest ≡ true → SpellsArms arms all rest → many at_rparen (arm read) all ≡ Some (listed_arms arms, rest)
unfolding arm
arms_complete n read fits arms all rest below closed h =
    many_complete SpellsArm (arm read) at_rparen n (λ a i j lt goes. parentheses_complete SpellsArmInside (arm_inside read) a i j
    (λ k l less shut. arm_inside_complete n read fits a k l (omega (arith, less, lt)))) arm_begins stopping_closes (listed_arms arms) all rest below (arms_listed arms all rest h) closed

let_inside_complete : (n : ℕ) (read : Reader SpecNode) → Fits n read → (d : Name × SpecNode) (all rest : List Placed) → length all < n → SpellsSpecLetInside d all rest → spec_let_inside read all ≡ Some (d, rest)
unfolding spec_let_inside
let_inside_complete n read fits d all rest below h =
    let shorter : length h.0 < length all = (name_begins d.0 all h.0 h.1).1 in
    rw (name_read d.0 all h.0 h.1, fits d.1 h.0 rest (omega arith) h.2) refl

lets_complete : (n : ℕ) (read : Reader SpecNode) → Fits n read → (ds : SpecLetList) (all rest : List Placed) → length all < n → InParentheses (SpellsSpecLets ds) all rest → spec_lets read all ≡ Some (listed_lets ds, rest)
unfolding spec_lets spec_let
lets_complete n read fits ds all rest below h =
    parentheses_complete (SpellsAll SpellsSpecLet) (many at_rparen (spec_let read)) (listed_lets ds) all rest (λ i j lt closed list.
    many_complete SpellsSpecLet (spec_let read) at_rparen n (λ d k l less goes. parentheses_complete SpellsSpecLetInside (spec_let_inside read) d k l
    (λ p q small shut. let_inside_complete n read fits d p q (omega (arith, small, less)))) spec_let_begins stopping_closes (listed_lets ds) i j (omega (arith, lt, below)) list closed)
    (h.0, h.1, h.2, lets_listed ds h.0 h.1 h.3, h.4)

field_inside_complete : (n : ℕ) (read : Reader SpecNode) → Fits n read → (f : SingleFieldInit) (all rest : List Placed) → length all < n → SpellsFieldInitInside f all rest → field_init_inside read all ≡ Some (f, rest)
unfolding field_init_inside
field_inside_complete n read fits f all rest below h =
    let shorter : length h.1 < length all = (name_begins f.name all h.1 h.2).1 in
    rw (name_read f.name all h.1 h.2, fits f.value h.1 rest (omega arith) h.3, position_of h.0) refl

fields_complete : (n : ℕ) (read : Reader SpecNode) → Fits n read → (fs : FieldInitList) (all rest : List Placed) → length all < n → at_rparen rest ≡ true → SpellsFieldInits fs all rest
    → many at_rparen (field_init read) all ≡ Some (listed_fields fs, rest)
unfolding field_init
fields_complete n read fits fs all rest below closed h =
    many_complete SpellsFieldInit (field_init read) at_rparen n (λ f i j lt goes. parentheses_complete SpellsFieldInitInside (field_init_inside read) f i j
    (λ k l less shut. field_inside_complete n read fits f k l (omega (arith, less, lt)))) field_init_begins stopping_closes (listed_fields fs) all rest below (fields_listed fs all rest h) closed

-- ---- what is spelt after a head is read

names_before : (ns : List Name) (x : SpecNode) (all mid rest : List Placed) → SpellsNames ns all mid → SpellsSpec x mid rest → names all ≡ Some (ns, mid)
names_before ns x all mid rest h spelt = names_complete ns all mid (begins_goes mid (spec_begins x mid rest spelt).0) h

-- the symbol that is a head
at_head : (read : Reader SpecNode) (start place : Pos) (text : List ℕ) (head : SpecHead) (all inner : List Placed) → all ≡ record { pos = place; token = symbol text } ∷ inner → IsHead head text
    → spec_inside start read all ≡ behind_spec_head read start place head inner
unfolding spec_inside
at_head read start place text head all inner e h =
    let here : spec_inside start read (record { pos = place; token = symbol text } ∷ inner) ≡ behind_spec_head read start place head inner = rw (text_complete place text inner, is_head text head h) refl in
    rw e here

one_shorter : {place : Pos} {text : List ℕ} {all inner : List Placed} → all ≡ record { pos = place; token = symbol text } ∷ inner → length inner < length all
one_shorter e = rw e (omega arith)

-- the names of a variant at the place that they are at
variant_there : (name variant : Name) (args : SpecList) (start pos : Pos) → pos ≡ start → AreVariant name variant pos
    → enum_spec (record { text = name.text; pos = start }) (record { text = variant.text; pos = start }) args start ≡ enum_spec name variant args pos
variant_there name variant args start pos is h =
    let first : start ≡ name.pos = sym is ∙ sym h.name_position in
    let second : start ≡ variant.pos = sym is ∙ sym h.variant_position in
    (λ i. enum_spec (record { text = name.text; pos = first i }) (record { text = variant.text; pos = second i }) args (sym is i))

switch_complete : (n : ℕ) (read : Reader SpecNode) → Fits n read → (start place : Pos) (args : SpecList) (all rest : List Placed) → length all < n → at_rparen rest ≡ true → SpellsCases args all rest
    → behind_spec_head read start place switch_head all ≡ Some (op_spec op.Switch args start, rest)
unfolding behind_spec_head
switch_complete n read fits start place no_spec all rest below closed h = absurd h
switch_complete n read fits start place (more_spec x cases) all rest below closed h =
    let shorter : length h.0 < length all = (spec_begins x all h.0 h.1).1 in
    rw (fits x all h.0 below h.1, pairs_complete n read fits cases h.0 rest (omega arith) closed h.2, list_listed cases) refl

inside_complete : (n : ℕ) (read : Reader SpecNode) → Fits n read → (start : Pos) (x : SpecNode) (all rest : List Placed) → length all < n → at_rparen rest ≡ true → SpellsInside start x all rest → spec_inside start read all ≡ Some (x, rest)
unfolding behind_spec_head
inside_complete n read fits start (int_spec _ _) all rest below closed h = absurd h
inside_complete n read fits start (bit_vector_spec _ _ _) all rest below closed h = absurd h
inside_complete n read fits start (bool_spec _ _) all rest below closed h = absurd h
inside_complete n read fits start (var_spec _ _) all rest below closed h = absurd h
inside_complete n read fits start (as_spec x ty pos) all rest below closed h =
    let b = h.1 in
    let shorter : length b.0 < length all = one_shorter b.1.1 in
    at_head read start b.1.0 (codes "as") as_head all b.0 b.1.1 refl
    ∙ rw (fits x b.0 b.2.0 (omega arith) b.2.1, model_type_complete ty b.2.0 rest b.2.2, h.0) refl
inside_complete n read fits start (field_spec field x pos) all rest below closed h =
    let shorter : length h.1 < length all = one_shorter h.2.1 in
    at_head read start field.pos (field_mark field.text) (field_head field.text) all h.1 h.2.1 (h.2.0, refl)
    ∙ rw (fits x h.1 rest (omega arith) h.3, h.0) refl
inside_complete n read fits start (discriminator_spec variant x pos) all rest below closed h =
    let shorter : length h.1 < length all = one_shorter h.2.1 in
    at_head read start variant.pos (discriminator_mark variant.text) (discriminator_head variant.text) all h.1 h.2.1 (h.2.0, refl)
    ∙ rw (fits x h.1 rest (omega arith) h.3, h.0) refl
inside_complete n read fits start (op_spec operator args pos) all rest below closed h =
    let b = h.1 in
    let shorter : length b.0 < length all = one_shorter b.1.1 in
    elim b.2 [
      | inl g ↦
          at_head read start b.1.0 (operator_text operator) (operator_head operator) all b.0 b.1.1 (g.0, refl)
          ∙ rw (specs_complete n read fits args b.0 rest (omega arith) closed g.1, list_listed args, h.0) refl
      | inr g ↦
          at_head read start b.1.0 (operator_text operator) switch_head all b.0 b.1.1 (ap operator_text g.0)
          ∙ switch_complete n read fits start b.1.0 args b.0 rest (omega arith) closed g.1
          ∙ (λ i. Some (op_spec (sym g.0 i) args (sym h.0 i), rest))
    ]
inside_complete n read fits start (match_spec x arms pos) all rest below closed h =
    let b = h.1 in
    let shorter : length b.0 < length all = one_shorter b.1.1 in
    let one : length b.2.0 < length b.0 = (spec_begins x b.0 b.2.0 b.2.1).1 in
    at_head read start b.1.0 (codes "match") match_head all b.0 b.1.1 refl
    ∙ rw (fits x b.0 b.2.0 (omega arith) b.2.1, arms_complete n read fits arms b.2.0 rest (omega arith) closed b.2.2, arms_list arms, h.0) refl
inside_complete n read fits start (let_spec defs body pos) all rest below closed h =
    let b = h.1 in
    let shorter : length b.0 < length all = one_shorter b.1.1 in
    let list = parentheses_begin (SpellsSpecLets defs) (λ k l r. spec_lets_shorter defs k l r) b.0 b.2.0 b.2.1 in
    at_head read start b.1.0 (codes "let") let_head all b.0 b.1.1 refl
    ∙ rw (lets_complete n read fits defs b.0 b.2.0 (omega arith) b.2.1, fits body b.2.0 rest (omega (arith, list.1)) b.2.2, lets_list defs, h.0) refl
inside_complete n read fits start (with_spec decls body pos) all rest below closed h =
    let b = h.1 in
    let shorter : length b.0 < length all = one_shorter b.1.1 in
    at_head read start b.1.0 (codes "with") with_head all b.0 b.1.1 refl
    ∙ rw (names_before decls body b.0 b.2.0 rest b.2.1 b.2.2, fits body b.2.0 rest (omega (arith, (names_begin decls b.0 b.2.0 b.2.1).1)) b.2.2, h.0) refl
inside_complete n read fits start (macro_spec params body pos) all rest below closed h =
    let b = h.1 in
    let shorter : length b.0 < length all = one_shorter b.1.1 in
    at_head read start b.1.0 (codes "macro") macro_head all b.0 b.1.1 refl
    ∙ rw (names_before params body b.0 b.2.0 rest b.2.1 b.2.2, fits body b.2.0 rest (omega (arith, (names_begin params b.0 b.2.0 b.2.1).1)) b.2.2, h.0) refl
inside_complete n read fits start (expand_spec name args pos) all rest below closed h =
    let shorter : length h.1 < length all = one_shorter h.2.1 in
    at_head read start name.pos (expansion_mark name.text) (expansion_head name.text) all h.1 h.2.1 (h.2.0, refl)
    ∙ rw (specs_complete n read fits args h.1 rest (omega arith) closed h.3, list_listed args, h.0) refl
inside_complete n read fits start (pair_spec _ _ _) all rest below closed h = absurd h
inside_complete n read fits start (enum_spec name variant args pos) all rest below closed h =
    let b = h.2 in
    let shorter : length b.0 < length all = one_shorter b.1.1 in
    at_head read start b.1.0 (dotted name variant) (variant_head name.text variant.text) all b.0 b.1.1 (h.1.name, h.1.variant, h.1.no_dot, h.1.no_operator, refl)
    ∙ rw (specs_complete n read fits args b.0 rest (omega arith) closed b.2, list_listed args) (ap (λ (x : SpecNode). Some (x, rest)) (variant_there name variant args start pos h.0 h.1))
inside_complete n read fits start (struct_spec fields pos) all rest below closed h =
    let b = h.1 in
    let shorter : length b.0 < length all = one_shorter b.1.1 in
    at_head read start b.1.0 (codes "struct") struct_head all b.0 b.1.1 refl
    ∙ rw (fields_complete n read fits fields b.0 rest (omega arith) closed b.2, fields_list fields, h.0) refl

enclosed : (n : ℕ) (read : Reader SpecNode) → Fits n read → (x : SpecNode) (all rest : List Placed) → length all < suc n → InParentheses (SpellsInside (pos_ahead all) x) all rest → spec_layer read all ≡ Some (x, rest)
unfolding spec_layer
enclosed n read fits x all rest below h =
    let a : is_ahead is_lparen all ≡ true = rw h.2.1 refl in
    rw a (parentheses_complete (SpellsInside (pos_ahead all)) (spec_inside (pos_ahead all) read) x all rest (λ i j lt closed. inside_complete n read fits (pos_ahead all) x i j (omega (arith, lt, below)) closed) h)

-- ---- symbols and integers

word_at_place : (place : Pos) (text : List ℕ) (x : SpecNode) (rest : List Placed) → word_of place text ≡ Some x → spec_word (record { pos = place; token = symbol text } ∷ rest) ≡ Some (x, rest)
unfolding spec_word
word_at_place place text x rest e = rw (text_complete place text rest, e) refl

at_symbol : (read : Reader SpecNode) (place : Pos) (text : List ℕ) (x : SpecNode) (all rest : List Placed) → all ≡ record { pos = place; token = symbol text } ∷ rest → word_of place text ≡ Some x → spec_layer read all ≡ Some (x, rest)
unfolding spec_layer
at_symbol read place text x all rest is e =
    let a : is_ahead is_lparen all ≡ false = rw is refl in
    let b : is_ahead is_symbol all ≡ true = rw is refl in
    rw (a, b) (ap spec_word is ∙ word_at_place place text x rest e)

same_place : {place pos : Pos} {text : List ℕ} {all rest : List Placed} → all ≡ record { pos = place; token = symbol text } ∷ rest → BeginsAt pos all → place ≡ pos
same_place {place = place} {all = all} is h =
    let here : pos_ahead all ≡ place = rw is refl in
    sym here ∙ position_of h

placed_there : (make : Pos → SpecNode) (place pos : Pos) (rest : List Placed) → place ≡ pos → ◌≡◌ {A = Option (SpecNode × List Placed)} (Some (make place, rest)) (Some (make pos, rest))
placed_there make place pos rest is = ap (λ (q : Pos). Some (make q, rest)) is

pub int_read : (read : Reader SpecNode) (all rest : List Placed) (val : ℤ) → is_ahead is_lparen all ≡ false → is_ahead is_symbol all ≡ false → is_ahead is_int all ≡ true
    → integer_within 127 all ≡ Some (val, rest) → spec_layer read all ≡ Some (int_spec val (pos_ahead all), rest)
unfolding spec_layer
int_read read all rest val a b c e = rw (a, b, c, e) refl

step_complete : (n : ℕ) (read : Reader SpecNode) → Fits n read → Fits (suc n) (spec_layer read)
step_complete n read fits (int_spec val pos) all rest below h =
    int_read read all rest val (rw h.1.1.1 refl) (rw h.1.1.1 refl) (rw h.1.1.1 refl) (signed_complete 127 val all rest h.1)
    ∙ placed_there (int_spec val) (pos_ahead all) pos rest (position_of h.0)
step_complete n read fits (bit_vector_spec val width pos) all rest below h =
    let s = h.1 in
    at_symbol read s.2.0 s.0 (bit_vector_spec val width s.2.0) all rest s.2.1 (bit_vector_word s.2.0 s.0 val width s.1)
    ∙ placed_there (bit_vector_spec val width) s.2.0 pos rest (same_place s.2.1 h.0)
step_complete n read fits (bool_spec val pos) all rest below h =
    let s = h.1 in
    at_symbol read s.0 (bool_word val) (bool_spec val s.0) all rest s.1 (bool_word_is s.0 val)
    ∙ placed_there (bool_spec val) s.0 pos rest (same_place s.1 h.0)
step_complete n read fits (var_spec var pos) all rest below h =
    let s = h.2 in
    at_symbol read var.pos var.text (var_spec var var.pos) all rest s.1 (variable_word var.pos var.text s.0 h.0)
    ∙ placed_there (var_spec var) var.pos pos rest (same_place s.1 h.1)
step_complete n read fits (as_spec x ty pos) all rest below h =
    enclosed n read fits (as_spec x ty pos) all rest below (to_inside (as_spec x ty pos) all rest refl h)
step_complete n read fits (field_spec v x pos) all rest below h =
    enclosed n read fits (field_spec v x pos) all rest below (to_inside (field_spec v x pos) all rest refl h)
step_complete n read fits (discriminator_spec v x pos) all rest below h =
    enclosed n read fits (discriminator_spec v x pos) all rest below (to_inside (discriminator_spec v x pos) all rest refl h)
step_complete n read fits (op_spec o xs pos) all rest below h =
    enclosed n read fits (op_spec o xs pos) all rest below (to_inside (op_spec o xs pos) all rest refl h)
step_complete n read fits (match_spec x arms pos) all rest below h =
    enclosed n read fits (match_spec x arms pos) all rest below (to_inside (match_spec x arms pos) all rest refl h)
step_complete n read fits (let_spec ds x pos) all rest below h =
    enclosed n read fits (let_spec ds x pos) all rest below (to_inside (let_spec ds x pos) all rest refl h)
step_complete n read fits (with_spec ns x pos) all rest below h =
    enclosed n read fits (with_spec ns x pos) all rest below (to_inside (with_spec ns x pos) all rest refl h)
step_complete n read fits (macro_spec ns x pos) all rest below h =
    enclosed n read fits (macro_spec ns x pos) all rest below (to_inside (macro_spec ns x pos) all rest refl h)
step_complete n read fits (expand_spec v xs pos) all rest below h =
    enclosed n read fits (expand_spec v xs pos) all rest below (to_inside (expand_spec v xs pos) all rest refl h)
step_complete n read fits (pair_spec _ _ _) all rest below h = absurd h
step_complete n read fits (enum_spec v w xs pos) all rest below h =
    enclosed n read fits (enum_spec v w xs pos) all rest below (to_inside (enum_spec v w xs pos) all rest refl h)
step_complete n read fits (struct_spec fs pos) all rest below h =
    enclosed n read fits (struct_spec fs pos) all rest below (to_inside (struct_spec fs pos) all rest refl h)

-- ---- whole expressions

within_sound : (n : ℕ) → Sound SpellsSpec (spec_within n)
unfolding spec_within
within_sound zero all rest x e = absurd cc
within_sound (suc n) all rest x e = step_sound (spec_within n) (within_sound n) all rest x e

pub spec_expression_sound : Sound SpellsSpec spec_expression
unfolding spec_expression
spec_expression_sound all rest x e = within_sound (suc (length all)) all rest x e

within_complete : (n : ℕ) → Fits n (spec_within n)
unfolding spec_within
within_complete zero x all rest below h = absurd (omega arith)
within_complete (suc n) x all rest below h = step_complete n (spec_within n) (within_complete n) x all rest below h

pub spec_expression_complete : (x : SpecNode) (all rest : List Placed) → SpellsSpec x all rest → spec_expression all ≡ Some (x, rest)
unfolding spec_expression
spec_expression_complete x all rest h = within_complete (suc (length all)) x all rest (omega arith) h
