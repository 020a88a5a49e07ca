-- Forms and instantiations are read as the grammar spells them.
use Rattle.std.proofs.Common.{[], ◌≡◌, inl, inr, ◌≤◌, true, false, cond, List, ◌∷◌, length, Option, Some, None, refl, sym, subst, arith}
use Rattle.std.specs.Prelude.{codes}
use Rattle.std.specs.Str.{bytes_eq}
use Rattle.isle_base_source.specs.declared.pos.Pos.{Pos}
use Rattle.isle_base.specs.Place.{Placed}
use Rattle.isle_ast_names.specs.Tree.{Name}
use Rattle.isle_ast.specs.Tree.{TermSignature, FormDefinition, TermInstantiation}
use Rattle.isle_ast_names.specs.Words.{BeginsAt, SpellsAll, InParentheses, BehindWord, SpellsName, IsNonEmpty}
use Rattle.isle_ast.specs.ModelGrammar.{SpellsSignature, SpellsForm, SpellsTag, SpellsInstances, SpellsInstantiation}
use Rattle.isle_parser_cursor.specs.Reading.{◌>>=◌, is_ahead, is_lparen, at_rparen, pos_ahead, text, many}
use Rattle.isle_parser_cursor.specs.NameReaders.{name}
use Rattle.isle_parser_verification.specs.ModelReaders.{tagged_inside, tagged_types, tagged_one_inside, tagged_type}
use Rattle.isle_parser.specs.FormReaders.{tag_inside, tag, signature_inside, signature, signatures, form_definition, instantiation_of_term}
use Rattle.isle_parser_cursor.proofs.ReaderSteps.{nothing, made_of, word_is, word_read, word_shorter, CompleteClosed, list_sound, list_complete, enclosed_complete, position_of, name_at, opened_at, opens, opens_not_closes, list_nonempty}
use Rattle.isle_parser_cursor.proofs.Names.{name_sound, name_read, name_begins}
use Rattle.isle_parser_cursor.proofs.Readers.{Sound, Complete, Begins, Shrinks, bind_some, chosen, done_is, moved, shrinks, many_sound, list_shorter, parentheses_sound, parentheses_begin}
use Rattle.isle_parser_verification.proofs.Reading.TaggedModels.{SpellsTagged, SpellsTaggedOne, tagged_inside_sound, tagged_one_sound, tagged_inside_complete, tagged_one_complete, args_begin, ret_begins}

abbrev SpellsSignatureInside : TermSignature → List Placed → List Placed → Type 0
SpellsSignatureInside s inner close =
    BeginsAt s.pos inner × (mid : List Placed)
    × InParentheses (SpellsTagged (codes "args") s.args) inner mid
    × InParentheses (SpellsTaggedOne (codes "ret") s.ret) mid close

signature_inside_sound : Sound SpellsSignatureInside signature_inside
unfolding signature_inside tagged_types tagged_type
signature_inside_sound all rest s e =
    let args = bind_some (tagged_types (codes "args") all) (λ args. tagged_type (codes "ret") args.1 >>= λ ret. Some (record { args = args.0; ret = ret.0; pos = pos_ahead all }, ret.1)) (s, rest) e in
    let ret = bind_some (tagged_type (codes "ret") args.0.1) (λ ret. Some (record { args = args.0.0; ret = ret.0; pos = pos_ahead all }, ret.1)) (s, rest) args.2 in
    let made : TermSignature = record { args = args.0.0; ret = ret.0.0; pos = pos_ahead all } in
    let is = done_is made s ret.0.1 rest ret.2 in
    let first = parentheses_sound (SpellsTagged (codes "args")) (tagged_inside (codes "args")) (tagged_inside_sound (codes "args")) all args.0.1 args.0.0 args.1 in
    let second = parentheses_sound (SpellsTaggedOne (codes "ret")) (tagged_one_inside (codes "ret")) (tagged_one_sound (codes "ret")) args.0.1 ret.0.1 ret.0.0 ret.1 in
    moved SpellsSignatureInside made s all ret.0.1 rest is (opened_at _ all args.0.1 first, args.0.1, first, second)

signature_inside_complete : CompleteClosed SpellsSignatureInside signature_inside
unfolding signature_inside tagged_types tagged_type
signature_inside_complete s all rest closed h =
    let mid = h.1 in
    let args = enclosed_complete (SpellsTagged (codes "args")) (tagged_inside (codes "args")) (tagged_inside_complete (codes "args")) s.args all mid h.2 in
    let ret = enclosed_complete (SpellsTaggedOne (codes "ret")) (tagged_one_inside (codes "ret")) (tagged_one_complete (codes "ret")) s.ret mid rest h.3 in
    rw (args, ret, position_of h.0) refl

pub signature_sound : Sound SpellsSignature signature
unfolding signature
signature_sound all rest s e = parentheses_sound SpellsSignatureInside signature_inside signature_inside_sound all rest s e

pub signature_complete : Complete SpellsSignature signature
unfolding signature
signature_complete s all rest goes h = enclosed_complete SpellsSignatureInside signature_inside signature_inside_complete s all rest h

pub signature_begins : Begins SpellsSignature
signature_begins s all rest h = parentheses_begin (SpellsSignatureInside s) (λ i j b. omega (arith, args_begin s.args i b.1 b.2, ret_begins s.ret b.1 j b.3)) all rest h

pub signature_shrinks : Shrinks signature
signature_shrinks = shrinks SpellsSignature signature signature_sound signature_begins

-- ---- forms

pub form_definition_sound : Sound SpellsForm form_definition
unfolding form_definition signatures
form_definition_sound all rest f e =
    let n = bind_some (name all) (λ n. signatures n.1 >>= λ gs. Some (record { name = n.0; signatures = gs.0; pos = pos_ahead all }, gs.1)) (f, rest) e in
    let gs = bind_some (signatures n.0.1) (λ gs. Some (record { name = n.0.0; signatures = gs.0; pos = pos_ahead all }, gs.1)) (f, rest) n.2 in
    let made : FormDefinition = record { name = n.0.0; signatures = gs.0.0; pos = pos_ahead all } in
    let is = done_is made f gs.0.1 rest gs.2 in
    let spelt = name_sound all n.0.1 n.0.0 n.1 in
    let list = list_sound SpellsSignature signature signature_sound n.0.1 gs.0.1 gs.0.0 gs.1 in
    let whole : SpellsForm made all gs.0.1 = record { position = name_at n.0.0 all n.0.1 spelt; behind_name = n.0.1; name = spelt; signatures = list } in
    moved SpellsForm made f all gs.0.1 rest is whole

pub form_definition_complete : CompleteClosed SpellsForm form_definition
unfolding form_definition signatures
form_definition_complete f all rest closed h =
    let list = list_complete SpellsSignature signature signature_complete signature_begins f.signatures h.behind_name rest closed h.signatures in
    rw (name_read f.name all h.behind_name h.name, list, position_of h.position) refl

pub form_definition_shorter : (f : FormDefinition) (all rest : List Placed) → SpellsForm f all rest → length rest ≤ length all
form_definition_shorter f all rest h = omega (arith, (name_begins f.name all h.behind_name h.name).1, list_shorter SpellsSignature signature_begins f.signatures h.behind_name rest h.signatures)

-- ---- tags

abbrev SpellsTagInside : Name → List Placed → List Placed → Type 0
SpellsTagInside n = BehindWord (codes "tag") (SpellsName n)

tag_inside_sound : Sound SpellsTagInside tag_inside
unfolding tag_inside
tag_inside_sound all rest n e =
    let w = bind_some (text all) (λ w. cond (bytes_eq w.0 (codes "tag")) (name w.1) None) (n, rest) e in
    elim (chosen (bytes_eq w.0.0 (codes "tag")) (name w.0.1) None (Some (n, rest)) w.2) [
      | inl h ↦ (w.0.1, word_is w.1 h.0, name_sound w.0.1 rest n h.1)
      | inr h ↦ absurd (nothing h.1)
    ]

tag_inside_complete : CompleteClosed SpellsTagInside tag_inside
unfolding tag_inside
tag_inside_complete n all rest closed h = rw (word_read h.1) (name_read n h.0 rest h.2)

pub tag_sound : Sound SpellsTag tag
unfolding tag
tag_sound all rest n e = parentheses_sound SpellsTagInside tag_inside tag_inside_sound all rest n e

pub tag_complete : Complete SpellsTag tag
unfolding tag
tag_complete n all rest goes h = enclosed_complete SpellsTagInside tag_inside tag_inside_complete n all rest h

pub tag_begins : Begins SpellsTag
tag_begins n all rest h = parentheses_begin (SpellsTagInside n) (λ i j b. omega (arith, word_shorter (codes "tag") i b.0 b.1, (name_begins n b.0 j b.2).1)) all rest h

pub tag_shrinks : Shrinks tag
tag_shrinks = shrinks SpellsTag tag tag_sound tag_begins

-- ---- instantiations

abbrev own : Name → Pos → List TermSignature → TermInstantiation
own term place gs = record { term = term; form = None; signatures = gs; tags = []; pos = place }

abbrev of_form : Name → Pos → Name → List Name → TermInstantiation
of_form term place f ts = record { term = term; form = Some f; signatures = []; tags = ts; pos = place }

abbrev as_own : Name → Pos → List TermSignature × List Placed → Option (TermInstantiation × List Placed)
as_own term place gs = Some (own term place gs.0, gs.1)

abbrev as_form : Name → Pos → Name × List Placed → Option (TermInstantiation × List Placed)
as_form term place f = many at_rparen tag f.1 >>= λ ts. Some (of_form term place f.0 ts.0, ts.1)

own_sound : (term : Name) (all behind rest : List Placed) (i : TermInstantiation) → SpellsName term all behind → is_ahead is_lparen behind ≡ true
    → (many at_rparen signature behind >>= as_own term (pos_ahead all)) ≡ Some (i, rest) → SpellsInstantiation i all rest
own_sound term all behind rest i h here e =
    let gs = made_of (own term (pos_ahead all)) e in
    let list = many_sound SpellsSignature signature at_rparen signature_sound behind rest gs.0 gs.1 in
    let some = list_nonempty SpellsSignature gs.0 behind rest list.0 list.1 (opens_not_closes behind here) in
    let whole : SpellsInstantiation (own term (pos_ahead all) gs.0) all rest = record { position = name_at term all behind h; behind_term = behind; term = h; instances = (some, refl, list.0) } in
    subst (λ (i : TermInstantiation). SpellsInstantiation i all rest) gs.2 whole

of_form_sound : (term : Name) (all behind rest : List Placed) (i : TermInstantiation) → SpellsName term all behind → (name behind >>= as_form term (pos_ahead all)) ≡ Some (i, rest) → SpellsInstantiation i all rest
of_form_sound term all behind rest i h e =
    let f = bind_some (name behind) (as_form term (pos_ahead all)) (i, rest) e in
    let ts = made_of (of_form term (pos_ahead all) f.0.0) f.2 in
    let spelt = name_sound behind f.0.1 f.0.0 f.1 in
    let list = list_sound SpellsTag tag tag_sound f.0.1 rest ts.0 ts.1 in
    let whole : SpellsInstantiation (of_form term (pos_ahead all) f.0.0 ts.0) all rest = record { position = name_at term all behind h; behind_term = behind; term = h; instances = (refl, f.0.1, spelt, list) } in
    subst (λ (i : TermInstantiation). SpellsInstantiation i all rest) ts.2 whole

pub instantiation_sound : Sound SpellsInstantiation instantiation_of_term
unfolding instantiation_of_term signatures
instantiation_sound all rest i e =
    let t = bind_some (name all) (λ t. cond (is_ahead is_lparen t.1) (many at_rparen signature t.1 >>= as_own t.0 (pos_ahead all)) (name t.1 >>= as_form t.0 (pos_ahead all))) (i, rest) e in
    let spelt = name_sound all t.0.1 t.0.0 t.1 in
    elim (chosen (is_ahead is_lparen t.0.1) (many at_rparen signature t.0.1 >>= as_own t.0.0 (pos_ahead all)) (name t.0.1 >>= as_form t.0.0 (pos_ahead all)) (Some (i, rest)) t.2) [
      | inl h ↦ own_sound t.0.0 all t.0.1 rest i spelt h.0 h.1
      | inr h ↦ of_form_sound t.0.0 all t.0.1 rest i spelt h.1
    ]

list_opens : (gs : List TermSignature) (all rest : List Placed) → IsNonEmpty gs → SpellsAll SpellsSignature gs all rest → is_ahead is_lparen all ≡ true
list_opens [] all rest some h = absurd some
list_opens (s ∷ ss) all rest some h = opens (SpellsSignatureInside s) all h.0 h.1

instances_complete : (term : Name) (form : Option Name) (gs : List TermSignature) (ts : List Name) (place : Pos) (all behind rest : List Placed) → at_rparen rest ≡ true → BeginsAt place all
    → SpellsName term all behind → SpellsInstances form gs ts behind rest → instantiation_of_term all ≡ Some (record { term = term; form = form; signatures = gs; tags = ts; pos = place }, rest)
unfolding instantiation_of_term signatures
instances_complete term None gs ts place all behind rest closed p n h =
    let none : [] ≡ ts = sym h.1 in
    let list = list_complete SpellsSignature signature signature_complete signature_begins gs behind rest closed h.2 in
    rw (name_read term all behind n, list_opens gs behind rest h.0 h.2, list, position_of p, none) refl
instances_complete term (Some f) gs ts place all behind rest closed p n h =
    let none : [] ≡ gs = sym h.0 in
    let mid = h.1 in
    let here : is_ahead is_lparen behind ≡ false = rw h.2.1 refl in
    let list = list_complete SpellsTag tag tag_complete tag_begins ts mid rest closed h.3 in
    rw (name_read term all behind n, here, name_read f behind mid h.2, list, position_of p, none) refl

pub instantiation_complete : CompleteClosed SpellsInstantiation instantiation_of_term
instantiation_complete i all rest closed h = instances_complete i.term i.form i.signatures i.tags i.pos all h.behind_term rest closed h.position h.term h.instances

instances_shorter : (form : Option Name) (gs : List TermSignature) (ts : List Name) (all rest : List Placed) → SpellsInstances form gs ts all rest → length rest ≤ length all
instances_shorter None gs ts all rest h = list_shorter SpellsSignature signature_begins gs all rest h.2
instances_shorter (Some f) gs ts all rest h = omega (arith, (name_begins f all h.1 h.2).1, list_shorter SpellsTag tag_begins ts h.1 rest h.3)

pub instantiation_shorter : (i : TermInstantiation) (all rest : List Placed) → SpellsInstantiation i all rest → length rest ≤ length all
instantiation_shorter i all rest h = omega (arith, (name_begins i.term all h.behind_term h.term).1, instances_shorter i.form i.signatures i.tags h.behind_term rest h.instances)
