-- Models of a type or a constant are read as the grammar spells them.
use Rattle.std.proofs.Common.{inl, inr, ◌≤◌, List, length, Some, None, refl, subst, arith}
use Rattle.std.specs.Prelude.{codes}
use Rattle.isle_base.specs.Place.{Placed}
use Rattle.isle_ast.specs.Tree.{ModelContent, type_model, const_model, ModelDefinition}
use Rattle.isle_ast_names.specs.Words.{InParentheses, BehindWord}
use Rattle.isle_ast_verification.specs.TypeModelGrammar.{SpellsTypeModel}
use Rattle.isle_ast.specs.ModelGrammar.{SpellsModelContent, SpellsModel}
use Rattle.isle_ast_verification.specs.SpecGrammar.{SpellsSpec}
use Rattle.isle_parser_cursor.specs.Reading.{◌>>=◌, in_parentheses}
use Rattle.isle_parser_verification.specs.ModelReaders.{model_type}
use Rattle.isle_parser_cursor.specs.NameReaders.{name}
use Rattle.isle_parser_verification.specs.SpecReaders.{spec_expression}
use Rattle.isle_parser.specs.ModelReaders.{const_inside, model_content_inside, model_definition}
use Rattle.isle_parser_cursor.proofs.ReaderSteps.{nothing, made_of, word_ahead, word_shorter, flag_read, flag_absent, choice, CompleteClosed, enclosed_complete}
use Rattle.isle_parser_cursor.proofs.Names.{name_sound, name_read, name_begins}
use Rattle.isle_parser_cursor.proofs.Readers.{Sound, bind_some, done_is, moved, parentheses_sound, parentheses_begin}
use Rattle.isle_parser_verification.proofs.Reading.Models.{model_type_sound, model_type_complete, model_type_begins}
use Rattle.isle_parser_verification.proofs.Reading.Specs.{spec_expression_sound, spec_expression_complete}
use Rattle.isle_parser_verification.proofs.Reading.Begins.{spec_begins}

abbrev SpellsModelInside : ModelContent → List Placed → List Placed → Type 0
SpellsModelInside (type_model ty) = BehindWord (codes "type") (SpellsTypeModel ty)
SpellsModelInside (const_model x) = BehindWord (codes "const") (SpellsSpec x)

from_model : (c : ModelContent) (all rest : List Placed) → InParentheses (SpellsModelInside c) all rest → SpellsModelContent c all rest
from_model (type_model ty) all rest h = h
from_model (const_model x) all rest h = h

to_model : (c : ModelContent) (all rest : List Placed) → SpellsModelContent c all rest → InParentheses (SpellsModelInside c) all rest
to_model (type_model ty) all rest h = h
to_model (const_model x) all rest h = h

const_sound : Sound SpellsModelInside const_inside
unfolding const_inside
const_sound all rest c e =
    elim (choice (codes "const") (λ i. spec_expression i >>= λ x. Some (const_model x.0, x.1)) (λ i. None) all e) [
      | inl h ↦
          let x = made_of const_model h.2 in
          subst (λ (c : ModelContent). SpellsModelInside c all rest) x.2 (h.0, h.1, spec_expression_sound h.0 rest x.0 x.1)
      | inr h ↦ absurd (nothing h.1)
    ]

model_inside_sound : Sound SpellsModelInside model_content_inside
unfolding model_content_inside
model_inside_sound all rest c e =
    elim (choice (codes "type") (λ i. model_type i >>= λ ty. Some (type_model ty.0, ty.1)) const_inside all e) [
      | inl h ↦
          let ty = made_of type_model h.2 in
          subst (λ (c : ModelContent). SpellsModelInside c all rest) ty.2 (h.0, h.1, model_type_sound h.0 rest ty.0 ty.1)
      | inr h ↦ const_sound all rest c h.1
    ]

model_inside_complete : CompleteClosed SpellsModelInside model_content_inside
unfolding model_content_inside const_inside
model_inside_complete (type_model ty) all rest closed h = rw (flag_read (codes "type") all h.0 h.1, model_type_complete ty h.0 rest h.2) refl
model_inside_complete (const_model x) all rest closed h =
    rw (flag_absent (codes "type") all (word_ahead h.1 (codes "type")), flag_read (codes "const") all h.0 h.1, spec_expression_complete x h.0 rest h.2) refl

model_inside_shorter : (c : ModelContent) (all rest : List Placed) → SpellsModelInside c all rest → length rest ≤ length all
model_inside_shorter (type_model ty) all rest h = omega (arith, word_shorter (codes "type") all h.0 h.1, (model_type_begins ty h.0 rest h.2).1)
model_inside_shorter (const_model x) all rest h = omega (arith, word_shorter (codes "const") all h.0 h.1, (spec_begins x h.0 rest h.2).1)

pub model_definition_sound : Sound SpellsModel model_definition
unfolding model_definition
model_definition_sound all rest m e =
    let n = bind_some (name all) (λ n. in_parentheses model_content_inside n.1 >>= λ c. Some (record { name = n.0; val = c.0 }, c.1)) (m, rest) e in
    let c = bind_some (in_parentheses model_content_inside n.0.1) (λ c. Some (record { name = n.0.0; val = c.0 }, c.1)) (m, rest) n.2 in
    let made : ModelDefinition = record { name = n.0.0; val = c.0.0 } in
    let is = done_is made m c.0.1 rest c.2 in
    let val = from_model c.0.0 n.0.1 c.0.1 (parentheses_sound SpellsModelInside model_content_inside model_inside_sound n.0.1 c.0.1 c.0.0 c.1) in
    let whole : SpellsModel made all c.0.1 = record { behind_name = n.0.1; name = name_sound all n.0.1 n.0.0 n.1; val = val } in
    moved SpellsModel made m all c.0.1 rest is whole

pub model_definition_complete : CompleteClosed SpellsModel model_definition
unfolding model_definition
model_definition_complete m all rest closed h =
    let val = enclosed_complete SpellsModelInside model_content_inside model_inside_complete m.val h.behind_name rest (to_model m.val h.behind_name rest h.val) in
    rw (name_read m.name all h.behind_name h.name, val) refl

pub model_definition_shorter : (m : ModelDefinition) (all rest : List Placed) → SpellsModel m all rest → length rest ≤ length all
model_definition_shorter m all rest h =
    let val = parentheses_begin (SpellsModelInside m.val) (model_inside_shorter m.val) h.behind_name rest (to_model m.val h.behind_name rest h.val) in
    omega (arith, (name_begins m.name all h.behind_name h.name).1, val.1)
