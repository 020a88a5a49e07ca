-- Models of types after a word, in parentheses, are read as the grammar spells them.
use Rattle.std.proofs.Common.{◌≡◌, inl, inr, ℕ, ◌<◌, List, length, Some, None, arith}
use Rattle.std.specs.Prelude.{codes}
use Rattle.isle_base.specs.Place.{Placed}
use Rattle.isle_ast_verification.specs.Tree.{TypeModel}
use Rattle.isle_ast_names.specs.Words.{SpellsAll, InParentheses, BehindWord}
use Rattle.isle_ast_verification.specs.TypeModelGrammar.{SpellsTypeModel}
use Rattle.isle_parser_cursor.specs.Reading.{at_rparen, many}
use Rattle.isle_parser_verification.specs.ModelReaders.{model_type, tagged_inside, tagged_one_inside, tagged_type}
use Rattle.isle_parser_cursor.proofs.ReaderSteps.{nothing, word_shorter, flag_read, choice, CompleteClosed, list_sound, list_complete, enclosed_complete}
use Rattle.isle_parser_cursor.proofs.Readers.{Sound, Complete, Begins, list_shorter, parentheses_sound, parentheses_begin}
use Rattle.isle_parser_verification.proofs.Reading.Models.{model_type_sound, model_type_complete, model_type_begins}

model_complete : Complete SpellsTypeModel model_type
model_complete m all rest goes h = model_type_complete m all rest h

abbrev pub SpellsTagged : List ℕ → List TypeModel → List Placed → List Placed → Type 0
SpellsTagged word ms = BehindWord word (SpellsAll SpellsTypeModel ms)

abbrev pub SpellsTaggedOne : List ℕ → TypeModel → List Placed → List Placed → Type 0
SpellsTaggedOne word m = BehindWord word (SpellsTypeModel m)

pub tagged_inside_sound : (word : List ℕ) → Sound (SpellsTagged word) (tagged_inside word)
unfolding tagged_inside
tagged_inside_sound word all rest ms e =
    elim (choice word (many at_rparen model_type) (λ i. None) all e) [
      | inl h ↦ (h.0, h.1, list_sound SpellsTypeModel model_type model_type_sound h.0 rest ms h.2)
      | inr h ↦ absurd (nothing h.1)
    ]

pub tagged_inside_complete : (word : List ℕ) → CompleteClosed (SpellsTagged word) (tagged_inside word)
unfolding tagged_inside
tagged_inside_complete word ms all rest closed h =
    rw (flag_read word all h.0 h.1) (list_complete SpellsTypeModel model_type model_complete model_type_begins ms h.0 rest closed h.2)

pub tagged_one_sound : (word : List ℕ) → Sound (SpellsTaggedOne word) (tagged_one_inside word)
unfolding tagged_one_inside
tagged_one_sound word all rest m e =
    elim (choice word model_type (λ i. None) all e) [
      | inl h ↦ (h.0, h.1, model_type_sound h.0 rest m h.2)
      | inr h ↦ absurd (nothing h.1)
    ]

pub tagged_one_complete : (word : List ℕ) → CompleteClosed (SpellsTaggedOne word) (tagged_one_inside word)
unfolding tagged_one_inside
tagged_one_complete word m all rest closed h = rw (flag_read word all h.0 h.1) (model_type_complete m h.0 rest h.2)

pub tagged_type_sound : (word : List ℕ) → Sound (λ m. InParentheses (SpellsTaggedOne word m)) (tagged_type word)
unfolding tagged_type
tagged_type_sound word = parentheses_sound (SpellsTaggedOne word) (tagged_one_inside word) (tagged_one_sound word)

pub tagged_type_complete : (word : List ℕ) (m : TypeModel) (all rest : List Placed) → InParentheses (SpellsTaggedOne word m) all rest → tagged_type word all ≡ Some (m, rest)
unfolding tagged_type
tagged_type_complete word m all rest h = enclosed_complete (SpellsTaggedOne word) (tagged_one_inside word) (tagged_one_complete word) m all rest h

pub tagged_type_begins : (word : List ℕ) → Begins (λ m. InParentheses (SpellsTaggedOne word m))
tagged_type_begins word m all rest h =
    parentheses_begin (SpellsTaggedOne word m) (λ i j b. omega (arith, word_shorter word i b.0 b.1, (model_type_begins m b.0 j b.2).1)) all rest h

pub args_begin : (ms : List TypeModel) (all rest : List Placed) → InParentheses (SpellsTagged (codes "args") ms) all rest → length rest < length all
args_begin ms all rest h =
    (parentheses_begin (SpellsTagged (codes "args") ms) (λ i j b. omega (arith, word_shorter (codes "args") i b.0 b.1, list_shorter SpellsTypeModel model_type_begins ms b.0 j b.2)) all rest h).1

pub ret_begins : (m : TypeModel) (all rest : List Placed) → InParentheses (SpellsTaggedOne (codes "ret") m) all rest → length rest < length all
ret_begins m all rest h =
    (parentheses_begin (SpellsTaggedOne (codes "ret") m) (λ i j b. omega (arith, word_shorter (codes "ret") i b.0 b.1, (model_type_begins m b.0 j b.2).1)) all rest h).1
