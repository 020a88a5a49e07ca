-- Models of types are read as the grammar spells them.
use Rattle.std.proofs.Common.{[], ◌≡◌, inl, inr, ℕ, zero, suc, ◌≤◌, ◌<◌, true, false, cond, List, ◌∷◌, length, Option, Some, None, refl, sym, ap, subst, ◌∙◌, arith}
use Rattle.std.specs.Prelude.{codes, pos, negsuc, ◌^◌, nat_lt}
use Rattle.std.specs.Str.{bytes_eq}
use Rattle.std.proofs.lemmas.Bool.{lt-ltb, ltb-true}
use Rattle.isle_base_source.specs.declared.pos.Pos.{Pos}
use Rattle.isle_base.specs.Place.{Placed}
use Rattle.isle_base.specs.Token.{Tok, lparen, rparen, symbol, integer, at_sign}
use Rattle.isle_ast_names.specs.Numbers.{SpellsNumber}
use Rattle.isle_ast_names.specs.Tree.{Name}
use Rattle.isle_ast_verification.specs.Tree.{TypeModel, unspecified_model, auto_model, int_model, bool_model, unit_model, bit_vector_model, struct_model, named_model, ModelFieldList, no_model_field, model_field}
use Rattle.isle_ast_names.specs.Words.{SpellsWord, SpellsAll, InParentheses, BehindWord, SpellsName, SpellsOptional}
use Rattle.isle_ast_verification.specs.TypeModelGrammar.{SpellsTypeModel, SpellsModelFields}
use Rattle.isle_parser_cursor.specs.Reading.{Reader, ◌>>=◌, is_ahead, is_lparen, at_rparen, text, in_parentheses, many}
use Rattle.isle_parser_cursor.specs.NameReaders.{name}
use Rattle.isle_parser_verification.specs.ModelReaders.{number, width, model_fields, model_field_inside, named_inside, struct_inside, model_inside, model_of_word, model_word, model_step, model_within, model_type}
use Rattle.isle_parser_cursor.proofs.ReaderSteps.{nothing, made_of, word_is, word_ahead, flag_read, flag_absent, choice, CompleteClosed, list_sound, word_shorter}
use Rattle.isle_parser_cursor.proofs.Names.{name_sound, name_complete, name_begins}
use Rattle.isle_parser_cursor.proofs.Readers.{Sound, Begins, Shrinks, Goes, begins_node, bind_some, chosen, chosen_some, done, done_is, moved, shrinks, many_complete, begins_goes, stopping_closes}
use Rattle.isle_parser_cursor.proofs.Readers.{parentheses_sound, parentheses_complete, parentheses_begin, agree}

-- ---- numbers

some_same : {A : Type 0} {x y : A} → done x ≡ done y → x ≡ y
some_same e = cc

number_at : (place : Pos) (t : Tok) (xs rest : List Placed) (n : ℕ) → number (record { pos = place; token = t } ∷ xs) ≡ Some (n, rest) → SpellsNumber n (record { pos = place; token = t } ∷ xs) rest
unfolding number
number_at place lparen xs rest n e = absurd cc
number_at place rparen xs rest n e = absurd cc
number_at place (symbol t) xs rest n e = absurd cc
number_at place (integer (pos v)) xs rest n e =
    let a = bind_some (cond (nat_lt v (2 ^ 64)) (Some v) None) (λ m. Some (m, xs)) (n, rest) e in
    let c = chosen_some (nat_lt v (2 ^ 64)) v a.0 a.1 in
    let behind = done_is a.0 n xs rest a.2 in
    let is : v ≡ n = some_same c.1 ∙ behind.0 in
    rw (sym behind.1, sym is) (ltb-true v (2 ^ 64) c.0, (place, refl))
number_at place (integer (negsuc v)) xs rest n e = absurd cc
number_at place at_sign xs rest n e = absurd cc

pub number_sound : Sound SpellsNumber number
unfolding number
number_sound [] rest n e = absurd cc
number_sound (x ∷ xs) rest n e = number_at x.pos x.token xs rest n e

pub number_complete : (n : ℕ) (all rest : List Placed) → SpellsNumber n all rest → number all ≡ Some (n, rest)
unfolding number
number_complete n all rest h = rw (h.1.1, lt-ltb n (2 ^ 64) h.0) refl

-- ---- models

-- what is in the parentheses of a model
abbrev SpellsInside : TypeModel → List Placed → List Placed → Type 0
SpellsInside unspecified_model all rest = ⊥
SpellsInside auto_model all rest = ⊥
SpellsInside int_model all rest = ⊥
SpellsInside bool_model all rest = ⊥
SpellsInside unit_model all rest = ⊥
SpellsInside (bit_vector_model width) all rest = BehindWord (codes "bv") (SpellsOptional SpellsNumber width) all rest
SpellsInside (struct_model fields) all rest = BehindWord (codes "struct") (SpellsModelFields fields) all rest
SpellsInside (named_model name) all rest = BehindWord (codes "named") (SpellsName name) all rest

from_inside : (m : TypeModel) (all rest : List Placed) → InParentheses (SpellsInside m) all rest → SpellsTypeModel m all rest
from_inside unspecified_model all rest h = absurd h.3
from_inside auto_model all rest h = absurd h.3
from_inside int_model all rest h = absurd h.3
from_inside bool_model all rest h = absurd h.3
from_inside unit_model all rest h = absurd h.3
from_inside (bit_vector_model w) all rest h = h
from_inside (struct_model fs) all rest h = h
from_inside (named_model n) all rest h = h

width_sound : Sound (SpellsOptional SpellsNumber) width
unfolding width
width_sound all rest w e =
    elim (chosen (at_rparen all) (Some (None, all)) (number all >>= λ n. Some (Some n.0, n.1)) (Some (w, rest)) e) [
      | inl h ↦
          let is = done_is None w all rest h.1 in
          moved (SpellsOptional SpellsNumber) None w all all rest is refl
      | inr h ↦
          let n = made_of Some h.1 in
          subst (λ (w : Option ℕ). SpellsOptional SpellsNumber w all rest) n.2 (number_sound all rest n.0 n.1)
    ]

width_complete : CompleteClosed (SpellsOptional SpellsNumber) width
unfolding width
width_complete None all rest closed h = rw (h, closed) refl
width_complete (Some n) all rest closed h =
    let open_ : at_rparen all ≡ false = rw h.1.1 refl in
    rw (open_, number_complete n all rest h) refl

-- a field, as it is in a list
abbrev SpellsFieldInside : Name × TypeModel → List Placed → List Placed → Type 0
SpellsFieldInside f inner close = (behind : List Placed) × SpellsName f.0 inner behind × SpellsTypeModel f.1 behind close

abbrev SpellsField : Name × TypeModel → List Placed → List Placed → Type 0
SpellsField f = InParentheses (SpellsFieldInside f)

fields_spelt : (fs : List (Name × TypeModel)) (all rest : List Placed) → SpellsAll SpellsField fs all rest → SpellsModelFields (model_fields fs) all rest
fields_spelt [] all rest h = h
fields_spelt (f ∷ fs) all rest h = (h.0, h.1, fields_spelt fs h.0 rest h.2)

abbrev listed : ModelFieldList → List (Name × TypeModel)
listed no_model_field = []
listed (model_field n ty fs) = (n, ty) ∷ listed fs

listed_fields : (fs : ModelFieldList) → model_fields (listed fs) ≡ fs
listed_fields no_model_field = refl
listed_fields (model_field n ty fs) = ap (model_field n ty) (listed_fields fs)

fields_listed : (fs : ModelFieldList) (all rest : List Placed) → SpellsModelFields fs all rest → SpellsAll SpellsField (listed fs) all rest
fields_listed no_model_field all rest h = h
fields_listed (model_field n ty fs) all rest h = (h.0, h.1, fields_listed fs h.0 rest h.2)

field_inside_sound : (read : Reader TypeModel) → Sound SpellsTypeModel read → Sound SpellsFieldInside (model_field_inside read)
unfolding model_field_inside
field_inside_sound read sound all rest f e =
    let n = bind_some (name all) (λ n. read n.1 >>= λ ty. Some ((n.0, ty.0), ty.1)) (f, rest) e in
    let ty = bind_some (read n.0.1) (λ ty. Some ((n.0.0, ty.0), ty.1)) (f, rest) n.2 in
    let is = done_is (n.0.0, ty.0.0) f ty.0.1 rest ty.2 in
    moved SpellsFieldInside (n.0.0, ty.0.0) f all ty.0.1 rest is (n.0.1, name_sound all n.0.1 n.0.0 n.1, sound n.0.1 ty.0.1 ty.0.0 ty.1)

named_sound : (all rest : List Placed) (m : TypeModel) → named_inside all ≡ Some (m, rest) → SpellsInside m all rest
unfolding named_inside
named_sound all rest m e =
    elim (choice (codes "named") (λ i. name i >>= λ n. Some (named_model n.0, n.1)) (λ i. None) all e) [
      | inl h ↦
          let n = made_of named_model h.2 in
          subst (λ (m : TypeModel). SpellsInside m all rest) n.2 (h.0, h.1, name_sound h.0 rest n.0 n.1)
      | inr h ↦ absurd (nothing h.1)
    ]

struct_sound : (read : Reader TypeModel) → Sound SpellsTypeModel read → Sound SpellsInside (struct_inside read)
unfolding struct_inside
struct_sound read sound all rest m e =
    elim (choice (codes "struct") (λ i. many at_rparen (in_parentheses (model_field_inside read)) i >>= λ fs. Some (struct_model (model_fields fs.0), fs.1)) named_inside all e) [
      | inl h ↦
          let fs = made_of (λ (fs : List (Name × TypeModel)). struct_model (model_fields fs)) h.2 in
          let list = list_sound SpellsField (in_parentheses (model_field_inside read)) (parentheses_sound SpellsFieldInside (model_field_inside read) (field_inside_sound read sound)) h.0 rest fs.0 fs.1 in
          subst (λ (m : TypeModel). SpellsInside m all rest) fs.2 (h.0, h.1, fields_spelt fs.0 h.0 rest list)
      | inr h ↦ named_sound all rest m h.1
    ]

inside_sound : (read : Reader TypeModel) → Sound SpellsTypeModel read → Sound SpellsInside (model_inside read)
unfolding model_inside
inside_sound read sound all rest m e =
    elim (choice (codes "bv") (λ i. width i >>= λ n. Some (bit_vector_model n.0, n.1)) (struct_inside read) all e) [
      | inl h ↦
          let w = made_of bit_vector_model h.2 in
          subst (λ (m : TypeModel). SpellsInside m all rest) w.2 (h.0, h.1, width_sound h.0 rest w.0 w.1)
      | inr h ↦ struct_sound read sound all rest m h.1
    ]

-- one of the words that stand for a model
word_chosen : {all rest : List Placed} {w : List ℕ} (word : List ℕ) (m n : TypeModel) (other : Option TypeModel) → text all ≡ Some (w, rest) → (SpellsWord word all rest → SpellsTypeModel m all rest)
    → (other ≡ Some n → SpellsTypeModel n all rest) → cond (bytes_eq w word) (Some m) other ≡ Some n → SpellsTypeModel n all rest
word_chosen {all = all} {rest = rest} {w = w} word m n other e spelt otherwise is =
    elim (chosen (bytes_eq w word) (Some m) other (Some n) is) [
      | inl h ↦ subst (λ (n : TypeModel). SpellsTypeModel n all rest) (some_same {x = m} {y = n} h.1) (spelt (word_is e h.0))
      | inr h ↦ otherwise h.1
    ]

word_sound : (all rest : List Placed) (m : TypeModel) (w : List ℕ) → text all ≡ Some (w, rest) → model_of_word w ≡ Some m → SpellsTypeModel m all rest
word_sound all rest m w e =
    word_chosen (codes "!") unspecified_model m _ e (λ h. h)
    (word_chosen (codes "_") auto_model m _ e (λ h. h)
    (word_chosen (codes "Bool") bool_model m _ e (λ h. h)
    (word_chosen (codes "Int") int_model m _ e (λ h. h)
    (word_chosen (codes "Unit") unit_model m _ e (λ h. h) (λ h. absurd (nothing h))))))

model_word_sound : Sound SpellsTypeModel model_word
unfolding model_word
model_word_sound all rest m e =
    let w = bind_some (text all) (λ w. model_of_word w.0 >>= λ m. Some (m, w.1)) (m, rest) e in
    let n = bind_some (model_of_word w.0.0) (λ m. Some (m, w.0.1)) (m, rest) w.2 in
    let is = done_is n.0 m w.0.1 rest n.2 in
    moved SpellsTypeModel n.0 m all w.0.1 rest is (word_sound all w.0.1 n.0 w.0.0 w.1 n.1)

step_sound : (read : Reader TypeModel) → Sound SpellsTypeModel read → Sound SpellsTypeModel (model_step read)
unfolding model_step
step_sound read sound all rest m e =
    elim (chosen (is_ahead is_lparen all) (in_parentheses (model_inside read) all) (model_word all) (Some (m, rest)) e) [
      | inl h ↦ from_inside m all rest (parentheses_sound SpellsInside (model_inside read) (inside_sound read sound) all rest m h.1)
      | inr h ↦ model_word_sound all rest m h.1
    ]

-- ---- models are complete

width_shorter : (w : Option ℕ) (all rest : List Placed) → SpellsOptional SpellsNumber w all rest → length rest ≤ length all
width_shorter None all rest h = rw h (omega arith)
width_shorter (Some n) all rest h = rw h.1.1 (omega arith)

mutual
  pub model_begins : (m : TypeModel) (all rest : List Placed) → SpellsTypeModel m all rest → (is_ahead begins_node all ≡ true) × (length rest < length all)
  model_begins unspecified_model all rest h = (rw h.1 refl, rw h.1 (omega arith))
  model_begins auto_model all rest h = (rw h.1 refl, rw h.1 (omega arith))
  model_begins int_model all rest h = (rw h.1 refl, rw h.1 (omega arith))
  model_begins bool_model all rest h = (rw h.1 refl, rw h.1 (omega arith))
  model_begins unit_model all rest h = (rw h.1 refl, rw h.1 (omega arith))
  model_begins (bit_vector_model w) all rest h = parentheses_begin _ (λ i j b. omega (arith, word_shorter (codes "bv") i b.0 b.1, width_shorter w b.0 j b.2)) all rest h
  model_begins (struct_model fs) all rest h = parentheses_begin _ (λ i j b. omega (arith, word_shorter (codes "struct") i b.0 b.1, fields_shorter fs b.0 j b.2)) all rest h
  model_begins (named_model n) all rest h = parentheses_begin _ (λ i j b. omega (arith, word_shorter (codes "named") i b.0 b.1, (name_begins n b.0 j b.2).1)) all rest h

  fields_shorter : (fs : ModelFieldList) (all rest : List Placed) → SpellsModelFields fs all rest → length rest ≤ length all
  fields_shorter no_model_field all rest h = rw h (omega arith)
  fields_shorter (model_field n ty fs) all rest h =
      let one = parentheses_begin (SpellsFieldInside (n, ty)) (λ i j b. omega (arith, (name_begins n i b.0 b.1).1, (model_begins ty b.0 j b.2).1)) all h.0 h.1 in
      omega (arith, one.1, fields_shorter fs h.0 rest h.2)

-- ---- models are complete

-- no `@` is ahead of a model
model_goes : (m : TypeModel) (all rest : List Placed) → SpellsTypeModel m all rest → Goes all
model_goes m all rest h = begins_goes all (model_begins m all rest h).0

-- complete on models of fewer tokens than this
abbrev Fits : ℕ → Reader TypeModel → Type 0
Fits n read = (m : TypeModel) (all rest : List Placed) → length all < n → SpellsTypeModel m all rest → read all ≡ Some (m, rest)

field_inside_complete : (n : ℕ) (read : Reader TypeModel) → Fits n read → (f : Name × TypeModel) (all rest : List Placed) → length all < n → SpellsFieldInside f all rest → model_field_inside read all ≡ Some (f, rest)
unfolding model_field_inside
field_inside_complete n read fits f all rest below h =
    let shorter : length h.0 < length all = (name_begins f.0 all h.0 h.1).1 in
    let goes : Goes h.0 = model_goes f.1 h.0 rest h.2 in
    rw (name_complete f.0 all h.0 goes h.1, fits f.1 h.0 rest (omega arith) h.2) refl

field_complete : (n : ℕ) (read : Reader TypeModel) → Fits n read → (f : Name × TypeModel) (all rest : List Placed) → length all < n → SpellsField f all rest → in_parentheses (model_field_inside read) all ≡ Some (f, rest)
field_complete n read fits f all rest below h = parentheses_complete SpellsFieldInside (model_field_inside read) f all rest (λ i j lt closed b. field_inside_complete n read fits f i j (omega (arith, lt, below)) b) h

field_begins : Begins SpellsField
field_begins f = parentheses_begin (SpellsFieldInside f) (λ i j b. omega (arith, (name_begins f.0 i b.0 b.1).1, (model_begins f.1 b.0 j b.2).1))

fields_complete : (n : ℕ) (read : Reader TypeModel) → Fits n read → (fs : ModelFieldList) (all rest : List Placed) → length all < n → at_rparen rest ≡ true → SpellsModelFields fs all rest
    → many at_rparen (in_parentheses (model_field_inside read)) all ≡ Some (listed fs, rest)
fields_complete n read fits fs all rest below closed h =
    many_complete SpellsField (in_parentheses (model_field_inside read)) at_rparen n (λ f i j lt goes. field_complete n read fits f i j lt) field_begins stopping_closes (listed fs) all rest below (fields_listed fs all rest h) closed

inside_complete : (n : ℕ) (read : Reader TypeModel) → Fits n read → (m : TypeModel) (all rest : List Placed) → length all < n → at_rparen rest ≡ true → SpellsInside m all rest → model_inside read all ≡ Some (m, rest)
unfolding model_inside struct_inside named_inside
inside_complete n read fits unspecified_model all rest below closed h = absurd h
inside_complete n read fits auto_model all rest below closed h = absurd h
inside_complete n read fits int_model all rest below closed h = absurd h
inside_complete n read fits bool_model all rest below closed h = absurd h
inside_complete n read fits unit_model all rest below closed h = absurd h
inside_complete n read fits (bit_vector_model w) all rest below closed h = rw (flag_read (codes "bv") all h.0 h.1, width_complete w h.0 rest closed h.2) refl
inside_complete n read fits (struct_model fs) all rest below closed h =
    let shorter : length h.0 < length all = word_shorter (codes "struct") all h.0 h.1 in
    rw (flag_absent (codes "bv") all (word_ahead h.1 (codes "bv")), flag_read (codes "struct") all h.0 h.1, fields_complete n read fits fs h.0 rest (omega arith) closed h.2, listed_fields fs) refl
inside_complete n read fits (named_model name) all rest below closed h =
    rw (
      flag_absent (codes "bv") all (word_ahead h.1 (codes "bv")),
      flag_absent (codes "struct") all (word_ahead h.1 (codes "struct")),
      flag_read (codes "named") all h.0 h.1,
      name_complete name h.0
          rest (stopping_closes.goes rest closed) h.2,
    ) refl

enclosed : (n : ℕ) (read : Reader TypeModel) → Fits n read → (m : TypeModel) (all rest : List Placed) → length all < suc n → InParentheses (SpellsInside m) all rest → model_step read all ≡ Some (m, rest)
unfolding model_step
enclosed n read fits m all rest below h =
    let here : is_ahead is_lparen all ≡ true = rw h.2.1 refl in
    rw here (parentheses_complete SpellsInside (model_inside read) m all rest (λ i j lt closed. inside_complete n read fits m i j (omega (arith, lt, below)) closed) h)

step_complete : (n : ℕ) (read : Reader TypeModel) → Fits n read → Fits (suc n) (model_step read)
unfolding model_step model_word text
step_complete n read fits unspecified_model all rest below h = rw h.1 refl
step_complete n read fits auto_model all rest below h = rw h.1 refl
step_complete n read fits int_model all rest below h = rw h.1 refl
step_complete n read fits bool_model all rest below h = rw h.1 refl
step_complete n read fits unit_model all rest below h = rw h.1 refl
step_complete n read fits (bit_vector_model w) all rest below h = enclosed n read fits (bit_vector_model w) all rest below h
step_complete n read fits (struct_model fs) all rest below h = enclosed n read fits (struct_model fs) all rest below h
step_complete n read fits (named_model name) all rest below h = enclosed n read fits (named_model name) all rest below h

within_sound : (n : ℕ) → Sound SpellsTypeModel (model_within n)
unfolding model_within
within_sound zero all rest m e = absurd cc
within_sound (suc n) all rest m e = step_sound (model_within n) (within_sound n) all rest m e

within_complete : (n : ℕ) → Fits n (model_within n)
unfolding model_within
within_complete zero m all rest below h = absurd (omega arith)
within_complete (suc n) m all rest below h = step_complete n (model_within n) (within_complete n) m all rest below h

pub model_type_sound : Sound SpellsTypeModel model_type
unfolding model_type
model_type_sound all rest m e = within_sound (suc (length all)) all rest m e

pub model_type_complete : (m : TypeModel) (all rest : List Placed) → SpellsTypeModel m all rest → model_type all ≡ Some (m, rest)
unfolding model_type
model_type_complete m all rest h = within_complete (suc (length all)) m all rest (omega arith) h

pub model_type_begins : Begins SpellsTypeModel
model_type_begins m all rest h = model_begins m all rest h

pub model_type_shrinks : Shrinks model_type
model_type_shrinks = shrinks SpellsTypeModel model_type model_type_sound model_type_begins

-- more layers than tokens change nothing
pub model_within_same : (m n : ℕ) (all : List Placed) → length all < m → length all < n → model_within m all ≡ model_within n all
model_within_same m n all lm ln =
    agree (model_within m all) (model_within n all)
    (λ x e. within_complete n x.0 all x.1 ln (within_sound m all x.1 x.0 e))
    (λ x e. within_complete m x.0 all x.1 lm (within_sound n all x.1 x.0 e))

-- a model is one layer, whose parts are models
pub model_type-unfolds : (all : List Placed) → model_type all ≡ model_step model_type all
model_type-unfolds all =
    agree (model_type all) (model_step model_type all)
    (λ x e. step_complete (length all) model_type (λ m i j below. model_type_complete m i j) x.0 all x.1 (omega arith) (model_type_sound all x.1 x.0 e))
    (λ x e. model_type_complete x.0 all x.1 (step_sound model_type model_type_sound all x.1 x.0 e))

pub model_field_shrinks : Shrinks (in_parentheses (model_field_inside model_type))
model_field_shrinks = shrinks SpellsField (in_parentheses (model_field_inside model_type)) (parentheses_sound SpellsFieldInside (model_field_inside model_type) (field_inside_sound model_type model_type_sound)) field_begins
