-- Models, as the code reads them: a model that is one word, and the fields of a struct.
use Rattle.std.proofs.Common.{◌≡◌, List, [], ◌∷◌, Some, None, refl, sym, ap, rules}
use Rattle.std.specs.Prelude.{map}
use Rattle.std.specs.Global.{Vec}
use Rattle.isle_base_source.specs.declared.pos.Pos.{Pos}
use Rattle.isle_base.specs.Place.{Placed}
use Rattle.isle_base.specs.Token.{Tok, lparen, rparen, symbol, integer, at_sign}
use Rattle.isle_ast_verification.specs.declared.ModelType.TheVariants.{Struct}
use Rattle.isle_ast_verification.specs.declared.ModelField.{ModelField}
use Rattle.isle_ast_verification.specs.declared.ModelType.{the_lemmas}
use Rattle.isle_ast_verification.specs.Tree.{ModelFieldList, TypeModel, model_field, struct_model}
use Rattle.isle_ast_verification.specs.TreeView.{model_list_of, single_model_field_of, single_model_fields_of, type_model_of}
use Rattle.isle_ast_names.specs.TreeView.{name_of}
use Rattle.isle_parser_cursor.specs.declared.cursor.Stop.{Stop}
use Rattle.isle_parser_cursor.specs.Outcomes.{CursorSource, Stops}
use Rattle.isle_parser_cursor.specs.Reading.{take, text}
use Rattle.isle_parser_verification.specs.ModelReaders.{model_ahead, model_fields, model_step, model_type, model_word}
use Rattle.isle_parser_verification.specs.StructParts.{field_of}
use Rattle.isle_parser_cursor.proofs.Readers.{done_is}
use Rattle.isle_parser_verification.proofs.Reading.Models.{model_type-unfolds}
use Rattle.isle_parser_cursor.specs.declared.cursor.Stop.TheVariants as stops

at_token : (place : Pos) (t : Tok) (xs : List Placed) (m : TypeModel) → model_ahead (record { pos = place; token = t } ∷ xs) ≡ Some m → model_word (record { pos = place; token = t } ∷ xs) ≡ Some (m, xs)
unfolding model_word text
at_token place lparen xs m e = absurd cc
at_token place rparen xs m e = absurd cc
at_token place (symbol word) xs m e = rw e refl
at_token place (integer n) xs m e = absurd cc
at_token place at_sign xs m e = absurd cc

-- the word ahead is taken
pub word_taken : (all rest : List Placed) (m : TypeModel) (t : Tok) → model_ahead all ≡ Some m → take all ≡ Some (t, rest) → model_word all ≡ Some (m, rest)
word_taken [] rest m t e f = absurd cc
word_taken (x ∷ xs) rest m t e f =
    let behind : xs ≡ rest = (done_is x.token t xs rest f).1 in
    rw (sym behind) (at_token x.pos x.token xs m e)

other_token : (place : Pos) (t : Tok) (xs : List Placed) → model_ahead (record { pos = place; token = t } ∷ xs) ≡ None → model_word (record { pos = place; token = t } ∷ xs) ≡ None
unfolding model_word text
other_token place lparen xs e = refl
other_token place rparen xs e = refl
other_token place (symbol word) xs e = rw e refl
other_token place (integer n) xs e = refl
other_token place at_sign xs e = refl

nothing_ahead : model_word [] ≡ None
unfolding model_word text
nothing_ahead = refl

-- no word that means a model is ahead
pub other_word : (all : List Placed) → model_ahead all ≡ None → model_word all ≡ None
other_word [] e = nothing_ahead
other_word (x ∷ xs) e = other_token x.pos x.token xs e

none_taken : (all : List Placed) → take all ≡ None → model_word all ≡ None
none_taken [] e = nothing_ahead
none_taken (x ∷ xs) e = absurd cc

pub word_stops : (all : List Placed) (s : CursorSource) (e : Stop) → Stops (take all) s e → Stops (model_word all) s e
word_stops all s (stops.Parser e) h = (none_taken all h.0, h.1)
word_stops all s stops.Memory h = tt

-- a model is its own step
pub model_type_is : (all : List Placed) → model_type all ≡ model_step model_type all
model_type_is all = model_type-unfolds all

field_seen : (f : ModelField) → single_model_field_of f ≡ record { name = name_of f.name; ty = type_model_of f.ty }
field_seen f = search (rules, the_lemmas)

-- the list of the fields, from the code's list
pub fields_seen : (fs : List ModelField) → model_fields (map field_of fs) ≡ model_list_of (single_model_fields_of fs)
fields_seen [] = refl
fields_seen (f ∷ fs) = rw (field_seen f) (ap (λ (r : ModelFieldList). model_field (name_of f.name) (type_model_of f.ty) r) (fields_seen fs))

-- a struct, by its list
pub struct_seen : (v : Vec ModelField) → type_model_of (Struct v) ≡ struct_model (model_list_of (single_model_fields_of v.items))
struct_seen v = search (rules, the_lemmas)
