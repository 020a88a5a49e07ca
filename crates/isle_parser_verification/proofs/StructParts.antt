-- Structs of models are read field by field, and a field front first.
use Rattle.std.proofs.Common.{◌≡◌, Bool, true, false, cond, List, [], ◌∷◌, ◌++◌, Option, Some, None, refl, sym, ap, ◌∙◌}
use Rattle.std.specs.Prelude.{codes, if◌then◌else◌, IfOk, map, Result, Ok, Err}
use Rattle.std.proofs.lemmas.List.{map_push, same_from_push}
use Rattle.std.specs.Global.{Vec}
use Rattle.isle_base.specs.Place.{Placed}
use Rattle.isle_base.specs.Token.{Tok, rparen}
use Rattle.isle_ast_names.specs.Tree.{Name}
use Rattle.isle_ast_names.specs.TreeView.{name_of}
use Rattle.isle_ast_verification.specs.declared.ModelField.{ModelField}
use Rattle.isle_ast_verification.specs.declared.ModelType.{ModelType}
use Rattle.isle_ast_verification.specs.declared.ModelType.TheVariants.{Struct}
use Rattle.isle_ast_verification.specs.Tree.{TypeModel, bit_vector_model, struct_model}
use Rattle.isle_ast_verification.specs.TreeView.{type_model_of}
use Rattle.isle_parser_cursor.specs.declared.cursor.Cursor.{Cursor}
use Rattle.isle_parser_cursor.specs.declared.cursor.Stop.{Stop}
use Rattle.isle_parser_cursor.specs.Outcomes.{MatchesRead, CursorSource, Stops, left, source}
use Rattle.isle_parser_cursor.specs.Reading.{◌>>=◌, at_rparen, expect, flag, in_parentheses, is_ahead, is_lparen, is_rparen, many}
use Rattle.isle_parser_cursor.specs.NameReaders.{name}
use Rattle.isle_parser_verification.specs.ModelReaders.{model_field_inside, model_fields, model_inside, model_step, model_type, model_word, named_inside, struct_inside, width}
use Rattle.isle_parser_verification.specs.StructParts.{AppendsField, HasModel, HasStruct, bit_vector, both_closed, field, field_in_parts, field_of, field_rest, field_with, inside_front, model_front}
use Rattle.isle_parser_verification.specs.StructParts.{model_rest, struct_front, struct_rest, whole}
use Rattle.isle_parser_verification.proofs.Words.Models.{fields_seen, model_type_is, struct_seen}
use Rattle.isle_parser_cursor.specs.declared.cursor.Stop.TheVariants as stops

-- a front, and what is left of its model
abbrev pub completed : Option (Option TypeModel × List Placed) → Option (TypeModel × List Placed)
completed front = front >>= λ f. model_rest f.0 f.1

-- what is read, and `)`
abbrev closing : Option (TypeModel × List Placed) → Option (TypeModel × List Placed)
closing read = read >>= λ x. expect is_rparen x.1 >>= λ rest. Some (x.0, rest.1)

after_rparen : (ty : TypeModel) (read : Option (Tok × List Placed)) → (read >>= λ rest. Some (ty, rest.1)) ≡ completed (read >>= λ rest. Some (Some ty, rest.1))
after_rparen ty None = refl
after_rparen ty (Some rest) = refl

after_model : (read : Option (TypeModel × List Placed)) → closing read ≡ completed (read >>= λ ty. expect is_rparen ty.1 >>= λ rest. Some (Some ty.0, rest.1))
after_model None = refl
after_model (Some x) = after_rparen x.0 (expect is_rparen x.1)

after_fields : (read : Option (List (Name × TypeModel) × List Placed))
    → closing (read >>= λ fs. Some (struct_model (model_fields fs.0), fs.1)) ≡ (read >>= λ fs. expect is_rparen fs.1 >>= λ rest. Some (struct_model (model_fields fs.0), rest.1))
after_fields None = refl
after_fields (Some fs) = refl

after_struct : (read : Option (Bool × List Placed))
    → closing (read >>= λ word. if word.0 then (many at_rparen field word.1 >>= λ fs. Some (struct_model (model_fields fs.0), fs.1)) else named_inside word.1) ≡ completed
    (read >>= λ word. if word.0 then Some (None, word.1) else whole named_inside word.1)
unfolding struct_rest whole
after_struct None = refl
after_struct (Some (true, rest)) = after_fields (many at_rparen field rest)
after_struct (Some (false, rest)) = after_model (named_inside rest)

after_width : (read : Option (Bool × List Placed))
    → closing (read >>= λ word. if word.0 then (width word.1 >>= λ n. Some (bit_vector_model n.0, n.1)) else struct_inside model_type word.1) ≡ completed
    (read >>= λ word. if word.0 then whole bit_vector word.1 else struct_front word.1)
unfolding struct_inside struct_front whole bit_vector
after_width None = refl
after_width (Some (true, rest)) = after_model (width rest >>= λ n. Some (bit_vector_model n.0, n.1))
after_width (Some (false, rest)) = after_struct (flag (codes "struct") rest)

after_lparen : (read : Option (Tok × List Placed)) → (read >>= λ inside. closing (model_inside model_type inside.1)) ≡ completed (read >>= λ inside. inside_front inside.1)
unfolding model_inside inside_front
after_lparen None = refl
after_lparen (Some inside) = after_width (flag (codes "bv") inside.1)

after_word : (read : Option (TypeModel × List Placed)) → read ≡ completed (read >>= λ ty. Some (Some ty.0, ty.1))
after_word None = refl
after_word (Some x) = refl

either : (opens : Bool) (all : List Placed)
    → cond opens (in_parentheses (model_inside model_type) all) (model_word all) ≡ completed
    (cond opens (expect is_lparen all >>= λ inside. inside_front inside.1) (model_word all >>= λ ty. Some (Some ty.0, ty.1)))
unfolding in_parentheses
either true all = after_lparen (expect is_lparen all)
either false all = after_word (model_word all)

-- a model is its front, and what is left of it
pub front_is : (all : List Placed) → model_type all ≡ completed (model_front all)
unfolding model_step model_front
front_is all = model_type_is all ∙ either (is_ahead is_lparen all) all

-- a model whose front isn't read isn't read
pub front_stops : (all : List Placed) (s : CursorSource) (e : Stop) → Stops (model_front all) s e → Stops (model_type all) s e
front_stops all s (stops.Parser e) h = (rw (front_is all, h.0) refl, h.1)
front_stops all s stops.Memory h = tt

-- a model that is no struct
pub front_whole : (all rest : List Placed) (ty : TypeModel) → model_front all ≡ Some (Some ty, rest) → model_type all ≡ Some (ty, rest)
front_whole all rest ty e = rw (front_is all, e) refl

-- a struct
pub front_open : (all inner : List Placed) → model_front all ≡ Some (None, inner) → model_type all ≡ struct_rest inner
front_open all inner e = rw (front_is all, e) refl

-- ---- a field

-- a model after a name
abbrev named : Name → Option (TypeModel × List Placed) → Option ((Name × TypeModel) × List Placed)
named n read = read >>= λ ty. Some ((n, ty.0), ty.1)

abbrev closing_field : Option ((Name × TypeModel) × List Placed) → Option ((Name × TypeModel) × List Placed)
closing_field read = read >>= λ x. expect is_rparen x.1 >>= λ rest. Some (x.0, rest.1)

abbrev field_end : Name → Option (TypeModel × List Placed) → Option ((Name × TypeModel) × List Placed)
field_end n read = read >>= λ ty. expect is_rparen ty.1 >>= λ rest. Some ((n, ty.0), rest.1)

behind_model : (n : Name) (read : Option (TypeModel × List Placed)) → closing_field (named n read) ≡ field_end n read
behind_model n None = refl
behind_model n (Some ty) = refl

behind_front : (n : Name) (front : Option (Option TypeModel × List Placed)) → closing_field (named n (completed front)) ≡ (front >>= λ f. field_end n (model_rest f.0 f.1))
behind_front n None = refl
behind_front n (Some f) = behind_model n (model_rest f.0 f.1)

behind_name : (read : Option (Name × List Placed)) → closing_field (read >>= λ n. named n.0 (model_type n.1)) ≡ (read >>= λ n. model_front n.1 >>= λ f. field_end n.0 (model_rest f.0 f.1))
behind_name None = refl
behind_name (Some n) = rw (front_is n.1) (behind_front n.0 (model_front n.1))

behind_lparen : (read : Option (Tok × List Placed)) → (read >>= λ inside. closing_field (model_field_inside model_type inside.1)) ≡ (read >>= λ inside. name inside.1 >>= λ n. model_front n.1 >>= λ f. field_end n.0 (model_rest f.0 f.1))
unfolding model_field_inside
behind_lparen None = refl
behind_lparen (Some inside) = behind_name (name inside.1)

-- a field is read front first
pub field_is : (all : List Placed) → field all ≡ field_in_parts all
unfolding in_parentheses field_in_parts
field_is all = behind_lparen (expect is_lparen all)

-- a field whose model is no struct
pub field_whole : (all inside named behind rest : List Placed) (t u : Tok) (n : Name) (ty : TypeModel) → expect is_lparen all ≡ Some (t, inside) → name inside ≡ Some (n, named)
    → model_front named ≡ Some (Some ty, behind) → expect is_rparen behind ≡ Some (u, rest) → field all ≡ Some ((n, ty), rest)
unfolding field_in_parts
field_whole all inside named behind rest t u n ty e f g h = rw (field_is all, e, f, g, h) refl

abbrev struct_end : Option (List (Name × TypeModel) × List Placed) → Option (TypeModel × List Placed)
struct_end read = read >>= λ fs. expect is_rparen fs.1 >>= λ rest. Some (struct_model (model_fields fs.0), rest.1)

abbrev struct_closed : TypeModel → Option (Tok × List Placed) → Option (TypeModel × List Placed)
struct_closed ty read = read >>= λ rest. Some (ty, rest.1)

after_one : (n : Name) (ty : TypeModel) (read : Option (Tok × List Placed)) → field_end n (struct_closed ty read) ≡ ((read >>= λ inner. expect is_rparen inner.1) >>= λ rest. Some ((n, ty), rest.1))
after_one n ty None = refl
after_one n ty (Some rest) = refl

after_both : (n : Name) (read : Option (List (Name × TypeModel) × List Placed)) → field_end n (struct_end read) ≡ (read >>= λ fs. both_closed fs.1 >>= λ rest. Some ((n, struct_model (model_fields fs.0)), rest.1))
unfolding both_closed
after_both n None = refl
after_both n (Some fs) = after_one n (struct_model (model_fields fs.0)) (expect is_rparen fs.1)

struct_in_field : (n : Name) (all : List Placed) → field_end n (struct_rest all) ≡ field_rest n all
unfolding struct_rest field_rest
struct_in_field n all = after_both n (many at_rparen field all)

-- a field whose model is a struct
pub field_open : (all inside named behind : List Placed) (t : Tok) (n : Name) → expect is_lparen all ≡ Some (t, inside) → name inside ≡ Some (n, named) → model_front named ≡ Some (None, behind) → field all ≡ field_rest n behind
unfolding field_in_parts
field_open all inside named behind t n e f g = rw (field_is all, e, f, g) (struct_in_field n behind)

-- ---- the list of fields

-- a field that is in the list, and is read whole
pub begun_whole : (before after : List ModelField) (all rest : List Placed) (f : ModelField) → after ≡ before ++ f ∷ [] → field all ≡ Some (field_of f, rest)
    → (x : Name × TypeModel) × (field all ≡ Some (x, rest)) × (map field_of after ≡ map field_of before ++ x ∷ [])
begun_whole before after all rest f e r = (field_of f, r, rw e (map_push field_of before f))

-- the fields of its struct aren't read
pub inner_stops : (n : Name) (all inner : List Placed) (s : CursorSource) (e : Stop) → field all ≡ field_rest n inner → Stops (many at_rparen field inner) s e → Stops (field all) s e
unfolding field_rest
inner_stops n all inner s (stops.Parser e) is h = (rw (is, h.0) refl, h.1)
inner_stops n all inner s stops.Memory is h = tt

unclosed : (n : Name) (all inner rest : List Placed) (fs : List (Name × TypeModel)) (s : CursorSource) (e : Stop) → field all ≡ field_rest n inner → many at_rparen field inner ≡ Some (fs, rest)
    → Stops (both_closed rest) s e → Stops (field all) s e
unfolding field_rest
unclosed n all inner rest fs s (stops.Parser e) is read h = (rw (is, read, h.0) refl, h.1)
unclosed n all inner rest fs s stops.Memory is read h = tt

closed : (n : Name) (all inner rest behind : List Placed) (fs : List (Name × TypeModel)) (t : Tok) → field all ≡ field_rest n inner → many at_rparen field inner ≡ Some (fs, rest)
    → both_closed rest ≡ Some (t, behind) → field all ≡ Some ((n, struct_model (model_fields fs)), behind)
unfolding field_rest
closed n all inner rest behind fs t is read h = rw (is, read, h) refl

-- the field gets its struct, and is closed
pub ended : {X : Type 0} (result : Result X Stop) (before begun after inner : List ModelField) (all opened rest : List Placed) (f : ModelField) (new : Cursor) → begun ≡ before ++ f ∷ []
    → field all ≡ field_rest (name_of f.name) opened → many at_rparen field opened ≡ Some (map field_of inner, rest) → MatchesRead (λ _. rparen) (both_closed rest) result new
    → IfOk result (λ _. HasStruct begun after inner) → AppendsField result before all after new
ended (Ok x) before begun after inner all opened rest f new is reads fields gives has =
    ((name_of f.name, struct_model (model_fields (map field_of inner))), closed (name_of f.name) all opened rest (left new) (map field_of inner) rparen reads fields gives, has before f is)
ended (Err e) before begun after inner all opened rest f new is reads fields gives has =
    unclosed (name_of f.name) all opened rest (map field_of inner) (source new) e reads fields gives

-- ---- the last field

not_none : {A : Type 0} (xs : List A) (x : A) → [] ≡ xs ++ x ∷ [] → ⊥
not_none [] x e = absurd cc
not_none (a ∷ xs) x e = absurd cc

-- no field was taken off, so there is no last one
pub none_has : (before after : List ModelField) (ty : ModelType) → before ≡ [] → HasModel before after ty
none_has before after ty e front f is = absurd (not_none front f (sym e ∙ is))

-- the last field was taken off, and stands there again with this model
pub last_has : (before rest after : List ModelField) (last : ModelField) (ty : ModelType) → before ≡ rest ++ last ∷ [] → after ≡ rest ++ field_with last.name ty ∷ [] → HasModel before after ty
last_has before rest after last ty e a front f is =
    let h = same_from_push rest front last f (sym e ∙ is) in
    a ∙ ap (λ (r : List ModelField). r ++ field_with last.name ty ∷ []) h.0 ∙ ap (λ (l : ModelField). front ++ field_with l.name ty ∷ []) h.1

-- a model that is a struct
pub struct_has : (before after : List ModelField) (inner : Vec ModelField) → HasModel before after (Struct inner) → HasStruct before after inner.items
struct_has before after inner has front f is =
    rw (has front f is, map_push field_of front (field_with f.name (Struct inner)), struct_seen inner, fields_seen inner.items) refl

pub struct_ends : {X : Type 0} (result : Result X Stop) (before after : List ModelField) (inner : Vec ModelField) → IfOk result (λ _. HasModel before after (Struct inner)) → IfOk result (λ _. HasStruct before after inner.items)
struct_ends (Ok x) before after inner has = struct_has before after inner has
struct_ends (Err e) before after inner has = tt

-- a struct that is read
pub struct_read : (all inner rest behind : List Placed) (v : Vec ModelField) (t : Tok) → model_front all ≡ Some (None, inner) → many at_rparen field inner ≡ Some (map field_of v.items, rest)
    → expect is_rparen rest ≡ Some (t, behind) → model_type all ≡ Some (type_model_of (Struct v), behind)
unfolding struct_rest
struct_read all inner rest behind v t e f g = rw (front_is all, e, f, g, fields_seen v.items, struct_seen v) refl
