-- Lists that are read with more than their elements: fields that are counted, and modifiers that set flags.
use Rattle.std.proofs.Common.{◌≡◌, ℕ, suc, ◌+◌, Bool, true, false, not, ◌||◌, Some, List, [], ◌∷◌, ◌++◌, length, map, refl, ap, ◌∙◌, arith}
use Rattle.std.specs.List.{list_any}
use Rattle.std.proofs.lemmas.List.{map_push}
use Rattle.isle_ast_names.specs.Tree.{Name}
use Rattle.isle_ast.specs.Tree.{IndexedField}
use Rattle.isle_ast.specs.declared.ast.TupleField.{TupleField}
use Rattle.isle_ast.specs.TreeView.{indexed_field_of}
use Rattle.isle_ast_names.specs.TreeView.{name_of}
use Rattle.isle_ast.specs.TypeGrammar.{is_extern_word, is_nodebug_word}
use Rattle.isle_base.specs.Place.{Placed}
use Rattle.isle_parser_cursor.specs.declared.cursor.Stop.{Stop}
use Rattle.isle_parser_cursor.specs.Outcomes.{CursorSource, Stops}
use Rattle.isle_parser_cursor.specs.Reading.{many}
use Rattle.isle_parser.specs.TypeReaders.{indexed, modifier, modifier_flags, modifiers, no_symbol, numbered}
use Rattle.isle_parser_cursor.proofs.Loops.{behind_front, loop_begin, loop_end, loop_push, loop_stops, made_end, made_stops}
use Rattle.isle_parser.proofs.Reading.Types.{modifier_shrinks}

-- words that were read, and the flags that they have set
pub record ModifiersSoFar (is_extern is_nodebug : Bool) (all rest : List Placed) : Type 0 where
  pub words : List (List ℕ)
  pub so_far : behind_front words (many no_symbol modifier rest) ≡ modifiers all
  pub extern_set : list_any is_extern_word words ≡ is_extern
  pub nodebug_set : list_any is_nodebug_word words ≡ is_nodebug

abbrev pub type_name : TupleField → Name
type_name f = name_of f.ty

numbered_push : (index : ℕ) (tys : List Name) (ty : Name) → numbered index (tys ++ ty ∷ []) ≡ numbered index tys ++ indexed (index + length tys) ty ∷ []
numbered_push index [] ty = ap (λ (i : ℕ). indexed i ty ∷ []) (omega arith)
numbered_push index (x ∷ tys) ty =
    let i : index + 1 + length tys ≡ index + length (x ∷ tys) = omega arith in
    ap (λ (r : List IndexedField). indexed index x ∷ r) (numbered_push (index + 1) tys ty ∙ ap (λ (i : ℕ). numbered (index + 1) tys ++ indexed i ty ∷ []) i)

names_length : (fs : List TupleField) → length (map type_name fs) ≡ length fs
names_length [] = refl
names_length (f ∷ fs) = ap (λ (n : ℕ). suc n) (names_length fs)

-- one more field, whose index is the number of those before it
pub counted_push : (fs : List TupleField) (f : TupleField) (index : ℕ) → index ≡ length fs → indexed_field_of f ≡ indexed index (type_name f) → map indexed_field_of fs ≡ numbered 0 (map type_name fs)
    → map indexed_field_of (fs ++ f ∷ []) ≡ numbered 0 (map type_name (fs ++ f ∷ []))
counted_push fs f index is field counted =
    let count : index ≡ 0 + length (map type_name fs) = omega (arith, is, names_length fs) in
    let one : indexed_field_of f ≡ indexed (0 + length (map type_name fs)) (type_name f) = field ∙ ap (λ (i : ℕ). indexed i (type_name f)) count in
    let front : map indexed_field_of (fs ++ f ∷ []) ≡ map indexed_field_of fs ++ indexed_field_of f ∷ [] = map_push _ fs f in
    let names : map type_name (fs ++ f ∷ []) ≡ map type_name fs ++ type_name f ∷ [] = map_push _ fs f in
    rw (front, names, numbered_push 0 (map type_name fs) (type_name f), counted, one) refl

or_false : (b : Bool) → (b || false) ≡ b
or_false true = refl
or_false false = refl

or_moved : (a b c : Bool) → (a || (b || c)) ≡ ((a || b) || c)
or_moved true b c = refl
or_moved false b c = refl

-- one more word
pub any_push : (passes : List ℕ → Bool) (words : List (List ℕ)) (word : List ℕ) → list_any passes (words ++ word ∷ []) ≡ (list_any passes words || passes word)
any_push passes [] word = or_false (passes word)
any_push passes (w ∷ words) word = ap (λ (b : Bool). passes w || b) (any_push passes words word) ∙ or_moved (passes w) (list_any passes words) (passes word)

-- ---- modifiers

pub modifiers_begin : (all : List Placed) → ModifiersSoFar false false all all
unfolding modifiers
modifiers_begin all = record { words = []; so_far = loop_begin (many no_symbol modifier all); extern_set = refl; nodebug_set = refl }

pub modifiers_push : (is_extern is_nodebug : Bool) (all here rest : List Placed) (word : List ℕ) → no_symbol here ≡ false → modifier here ≡ Some (word, rest)
    → ModifiersSoFar is_extern is_nodebug all here → ModifiersSoFar (is_extern || is_extern_word word) (is_nodebug || is_nodebug_word word) all rest
modifiers_push is_extern is_nodebug all here rest word goes_on read s =
    record {
      words = s.words ++ word ∷ [];
      so_far = loop_push modifier no_symbol modifier_shrinks s.words here rest word (modifiers all) goes_on read s.so_far;
      extern_set = any_push is_extern_word s.words word ∙ ap (λ (b : Bool). b || is_extern_word word) s.extern_set;
      nodebug_set = any_push is_nodebug_word s.words word ∙ ap (λ (b : Bool). b || is_nodebug_word word) s.nodebug_set;
    }

abbrev flags_of : List (List ℕ) → Bool × Bool
flags_of words = (list_any is_extern_word words, list_any is_nodebug_word words)

pub modifiers_stop : (is_extern is_nodebug : Bool) (all here : List Placed) (s : CursorSource) (e : Stop) → no_symbol here ≡ false → Stops (modifier here) s e → ModifiersSoFar is_extern is_nodebug all here → Stops (modifier_flags all) s e
modifiers_stop is_extern is_nodebug all here s e goes_on h so =
    made_stops flags_of (modifiers all) s e (loop_stops modifier no_symbol modifier_shrinks so.words here (modifiers all) s e goes_on h so.so_far)

pub modifiers_end : (is_extern is_nodebug : Bool) (all here : List Placed) → no_symbol here ≡ true → ModifiersSoFar is_extern is_nodebug all here → modifier_flags all ≡ Some ((is_extern, is_nodebug), here)
modifiers_end is_extern is_nodebug all here ends so =
    made_end flags_of (modifiers all) so.words here (loop_end modifier no_symbol modifier_shrinks so.words here (modifiers all) ends so.so_far)
    ∙ ap (λ (f : Bool × Bool). Some (f, here)) (rw (so.extern_set, so.nodebug_set) refl)

pub no_symbol_false : (b : Bool) → true ≡ b → not b ≡ false
no_symbol_false true e = refl
no_symbol_false false e = absurd cc

pub no_symbol_true : (b : Bool) → false ≡ b → not b ≡ true
no_symbol_true true e = absurd cc
no_symbol_true false e = refl
