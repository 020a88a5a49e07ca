-- The tokens of the shape of a writable model of types spell it, erased.
use Rattle.std.proofs.Common.{ℕ, ◌^◌, ◌<◌, List, [], ◌∷◌, codes, Option, None, Some, IfSome, pos, refl, arith}
use Rattle.isle_base.specs.Place.{unknown}
use Rattle.isle_base.specs.Token.{Tok, rparen, integer}
use Rattle.isle_ast_names.specs.Numbers.{SpellsNumber}
use Rattle.isle_ast_verification.specs.Tree.{TypeModel, unspecified_model, auto_model, int_model, bool_model, unit_model, bit_vector_model, struct_model, named_model, ModelFieldList, no_model_field, model_field}
use Rattle.isle_ast_names.specs.Words.{SpellsName, SpellsOptional}
use Rattle.isle_ast_names.specs.Erased.{erase_name}
use Rattle.isle_ast_verification.specs.Erased.{erase_model, erase_model_fields}
use Rattle.isle_ast_verification.specs.TypeModelGrammar.{SpellsTypeModel, SpellsModelFields}
use Rattle.isle_ast_verification.specs.Writable.{IsWritableModel, AreWritableModelFields}
use Rattle.isle_printer_layout.specs.NameShapes.{name_shape, number_shape}
use Rattle.isle_printer_verification.specs.SpecShapes.{width_shape, model_shape, model_field_shapes}
use Rattle.isle_printer_layout.proofs.NumberAtoms.{decimal-ReadsAs}
use Rattle.isle_printer_layout.proofs.Spellings.{Spelling, spell-nothing, spell-word, spell-name, spell-list, spell-form, InTurn, spell-turn}
use Rattle.isle_printer_layout.proofs.WordSymbols.{word-struct, word-bv, word-named, word-Int, word-Bool, word-Unit, word-bang, word-underscore}

spell-number : (n : ℕ) → n < 2 ^ 64 → (rest : List Tok) → Spelling (number_shape n ∷ []) (SpellsNumber n) rest
spell-number n fits rest = record {
  all = integer (pos n) ∷ rest;
  tokens = record { are = (rest, (integer (pos n), refl, λ rest apart. decimal-ReadsAs n (omega arith) rest apart, refl), refl) };
  spells = (fits, (unknown, refl));
}

spell-width : (width : Option ℕ) → IfSome width (λ n. n < 2 ^ 64) → (rest : List Tok) → Spelling (width_shape width) (SpellsOptional SpellsNumber width) rest
spell-width None fits rest = spell-nothing rest
spell-width (Some n) fits rest = spell-number n fits rest

mutual
  pub spell-model : (m : TypeModel) → IsWritableModel m → (rest : List Tok) → Spelling (model_shape m ∷ []) (SpellsTypeModel (erase_model m)) rest
  spell-model unspecified_model is rest = spell-word (codes "!") word-bang rest
  spell-model auto_model is rest = spell-word (codes "_") word-underscore rest
  spell-model int_model is rest = spell-word (codes "Int") word-Int rest
  spell-model bool_model is rest = spell-word (codes "Bool") word-Bool rest
  spell-model unit_model is rest = spell-word (codes "Unit") word-Unit rest
  spell-model (bit_vector_model width) is rest =
      spell-form (codes "bv") word-bv (width_shape width) (SpellsOptional SpellsNumber width) rest (spell-width width is (rparen ∷ rest))
  spell-model (struct_model fields) is rest =
      spell-form (codes "struct") word-struct (model_field_shapes fields) (SpellsModelFields (erase_model_fields fields)) rest
      (spell-model_fields fields is (rparen ∷ rest))
  spell-model (named_model name) is rest =
      spell-form (codes "named") word-named (name_shape name ∷ []) (SpellsName (erase_name name)) rest (spell-name name is (rparen ∷ rest))

  spell-model_fields : (fields : ModelFieldList) → AreWritableModelFields fields → (rest : List Tok) → Spelling (model_field_shapes fields) (SpellsModelFields (erase_model_fields fields)) rest
  spell-model_fields no_model_field is rest = spell-nothing rest
  spell-model_fields (model_field name ty fields) is rest =
      let behind = spell-model_fields fields is.2 rest in
      let second = spell-model ty is.1 (rparen ∷ behind.all) in
      let first = spell-name name is.0 second.all in
      let field = spell-list (name_shape name ∷ model_shape ty ∷ []) (InTurn (SpellsName (erase_name name)) (SpellsTypeModel (erase_model ty))) behind.all (spell-turn second first) in
      spell-turn behind field
