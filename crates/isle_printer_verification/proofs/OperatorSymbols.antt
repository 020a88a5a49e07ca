-- The texts of operators, and names with a mark, are symbols.
use Rattle.std.proofs.Common.{◌≡◌, ◌≢◌, ℕ, List, [], ◌∷◌, ◌++◌, Bool, true, false, ◌⊎◌, inl, inr, refl, sym, ap, subst, ◌∙◌}
use Rattle.std.proofs.lemmas.Bool.{false≢true, and_from}
use Rattle.std.proofs.lemmas.List.Folds.{list_all-append}
use Rattle.std.specs.List.{list_all}
use Rattle.isle_base.specs.Literals.{begins_literal}
use Rattle.isle_base.specs.Spellings.{in_symbol, begins_symbol}
use Rattle.isle_base.specs.Skips.{begins_with, is_blank}
use Rattle.isle_base.specs.Token.{symbol}
use Rattle.isle_ast_names.proofs.IdentifierBytes.{identifier_begins_symbol, identifier_in_symbol}
use Rattle.isle_ast_verification.specs.declared.spec.SpecOp.{SpecOp}
use Rattle.isle_ast_names.specs.Identifier.{is_identifier}
use Rattle.isle_ast_verification.specs.Operators.{operator_text}
use Rattle.isle_ast_names.specs.Tree.{Name}
use Rattle.isle_ast_verification.specs.SpecGrammar.{field_mark, discriminator_mark, expansion_mark, dotted}
use Rattle.isle_ast_names.specs.Writable.{IsName}
use Rattle.isle_printer_layout.specs.ReadBack.{ReadsAs}
use Rattle.isle_printer_layout.proofs.NumberAtoms.{begins_with-append}
use Rattle.isle_printer_layout.proofs.ReadBackLaw.{ReadsAs-symbol, ReadsAs-minus}
use Rattle.isle_ast_verification.specs.declared.spec.SpecOp.TheVariants as op

-- The text of each operator reads as a symbol. `-` is one where no byte of a symbol follows it.

abbrev is_minus : SpecOp → Bool
is_minus op.Sub = true
is_minus _ = false

operator_begins : (operator : SpecOp) → operator ≢ op.Sub → begins_with begins_symbol (operator_text operator) ≡ true
unfolding in_symbol begins_symbol is_blank begins_literal
operator_begins op.Sub other = absurd (other refl)
operator_begins _ other = refl

operator_bytes : (operator : SpecOp) → list_all in_symbol (operator_text operator) ≡ true
unfolding in_symbol is_blank
operator_bytes op.Sub = refl
operator_bytes _ = refl

minus_or_other : (operator : SpecOp) → (operator ≡ op.Sub) ⊎ (operator ≢ op.Sub)
minus_or_other op.Sub = inl refl
minus_or_other _ = inr (λ same. false≢true (ap is_minus same))

pub operator-ReadsAs : (operator : SpecOp) → ReadsAs (operator_text operator) (symbol (operator_text operator))
operator-ReadsAs operator =
    elim (minus_or_other operator) [
      | inl minus ↦ subst (λ o. ReadsAs (operator_text o) (symbol (operator_text o))) (sym minus) ReadsAs-minus
      | inr other ↦ ReadsAs-symbol (operator_text operator) (operator_begins operator other) (operator_bytes operator)
    ]

-- bytes of a symbol after an identifier
identifier_behind-ReadsAs : (text behind : List ℕ) → is_identifier text ≡ true → list_all in_symbol behind ≡ true → ReadsAs (text ++ behind) (symbol (text ++ behind))
identifier_behind-ReadsAs text behind is each =
    ReadsAs-symbol (text ++ behind)
    (begins_with-append begins_symbol text behind (identifier_begins_symbol text is))
    (list_all-append in_symbol text behind ∙ and_from _ _ (identifier_in_symbol text is) each)

question_mark : list_all in_symbol (63 ∷ []) ≡ true
unfolding in_symbol is_blank
question_mark = refl

exclamation_mark : list_all in_symbol (33 ∷ []) ≡ true
unfolding in_symbol is_blank
exclamation_mark = refl

dot : in_symbol 46 ≡ true
unfolding in_symbol is_blank
dot = refl

colon_begins : begins_symbol 58 ≡ true
unfolding in_symbol begins_symbol is_blank begins_literal
colon_begins = refl

colon : in_symbol 58 ≡ true
unfolding in_symbol is_blank
colon = refl

pub field-ReadsAs : (n : Name) → IsName n → ReadsAs (field_mark n.text) (symbol (field_mark n.text))
field-ReadsAs n is = ReadsAs-symbol (field_mark n.text) colon_begins (and_from _ _ colon (identifier_in_symbol n.text is))

pub discriminator-ReadsAs : (n : Name) → IsName n → ReadsAs (discriminator_mark n.text) (symbol (discriminator_mark n.text))
discriminator-ReadsAs n is = identifier_behind-ReadsAs n.text (63 ∷ []) is question_mark

pub expansion-ReadsAs : (n : Name) → IsName n → ReadsAs (expansion_mark n.text) (symbol (expansion_mark n.text))
expansion-ReadsAs n is = identifier_behind-ReadsAs n.text (33 ∷ []) is exclamation_mark

pub dotted-ReadsAs : (enum case : Name) → IsName enum → IsName case → ReadsAs (dotted enum case) (symbol (dotted enum case))
dotted-ReadsAs enum case is so =
    identifier_behind-ReadsAs enum.text (46 ∷ case.text) is (and_from _ _ dot (identifier_in_symbol case.text so))
