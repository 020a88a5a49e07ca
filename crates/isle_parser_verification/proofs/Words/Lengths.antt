-- An operator is found among those whose texts have as many bytes.
use Rattle.std.proofs.Common.{◌≡◌, ℕ, Bool, true, false, List, [], ◌∷◌, Option, Some, length, map, refl, rules, sym, ap, ◌∙◌, ⊎_elim, inl, inr}
use Rattle.std.specs.Prelude.{◌==◌, ◌⊎◌, filter, if◌then◌else◌}
use Rattle.std.specs.Str.{bytes_eq}
use Rattle.isle_ast_verification.specs.declared.spec.SpecOp.{SpecOp}
use Rattle.isle_ast_verification.specs.Operators.{operators}
use Rattle.isle_ast_verification.specs.SpecGrammar.{is_plain_operator}
use Rattle.isle_parser_cursor.proofs.SameBytes.{other_bytes}
use Rattle.isle_parser_verification.specs.OperatorRows.{rows_of_length}
use Rattle.isle_parser_verification.specs.SpecWords.{in_table, named_row, operator_of}

-- a row
abbrev Row : Type 0
Row = List ℕ × SpecOp

-- as long as the text
abbrev fits : List ℕ → Row → Bool
fits text row = length row.0 == length text

either : (b : Bool) → (b ≡ true) ⊎ (b ≡ false)
either true = inl refl
either false = inr refl

same_length : (n : ℕ) → (n == n) ≡ true
same_length n = search rules

-- texts of two lengths differ
other_length : (text name : List ℕ) → (length name == length text) ≡ false → bytes_eq text name ≡ false
other_length text name e = other_bytes text name (λ is.
    let clash : true ≡ false = sym (same_length (length text)) ∙ ap (λ (t : List ℕ). length t == length text) is ∙ e in cc)

kept : (row : Row) (rows : List Row) (text : List ℕ) → fits text row ≡ true → filter (fits text) (row ∷ rows) ≡ row ∷ filter (fits text) rows
kept row rows text e = rw e refl

skipped : (row : Row) (rows : List Row) (text : List ℕ) → fits text row ≡ false → filter (fits text) (row ∷ rows) ≡ filter (fits text) rows
skipped row rows text e = rw e refl

passed : (row : Row) (rows : List Row) (text : List ℕ) → bytes_eq text row.0 ≡ false → in_table rows text ≡ in_table (row ∷ rows) text
passed row rows text e = rw e refl

found : (rows : List Row) (text : List ℕ) → in_table (filter (fits text) rows) text ≡ in_table rows text
found [] text = refl
found (row ∷ rows) text =
    ⊎_elim
    (λ e. ap (λ (rs : List Row). in_table rs text) (kept row rows text e) ∙ ap (λ (rest : Option SpecOp). if bytes_eq text row.0 then Some row.1 else rest) (found rows text))
    (λ e. ap (λ (rs : List Row). in_table rs text) (skipped row rows text e) ∙ found rows text ∙ passed row rows text (other_length text row.0 e))
    (either (fits text row))

-- those of the text's own length are enough
pub found_by_length : (text : List ℕ) → in_table (rows_of_length (length text)) text ≡ operator_of text
unfolding rows_of_length operator_of
found_by_length text = found (map named_row (filter is_plain_operator operators)) text
