-- A text is looked up in a table row by row.
use Rattle.std.proofs.Common.{◌≡◌, ℕ, zero, suc, ◌<◌, ◌≤◌, true, false, List, [], ◌∷◌, length, drop, map, slice_index_or, Option, Some, None, Bor, bytes_eq, refl, arith}
use Rattle.isle_ast_verification.specs.declared.spec.SpecOp.{SpecOp}
use Rattle.isle_parser_verification.specs.SpecWords.{in_table}

-- a row of a table
abbrev pub Row : Type 0
Row = Bor (List ℕ) × SpecOp

-- what the rows from this one on have
abbrev pub from_row : ℕ → List Row → List ℕ → Option SpecOp
from_row i rows text = in_table (map (λ row. (row.0.now, row.1)) (drop i rows)) text

pub row_found : (i : ℕ) (rows : List Row) (other : Row) (text : List ℕ) → i < length rows →
    bytes_eq text (slice_index_or rows i other).0.now ≡ true → Some (slice_index_or rows i other).1 ≡ from_row i rows text
row_found zero (r ∷ rows) other text h e = rw e refl
row_found (suc i) (r ∷ rows) other text h e = row_found i rows other text (omega (arith, h)) e
row_found i [] other text h e = absurd (omega (arith, h))

pub row_passed : (i : ℕ) (rows : List Row) (other : Row) (text : List ℕ) → i < length rows →
    bytes_eq text (slice_index_or rows i other).0.now ≡ false → from_row (suc i) rows text ≡ from_row i rows text
row_passed zero (r ∷ rows) other text h e = rw e refl
row_passed (suc i) (r ∷ rows) other text h e = row_passed i rows other text (omega (arith, h)) e
row_passed i [] other text h e = absurd (omega (arith, h))

pub rows_end : (i : ℕ) (rows : List Row) (text : List ℕ) → length rows ≤ i → None ≡ from_row i rows text
rows_end zero [] text h = refl
rows_end (suc i) [] text h = refl
rows_end zero (r ∷ rows) text h = absurd (omega (arith, h))
rows_end (suc i) (r ∷ rows) text h = rows_end i rows text (omega (arith, h))
