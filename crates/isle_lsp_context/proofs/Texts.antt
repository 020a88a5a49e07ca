-- Units of UTF-16, byte by byte.
use Rattle.std.proofs.Common.{◌≡◌, ℕ, zero, suc, ◌+◌, ◌<◌, List, [], ◌∷◌, get_or, length, take, arith}
use Rattle.isle_lsp_text.specs.Positions.{utf16_count, units}
use Rattle.isle_lsp_text.specs.declared.positions.PositionEncoding.TheVariants.{Utf16}

pub units_more : (xs : List ℕ) (i d : ℕ) → i < length xs → units Utf16 (take (i + 1) xs) ≡ units Utf16 (take i xs) + utf16_count (get_or xs i d)
units_more [] i d h = absurd (omega arith)
units_more (x ∷ xs) zero d h = omega arith
units_more (x ∷ xs) (suc i) d h =
    let e = units_more xs i d (omega arith) in
    let n : suc i + 1 ≡ suc (i + 1) = omega arith in
    rw n (omega (arith, e))
