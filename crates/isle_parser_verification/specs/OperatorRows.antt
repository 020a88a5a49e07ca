-- The operators paired with their texts, by the length of the text.
use Rattle.std.specs.Prelude.{ℕ, List, ◌==◌, filter, length, map}
use Rattle.isle_ast_verification.specs.declared.spec.SpecOp.{SpecOp}
use Rattle.isle_ast_verification.specs.Operators.{operators}
use Rattle.isle_ast_verification.specs.SpecGrammar.{is_plain_operator}
use Rattle.isle_parser_verification.specs.SpecWords.{named_row}

-- the operators of `n` bytes
unfoldable pub rows_of_length : ℕ → List (List ℕ × SpecOp)
rows_of_length n = filter (λ row. length row.0 == n) (map named_row (filter is_plain_operator operators))
