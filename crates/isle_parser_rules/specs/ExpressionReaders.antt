-- Readers of expressions, the right-hand sides of rules.
use Rattle.std.specs.Prelude.{ℕ, zero, suc, List, length, true, false, Some, None, if◌then◌else◌, codes}
use Rattle.isle_base_source.specs.declared.pos.Pos.{Pos}
use Rattle.isle_base.specs.Token.{is_int, is_symbol}
use Rattle.isle_ast_rules.specs.Tree.{Expression, term_expression, var_expression, bool_expression, int_expression, constant_expression, let_expression}
use Rattle.isle_ast_rules.specs.TreeView.{SingleLet, expression_list_of, let_list_of}
use Rattle.isle_parser_cursor.specs.Reading.{Reader, ◌>>=◌, is_lparen, is_ahead, flag, pos_ahead, at_rparen, in_parentheses, many, is_const}
use Rattle.isle_parser_cursor.specs.NameReaders.{name}
use Rattle.isle_parser_cursor.specs.NumberReaders.{integer_within}
use Rattle.isle_parser_rules.specs.ConstantReaders.{constant}

-- a variable, its type and its value, which `read` reads. The `(` is at this place.
unfoldable pub let_inside : Pos → Reader Expression → Reader SingleLet
let_inside place read all = do
  var ← name all
  ty ← name var.1
  val ← read ty.1
  Some (record { var = var.0; ty = ty.0; val = val.0; pos = place }, val.1)

unfoldable pub let_definition : Reader Expression → Reader SingleLet
let_definition read all = in_parentheses (let_inside (pos_ahead all) read) all

unfoldable pub let_definitions : Reader Expression → Reader (List SingleLet)
let_definitions read = in_parentheses (many at_rparen (let_definition read))

-- the rest after the word `let`. The `(` before it is at this place.
unfoldable pub let_behind : Pos → Reader Expression → Reader Expression
let_behind place read all = do
  ds ← let_definitions read all
  body ← read ds.1
  Some (let_expression (let_list_of ds.0) body.0 place, body.1)

-- a term, whose arguments `read` reads. The `(` before it is at this place.
unfoldable pub term_behind : Pos → Reader Expression → Reader Expression
term_behind place read all = do
  n ← name all
  xs ← many at_rparen read n.1
  Some (term_expression n.0 (expression_list_of xs.0) place, xs.1)

-- `let` or a term, and the rest after it. The `(` is at this place.
unfoldable pub expression_inside : Pos → Reader Expression → Reader Expression
expression_inside place read all = do
  word ← flag (codes "let") all
  if word.0
      then (let_definitions read word.1 >>= λ ds. read ds.1 >>= λ body. Some (let_expression (let_list_of ds.0) body.0 place, body.1))
      else (name word.1 >>= λ n. many at_rparen read n.1 >>= λ xs. Some (term_expression n.0 (expression_list_of xs.0) place, xs.1))

unfoldable pub variable_expression : Pos → Reader Expression
variable_expression place all = do
  n ← name all
  Some (var_expression n.0 place, n.1)

unfoldable pub false_expression : Pos → Reader Expression
false_expression place all = do
  word ← flag (codes "false") all
  if word.0 then Some (bool_expression false place, word.1) else variable_expression place word.1

-- `true`, `false` or a variable
unfoldable pub word_expression : Pos → Reader Expression
word_expression place all = do
  word ← flag (codes "true") all
  if word.0 then Some (bool_expression true place, word.1) else false_expression place word.1

-- an expression that is a symbol
unfoldable pub symbol_expression : Pos → Reader Expression
symbol_expression place all =
    if is_ahead is_const all
    then (constant all >>= λ c. Some (constant_expression c.0 place, c.1))
    else word_expression place all

-- an integer
unfoldable pub integer_expression : Pos → Reader Expression
integer_expression place all = integer_within 127 all >>= λ n. Some (int_expression n.0 place, n.1)

-- one layer of an expression, whose parts `read` reads
unfoldable pub expression_layer : Reader Expression → Reader Expression
expression_layer read all =
    if is_ahead is_lparen all then in_parentheses (expression_inside (pos_ahead all) read) all
    else (if is_ahead is_symbol all then symbol_expression (pos_ahead all) all
    else (if is_ahead is_int all then (integer_within 127 all >>= λ n. Some (int_expression n.0 (pos_ahead all), n.1))
    else None))

-- an expression of at most this many layers
unfoldable pub expression_within : ℕ → Reader Expression
expression_within zero all = None
expression_within (suc n) all = expression_layer (expression_within n) all

unfoldable pub expression : Reader Expression
expression all = expression_within (suc (length all)) all
