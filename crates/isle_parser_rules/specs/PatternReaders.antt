-- Readers of patterns, the left-hand sides of rules.
use Rattle.std.specs.Prelude.{ℕ, zero, suc, List, Bool, ◌||◌, length, true, false, Option, Some, None, if◌then◌else◌, codes}
use Rattle.isle_base_source.specs.declared.pos.Pos.{Pos}
use Rattle.isle_base.specs.Place.{Placed}
use Rattle.isle_base.specs.Token.{is_int, is_symbol}
use Rattle.isle_ast_names.specs.Tree.{Name}
use Rattle.isle_ast_rules.specs.Tree.{PatternNode, var_pattern, bind_pattern, bool_pattern, int_pattern, constant_pattern, term_pattern, wildcard_pattern, and_pattern}
use Rattle.isle_ast_rules.specs.TreeView.{pattern_list_of}
use Rattle.isle_parser_cursor.specs.Reading.{Reader, ◌>>=◌, is_lparen, is_rparen, is_at, is_ahead, expect, flag, pos_ahead, at_rparen, in_parentheses, many, is_const, is_symbol_of}
use Rattle.isle_parser_cursor.specs.NameReaders.{name}
use Rattle.isle_parser_cursor.specs.NumberReaders.{integer_within}
use Rattle.isle_parser_rules.specs.ConstantReaders.{constant}

-- `and` or a term, and patterns, which `read` reads. The `(` is at this place.
unfoldable pub pattern_inside : Pos → Reader PatternNode → Reader PatternNode
pattern_inside place read all = do
  word ← flag (codes "and") all
  if word.0
      then (many at_rparen read word.1 >>= λ ps. Some (and_pattern (pattern_list_of ps.0) place, ps.1))
      else (name word.1 >>= λ n. many at_rparen read n.1 >>= λ ps. Some (term_pattern n.0 (pattern_list_of ps.0) place, ps.1))

-- `(`, and `and`, which gives no name, or the name of a term
unfoldable pub pattern_head : Reader (Option Name)
pattern_head all = do
  inside ← expect is_lparen all
  word ← flag (codes "and") inside.1
  if word.0 then Some (None, word.1) else (name word.1 >>= λ n. Some (Some n.0, n.1))

-- these patterns after the name of a term, or after `and`
abbrev pub group_node : Pos → Option Name → List PatternNode → PatternNode
group_node place None ps = and_pattern (pattern_list_of ps) place
group_node place (Some sym) ps = term_pattern sym (pattern_list_of ps) place

-- `and` or a term, and patterns, which `read` reads, in parentheses. The `(` is at this place.
unfoldable pub pattern_group : Pos → Reader PatternNode → Reader PatternNode
pattern_group place read all = do
  head ← pattern_head all
  ps ← many at_rparen read head.1
  rest ← expect is_rparen ps.1
  Some (group_node place head.0 ps.0, rest.1)

-- a variable, and after `@` a pattern
unfoldable pub variable_pattern : Pos → Reader PatternNode → Reader PatternNode
variable_pattern place read all = do
  var ← name all
  if is_ahead is_at var.1
      then (expect is_at var.1 >>= λ at. read at.1 >>= λ p. Some (bind_pattern var.0 p.0 place, p.1))
      else Some (var_pattern var.0 place, var.1)

unfoldable pub false_pattern : Pos → Reader PatternNode → Reader PatternNode
false_pattern place read all = do
  word ← flag (codes "false") all
  if word.0 then Some (bool_pattern false place, word.1) else variable_pattern place read word.1

unfoldable pub true_pattern : Pos → Reader PatternNode → Reader PatternNode
true_pattern place read all = do
  word ← flag (codes "true") all
  if word.0 then Some (bool_pattern true place, word.1) else false_pattern place read word.1

-- `_`, `true`, `false` or a variable
unfoldable pub word_pattern : Pos → Reader PatternNode → Reader PatternNode
word_pattern place read all = do
  word ← flag (codes "_") all
  if word.0 then Some (wildcard_pattern place, word.1) else true_pattern place read word.1

-- whether a constant, `_`, `true` or `false` is ahead
abbrev pub is_fixed : List Placed → Bool
is_fixed all = is_ahead is_const all || is_ahead (is_symbol_of (codes "_")) all || is_ahead (is_symbol_of (codes "true")) all || is_ahead (is_symbol_of (codes "false")) all

-- a pattern that begins with a symbol
unfoldable pub symbol_pattern : Pos → Reader PatternNode → Reader PatternNode
symbol_pattern place read all =
    if is_ahead is_const all
    then (constant all >>= λ c. Some (constant_pattern c.0 place, c.1))
    else word_pattern place read all

-- an integer
unfoldable pub integer_pattern : Pos → Reader PatternNode
integer_pattern place all = integer_within 127 all >>= λ n. Some (int_pattern n.0 place, n.1)

-- one layer of a pattern, whose parts `read` reads
unfoldable pub pattern_layer : Reader PatternNode → Reader PatternNode
pattern_layer read all =
    if is_ahead is_int all then (integer_within 127 all >>= λ n. Some (int_pattern n.0 (pos_ahead all), n.1))
    else (if is_ahead is_symbol all then symbol_pattern (pos_ahead all) read all
    else (if is_ahead is_lparen all then in_parentheses (pattern_inside (pos_ahead all) read) all
    else None))

-- a pattern of at most this many layers
unfoldable pub pattern_within : ℕ → Reader PatternNode
pattern_within zero all = None
pattern_within (suc n) all = pattern_layer (pattern_within n) all

unfoldable pub pattern : Reader PatternNode
pattern all = pattern_within (suc (length all)) all
