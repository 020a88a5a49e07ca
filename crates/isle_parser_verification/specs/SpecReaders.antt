-- Readers of spec expressions.
use Rattle.std.specs.Prelude.{ℕ, zero, suc, List, ◌∷◌, length, Some, None, if◌then◌else◌}
use Rattle.isle_base_source.specs.declared.pos.Pos.{Pos}
use Rattle.isle_base.specs.Token.{is_int, is_symbol}
use Rattle.isle_ast_verification.specs.TreeView.{SingleArm, SingleFieldInit, spec_list_of, arm_list_of, field_init_list_of, spec_let_list_of}
use Rattle.isle_ast_names.specs.Tree.{Name}
use Rattle.isle_ast_verification.specs.Tree.{SpecNode, int_spec, as_spec, field_spec, discriminator_spec, op_spec, match_spec, let_spec, with_spec, macro_spec, expand_spec, pair_spec, enum_spec, struct_spec}
use Rattle.isle_parser_cursor.specs.Reading.{Reader, ◌>>=◌, is_lparen, is_ahead, text, pos_ahead, at_rparen, in_parentheses, many}
use Rattle.isle_parser_verification.specs.ModelReaders.{model_type}
use Rattle.isle_parser_cursor.specs.NameReaders.{name, names, head_inside}
use Rattle.isle_parser_cursor.specs.NumberReaders.{integer_within}
use Rattle.isle_parser_verification.specs.SpecWords.{SpecHead, switch_head, let_head, with_head, match_head, struct_head, macro_head, as_head, discriminator_head, expansion_head, operator_head, field_head, variant_head, head_of, word_of}
use Rattle.isle_ast_verification.specs.declared.spec.SpecOp.TheVariants as op

-- a case of a `switch`: two expressions
unfoldable pub spec_pair_inside : Reader SpecNode → Reader SpecNode
spec_pair_inside read all = do
  l ← read all
  r ← read l.1
  Some (pair_spec l.0 r.0 (pos_ahead all), r.1)

unfoldable pub spec_pair : Reader SpecNode → Reader SpecNode
spec_pair read = in_parentheses (spec_pair_inside read)

-- an arm of a `match`: a variant with names of its fields, and an expression
unfoldable pub arm_inside : Reader SpecNode → Reader SingleArm
arm_inside read all = do
  head ← in_parentheses head_inside all
  body ← read head.1
  Some (record { variant = head.0.0; args = head.0.1; body = body.0; pos = pos_ahead all }, body.1)

unfoldable pub arm : Reader SpecNode → Reader SingleArm
arm read = in_parentheses (arm_inside read)

-- a name and its value, of a `let`
unfoldable pub spec_let_inside : Reader SpecNode → Reader (Name × SpecNode)
spec_let_inside read all = do
  n ← name all
  value ← read n.1
  Some ((n.0, value.0), value.1)

unfoldable pub spec_let : Reader SpecNode → Reader (Name × SpecNode)
spec_let read = in_parentheses (spec_let_inside read)

unfoldable pub spec_lets : Reader SpecNode → Reader (List (Name × SpecNode))
spec_lets read = in_parentheses (many at_rparen (spec_let read))

-- a field of a `struct` and its value
unfoldable pub field_init_inside : Reader SpecNode → Reader SingleFieldInit
field_init_inside read all = do
  n ← name all
  value ← read n.1
  Some (record { name = n.0; value = value.0; pos = pos_ahead all }, value.1)

unfoldable pub field_init : Reader SpecNode → Reader SingleFieldInit
field_init read = in_parentheses (field_init_inside read)

-- The rest after a head, which is at `place`. The `(` before it is at `start`.
unfoldable pub behind_spec_head : Reader SpecNode → (start place : Pos) → SpecHead → Reader SpecNode
behind_spec_head read start place switch_head all =
    read all >>= λ x. many at_rparen (spec_pair read) x.1 >>= λ ps. Some (op_spec op.Switch (spec_list_of (x.0 ∷ ps.0)) start, ps.1)
behind_spec_head read start place let_head all =
    spec_lets read all >>= λ ds. read ds.1 >>= λ body. Some (let_spec (spec_let_list_of ds.0) body.0 start, body.1)
behind_spec_head read start place with_head all =
    names all >>= λ ns. read ns.1 >>= λ body. Some (with_spec ns.0 body.0 start, body.1)
behind_spec_head read start place match_head all =
    read all >>= λ x. many at_rparen (arm read) x.1 >>= λ arms. Some (match_spec x.0 (arm_list_of arms.0) start, arms.1)
behind_spec_head read start place struct_head all =
    many at_rparen (field_init read) all >>= λ fs. Some (struct_spec (field_init_list_of fs.0) start, fs.1)
behind_spec_head read start place macro_head all =
    names all >>= λ ns. read ns.1 >>= λ body. Some (macro_spec ns.0 body.0 start, body.1)
behind_spec_head read start place as_head all =
    read all >>= λ x. model_type x.1 >>= λ ty. Some (as_spec x.0 ty.0 start, ty.1)
behind_spec_head read start place (discriminator_head variant) all =
    read all >>= λ x. Some (discriminator_spec (record { text = variant; pos = place }) x.0 start, x.1)
behind_spec_head read start place (expansion_head macro) all =
    many at_rparen read all >>= λ xs. Some (expand_spec (record { text = macro; pos = place }) (spec_list_of xs.0) start, xs.1)
behind_spec_head read start place (operator_head operator) all =
    many at_rparen read all >>= λ xs. Some (op_spec operator (spec_list_of xs.0) start, xs.1)
behind_spec_head read start place (field_head field) all =
    read all >>= λ x. Some (field_spec (record { text = field; pos = place }) x.0 start, x.1)
behind_spec_head read start place (variant_head enum case) all =
    many at_rparen read all >>= λ xs. Some (enum_spec (record { text = enum; pos = start }) (record { text = case; pos = start }) (spec_list_of xs.0) start, xs.1)

-- a head and the rest after it. The `(` is at this place.
unfoldable pub spec_inside : Pos → Reader SpecNode → Reader SpecNode
spec_inside start read all = do
  word ← text all
  head ← head_of word.0
  behind_spec_head read start (pos_ahead all) head word.1

-- a symbol that is an expression by itself
unfoldable pub spec_word : Reader SpecNode
spec_word all = do
  word ← text all
  x ← word_of (pos_ahead all) word.0
  Some (x, word.1)

-- one layer of an expression, whose parts `read` reads
unfoldable pub spec_layer : Reader SpecNode → Reader SpecNode
spec_layer read all =
    if is_ahead is_lparen all then in_parentheses (spec_inside (pos_ahead all) read) all
    else (if is_ahead is_symbol all then spec_word all
    else (if is_ahead is_int all then (integer_within 127 all >>= λ n. Some (int_spec n.0 (pos_ahead all), n.1))
    else None))

-- an expression of at most this many layers
unfoldable pub spec_within : ℕ → Reader SpecNode
spec_within zero all = None
spec_within (suc n) all = spec_layer (spec_within n) all

unfoldable pub spec_expression : Reader SpecNode
spec_expression all = spec_within (suc (length all)) all
