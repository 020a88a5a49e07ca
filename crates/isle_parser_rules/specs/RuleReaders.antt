-- Readers of rules and extractors, after the keywords `rule` and `extractor`.
use Rattle.std.specs.Prelude.{[], ℕ, zero, suc, ℤ, List, ◌∷◌, length, Option, Some, None, if◌then◌else◌, codes}
use Rattle.isle_base_source.specs.declared.pos.Pos.{Pos}
use Rattle.isle_base.specs.Place.{Placed}
use Rattle.isle_base.specs.Token.{is_int}
use Rattle.isle_ast_rules.specs.Tree.{wildcard_pattern, Expression, Condition, RuleDefinition, ExtractorDefinition}
use Rattle.isle_parser_cursor.specs.Reading.{Reader, ◌>>=◌, is_lparen, is_ahead, flag, pos_ahead, in_parentheses}
use Rattle.isle_parser_cursor.specs.Reading.{closed}
use Rattle.isle_parser_rules.specs.ExpressionReaders.{expression, expression_inside}
use Rattle.isle_parser_cursor.specs.NameReaders.{optional_name, head_inside}
use Rattle.isle_parser_cursor.specs.NumberReaders.{integer_within}
use Rattle.isle_parser_rules.specs.PatternReaders.{pattern}

-- a part of a rule's right-hand side
pub data RulePart : Type 0 where
  condition_part : Condition → RulePart
  expression_part : Expression → RulePart

-- a pattern, and the expression that it matches
unfoldable pub condition_match : Reader Condition
condition_match all = do
  p ← pattern all
  x ← expression p.1
  Some (record { pattern = p.0; expr = x.0; pos = pos_ahead all }, x.1)

-- an expression without a pattern, whose value can be any
unfoldable pub condition_test : Reader Condition
condition_test all = do
  x ← expression all
  Some (record { pattern = wildcard_pattern (pos_ahead all); expr = x.0; pos = pos_ahead all }, x.1)

-- the inside of an expression in parentheses, and `)`, as a part. The `(` is at this place.
abbrev pub expression_behind : Pos → Reader RulePart
expression_behind place all = closed (expression_inside place expression) all >>= λ x. Some (expression_part x.0, x.1)

-- `if` and a condition, or the inside of an expression in parentheses. The `(` is at this place.
unfoldable pub test_or_expression : Pos → Reader RulePart
test_or_expression place all = do
  word ← flag (codes "if") all
  if word.0
      then (condition_test word.1 >>= λ c. Some (condition_part c.0, c.1))
      else (expression_inside place expression word.1 >>= λ x. Some (expression_part x.0, x.1))

unfoldable pub match_or_expression : Pos → Reader RulePart
match_or_expression place all = do
  word ← flag (codes "if-let") all
  if word.0 then (condition_match word.1 >>= λ c. Some (condition_part c.0, c.1)) else test_or_expression place word.1

-- `(if-let ..)` or `(if ..)`, else an expression
unfoldable pub condition_or_expression : Reader RulePart
condition_or_expression all =
    if is_ahead is_lparen all
    then in_parentheses (match_or_expression (pos_ahead all)) all
    else (expression all >>= λ x. Some (expression_part x.0, x.1))

-- the right-hand side of a rule: conditions, and the expression after them
abbrev pub RightSide : Type 0
RightSide = List Condition × Expression

-- the same after one more condition
abbrev pub behind_condition : Condition → Option (RightSide × List Placed) → Option (RightSide × List Placed)
behind_condition c read = read >>= λ r. Some ((c ∷ r.0.0, r.0.1), r.1)

-- the part that was read, and after a condition the result of `more`
abbrev pub behind_part : Reader RightSide → RulePart → Reader RightSide
behind_part more (condition_part c) rest = behind_condition c (more rest)
behind_part more (expression_part x) rest = Some (([], x), rest)

-- a right-hand side of at most this many parts
unfoldable pub right_side_within : ℕ → Reader RightSide
right_side_within zero all = None
right_side_within (suc n) all = condition_or_expression all >>= λ x. behind_part (right_side_within n) x.0 x.1

unfoldable pub right_side : Reader RightSide
right_side all = right_side_within (suc (length all)) all

-- a priority, if an integer is ahead
unfoldable pub priority : Reader (Option ℤ)
priority all = if is_ahead is_int all then (integer_within 63 all >>= λ n. Some (Some n.0, n.1)) else Some (None, all)

unfoldable pub rule_definition : Reader RuleDefinition
rule_definition all = do
  n ← optional_name all
  prio ← priority n.1
  p ← pattern prio.1
  r ← right_side p.1
  Some (
    record {
      pattern = p.0;
      iflets = r.0.0;
      expr = r.0.1;
      pos = pos_ahead all;
      prio = prio.0;
      name = n.0;
    },
    r.1,
  )

unfoldable pub extractor_definition : Reader ExtractorDefinition
extractor_definition all = do
  head ← in_parentheses head_inside all
  p ← pattern head.1
  Some (record { term = head.0.0; args = head.0.1; template = p.0; pos = pos_ahead all }, p.1)
