-- The loop that reads the right side of a rule: the conditions that were read before, with what is still
-- read, are the whole right side.
use Rattle.std.proofs.Common.{◌≡◌, List, [], ◌∷◌, ◌++◌, Option, Some, None, refl, sym, ap, ◌∙◌, append_assoc}
use Rattle.std.proofs.lemmas.List.{append-nil}
use Rattle.isle_base.specs.Place.{Placed}
use Rattle.isle_ast_rules.specs.Tree.{Condition, Expression}
use Rattle.isle_parser_cursor.specs.declared.cursor.Stop.{Stop}
use Rattle.isle_parser_cursor.specs.Outcomes.{CursorSource, Stops}
use Rattle.isle_parser_cursor.specs.Reading.{◌>>=◌}
use Rattle.isle_parser_rules.specs.RuleReaders.{condition_part, expression_part, condition_or_expression, RightSide, behind_condition, right_side}
use Rattle.isle_parser_rules.proofs.Reading.Conditions.{right_side_step}
use Rattle.isle_parser_cursor.specs.declared.cursor.Stop.TheVariants as stops

-- a right side with these conditions before its own
abbrev pub behind_conditions : List Condition → Option (RightSide × List Placed) → Option (RightSide × List Placed)
behind_conditions front read = read >>= λ r. Some ((front ++ r.0.0, r.0.1), r.1)

regroup : (front : List Condition) (c : Condition) (read : Option (RightSide × List Placed)) → behind_conditions front (behind_condition c read) ≡ behind_conditions (front ++ c ∷ []) read
regroup front c None = refl
regroup front c (Some r) = ap (λ (cs : List Condition). Some ((cs, r.0.1), r.1)) (simp append_assoc)

pub side_begin : (read : Option (RightSide × List Placed)) → behind_conditions [] read ≡ read
side_begin None = refl
side_begin (Some r) = refl

-- the right side goes on with this condition
pub side_push : (front : List Condition) (all rest : List Placed) (c : Condition) (total : Option (RightSide × List Placed)) → condition_or_expression all ≡ Some (condition_part c, rest)
    → behind_conditions front (right_side all) ≡ total → behind_conditions (front ++ c ∷ []) (right_side rest) ≡ total
side_push front all rest c total e so_far =
    let one : behind_conditions front (right_side all) ≡ behind_conditions (front ++ c ∷ []) (right_side rest) = rw (right_side_step all, e) (regroup front c (right_side rest)) in
    sym one ∙ so_far

-- the next part isn't read
side_none : (front : List Condition) (all : List Placed) (total : Option (RightSide × List Placed)) → condition_or_expression all ≡ None → behind_conditions front (right_side all) ≡ total → total ≡ None
side_none front all total e so_far =
    let one : behind_conditions front (right_side all) ≡ None = rw (right_side_step all, e) refl in
    sym so_far ∙ one

pub side_stops : (front : List Condition) (all : List Placed) (total : Option (RightSide × List Placed)) (s : CursorSource) (e : Stop) → Stops (condition_or_expression all) s e
    → behind_conditions front (right_side all) ≡ total → Stops total s e
side_stops front all total s (stops.Parser e) h so_far = (side_none front all total h.0 so_far, h.1)
side_stops front all total s stops.Memory h so_far = tt

-- the right side ends with this expression
pub side_end : (front : List Condition) (all rest : List Placed) (x : Expression) (total : Option (RightSide × List Placed)) → condition_or_expression all ≡ Some (expression_part x, rest)
    → behind_conditions front (right_side all) ≡ total → total ≡ Some ((front, x), rest)
side_end front all rest x total e so_far =
    let one : behind_conditions front (right_side all) ≡ Some ((front, x), rest) = rw (right_side_step all, e) (ap (λ (cs : List Condition). Some ((cs, x), rest)) (append-nil front)) in
    sym so_far ∙ one
