use Rattle.std.proofs.Common.{◌≡◌, [], ◌∷◌, ◌++◌, ◌∙◌, rules}
use Rattle.std.proofs.lemmas.Result.{err_from_is_err_and}
use Rattle.std.proofs.lemmas.List.{map_push}
use Rattle.isle_ast_rules.specs.TreeView.{condition_of, conditions_of, expression_of}
use Rattle.isle_parser_cursor.specs.Outcomes.{left, source}
use Rattle.isle_parser_rules.specs.RuleReaders.{right_side}
use Rattle.isle_parser_rules.specs.RuleParts.{part_of}
use Rattle.isle_parser_rules.proofs.Reading.Conditions.{part_shrinks}
use Rattle.isle_parser_rules.proofs.RightSides.{side_push, side_stops, side_end}
use Rattle.isle_parser_rules.proofs.rules.parse_iflets_and_expr.Goals as goal

pub returns-in_err-iflet : goal.returns-in_err-iflet
returns-in_err-iflet c = record {
  same = search rules;
  gives =
      let p = err_from_is_err_and c.from_residual.result c.from_residual.ensures.1 in
      rw (p.1, p.2) (side_stops (conditions_of c.loop-iflets.iflets.items) (left c.loop-iflets.cursor) (right_side (left c.args.cursor.now)) (source c.parse_iflet_or_expr.new.cursor)
      c.in_err-iflet.field-0.0 c.in_err-iflet.ensures.gives c.loop-iflets.invariant.so_far);
}

pub loop-iflets-smaller : goal.loop-iflets-smaller
loop-iflets-smaller c = part_shrinks (left c.loop-iflets.cursor) (left c.parse_iflet_or_expr.new.cursor) (part_of c.in_ok-iflet.field-0) c.in_ok-iflet.ensures.gives

pub loop-iflets-preserved : goal.loop-iflets-preserved
loop-iflets-preserved c =
    let x = c.in-IfLet.iflet in
    let gives = rw c.in-IfLet.is at c.in_ok-iflet.ensures.gives in
    let e : conditions_of c.push.new.self.items ≡ conditions_of c.loop-iflets.iflets.items ++ condition_of x ∷ [] = rw c.in_ok-push-in-IfLet.ensures.items (map_push _ c.loop-iflets.iflets.items x) in
    record {
      same = c.in_ok-iflet.ensures.same ∙ c.loop-iflets.invariant.same;
      so_far = rw e (side_push (conditions_of c.loop-iflets.iflets.items) (left c.loop-iflets.cursor) (left c.parse_iflet_or_expr.new.cursor) (condition_of x)
          (right_side (left c.args.cursor.now)) gives c.loop-iflets.invariant.so_far);
    }

pub returns-in-Expr : goal.returns-in-Expr
returns-in-Expr c = record {
  same = search rules;
  gives =
      let gives = rw c.in-Expr.is at c.in_ok-iflet.ensures.gives in
      side_end (conditions_of c.loop-iflets.iflets.items) (left c.loop-iflets.cursor) (left c.parse_iflet_or_expr.new.cursor) (expression_of c.in-Expr.expr) (right_side (left c.args.cursor.now)) gives c.loop-iflets.invariant.so_far;
}
