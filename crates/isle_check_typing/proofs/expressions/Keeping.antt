-- What is typed stays where more depth is given.
use Rattle.std.proofs.Common.{◌≡◌, ℕ, zero, suc, List, [], ◌∷◌, length, Option, None, Some, option_map}
use Rattle.isle_base_source.specs.declared.pos.Pos.{Pos}
use Rattle.isle_ast_rules.specs.Tree.{Expression, term_expression, var_expression, bool_expression, int_expression, constant_expression, let_expression, ExpressionList, no_expression, more_expression, LetList, no_let, more_let}
use Rattle.isle_check_environment.specs.signatures.Environment.{EnvironmentNode}
use Rattle.isle_check_environment.specs.signatures.Signatures.{TermNode}
use Rattle.isle_check_typing.proofs.Keeping.{choose-keeps, map-keeps, then-keeps}
use Rattle.isle_check_typing.specs.Faults.{expression_term_type, let_type_unknown}
use Rattle.isle_check_typing.specs.Progress.{FoundNode, ProgressNode, find, tell}
use Rattle.isle_check_typing.specs.Typings.{Typing, Typings, gives, gives_none, with_typed}
use Rattle.isle_check_typing.specs.declared.expressions.flags.Flags.{Flags}
use Rattle.isle_check_typing.specs.expressions.ExpressionTypes.{Below, arguments_by, close, converting, count_arguments, count_expressions, define, expression_at, let_by, lets_by, other_than, own_by, put_by, step, term_as, term_by, term_converted, type_let, use_term, variable_as, variable_by, variable_converted}
use Rattle.isle_check_typing.specs.expressions.TypedExpressions.{TypedExpressionNode, TypedLetNode, typed_expression_list, typed_term_expression}

module _ (below above : Below) (keeps : (e : Expression) (wanted : Option (List ℕ)) (s : ProgressNode) (made : Typing TypedExpressionNode) → below e wanted s ≡ Some made → above e wanted s ≡ Some made) (env : EnvironmentNode) (flags : Flags) where
  keep-put : (converter : List ℕ) (e : Expression) (place : Pos) (ty : List ℕ) (s : ProgressNode) (made : Typing TypedExpressionNode) →
      put_by below converter e place ty s ≡ Some made → put_by above converter e place ty s ≡ Some made
  keep-put converter e place ty s made h =
      keeps (term_expression (record { text = converter; pos = place }) (more_expression e no_expression) place) (Some ty) s made h

  keep-variable-converted : (converter : Option (List ℕ)) (known : FoundNode) (e : Expression) (name : List ℕ) (place : Pos) (ty : List ℕ) (s : ProgressNode) (made : Typing TypedExpressionNode) →
      variable_converted below converter known e name place ty s ≡ Some made → variable_converted above converter known e name place ty s ≡ Some made
  keep-variable-converted None known e name place ty s made h = h
  keep-variable-converted (Some converter) known e name place ty s made h = keep-put converter e place ty s made h

  keep-variable-as : (known : FoundNode) (other : Option (List ℕ)) (e : Expression) (name : List ℕ) (place : Pos) (s : ProgressNode) (made : Typing TypedExpressionNode) →
      variable_as below env known other e name place s ≡ Some made → variable_as above env known other e name place s ≡ Some made
  keep-variable-as known None e name place s made h = h
  keep-variable-as known (Some ty) e name place s made h =
      keep-variable-converted (converting env known.ty ty) known e name place ty s made h

  keep-variable : (known : Option FoundNode) (e : Expression) (name : List ℕ) (place : Pos) (wanted : Option (List ℕ)) (s : ProgressNode) (made : Typing TypedExpressionNode) →
      variable_by below env known e name place wanted s ≡ Some made → variable_by above env known e name place wanted s ≡ Some made
  keep-variable None e name place wanted s made h = h
  keep-variable (Some known) e name place wanted s made h = keep-variable-as known (other_than known.ty wanted) e name place s made h

  keep-arguments : (es : ExpressionList) (types : List (List ℕ)) (typed : List TypedExpressionNode) (s : ProgressNode) (made : Typings TypedExpressionNode) →
      arguments_by below es types typed s ≡ Some made → arguments_by above es types typed s ≡ Some made
  keep-arguments no_expression types typed s made h = h
  keep-arguments (more_expression e es) [] typed s made h = h
  keep-arguments (more_expression e es) (ty ∷ types) typed s made h =
      then-keeps (below e (Some ty) s) (above e (Some ty) s)
      (λ r. arguments_by below es types (with_typed typed r.typed) r.after) (λ r. arguments_by above es types (with_typed typed r.typed) r.after) made
      (keeps e (Some ty) s) (λ r. keep-arguments es types (with_typed typed r.typed) r.after made) h

  keep-own : (t : TermNode) (term : List ℕ) (args : ExpressionList) (place : Pos) (s : ProgressNode) (made : Typing TypedExpressionNode) →
      own_by below flags t term args place s ≡ Some made → own_by above flags t term args place s ≡ Some made
  keep-own t term args place s made h =
      let begun = count_arguments t term (count_expressions args) place (use_term flags t term place s) in
      map-keeps (arguments_by below args t.args [] begun) (arguments_by above args t.args [] begun)
      (λ r. gives (typed_term_expression term t.ret (typed_expression_list r.typed)) r.after) made (keep-arguments args t.args [] begun) h

  keep-term-converted : (converter : Option (List ℕ)) (t : TermNode) (e : Expression) (term : List ℕ) (args : ExpressionList) (place : Pos) (ty : List ℕ) (s : ProgressNode) (made : Typing TypedExpressionNode) →
      term_converted below converter flags t e term args place ty s ≡ Some made → term_converted above converter flags t e term args place ty s ≡ Some made
  keep-term-converted None t e term args place ty s made h = keep-own t term args place (tell (expression_term_type ty t.ret) place s) made h
  keep-term-converted (Some converter) t e term args place ty s made h = keep-put converter e place ty s made h

  keep-term-as : (t : TermNode) (other : Option (List ℕ)) (e : Expression) (term : List ℕ) (args : ExpressionList) (place : Pos) (s : ProgressNode) (made : Typing TypedExpressionNode) →
      term_as below env flags t other e term args place s ≡ Some made → term_as above env flags t other e term args place s ≡ Some made
  keep-term-as t None e term args place s made h = keep-own t term args place s made h
  keep-term-as t (Some ty) e term args place s made h =
      keep-term-converted (converting env t.ret ty) t e term args place ty s made h

  keep-term : (t : Option TermNode) (e : Expression) (term : List ℕ) (args : ExpressionList) (place : Pos) (wanted : Option (List ℕ)) (s : ProgressNode) (made : Typing TypedExpressionNode) →
      term_by below env flags t e term args place wanted s ≡ Some made → term_by above env flags t e term args place wanted s ≡ Some made
  keep-term None e term args place wanted s made h = h
  keep-term (Some t) e term args place wanted s made h = keep-term-as t (other_than t.ret wanted) e term args place s made h

  keep-let : (place : Pos) (var ty : List ℕ) (val : Expression) (s : ProgressNode) (made : Typing TypedLetNode) →
      let_by below env place var ty val s ≡ Some made → let_by above env place var ty val s ≡ Some made
  keep-let place var ty val s made h =
      let unknown = Some (gives_none (tell (let_type_unknown var ty) place s)) in
      choose-keeps (env.is_type ty)
      (option_map (define var ty) (below val (Some ty) s)) unknown
      (option_map (define var ty) (above val (Some ty) s)) unknown (Some made)
      (map-keeps (below val (Some ty) s) (above val (Some ty) s) (define var ty) made (keeps val (Some ty) s)) (λ e. e) h

  keep-lets : (place : Pos) (ds : LetList) (typed : List TypedLetNode) (s : ProgressNode) (made : Typings TypedLetNode) →
      lets_by below env place ds typed s ≡ Some made → lets_by above env place ds typed s ≡ Some made
  keep-lets place no_let typed s made h = h
  keep-lets place (more_let var ty val _ ds) typed s made h =
      then-keeps (let_by below env place var.text ty.text val s) (let_by above env place var.text ty.text val s)
      (λ r. lets_by below env place ds (with_typed typed r.typed) r.after) (λ r. lets_by above env place ds (with_typed typed r.typed) r.after) made
      (keep-let place var.text ty.text val s) (λ r. keep-lets place ds (with_typed typed r.typed) r.after made) h

  keep-type-let : (defs : LetList) (body : Expression) (place : Pos) (wanted : Option (List ℕ)) (s : ProgressNode) (made : Typing TypedExpressionNode) →
      type_let below env defs body place wanted s ≡ Some made → type_let above env defs body place wanted s ≡ Some made
  keep-type-let defs body place wanted s made h =
      then-keeps (lets_by below env place defs [] s) (lets_by above env place defs [] s)
      (λ ds. option_map (close (length s.bound) ds.typed) (below body wanted ds.after))
      (λ ds. option_map (close (length s.bound) ds.typed) (above body wanted ds.after)) made
      (keep-lets place defs [] s)
      (λ ds. map-keeps (below body wanted ds.after) (above body wanted ds.after) (close (length s.bound) ds.typed) made (keeps body wanted ds.after)) h

  keep-step : (e : Expression) (wanted : Option (List ℕ)) (s : ProgressNode) (made : Typing TypedExpressionNode) →
      step below env flags e wanted s ≡ Some made → step above env flags e wanted s ≡ Some made
  keep-step (term_expression sym args place) wanted s made h =
      keep-term (env.terms sym.text) (term_expression sym args place) sym.text args place wanted s made h
  keep-step (var_expression name place) wanted s made h =
      keep-variable (find s.bound name.text) (var_expression name place) name.text place wanted s made h
  keep-step (bool_expression val place) wanted s made h = h
  keep-step (int_expression val place) wanted s made h = h
  keep-step (constant_expression name place) wanted s made h = h
  keep-step (let_expression defs body place) wanted s made h = keep-type-let defs body place wanted s made h

pub keeps-at : (env : EnvironmentNode) (flags : Flags) (depth : ℕ) (e : Expression) (wanted : Option (List ℕ)) (s : ProgressNode) (made : Typing TypedExpressionNode) →
    expression_at depth env flags e wanted s ≡ Some made → expression_at (suc depth) env flags e wanted s ≡ Some made
keeps-at env flags zero e wanted s made h = cc
keeps-at env flags (suc depth) e wanted s made h =
    keep-step (expression_at depth env flags) (expression_at (suc depth) env flags) (keeps-at env flags depth) env flags e wanted s made h
