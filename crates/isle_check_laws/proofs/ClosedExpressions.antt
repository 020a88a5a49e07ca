-- Typed expressions are closed, if none of their terms is multi.
use Rattle.std.proofs.Common.{◌≡◌, ℕ, List, [], ◌∷◌, ◌++◌, length, true, Option, Some, refl, ap, sym, ◌∙◌, subst, append_assoc, append-nil}
use Rattle.isle_ast_rules.specs.Tree.{Expression, term_expression, var_expression, ExpressionList, no_expression, more_expression, LetList}
use Rattle.isle_check_environment.specs.signatures.Environment.{EnvironmentNode}
use Rattle.isle_check_typing.specs.Progress.{VariableNode}
use Rattle.isle_check_typing.specs.declared.expressions.flags.Flags.{Flags}
use Rattle.isle_check_typing.specs.expressions.TypedExpressions.{TypedExpressionNode, TypedLetNode, typed_expression_list, typed_let_list}
use Rattle.isle_check_laws.specs.HasExpressionType.{HasExpressionType, gives_integer, gives_bool, gives_constant, gives_variable, constructs, converts_variable, converts_term, lets, HaveExpressionTypes, no_value, one_value, AreDefined, no_variable, one_variable}
use Rattle.isle_check_laws.specs.HasType.{bound_more}
use Rattle.isle_check_matchings.specs.Asks.{TermsNode}
use Rattle.isle_check_laws.specs.Closed.{let_variables, IsClosedExpression, AreClosedExpressions, AreClosedLets}
use Rattle.isle_check_laws.specs.UsedTerms.{AreSingle, expression_terms, expressions_terms, lets_terms}
use Rattle.isle_check_laws.proofs.ClosedPatterns.{single_first, single_second, single_head, single_rest}
use Rattle.isle_check_laws.proofs.SeenVariables.{Seen, seen_weaker, seen_more, found_seen, bound_last, Extends, extends_none, extends_both, extends_let, seen_behind}

module _ (k : TermsNode) (env : EnvironmentNode) (known : (f : List ℕ) → k.terms f ≡ env.terms f) (flags : Flags) where
  -- more variables are bound
  abbrev Grows : (bound after : List VariableNode) → Type 0
  Grows bound after = (more : List VariableNode) × (after ≡ bound ++ more)

  grows_both : (bound middle after : List VariableNode) → Grows bound middle → Grows middle after → Grows bound after
  grows_both bound middle after m n = (m.0 ++ n.0, n.1 ∙ (ap (λ l. l ++ n.0) m.1 ∙ append_assoc bound m.0 n.0))

  grows_behind : (bound after : List VariableNode) → Extends bound after → Grows bound after
  grows_behind bound after e = (e.0, e.1.0)

  mutual
    pub expression_closed : (e : Expression) (wanted : Option (List ℕ)) (bound : List VariableNode) (typed : TypedExpressionNode) (after : List VariableNode) →
        HasExpressionType env flags e wanted bound typed after → (before : List ℕ) → Seen bound before → AreSingle k (expression_terms typed) →
        IsClosedExpression k before typed × Extends bound after
    expression_closed _ _ _ _ _ (gives_integer {bound} h) before s single = (tt, extends_none bound)
    expression_closed _ _ _ _ _ (gives_bool {bound} w) before s single = (tt, extends_none bound)
    expression_closed _ _ _ _ _ (gives_constant {bound} h w) before s single = (tt, extends_none bound)
    expression_closed _ _ _ _ _ (gives_variable {name} {bound} {known = v} h w) before s single = (found_seen bound before name.text v s h, extends_none bound)
    expression_closed _ _ _ _ _ (constructs {name} {args} {bound} {after} {typed} {t} found w allowed ds) before s single =
        let fs = expressions_terms (typed_expression_list typed) in
        let rest = arguments_closed args t.args bound typed after ds before s (single_rest k name.text fs single) in
        ((single_head k name.text fs t (known name.text ∙ found) single, rest.0), rest.1)
    expression_closed _ _ _ _ _ (converts_variable {name} {place} {ty} {converter} {bound} {after} {typed} found other named ext d) before s single =
        expression_closed (term_expression (record { text = converter; pos = place }) (more_expression (var_expression name place) no_expression) place) (Some ty) bound typed after d before s single
    expression_closed _ _ _ _ _ (converts_term {name} {args} {place} {ty} {converter} {bound} {after} {typed} found other named ext d) before s single =
        expression_closed (term_expression (record { text = converter; pos = place }) (more_expression (term_expression name args place) no_expression) place) (Some ty) bound typed after d before s single
    expression_closed _ _ _ _ _ (lets {defs} {body} {wanted} {bound} {middle} {after} {vars} {typed} ds d) before s single =
        let fs = lets_terms (typed_let_list vars) in
        let gs = expression_terms typed in
        let outer = lets_closed defs bound vars middle ds before s (single_first k fs gs single) in
        let inner = expression_closed body wanted middle typed after d (before ++ let_variables (typed_let_list vars)) outer.1.0 (single_second k fs gs single) in
        let grown = grows_both bound middle after outer.1.1 (grows_behind middle after inner.1) in
        ((outer.0, inner.0), extends_let bound grown.0 after grown.1)

    arguments_closed : (es : ExpressionList) (types : List (List ℕ)) (bound : List VariableNode) (typed : List TypedExpressionNode) (after : List VariableNode) →
        HaveExpressionTypes env flags es types bound typed after → (before : List ℕ) → Seen bound before → AreSingle k (expressions_terms (typed_expression_list typed)) →
        AreClosedExpressions k before (typed_expression_list typed) × Extends bound after
    arguments_closed _ _ _ _ _ (no_value {bound}) before s single = (tt, extends_none bound)
    arguments_closed _ _ _ _ _ (one_value {e} {es} {ty} {types} {bound} {middle} {after} {typed} {rest} d ds) before s single =
        let fs = expression_terms typed in
        let gs = expressions_terms (typed_expression_list rest) in
        let one = expression_closed e (Some ty) bound typed middle d before s (single_first k fs gs single) in
        let all = arguments_closed es types middle rest after ds before (seen_behind bound middle before one.1 s) (single_second k fs gs single) in
        ((one.0, all.0), extends_both bound middle after one.1 all.1)

    lets_closed : (defs : LetList) (bound : List VariableNode) (vars : List TypedLetNode) (after : List VariableNode) →
        AreDefined env flags defs bound vars after → (before : List ℕ) → Seen bound before → AreSingle k (lets_terms (typed_let_list vars)) →
        AreClosedLets k before (typed_let_list vars) × (Seen after (before ++ let_variables (typed_let_list vars)) × Grows bound after)
    lets_closed _ _ _ _ (no_variable {bound}) before s single = (tt, (subst (Seen bound) (sym (append-nil before)) s, ([], sym (append-nil bound))))
    lets_closed _ _ _ _ (one_variable {var} {ty} {val} {defs} {bound} {middle} {after} {typed} {rest} is d ds) before s single =
        let x = length middle in
        let fs = expression_terms typed in
        let gs = lets_terms (typed_let_list rest) in
        let vs = let_variables (typed_let_list rest) in
        let one = expression_closed val (Some ty.text) bound typed middle d before s (single_first k fs gs single) in
        let seen = seen_weaker middle before (x ∷ []) (seen_behind bound middle before one.1 s) in
        let all = lets_closed defs (bound_more middle var.text ty.text) rest after ds (before ++ x ∷ [])
        (seen_more middle var.text ty.text (before ++ x ∷ []) seen (bound_last before x)) (single_second k fs gs single) in (
          (one.0, all.0),
          (
            subst (Seen after) (append_assoc before (x ∷ []) vs) all.1.0,
            grows_both bound middle after (grows_behind bound middle one.1)
                (grows_both middle (bound_more middle var.text ty.text) after (record { name = var.text; ty = ty.text; is_visible = true } ∷ [], refl) all.1.1),
          ),
        )
