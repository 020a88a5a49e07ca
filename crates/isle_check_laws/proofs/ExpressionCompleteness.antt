-- What has a type by the rules is typed so, without a new error, where enough depth is given.
use Rattle.std.proofs.Common.{◌≡◌, ◌≢◌, ℕ, zero, suc, ◌+◌, ◌≤◌, List, [], ◌∷◌, ◌++◌, length, true, not, ◌||◌, Option, None, Some, option_map, codes, refl, ap, sym, ◌∙◌, append-nil, append_assoc, arith, eq-eqb, if◌then◌else◌}
use Rattle.isle_base_source.specs.declared.pos.Pos.{Pos}
use Rattle.isle_ast_names.specs.Tree.{Name}
use Rattle.isle_ast_rules.specs.Tree.{Expression, term_expression, var_expression, bool_expression, int_expression, constant_expression, let_expression, ExpressionList, no_expression, more_expression, LetList}
use Rattle.isle_check_environment.specs.signatures.Environment.{EnvironmentNode}
use Rattle.isle_check_environment.specs.signatures.Signatures.{TermNode}
use Rattle.isle_check_typing.specs.Faults.{FaultNode, integer_type, argument_count, let_type_unknown, impure_term, multi_term, partial_term}
use Rattle.isle_check_typing.specs.Progress.{FoundNode, ProgressNode, VariableNode, tell, unless}
use Rattle.isle_check_typing.specs.Typings.{Typing, Typings, and_then, gives, gives_none, with_typed}
use Rattle.isle_check_typing.specs.declared.expressions.flags.Flags.{Flags}
use Rattle.isle_check_typing.specs.expressions.ExpressionTypes.{Below, arguments_by, bool_by, close, constant_as, constant_by, count_arguments, count_expressions, define, expression_at, if_constructs, lets_by, own_by, step, term_as, term_by, term_converted, variable_as, variable_by, variable_converted}
use Rattle.isle_check_typing.specs.expressions.TypedExpressions.{TypedExpressionNode, typed_var_expression, typed_bool_expression, typed_int_expression, typed_const_expression, typed_term_expression, typed_let_expression, TypedLetNode, type_of_expression, typed_expression_list, typed_let_list}
use Rattle.isle_check_laws.specs.HasExpressionType.{HasExpressionType, HaveExpressionTypes, AreDefined, IsAllowed, bound_behind, gives_integer, gives_bool, gives_constant, gives_variable, constructs, converts_variable, converts_term, lets, no_value, one_value, no_variable, one_variable}
use Rattle.isle_check_laws.specs.HasType.{bound_more}
use Rattle.isle_check_laws.specs.Untold.{progress, gives_all}
use Rattle.isle_check_laws.proofs.Wanted.{implies_first, implies_last, none_other, some_other}

-- typed so with this depth, and with more
pub record Accepts (env : EnvironmentNode) (flags : Flags) (e : Expression) (wanted : Option (List ℕ)) (bound : List VariableNode) (typed : TypedExpressionNode) (after : List VariableNode) : Type 0 where
  pub depth : ℕ
  pub at : (n : ℕ) → depth ≤ n → (faults : List FaultNode) →
      expression_at n env flags e wanted (progress bound faults) ≡ Some (gives typed (progress after faults))

pub record AcceptsArguments (env : EnvironmentNode) (flags : Flags) (es : ExpressionList) (types : List (List ℕ)) (bound : List VariableNode) (typed : List TypedExpressionNode) (after : List VariableNode) : Type 0 where
  pub depth : ℕ
  pub count : length types ≡ count_expressions es
  pub at : (n : ℕ) → depth ≤ n → (faults : List FaultNode) (before : List TypedExpressionNode) →
      arguments_by (expression_at n env flags) es types before (progress bound faults) ≡ Some (gives_all (before ++ typed) (progress after faults))

pub record AcceptsLets (env : EnvironmentNode) (flags : Flags) (defs : LetList) (bound : List VariableNode) (vars : List TypedLetNode) (after : List VariableNode) : Type 0 where
  pub depth : ℕ
  pub at : (n : ℕ) → depth ≤ n → (place : Pos) (faults : List FaultNode) (before : List TypedLetNode) →
      lets_by (expression_at n env flags) env place defs before (progress bound faults) ≡ Some (gives_all (before ++ vars) (progress after faults))

module _ (env : EnvironmentNode) (flags : Flags) (e : Expression) (wanted : Option (List ℕ)) (bound : List VariableNode) (typed : TypedExpressionNode) (after : List VariableNode) (d : ℕ)
    (f : (m : ℕ) → d ≤ m → (faults : List FaultNode) → step (expression_at m env flags) env flags e wanted (progress bound faults) ≡ Some (gives typed (progress after faults))) where
  by_step : (n : ℕ) → suc d ≤ n → (faults : List FaultNode) → expression_at n env flags e wanted (progress bound faults) ≡ Some (gives typed (progress after faults))
  by_step zero le faults = absurd (omega (arith, le))
  by_step (suc m) le faults = f m (omega (arith, le)) faults

  accepts : Accepts env flags e wanted bound typed after
  accepts = record { depth = suc d; at = by_step }

-- a term that the flags allow, with as many arguments as are declared
own_is : (below : Below) (flags : Flags) (t : TermNode) (term : List ℕ) (args : ExpressionList) (place : Pos) (s : ProgressNode) →
    IsAllowed flags t → length t.args ≡ count_expressions args →
    own_by below flags t term args place s
    ≡ option_map (λ (r : Typings TypedExpressionNode). gives (typed_term_expression term t.ret (typed_expression_list r.typed)) r.after) (arguments_by below args t.args [] s)
own_is below flags t term args place s allowed count =
    let made : ProgressNode → Option (Typing TypedExpressionNode) =
    λ w. option_map (λ (r : Typings TypedExpressionNode). gives (typed_term_expression term t.ret (typed_expression_list r.typed)) r.after) (arguments_by below args t.args [] w) in
    ap (λ b. made (count_arguments t term (count_expressions args) place
    (unless (flags.partial || not t.partial) (partial_term term flags.multi) place
    (unless (flags.multi || not t.multi) (multi_term term) place
    (unless b (impure_term term) place s)))))
    (implies_first flags.pure (t.pure || t.is_variant) allowed.if_pure)
    ∙ ap (λ b. made (count_arguments t term (count_expressions args) place
    (unless (flags.partial || not t.partial) (partial_term term flags.multi) place
    (unless b (multi_term term) place s))))
    (implies_last t.multi flags.multi allowed.if_multi)
    ∙ ap (λ b. made (count_arguments t term (count_expressions args) place (unless b (partial_term term flags.multi) place s)))
    (implies_last t.partial flags.partial allowed.if_partial)
    ∙ ap (λ b. made (unless b (argument_count term (count_expressions args) (length t.args)) place s))
    (eq-eqb (length t.args) (count_expressions args) count)

module _ (env : EnvironmentNode) (flags : Flags) (below : Below) where
  variable_put : (name : Name) (place : Pos) (ty converter : List ℕ) (known : FoundNode) (s : ProgressNode) → known.ty ≢ ty →
      env.converters known.ty ty ≡ Some converter → env.has_constructor converter ≡ true →
      variable_by below env (Some known) (var_expression name place) name.text place (Some ty) s
      ≡ below (term_expression (record { text = converter; pos = place }) (more_expression (var_expression name place) no_expression) place) (Some ty) s
  variable_put name place ty converter known s other named ext =
      ap (λ o. variable_as below env known o (var_expression name place) name.text place s) (some_other known.ty ty other)
      ∙ ap (λ o. variable_converted below (if_constructs env o) known (var_expression name place) name.text place ty s) named
      ∙ ap (λ b. variable_converted below (if b then Some converter else None) known (var_expression name place) name.text place ty s) ext

  term_put : (name : Name) (args : ExpressionList) (place : Pos) (ty converter : List ℕ) (t : TermNode) (s : ProgressNode) → t.ret ≢ ty →
      env.converters t.ret ty ≡ Some converter → env.has_constructor converter ≡ true →
      term_by below env flags (Some t) (term_expression name args place) name.text args place (Some ty) s
      ≡ below (term_expression (record { text = converter; pos = place }) (more_expression (term_expression name args place) no_expression) place) (Some ty) s
  term_put name args place ty converter t s other named ext =
      ap (λ o. term_as below env flags t o (term_expression name args place) name.text args place s) (some_other t.ret ty other)
      ∙ ap (λ o. term_converted below (if_constructs env o) flags t (term_expression name args place) name.text args place ty s) named
      ∙ ap (λ b. term_converted below (if b then Some converter else None) flags t (term_expression name args place) name.text args place ty s) ext

module _ (env : EnvironmentNode) (flags : Flags) where
  mutual
    pub complete : (e : Expression) (wanted : Option (List ℕ)) (bound : List VariableNode) (typed : TypedExpressionNode) (after : List VariableNode) →
        HasExpressionType env flags e wanted bound typed after → Accepts env flags e wanted bound typed after
    complete _ _ _ _ _ (gives_integer {val} {place} {ty} {bound} h) =
        accepts env flags (int_expression val place) (Some ty) bound (typed_int_expression val ty) bound 0
        (λ m le faults. ap (λ b. Some (gives (typed_int_expression val ty) (unless b (integer_type val ty) place (progress bound faults)))) h)
    complete _ _ _ _ _ (gives_bool {val} {place} {wanted} {bound} w) =
        accepts env flags (bool_expression val place) wanted bound (typed_bool_expression val (codes "bool")) bound 0
        (λ m le faults. ap (λ o. Some (gives (typed_bool_expression val (codes "bool")) (bool_by o val place (progress bound faults)))) (none_other (codes "bool") wanted w))
    complete _ _ _ _ _ (gives_constant {val} {place} {ty} {wanted} {bound} h w) =
        accepts env flags (constant_expression val place) wanted bound (typed_const_expression val.text ty) bound 0
        (λ m le faults.
        ap (λ o. Some (constant_by o val.text place wanted (progress bound faults))) h
        ∙ ap (λ o. Some (constant_as ty o val.text place (progress bound faults))) (none_other ty wanted w))
    complete _ _ _ _ _ (gives_variable {name} {place} {wanted} {bound} {known} h w) =
        accepts env flags (var_expression name place) wanted bound (typed_var_expression known.number known.ty) bound 0
        (λ m le faults.
        ap (λ o. variable_by (expression_at m env flags) env o (var_expression name place) name.text place wanted (progress bound faults)) h
        ∙ ap (λ o. variable_as (expression_at m env flags) env known o (var_expression name place) name.text place (progress bound faults)) (none_other known.ty wanted w))
    complete _ _ _ _ _ (constructs {name} {args} {place} {wanted} {bound} {after} {typed} {t} found w allowed ds) =
        let s = complete_arguments args t.args bound typed after ds in
        accepts env flags (term_expression name args place) wanted bound (typed_term_expression name.text t.ret (typed_expression_list typed)) after s.depth
        (λ m le faults.
        ap (λ o. term_by (expression_at m env flags) env flags o (term_expression name args place) name.text args place wanted (progress bound faults)) found
        ∙ ap (λ o. term_as (expression_at m env flags) env flags t o (term_expression name args place) name.text args place (progress bound faults)) (none_other t.ret wanted w)
        ∙ own_is (expression_at m env flags) flags t name.text args place (progress bound faults) allowed s.count
        ∙ ap (λ (o : Option (Typings TypedExpressionNode)). option_map (λ (r : Typings TypedExpressionNode). gives (typed_term_expression name.text t.ret (typed_expression_list r.typed)) r.after) o) (s.at m le faults []))
    complete _ _ _ _ _ (converts_variable {name} {place} {ty} {converter} {bound} {after} {typed} {known} found other named ext d) =
        let s = complete (term_expression (record { text = converter; pos = place }) (more_expression (var_expression name place) no_expression) place) (Some ty) bound typed after d in
        accepts env flags (var_expression name place) (Some ty) bound typed after s.depth
        (λ m le faults.
        ap (λ o. variable_by (expression_at m env flags) env o (var_expression name place) name.text place (Some ty) (progress bound faults)) found
        ∙ variable_put env flags (expression_at m env flags) name place ty converter known (progress bound faults) other named ext
        ∙ s.at m le faults)
    complete _ _ _ _ _ (converts_term {name} {args} {place} {ty} {converter} {bound} {after} {typed} {t} found other named ext d) =
        let s = complete (term_expression (record { text = converter; pos = place }) (more_expression (term_expression name args place) no_expression) place) (Some ty) bound typed after d in
        accepts env flags (term_expression name args place) (Some ty) bound typed after s.depth
        (λ m le faults.
        ap (λ o. term_by (expression_at m env flags) env flags o (term_expression name args place) name.text args place (Some ty) (progress bound faults)) found
        ∙ term_put env flags (expression_at m env flags) name args place ty converter t (progress bound faults) other named ext
        ∙ s.at m le faults)
    complete _ _ _ _ _ (lets {defs} {body} {place} {wanted} {bound} {middle} {after} {vars} {typed} ds d) =
        let one = complete_lets defs bound vars middle ds in
        let two = complete body wanted middle typed after d in
        accepts env flags (let_expression defs body place) wanted bound (typed_let_expression (type_of_expression typed) (typed_let_list vars) typed) (bound_behind bound after) (one.depth + two.depth)
        (λ m le faults.
        ap (λ (o : Option (Typings TypedLetNode)). and_then o (λ r. option_map (close (length bound) r.typed) (expression_at m env flags body wanted r.after))) (one.at m (omega (arith, le)) place faults [])
        ∙ ap (λ (o : Option (Typing TypedExpressionNode)). option_map (close (length bound) vars) o) (two.at m (omega (arith, le)) faults))

    pub complete_arguments : (es : ExpressionList) (types : List (List ℕ)) (bound : List VariableNode) (typed : List TypedExpressionNode) (after : List VariableNode) →
        HaveExpressionTypes env flags es types bound typed after → AcceptsArguments env flags es types bound typed after
    complete_arguments _ _ _ _ _ (no_value {bound}) =
        record { depth = 0; count = refl; at = λ n le faults before. ap (λ ts. Some (gives_all ts (progress bound faults))) (sym (append-nil before)) }
    complete_arguments _ _ _ _ _ (one_value {e} {es} {ty} {types} {bound} {middle} {after} {typed} {rest} d ds) =
        let one = complete e (Some ty) bound typed middle d in
        let more = complete_arguments es types middle rest after ds in
        record {
          depth = one.depth + more.depth;
          count = omega (arith, more.count);
          at = λ n le faults before.
              ap (λ (o : Option (Typing TypedExpressionNode)). and_then o (λ r. arguments_by (expression_at n env flags) es types (with_typed before r.typed) r.after)) (one.at n (omega (arith, le)) faults)
              ∙ more.at n (omega (arith, le)) faults (before ++ typed ∷ [])
              ∙ ap (λ ts. Some (gives_all ts (progress after faults))) (append_assoc before (typed ∷ []) rest);
        }

    complete_lets : (defs : LetList) (bound : List VariableNode) (vars : List TypedLetNode) (after : List VariableNode) →
        AreDefined env flags defs bound vars after → AcceptsLets env flags defs bound vars after
    complete_lets _ _ _ _ (no_variable {bound}) =
        record { depth = 0; at = λ n le place faults before. ap (λ ts. Some (gives_all ts (progress bound faults))) (sym (append-nil before)) }
    complete_lets _ _ _ _ (one_variable {var} {ty} {val} {place} {defs} {bound} {middle} {after} {typed} {rest} known d ds) =
        let one = complete val (Some ty.text) bound typed middle d in
        let more = complete_lets defs (bound_more middle var.text ty.text) rest after ds in
        let new : TypedLetNode = record { variable = length middle; val = typed } in
        record {
          depth = one.depth + more.depth;
          at = λ n le at faults before.
              ap (λ b. and_then (if b then option_map (define var.text ty.text) (expression_at n env flags val (Some ty.text) (progress bound faults)) else Some (gives_none (tell (let_type_unknown var.text ty.text) at (progress bound faults))))
              (λ r. lets_by (expression_at n env flags) env at defs (with_typed before r.typed) r.after)) known
              ∙ ap (λ (o : Option (Typing TypedExpressionNode)). and_then (option_map (define var.text ty.text) o) (λ r. lets_by (expression_at n env flags) env at defs (with_typed before r.typed) r.after)) (one.at n (omega (arith, le)) faults)
              ∙ more.at n (omega (arith, le)) at faults (before ++ new ∷ [])
              ∙ ap (λ ts. Some (gives_all ts (progress after faults))) (append_assoc before (new ∷ []) rest);
        }
