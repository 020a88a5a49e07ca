-- What has a type by the rules is typed so, without a new error, where enough depth is given.
use Rattle.std.proofs.Common.{◌≡◌, ◌≢◌, ℕ, zero, suc, ◌+◌, ◌==◌, ◌≤◌, List, [], ◌∷◌, ◌++◌, length, true, Option, None, Some, is_none, option_map, codes, refl, ap, sym, ◌∙◌, append-nil, append_assoc, arith, eq-eqb, if◌then◌else◌}
use Rattle.isle_base_source.specs.declared.pos.Pos.{Pos}
use Rattle.isle_ast_names.specs.Tree.{Name}
use Rattle.isle_ast_rules.specs.Tree.{PatternNode, var_pattern, bind_pattern, bool_pattern, int_pattern, constant_pattern, term_pattern, wildcard_pattern, and_pattern, PatternList, no_pattern, more_pattern}
use Rattle.isle_check_environment.specs.signatures.Environment.{EnvironmentNode}
use Rattle.isle_check_environment.specs.signatures.Signatures.{TermNode}
use Rattle.isle_check_typing.specs.Faults.{FaultNode, integer_type, bool_type, constant_type, variable_bound, variable_type, argument_count, no_extractor}
use Rattle.isle_check_typing.specs.PatternTypes.{Below, arguments_by, constant_by, converted_by, converting, count_patterns, each_by, filled_by, if_extracts, own_by, step, term_by, type_at, type_bind, use_by, variable_by}
use Rattle.isle_check_typing.specs.Progress.{ProgressNode, VariableNode, bind, unless}
use Rattle.isle_check_typing.specs.Typed.{TypedNode, typed_bind, typed_var, typed_bool, typed_int, typed_const, typed_term, typed_wildcard, typed_and, type_of}
use Rattle.isle_check_typing.specs.TypedView.{typed_list_of}
use Rattle.isle_check_typing.specs.Typings.{Typing, Typings, and_then, gives, with_typed}
use Rattle.isle_check_laws.specs.HasType.{HasType, binds, compares, names, is_bool, is_integer, is_constant, is_anything, are_all, extracts, expands, converts, HaveType, no_more, one_more, HaveTypes, no_argument, one_argument, bound_more}
use Rattle.isle_check_laws.specs.Untold.{progress, gives_all}
use Rattle.isle_check_laws.proofs.PatternTypes.{type_kept}
use Rattle.isle_check_laws.proofs.Telling.{equal_text, differs}

-- typed so with this depth, and with more
pub record Accepts (env : EnvironmentNode) (p : PatternNode) (ty : List ℕ) (bound : List VariableNode) (typed : TypedNode) (after : List VariableNode) : Type 0 where
  pub depth : ℕ
  pub at : (n : ℕ) → depth ≤ n → (faults : List FaultNode) → type_at n env p ty (progress bound faults) ≡ Some (gives typed (progress after faults))

pub record AcceptsEach (env : EnvironmentNode) (ps : PatternList) (ty : List ℕ) (bound : List VariableNode) (typed : List TypedNode) (after : List VariableNode) : Type 0 where
  pub depth : ℕ
  pub at : (n : ℕ) → depth ≤ n → (faults : List FaultNode) (before : List TypedNode) →
      each_by (type_at n env) ps ty before (progress bound faults) ≡ Some (gives_all (before ++ typed) (progress after faults))

pub record AcceptsArguments (env : EnvironmentNode) (ps : PatternList) (types : List (List ℕ)) (bound : List VariableNode) (typed : List TypedNode) (after : List VariableNode) : Type 0 where
  pub depth : ℕ
  pub count : length types ≡ count_patterns ps
  pub at : (n : ℕ) → depth ≤ n → (faults : List FaultNode) (before : List TypedNode) →
      arguments_by (type_at n env) ps types before (progress bound faults) ≡ Some (gives_all (before ++ typed) (progress after faults))

module _ (env : EnvironmentNode) (p : PatternNode) (ty : List ℕ) (bound : List VariableNode) (typed : TypedNode) (after : List VariableNode) (d : ℕ)
    (f : (m : ℕ) → d ≤ m → (faults : List FaultNode) → step (type_at m env) env p ty (progress bound faults) ≡ Some (gives typed (progress after faults))) where
  by_step : (n : ℕ) → suc d ≤ n → (faults : List FaultNode) → type_at n env p ty (progress bound faults) ≡ Some (gives typed (progress after faults))
  by_step zero le faults = absurd (omega (arith, le))
  by_step (suc m) le faults = f m (omega (arith, le)) faults

  accepts : Accepts env p ty bound typed after
  accepts = record { depth = suc d; at = by_step }

module _ (env : EnvironmentNode) (below : Below) (name : Name) (args : PatternList) (place : Pos) (t : TermNode) (found : env.terms name.text ≡ Some t) where
  -- a term that is found, and is used as it is
  step_use : (s : ProgressNode) → length t.args ≡ count_patterns args →
      step below env (term_pattern name args place) t.ret s ≡ use_by below env (env.templates name.text) t name.text args place t.ret s
  step_use s count =
      ap (λ o. term_by below env o (term_pattern name args place) name.text args place t.ret s) found
      ∙ ap (λ b. if b then own_by below env t name.text args place t.ret s else converted_by below env (converting env t.ret t.ret) (term_pattern name args place) t name.text args place t.ret s)
      (equal_text t.ret)
      ∙ ap (λ b. use_by below env (env.templates name.text) t name.text args place t.ret (unless b (argument_count name.text (count_patterns args) (length t.args)) place s))
      (eq-eqb (length t.args) (count_patterns args) count)

  -- a term that is found, and is converted
  step_put : (ty converter : List ℕ) (s : ProgressNode) → t.ret ≢ ty → env.converters t.ret ty ≡ Some converter → env.has_extractor converter ≡ true →
      step below env (term_pattern name args place) ty s
      ≡ below (term_pattern (record { text = converter; pos = place }) (more_pattern (term_pattern name args place) no_pattern) place) ty s
  step_put ty converter s other named ext =
      ap (λ o. term_by below env o (term_pattern name args place) name.text args place ty s) found
      ∙ ap (λ b. if b then own_by below env t name.text args place ty s else converted_by below env (converting env t.ret ty) (term_pattern name args place) t name.text args place ty s)
      (differs t.ret ty other)
      ∙ ap (λ o. converted_by below env (if_extracts env o) (term_pattern name args place) t name.text args place ty s) named
      ∙ ap (λ b. converted_by below env (if b then Some converter else None) (term_pattern name args place) t name.text args place ty s) ext

module _ (env : EnvironmentNode) where
  mutual
    pub complete : (p : PatternNode) (ty : List ℕ) (bound : List VariableNode) (typed : TypedNode) (after : List VariableNode) →
        HasType env p ty bound typed after → Accepts env p ty bound typed after
    complete _ _ _ _ _ (binds {var} {place} {ty} {bound} h) =
        accepts env (var_pattern var place) ty bound (typed_bind (length bound) ty (typed_wildcard ty)) (bound_more bound var.text ty) 0
        (λ m le faults. ap (λ o. Some (variable_by o var place ty (progress bound faults))) h)
    complete _ _ _ _ _ (compares {var} {place} {bound} {known} h) =
        accepts env (var_pattern var place) known.ty bound (typed_var known.number known.ty) bound 0
        (λ m le faults.
        ap (λ o. Some (variable_by o var place known.ty (progress bound faults))) h
        ∙ ap (λ b. Some (gives (typed_var known.number known.ty) (unless b (variable_type var.text known.ty known.ty) place (progress bound faults)))) (equal_text known.ty))
    complete _ _ _ _ _ (names {var} {subpat} {place} {ty} {bound} {after} {typed} d h) =
        let s = complete subpat ty bound typed after d in
        accepts env (bind_pattern var subpat place) ty bound (typed_bind (length after) ty typed) (bound_more after var.text ty) s.depth
        (λ m le faults.
        ap (λ r. option_map (type_bind var place) r) (s.at m le faults)
        ∙ ap (λ b. Some (gives (typed_bind (length after) (type_of typed) typed) (bind var.text (type_of typed) (unless b (variable_bound var.text) place (progress after faults))))) (ap (λ o. is_none o) h)
        ∙ ap (λ w. Some (gives (typed_bind (length after) w typed) (progress (bound_more after var.text w) faults))) (type_kept env subpat ty bound typed after d))
    complete _ _ _ _ _ (is_bool {val} {place} {bound}) =
        accepts env (bool_pattern val place) (codes "bool") bound (typed_bool val (codes "bool")) bound 0
        (λ m le faults. ap (λ b. Some (gives (typed_bool val (codes "bool")) (unless b (bool_type val (codes "bool")) place (progress bound faults)))) (equal_text (codes "bool")))
    complete _ _ _ _ _ (is_integer {val} {place} {ty} {bound} h) =
        accepts env (int_pattern val place) ty bound (typed_int val ty) bound 0
        (λ m le faults. ap (λ b. Some (gives (typed_int val ty) (unless b (integer_type val ty) place (progress bound faults)))) h)
    complete _ _ _ _ _ (is_constant {val} {place} {ty} {bound} h) =
        accepts env (constant_pattern val place) ty bound (typed_const val.text ty) bound 0
        (λ m le faults.
        ap (λ o. Some (constant_by o val place ty (progress bound faults))) h
        ∙ ap (λ b. Some (gives (typed_const val.text ty) (unless b (constant_type ty ty) place (progress bound faults)))) (equal_text ty))
    complete _ _ _ _ _ (is_anything {place} {ty} {bound}) =
        accepts env (wildcard_pattern place) ty bound (typed_wildcard ty) bound 0 (λ m le faults. refl)
    complete _ _ _ _ _ (are_all {subpats} {place} {ty} {bound} {after} {typed} d) =
        let s = complete_each subpats ty bound typed after d in
        accepts env (and_pattern subpats place) ty bound (typed_and ty (typed_list_of typed)) after s.depth
        (λ m le faults. ap (λ (o : Option (Typings TypedNode)). option_map (λ r. gives (typed_and ty (typed_list_of r.typed)) r.after) o) (s.at m le faults []))
    complete _ _ _ _ _ (extracts {name} {args} {place} {bound} {after} {typed} {t} found plain ext d) =
        let s = complete_arguments args t.args bound typed after d in
        accepts env (term_pattern name args place) t.ret bound (typed_term name.text t.ret (typed_list_of typed)) after s.depth
        (λ m le faults.
        step_use env (type_at m env) name args place t found (progress bound faults) s.count
        ∙ ap (λ o. use_by (type_at m env) env o t name.text args place t.ret (progress bound faults)) plain
        ∙ ap (λ b. option_map (λ (r : Typings TypedNode). gives (typed_term name.text t.ret (typed_list_of r.typed)) r.after) (arguments_by (type_at m env) args t.args [] (unless b (no_extractor name.text) place (progress bound faults)))) ext
        ∙ ap (λ (o : Option (Typings TypedNode)). option_map (λ (r : Typings TypedNode). gives (typed_term name.text t.ret (typed_list_of r.typed)) r.after) o) (s.at m le faults []))
    complete _ _ _ _ _ (expands {name} {args} {place} {bound} {after} {typed} {t} {template} {filled} found is count puts d) =
        let s = complete filled t.ret bound typed after d in
        accepts env (term_pattern name args place) t.ret bound typed after s.depth
        (λ m le faults.
        step_use env (type_at m env) name args place t found (progress bound faults) count
        ∙ ap (λ o. use_by (type_at m env) env o t name.text args place t.ret (progress bound faults)) is
        ∙ ap (λ o. filled_by (type_at m env) o (length t.args == count_patterns args) name.text place t.ret (progress bound faults)) puts
        ∙ s.at m le faults)
    complete _ _ _ _ _ (converts {name} {args} {place} {ty} {converter} {bound} {after} {typed} {t} found other named ext d) =
        let s = complete (term_pattern (record { text = converter; pos = place }) (more_pattern (term_pattern name args place) no_pattern) place) ty bound typed after d in
        accepts env (term_pattern name args place) ty bound typed after s.depth
        (λ m le faults. step_put env (type_at m env) name args place t found ty converter (progress bound faults) other named ext ∙ s.at m le faults)

    complete_each : (ps : PatternList) (ty : List ℕ) (bound : List VariableNode) (typed : List TypedNode) (after : List VariableNode) →
        HaveType env ps ty bound typed after → AcceptsEach env ps ty bound typed after
    complete_each _ _ _ _ _ (no_more {ty} {bound}) =
        record { depth = 0; at = λ n le faults before. ap (λ ts. Some (gives_all ts (progress bound faults))) (sym (append-nil before)) }
    complete_each _ _ _ _ _ (one_more {p} {ps} {ty} {bound} {middle} {after} {typed} {rest} d ds) =
        let one = complete p ty bound typed middle d in
        let more = complete_each ps ty middle rest after ds in
        record {
          depth = one.depth + more.depth;
          at = λ n le faults before.
              ap (λ (o : Option (Typing TypedNode)). and_then o (λ r. each_by (type_at n env) ps ty (with_typed before r.typed) r.after)) (one.at n (omega (arith, le)) faults)
              ∙ more.at n (omega (arith, le)) faults (before ++ typed ∷ [])
              ∙ ap (λ ts. Some (gives_all ts (progress after faults))) (append_assoc before (typed ∷ []) rest);
        }

    pub complete_arguments : (ps : PatternList) (types : List (List ℕ)) (bound : List VariableNode) (typed : List TypedNode) (after : List VariableNode) →
        HaveTypes env ps types bound typed after → AcceptsArguments env ps types bound typed after
    complete_arguments _ _ _ _ _ (no_argument {bound}) =
        record { depth = 0; count = refl; at = λ n le faults before. ap (λ ts. Some (gives_all ts (progress bound faults))) (sym (append-nil before)) }
    complete_arguments _ _ _ _ _ (one_argument {p} {ps} {ty} {types} {bound} {middle} {after} {typed} {rest} d ds) =
        let one = complete p ty bound typed middle d in
        let more = complete_arguments ps types middle rest after ds in
        record {
          depth = one.depth + more.depth;
          count = omega (arith, more.count);
          at = λ n le faults before.
              ap (λ (o : Option (Typing TypedNode)). and_then o (λ r. arguments_by (type_at n env) ps types (with_typed before r.typed) r.after)) (one.at n (omega (arith, le)) faults)
              ∙ more.at n (omega (arith, le)) faults (before ++ typed ∷ [])
              ∙ ap (λ ts. Some (gives_all ts (progress after faults))) (append_assoc before (typed ∷ []) rest);
        }
