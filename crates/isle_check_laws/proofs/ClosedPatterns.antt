-- Typed patterns are closed, if none of their terms is multi.
use Rattle.std.proofs.Common.{◌≡◌, ℕ, List, [], ◌∷◌, ◌++◌, length, true, not, Option, Some, sym, ◌∙◌, subst, append_assoc, append-nil}
use Rattle.std.proofs.lemmas.List.Folds.{list_all-append}
use Rattle.std.specs.List.{list_all}
use Rattle.isle_ast_rules.specs.Tree.{PatternNode, term_pattern, PatternList, no_pattern, more_pattern}
use Rattle.isle_check_environment.specs.signatures.Environment.{EnvironmentNode}
use Rattle.isle_check_environment.specs.signatures.Signatures.{TermNode}
use Rattle.isle_check_typing.specs.Progress.{VariableNode}
use Rattle.isle_check_typing.specs.Typed.{TypedNode}
use Rattle.isle_check_typing.specs.TypedView.{typed_list_of}
use Rattle.isle_check_laws.specs.HasType.{HasType, binds, compares, names, is_bool, is_integer, is_constant, is_anything, are_all, extracts, expands, converts, HaveType, no_more, one_more, HaveTypes, no_argument, one_argument, bound_more}
use Rattle.isle_check_matchings.specs.Asks.{TermsNode}
use Rattle.isle_check_rules.specs.Warnings.{list_terms_in, multi_by, terms_in}
use Rattle.isle_check_laws.specs.Closed.{IsSingle, pattern_variables, list_variables, IsClosedPattern, AreClosedPatterns}
use Rattle.isle_check_laws.specs.UsedTerms.{AreSingle}
use Rattle.isle_check_overlaps.proofs.Booleans.{and_first, and_second, not_true}
use Rattle.isle_check_laws.proofs.SeenVariables.{Seen, seen_weaker, seen_more, found_seen, bound_before, bound_last}

module _ (k : TermsNode) where
  pub single_first : (fs gs : List (List ℕ)) → AreSingle k (fs ++ gs) → AreSingle k fs
  single_first fs gs h =
      and_first (list_all (λ f. not (multi_by (k.terms f))) fs) (list_all (λ f. not (multi_by (k.terms f))) gs) (sym (list_all-append (λ f. not (multi_by (k.terms f))) fs gs) ∙ h)

  pub single_second : (fs gs : List (List ℕ)) → AreSingle k (fs ++ gs) → AreSingle k gs
  single_second fs gs h =
      and_second (list_all (λ f. not (multi_by (k.terms f))) fs) (list_all (λ f. not (multi_by (k.terms f))) gs) (sym (list_all-append (λ f. not (multi_by (k.terms f))) fs gs) ∙ h)

  single_by : (o : Option TermNode) (t : TermNode) → o ≡ Some t → not (multi_by o) ≡ true → IsSingle o
  single_by o t is h = subst IsSingle (sym is) (not_true t.multi (subst (λ p. not (multi_by p) ≡ true) is h))

  -- a term that is known, and isn't multi
  pub single_head : (f : List ℕ) (fs : List (List ℕ)) (t : TermNode) → k.terms f ≡ Some t → AreSingle k (f ∷ fs) → IsSingle (k.terms f)
  single_head f fs t is h = single_by (k.terms f) t is (and_first (not (multi_by (k.terms f))) (list_all (λ g. not (multi_by (k.terms g))) fs) h)

  pub single_rest : (f : List ℕ) (fs : List (List ℕ)) → AreSingle k (f ∷ fs) → AreSingle k fs
  single_rest f fs h = and_second (not (multi_by (k.terms f))) (list_all (λ g. not (multi_by (k.terms g))) fs) h

  module _ (env : EnvironmentNode) (known : (f : List ℕ) → k.terms f ≡ env.terms f) where
    mutual
      pub pattern_closed : (p : PatternNode) (ty : List ℕ) (bound : List VariableNode) (typed : TypedNode) (after : List VariableNode) →
          HasType env p ty bound typed after → (before : List ℕ) → Seen bound before → AreSingle k (terms_in typed) →
          IsClosedPattern k before typed × Seen after (before ++ pattern_variables typed)
      pattern_closed _ _ _ _ _ (binds {var} {ty} {bound} h) before s single =
          (tt, seen_more bound var.text ty (before ++ length bound ∷ []) (seen_weaker bound before (length bound ∷ []) s) (bound_last before (length bound)))
      pattern_closed _ _ _ _ _ (compares {var} {bound} {known = v} h) before s single =
          (found_seen bound before var.text v s h, subst (Seen bound) (sym (append-nil before)) s)
      pattern_closed _ _ _ _ _ (names {var} {subpat} {ty} {bound} {after} {typed} d h) before s single =
          let x = length after in
          let vs = pattern_variables typed in
          let more = before ++ x ∷ [] in
          let inner = pattern_closed subpat ty bound typed after d more (seen_weaker bound before (x ∷ []) s) single in (
            inner.0,
            subst (Seen (bound_more after var.text ty)) (append_assoc before (x ∷ []) vs)
                (seen_more after var.text ty (more ++ vs) inner.1 (bound_before more vs x (bound_last before x))),
          )
      pattern_closed _ _ _ _ _ (is_bool {bound}) before s single = (tt, subst (Seen bound) (sym (append-nil before)) s)
      pattern_closed _ _ _ _ _ (is_integer {bound} h) before s single = (tt, subst (Seen bound) (sym (append-nil before)) s)
      pattern_closed _ _ _ _ _ (is_constant {bound} h) before s single = (tt, subst (Seen bound) (sym (append-nil before)) s)
      pattern_closed _ _ _ _ _ (is_anything {bound}) before s single = (tt, subst (Seen bound) (sym (append-nil before)) s)
      pattern_closed _ _ _ _ _ (are_all {subpats} {ty} {bound} {after} {typed} ds) before s single = each_closed subpats ty bound typed after ds before s single
      pattern_closed _ _ _ _ _ (extracts {name} {args} {bound} {after} {typed} {t} found plain ext ds) before s single =
          let fs = list_terms_in (typed_list_of typed) in
          let rest = arguments_closed args t.args bound typed after ds before s (single_rest name.text fs single) in
          ((single_head name.text fs t (known name.text ∙ found) single, rest.0), rest.1)
      pattern_closed _ _ _ _ _ (expands {bound} {after} {typed} {t} {filled} found is count puts d) before s single =
          pattern_closed filled t.ret bound typed after d before s single
      pattern_closed _ _ _ _ _ (converts {name} {args} {place} {ty} {converter} {bound} {after} {typed} found other named ext d) before s single =
          pattern_closed (term_pattern (record { text = converter; pos = place }) (more_pattern (term_pattern name args place) no_pattern) place) ty bound typed after d before s single

      each_closed : (ps : PatternList) (ty : List ℕ) (bound : List VariableNode) (typed : List TypedNode) (after : List VariableNode) →
          HaveType env ps ty bound typed after → (before : List ℕ) → Seen bound before → AreSingle k (list_terms_in (typed_list_of typed)) →
          AreClosedPatterns k before (typed_list_of typed) × Seen after (before ++ list_variables (typed_list_of typed))
      each_closed _ _ _ _ _ (no_more {bound}) before s single = (tt, subst (Seen bound) (sym (append-nil before)) s)
      each_closed _ _ _ _ _ (one_more {p} {ps} {ty} {bound} {middle} {after} {typed} {rest} d ds) before s single =
          let fs = terms_in typed in
          let gs = list_terms_in (typed_list_of rest) in
          let one = pattern_closed p ty bound typed middle d before s (single_first fs gs single) in
          let all = each_closed ps ty middle rest after ds (before ++ pattern_variables typed) one.1 (single_second fs gs single) in
          ((one.0, all.0), subst (Seen after) (append_assoc before (pattern_variables typed) (list_variables (typed_list_of rest))) all.1)

      pub arguments_closed : (ps : PatternList) (types : List (List ℕ)) (bound : List VariableNode) (typed : List TypedNode) (after : List VariableNode) →
          HaveTypes env ps types bound typed after → (before : List ℕ) → Seen bound before → AreSingle k (list_terms_in (typed_list_of typed)) →
          AreClosedPatterns k before (typed_list_of typed) × Seen after (before ++ list_variables (typed_list_of typed))
      arguments_closed _ _ _ _ _ (no_argument {bound}) before s single = (tt, subst (Seen bound) (sym (append-nil before)) s)
      arguments_closed _ _ _ _ _ (one_argument {p} {ps} {ty} {types} {bound} {middle} {after} {typed} {rest} d ds) before s single =
          let fs = terms_in typed in
          let gs = list_terms_in (typed_list_of rest) in
          let one = pattern_closed p ty bound typed middle d before s (single_first fs gs single) in
          let all = arguments_closed ps types middle rest after ds (before ++ pattern_variables typed) one.1 (single_second fs gs single) in
          ((one.0, all.0), subst (Seen after) (append_assoc before (pattern_variables typed) (list_variables (typed_list_of rest))) all.1)
