-- What is typed without a new error has a type by the rules.
use Rattle.std.proofs.Common.{◌≡◌, ◌≢◌, ℕ, ℤ, zero, suc, ◌==◌, List, [], ◌∷◌, length, le_refl, Bool, true, false, not, ◌||◌, Option, None, Some, IfSome, is_some, option_map, codes, refl, ap, sym, ◌∙◌, subst, append-nil, arith, eqb-true, if◌then◌else◌}
use Rattle.std.proofs.lemmas.Option.{none-some, same_Some}
use Rattle.isle_base_source.specs.declared.pos.Pos.{Pos}
use Rattle.isle_ast_names.specs.Tree.{Name}
use Rattle.isle_ast_rules.specs.Tree.{Expression, term_expression, var_expression, bool_expression, int_expression, constant_expression, let_expression, ExpressionList, no_expression, more_expression, LetList, no_let, more_let}
use Rattle.isle_check_environment.specs.signatures.Environment.{EnvironmentNode}
use Rattle.isle_check_environment.specs.signatures.Signatures.{TermNode}
use Rattle.isle_check_typing.specs.Faults.{integer_type, bool_type, constant_unknown, argument_count, integer_without_type, expression_constant_type, variable_unknown, expression_variable_type, let_type_unknown, expression_term_unknown, expression_term_type, impure_term, multi_term, partial_term}
use Rattle.isle_check_typing.specs.Progress.{FoundNode, ProgressNode, VariableNode, find, tell, unless}
use Rattle.isle_check_typing.specs.Typings.{Typing, Typings, gives, gives_none, with_typed}
use Rattle.isle_check_typing.specs.declared.expressions.flags.Flags.{Flags}
use Rattle.isle_check_typing.specs.expressions.ExpressionTypes.{Below, arguments_by, bool_by, close, constant_as, constant_by, converting, count_expressions, define, defined_by, expression_at, let_by, lets_by, other_than, own_by, step, term_as, term_by, term_converted, type_let, variable_as, variable_by, variable_converted}
use Rattle.isle_check_typing.specs.expressions.TypedExpressions.{TypedExpressionNode, typed_var_expression, typed_bool_expression, typed_int_expression, typed_const_expression, typed_term_expression, typed_let_expression, TypedLetNode, type_of_expression, typed_expression_list, typed_let_list}
use Rattle.isle_check_laws.specs.HasExpressionType.{HasExpressionType, HaveExpressionTypes, AreDefined, IsAllowed, gives_integer, gives_bool, gives_constant, gives_variable, constructs, converts_variable, converts_term, lets, no_value, one_value, no_variable, one_variable}
use Rattle.isle_check_laws.specs.HasType.{bound_more}
use Rattle.isle_check_laws.specs.Untold.{HasPart}
use Rattle.isle_check_laws.proofs.Telling.{OrTells, HasParts, both, never, tells, leaf, change_some, map_some, bind_some, at_some, passes, follows}
use Rattle.isle_check_laws.proofs.Wanted.{by_converter, implied_first, implied_last, other_is, wanted_is}

abbrev pub Fits : EnvironmentNode → Flags → Expression → Option (List ℕ) → ProgressNode → Typing TypedExpressionNode → Type 0
Fits env flags e wanted s r = OrTells (HasPart (HasExpressionType env flags e wanted s.bound) r) s r.after

abbrev pub FitsArguments : EnvironmentNode → Flags → ExpressionList → List (List ℕ) → List TypedExpressionNode → ProgressNode → Typings TypedExpressionNode → Type 0
FitsArguments env flags es types before s r =
    OrTells (length types ≡ count_expressions es → HasParts (HaveExpressionTypes env flags es types s.bound) before r) s r.after

abbrev pub FitsLets : EnvironmentNode → Flags → LetList → List TypedLetNode → ProgressNode → Typings TypedLetNode → Type 0
FitsLets env flags defs before s r = OrTells (HasParts (AreDefined env flags defs s.bound) before r) s r.after

-- the arguments of a term
abbrev pub TakesArguments : EnvironmentNode → Flags → (term : List ℕ) → ExpressionList → TermNode → ProgressNode → Typing TypedExpressionNode → Type 0
TakesArguments env flags term args t s r =
    length t.args ≡ count_expressions args →
    (typed : List TypedExpressionNode)
    × ((r.typed ≡ Some (typed_term_expression term t.ret (typed_expression_list typed)))
    × HaveExpressionTypes env flags args t.args s.bound typed r.after.bound)

-- a term that is used as it is
abbrev pub Uses : EnvironmentNode → Flags → (term : List ℕ) → ExpressionList → TermNode → ProgressNode → Typing TypedExpressionNode → Type 0
Uses env flags term args t s r =
    IsAllowed flags t
    × ((typed : List TypedExpressionNode)
    × ((r.typed ≡ Some (typed_term_expression term t.ret (typed_expression_list typed)))
    × HaveExpressionTypes env flags args t.args s.bound typed r.after.bound))

-- a variable of a `let`
pub record Defines (env : EnvironmentNode) (flags : Flags) (var ty : List ℕ) (val : Expression) (bound : List VariableNode) (d : TypedLetNode) (after : List VariableNode) : Type 0 where
  pub middle : List VariableNode
  pub known : env.is_type ty ≡ true
  pub typed : HasExpressionType env flags val (Some ty) bound d.val middle
  pub numbered : length middle ≡ d.variable
  pub more : bound_more middle var ty ≡ after

abbrev pub FitsLet : EnvironmentNode → Flags → (var ty : List ℕ) → Expression → ProgressNode → Typing TypedLetNode → Type 0
FitsLet env flags var ty val s r = OrTells (HasPart (Defines env flags var ty val s.bound) r) s r.after

-- a test has passed, and what is behind it
abbrev Passed : (b : Bool) → (ProgressNode → Typing TypedExpressionNode → Type 0) → ProgressNode → Typing TypedExpressionNode → Type 0
Passed b P s r = (b ≡ true) × P s r

module _ (env : EnvironmentNode) (flags : Flags) (below : Below)
    (fine : (e : Expression) (wanted : Option (List ℕ)) (s : ProgressNode) → IfSome (below e wanted s) (Fits env flags e wanted s)) where
  fits_integer : (val : ℤ) (place : Pos) (wanted : Option (List ℕ)) (s : ProgressNode) →
      IfSome (step below env flags (int_expression val place) wanted s) (Fits env flags (int_expression val place) wanted s)
  fits_integer val place None s = never (tells integer_without_type place s)
  fits_integer val place (Some ty) s =
      leaf (HasExpressionType env flags (int_expression val place) (Some ty) s.bound) (typed_int_expression val ty) (env.is_number ty) (integer_type val ty) place s
      (λ is. gives_integer is)

  fits_bool : (val : Bool) (place : Pos) (wanted : Option (List ℕ)) (s : ProgressNode) (o : Option (List ℕ)) → other_than (codes "bool") wanted ≡ o →
      Fits env flags (bool_expression val place) wanted s (gives (typed_bool_expression val (codes "bool")) (bool_by o val place s))
  fits_bool val place wanted s None is =
      record { grows = le_refl (length s.faults); good = λ _. (typed_bool_expression val (codes "bool"), (refl, gives_bool (wanted_is (codes "bool") wanted is))) }
  fits_bool val place wanted s (Some ty) is = never (tells (bool_type val ty) place s)

  fits_constant_as : (name : Name) (place : Pos) (wanted : Option (List ℕ)) (s : ProgressNode) (known : List ℕ) → env.constants name.text ≡ Some known →
      (o : Option (List ℕ)) → other_than known wanted ≡ o → Fits env flags (constant_expression name place) wanted s (constant_as known o name.text place s)
  fits_constant_as name place wanted s known found None is =
      record { grows = le_refl (length s.faults); good = λ _. (typed_const_expression name.text known, (refl, gives_constant found (wanted_is known wanted is))) }
  fits_constant_as name place wanted s known found (Some ty) is = never (tells (expression_constant_type name.text ty known) place s)

  fits_constant : (name : Name) (place : Pos) (wanted : Option (List ℕ)) (s : ProgressNode) (o : Option (List ℕ)) → env.constants name.text ≡ o →
      Fits env flags (constant_expression name place) wanted s (constant_by o name.text place wanted s)
  fits_constant name place wanted s None is = never (tells (constant_unknown name.text) place s)
  fits_constant name place wanted s (Some known) is = fits_constant_as name place wanted s known is (other_than known wanted) refl

  fits_variable_converted : (name : Name) (place : Pos) (ty : List ℕ) (s : ProgressNode) (known : FoundNode) → find s.bound name.text ≡ Some known → known.ty ≢ ty →
      (o : Option (List ℕ)) → converting env known.ty ty ≡ o →
      IfSome (variable_converted below o known (var_expression name place) name.text place ty s) (Fits env flags (var_expression name place) (Some ty) s)
  fits_variable_converted name place ty s known found other None is = never (tells (expression_variable_type name.text ty known.ty) place s)
  fits_variable_converted name place ty s known found other (Some c) is =
      let q : Expression = term_expression (record { text = c; pos = place }) (more_expression (var_expression name place) no_expression) place in
      let by = by_converter env (env.converters known.ty ty) c is in
      change_some (below q (Some ty) s) (Fits env flags q (Some ty) s) (Fits env flags (var_expression name place) (Some ty) s) (fine q (Some ty) s)
      (λ r h. record { grows = h.grows; good = λ le. let g = h.good le in (g.0, (g.1.0, converts_variable found other by.0 by.1 g.1.1)) })

  fits_variable_as : (name : Name) (place : Pos) (wanted : Option (List ℕ)) (s : ProgressNode) (known : FoundNode) → find s.bound name.text ≡ Some known →
      (o : Option (List ℕ)) → other_than known.ty wanted ≡ o →
      IfSome (variable_as below env known o (var_expression name place) name.text place s) (Fits env flags (var_expression name place) wanted s)
  fits_variable_as name place wanted s known found None is =
      record { grows = le_refl (length s.faults); good = λ _. (typed_var_expression known.number known.ty, (refl, gives_variable found (wanted_is known.ty wanted is))) }
  fits_variable_as name place wanted s known found (Some ty) is =
      let other = other_is known.ty wanted ty is in
      subst (λ w. IfSome (variable_converted below (converting env known.ty ty) known (var_expression name place) name.text place ty s) (Fits env flags (var_expression name place) w s))
      (sym other.0) (fits_variable_converted name place ty s known found other.1 (converting env known.ty ty) refl)

  fits_variable : (name : Name) (place : Pos) (wanted : Option (List ℕ)) (s : ProgressNode) (o : Option FoundNode) → find s.bound name.text ≡ o →
      IfSome (variable_by below env o (var_expression name place) name.text place wanted s) (Fits env flags (var_expression name place) wanted s)
  fits_variable name place wanted s None is = never (tells (variable_unknown name.text) place s)
  fits_variable name place wanted s (Some known) is = fits_variable_as name place wanted s known is (other_than known.ty wanted) refl

  pub fits_arguments : (es : ExpressionList) (types : List (List ℕ)) (before : List TypedExpressionNode) (s : ProgressNode) →
      IfSome (arguments_by below es types before s) (FitsArguments env flags es types before s)
  fits_arguments no_expression [] before s = record { grows = le_refl (length s.faults); good = λ _ _. ([], (sym (append-nil before), no_value)) }
  fits_arguments no_expression (ty ∷ types) before s = record { grows = le_refl (length s.faults); good = λ _ count. absurd (omega (arith, count)) }
  fits_arguments (more_expression e es) [] before s = record { grows = le_refl (length s.faults); good = λ _ count. absurd (omega (arith, count)) }
  fits_arguments (more_expression e es) (ty ∷ types) before s =
      bind_some (below e (Some ty) s) (λ r. arguments_by below es types (with_typed before r.typed) r.after)
      (Fits env flags e (Some ty) s) (FitsArguments env flags (more_expression e es) (ty ∷ types) before s) (fine e (Some ty) s)
      (λ r one. change_some (arguments_by below es types (with_typed before r.typed) r.after)
      (FitsArguments env flags es types (with_typed before r.typed) r.after) (FitsArguments env flags (more_expression e es) (ty ∷ types) before s)
      (fits_arguments es types (with_typed before r.typed) r.after)
      (λ all rest.
      let b = both one rest in
      record {
        grows = b.grows;
        good = λ le count.
            let g = b.good le in
            let more = g.1 (omega (arith, count)) in
            (g.0.0 ∷ more.0, (follows before r.typed g.0.0 all.typed more.0 g.0.1.0 more.1.0, one_value g.0.1.1 more.1.1));
      }))

  fits_term : (t : TermNode) (term : List ℕ) (args : ExpressionList) (s : ProgressNode) →
      IfSome (option_map (λ r. gives (typed_term_expression term t.ret (typed_expression_list r.typed)) r.after) (arguments_by below args t.args [] s))
      (λ r. OrTells (TakesArguments env flags term args t s r) s r.after)
  fits_term t term args s =
      map_some (arguments_by below args t.args [] s) (λ r. gives (typed_term_expression term t.ret (typed_expression_list r.typed)) r.after)
      (FitsArguments env flags args t.args [] s) (λ r. OrTells (TakesArguments env flags term args t s r) s r.after) (fits_arguments args t.args [] s)
      (λ r h. record {
        grows = h.grows;
        good = λ le count.
            let g = h.good le count in
            (g.0, (ap (λ (ts : List TypedExpressionNode). Some (typed_term_expression term t.ret (typed_expression_list ts))) g.1.0, g.1.1));
      })

  fits_own : (t : TermNode) (term : List ℕ) (args : ExpressionList) (place : Pos) (s : ProgressNode) →
      IfSome (own_by below flags t term args place s) (λ r. OrTells (Uses env flags term args t s r) s r.after)
  fits_own t term args place s =
      let counts : Bool = length t.args == count_expressions args in
      let partial_fits : Bool = flags.partial || not t.partial in
      let multi_fits : Bool = flags.multi || not t.multi in
      let pure_fits : Bool = not flags.pure || (t.pure || t.is_variant) in
      let after : Typing TypedExpressionNode → ProgressNode = λ r. r.after in
      let taken : ProgressNode → Option (Typing TypedExpressionNode) =
      λ w. option_map (λ r. gives (typed_term_expression term t.ret (typed_expression_list r.typed)) r.after) (arguments_by below args t.args [] w) in
      let counted : ProgressNode → Option (Typing TypedExpressionNode) =
      λ w. taken (unless counts (argument_count term (count_expressions args) (length t.args)) place w) in
      let if_partial : ProgressNode → Option (Typing TypedExpressionNode) =
      λ w. counted (unless partial_fits (partial_term term flags.multi) place w) in
      let if_multi : ProgressNode → Option (Typing TypedExpressionNode) =
      λ w. if_partial (unless multi_fits (multi_term term) place w) in
      let P = TakesArguments env flags term args t in
      change_some (own_by below flags t term args place s)
      (λ r. OrTells (Passed pure_fits (Passed multi_fits (Passed partial_fits (Passed counts P))) s r) s r.after)
      (λ r. OrTells (Uses env flags term args t s r) s r.after)
      (passes after pure_fits (impure_term term) place s if_multi (Passed multi_fits (Passed partial_fits (Passed counts P)))
      (λ w. passes after multi_fits (multi_term term) place w if_partial (Passed partial_fits (Passed counts P))
      (λ v. passes after partial_fits (partial_term term flags.multi) place v counted (Passed counts P)
      (λ u. passes after counts (argument_count term (count_expressions args) (length t.args)) place u taken P (fits_term t term args)))))
      (λ r h. record {
        grows = h.grows;
        good = λ le.
            let g = h.good le in
            let allowed : IsAllowed flags t =
            record {
              if_pure = implied_first flags.pure (t.pure || t.is_variant) g.0;
              if_multi = implied_last t.multi flags.multi g.1.0;
              if_partial = implied_last t.partial flags.partial g.1.1.0;
            } in
            (allowed, g.1.1.1.1 (eqb-true (length t.args) (count_expressions args) g.1.1.1.0));
      })

  fits_converted : (name : Name) (args : ExpressionList) (place : Pos) (ty : List ℕ) (s : ProgressNode) (t : TermNode) → env.terms name.text ≡ Some t → t.ret ≢ ty →
      (o : Option (List ℕ)) → converting env t.ret ty ≡ o →
      IfSome (term_converted below o flags t (term_expression name args place) name.text args place ty s) (Fits env flags (term_expression name args place) (Some ty) s)
  fits_converted name args place ty s t found other None is =
      let begun = tell (expression_term_type ty t.ret) place s in
      change_some (own_by below flags t name.text args place begun)
      (λ r. OrTells (Uses env flags name.text args t begun r) begun r.after) (Fits env flags (term_expression name args place) (Some ty) s)
      (fits_own t name.text args place begun)
      (λ r h. let b = both (tells (expression_term_type ty t.ret) place s) h in record { grows = b.grows; good = λ le. absurd ((b.good le).0) })
  fits_converted name args place ty s t found other (Some c) is =
      let q : Expression = term_expression (record { text = c; pos = place }) (more_expression (term_expression name args place) no_expression) place in
      let by = by_converter env (env.converters t.ret ty) c is in
      change_some (below q (Some ty) s) (Fits env flags q (Some ty) s) (Fits env flags (term_expression name args place) (Some ty) s) (fine q (Some ty) s)
      (λ r h. record { grows = h.grows; good = λ le. let g = h.good le in (g.0, (g.1.0, converts_term found other by.0 by.1 g.1.1)) })

  fits_as : (name : Name) (args : ExpressionList) (place : Pos) (wanted : Option (List ℕ)) (s : ProgressNode) (t : TermNode) → env.terms name.text ≡ Some t →
      (o : Option (List ℕ)) → other_than t.ret wanted ≡ o →
      IfSome (term_as below env flags t o (term_expression name args place) name.text args place s) (Fits env flags (term_expression name args place) wanted s)
  fits_as name args place wanted s t found None is =
      change_some (own_by below flags t name.text args place s)
      (λ r. OrTells (Uses env flags name.text args t s r) s r.after) (Fits env flags (term_expression name args place) wanted s)
      (fits_own t name.text args place s)
      (λ r h. record {
        grows = h.grows;
        good = λ le.
            let g = h.good le in
            (typed_term_expression name.text t.ret (typed_expression_list g.1.0), (g.1.1.0, constructs found (wanted_is t.ret wanted is) g.0 g.1.1.1));
      })
  fits_as name args place wanted s t found (Some ty) is =
      let other = other_is t.ret wanted ty is in
      subst (λ w. IfSome (term_converted below (converting env t.ret ty) flags t (term_expression name args place) name.text args place ty s) (Fits env flags (term_expression name args place) w s))
      (sym other.0) (fits_converted name args place ty s t found other.1 (converting env t.ret ty) refl)

  fits_known : (name : Name) (args : ExpressionList) (place : Pos) (wanted : Option (List ℕ)) (s : ProgressNode) (o : Option TermNode) → env.terms name.text ≡ o →
      IfSome (term_by below env flags o (term_expression name args place) name.text args place wanted s) (Fits env flags (term_expression name args place) wanted s)
  fits_known name args place wanted s None is = never (tells (expression_term_unknown name.text (is_some (find s.bound name.text))) place s)
  fits_known name args place wanted s (Some t) is = fits_as name args place wanted s t is (other_than t.ret wanted) refl

  fits_defined : (var ty : List ℕ) (val : Expression) (s after : ProgressNode) (o : Option TypedExpressionNode) → env.is_type ty ≡ true →
      OrTells (HasPart (HasExpressionType env flags val (Some ty) s.bound) (record { typed = o; after = after })) s after →
      FitsLet env flags var ty val s (defined_by o var ty after)
  fits_defined var ty val s after None known h =
      record { grows = h.grows; good = λ le. let g = h.good le in absurd (none-some g.0 g.1.0) }
  fits_defined var ty val s after (Some e) known h =
      record {
        grows = h.grows;
        good = λ le.
            let g = h.good le in
            let made : Defines env flags var ty val s.bound (record { variable = length after.bound; val = e }) (bound_more after.bound var ty) =
            record {
              middle = after.bound;
              known = known;
              typed = subst (λ x. HasExpressionType env flags val (Some ty) s.bound x after.bound) (sym (same_Some e g.0 g.1.0)) g.1.1;
              numbered = refl;
              more = refl;
            } in
            (record { variable = length after.bound; val = e }, (refl, made));
      }

  fits_let : (place : Pos) (var ty : List ℕ) (val : Expression) (s : ProgressNode) (b : Bool) → env.is_type ty ≡ b →
      IfSome (if b then option_map (define var ty) (below val (Some ty) s) else Some (gives_none (tell (let_type_unknown var ty) place s))) (FitsLet env flags var ty val s)
  fits_let place var ty val s true known =
      map_some (below val (Some ty) s) (define var ty) (Fits env flags val (Some ty) s) (FitsLet env flags var ty val s) (fine val (Some ty) s)
      (λ r h. fits_defined var ty val s r.after r.typed known h)
  fits_let place var ty val s false known = never (tells (let_type_unknown var ty) place s)

  fits_lets : (place : Pos) (defs : LetList) (before : List TypedLetNode) (s : ProgressNode) →
      IfSome (lets_by below env place defs before s) (FitsLets env flags defs before s)
  fits_lets place no_let before s = record { grows = le_refl (length s.faults); good = λ _. ([], (sym (append-nil before), no_variable)) }
  fits_lets place (more_let var ty val at defs) before s =
      bind_some (let_by below env place var.text ty.text val s) (λ r. lets_by below env place defs (with_typed before r.typed) r.after)
      (FitsLet env flags var.text ty.text val s) (FitsLets env flags (more_let var ty val at defs) before s)
      (fits_let place var.text ty.text val s (env.is_type ty.text) refl)
      (λ r one. change_some (lets_by below env place defs (with_typed before r.typed) r.after)
      (FitsLets env flags defs (with_typed before r.typed) r.after) (FitsLets env flags (more_let var ty val at defs) before s)
      (fits_lets place defs (with_typed before r.typed) r.after)
      (λ all rest.
      let b = both one rest in
      record {
        grows = b.grows;
        good = λ le.
            let g = b.good le in
            let d = g.0.1.1 in
            let behind : AreDefined env flags defs (bound_more d.middle var.text ty.text) g.1.0 all.after.bound =
            subst (λ w. AreDefined env flags defs w g.1.0 all.after.bound) (sym d.more) g.1.1.1 in
            let new : AreDefined env flags (more_let var ty val at defs) s.bound (record { variable = length d.middle; val = g.0.0.val } ∷ g.1.0) all.after.bound =
            one_variable d.known d.typed behind in (
              g.0.0 ∷ g.1.0,
              (
                follows before r.typed g.0.0 all.typed g.1.0 g.0.1.0 g.1.1.0,
                subst (λ n. AreDefined env flags (more_let var ty val at defs) s.bound (record { variable = n; val = g.0.0.val } ∷ g.1.0) all.after.bound) d.numbered new,
              ),
            );
      }))

  fits_body : (defs : LetList) (body : Expression) (place : Pos) (wanted : Option (List ℕ)) (s : ProgressNode) →
      IfSome (type_let below env defs body place wanted s) (Fits env flags (let_expression defs body place) wanted s)
  fits_body defs body place wanted s =
      bind_some (lets_by below env place defs [] s) (λ ds. option_map (close (length s.bound) ds.typed) (below body wanted ds.after))
      (FitsLets env flags defs [] s) (Fits env flags (let_expression defs body place) wanted s) (fits_lets place defs [] s)
      (λ ds one. map_some (below body wanted ds.after) (close (length s.bound) ds.typed)
      (Fits env flags body wanted ds.after) (Fits env flags (let_expression defs body place) wanted s) (fine body wanted ds.after)
      (λ r two.
      let b = both one two in
      record {
        grows = b.grows;
        good = λ le.
            let g = b.good le in (
              typed_let_expression (type_of_expression g.1.0) (typed_let_list g.0.0) g.1.0,
              (
                ap (λ (o : Option TypedExpressionNode). option_map (λ e. typed_let_expression (type_of_expression e) (typed_let_list ds.typed) e) o) g.1.1.0
                    ∙ ap (λ (vars : List TypedLetNode). Some (typed_let_expression (type_of_expression g.1.0) (typed_let_list vars) g.1.0)) g.0.1.0,
                lets g.0.1.1 g.1.1.1,
              ),
            );
      }))

  pub fits_step : (e : Expression) (wanted : Option (List ℕ)) (s : ProgressNode) → IfSome (step below env flags e wanted s) (Fits env flags e wanted s)
  fits_step (term_expression name args place) wanted s = fits_known name args place wanted s (env.terms name.text) refl
  fits_step (var_expression name place) wanted s = fits_variable name place wanted s (find s.bound name.text) refl
  fits_step (bool_expression val place) wanted s = fits_bool val place wanted s (other_than (codes "bool") wanted) refl
  fits_step (int_expression val place) wanted s = fits_integer val place wanted s
  fits_step (constant_expression name place) wanted s = fits_constant name place wanted s (env.constants name.text) refl
  fits_step (let_expression defs body place) wanted s = fits_body defs body place wanted s

pub fits_at : (env : EnvironmentNode) (flags : Flags) (depth : ℕ) (e : Expression) (wanted : Option (List ℕ)) (s : ProgressNode) →
    IfSome (expression_at depth env flags e wanted s) (Fits env flags e wanted s)
fits_at env flags zero e wanted s = tt
fits_at env flags (suc depth) e wanted s = fits_step env flags (expression_at depth env flags) (fits_at env flags depth) e wanted s

pub sound : (env : EnvironmentNode) (flags : Flags) (depth : ℕ) (e : Expression) (wanted : Option (List ℕ)) (s : ProgressNode) (made : Typing TypedExpressionNode) →
    expression_at depth env flags e wanted s ≡ Some made → made.after.faults ≡ s.faults → HasPart (HasExpressionType env flags e wanted s.bound) made
sound env flags depth e wanted s made is same =
    let h : Fits env flags e wanted s made = at_some (Fits env flags e wanted s) (expression_at depth env flags e wanted s) made is (fits_at env flags depth e wanted s) in
    let len : length made.after.faults ≡ length s.faults = ap (λ fs. length fs) same in
    h.good (omega (arith, len))

pub sound_arguments : (env : EnvironmentNode) (flags : Flags) (depth : ℕ) (es : ExpressionList) (types : List (List ℕ)) (s : ProgressNode) (made : Typings TypedExpressionNode) →
    arguments_by (expression_at depth env flags) es types [] s ≡ Some made → made.after.faults ≡ s.faults → length types ≡ count_expressions es →
    HaveExpressionTypes env flags es types s.bound made.typed made.after.bound
sound_arguments env flags depth es types s made is same count =
    let h : FitsArguments env flags es types [] s made =
    at_some (FitsArguments env flags es types [] s) (arguments_by (expression_at depth env flags) es types [] s) made is
    (fits_arguments env flags (expression_at depth env flags) (fits_at env flags depth) es types [] s) in
    let len : length made.after.faults ≡ length s.faults = ap (λ fs. length fs) same in
    let g = h.good (omega (arith, len)) count in
    subst (λ ts. HaveExpressionTypes env flags es types s.bound ts made.after.bound) (sym g.1.0) g.1.1
