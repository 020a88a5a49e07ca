-- Each error of the expressions of a rule is broken.
use Rattle.std.proofs.Common.{◌≡◌, ◌≢◌, ℕ, ℤ, suc, zero, List, [], ◌∷◌, Bool, true, false, not, ◌||◌, ◌==◌, Option, None, Some, IfSome, option_map, is_some, Contains, refl, subst, length, codes, bytes_eq, zip, if◌then◌else◌}
use Rattle.isle_base_source.specs.declared.pos.Pos.{Pos}
use Rattle.isle_ast_names.specs.Tree.{Name}
use Rattle.isle_ast_rules.specs.Tree.{Expression, ExpressionList, LetList, RuleDefinition, bool_expression, constant_expression, int_expression, let_expression, more_expression, more_let, no_expression, no_let, term_expression, var_expression}
use Rattle.isle_check_environment.specs.signatures.Environment.{EnvironmentNode}
use Rattle.isle_check_environment.specs.signatures.Signatures.{TermNode}
use Rattle.isle_check_typing.specs.Faults as kinds
use Rattle.isle_check_typing.specs.Faults.{FaultNode}
use Rattle.isle_check_typing.specs.Progress.{FoundNode, ProgressNode, find, tell, unless}
use Rattle.isle_check_typing.specs.Typings.{Typing, Typings, gives_none, with_typed}
use Rattle.isle_check_typing.specs.declared.expressions.flags.Flags.{Flags}
use Rattle.isle_check_typing.specs.expressions.ExpressionTypes.{arguments_by, bool_by, constant_as, constant_by, converting, count_arguments, count_expressions, define, defined_by, expression_at, if_constructs, let_by, lets_by, other_than, own_by, step, term_as, term_by, term_converted, type_integer, type_let, use_term, variable_as, variable_by, variable_converted}
use Rattle.isle_check_typing.specs.expressions.TypedExpressions.{TypedExpressionNode, TypedLetNode}
use Rattle.isle_check_laws.specs.BrokenRules as broken
use Rattle.isle_check_laws.specs.BrokenRules.{CannotConstruct, IsBrokenExpression}
use Rattle.isle_check_laws.specs.RuleParts as parts
use Rattle.isle_check_laws.specs.RuleParts.{BindsVariable, IsExpression, LetVariable, expressions, let_variables}
use Rattle.isle_check_laws.proofs.Lists.{here, later}
use Rattle.isle_check_laws.proofs.Names.{other_text}
use Rattle.isle_check_laws.proofs.RuleSteps.{IsGood, binds, both_false, found_variable, hides, map_some, not_false, other_number, then_some, told, unless_told}

-- a converter that can be used is a converter
constructs : (env : EnvironmentNode) (o : Option (List ℕ)) (c : List ℕ) → if_constructs env o ≡ Some c → o ≡ Some c
constructs env None c h = cc
constructs env (Some d) c h = by (env.has_constructor d) refl h
  where
    by : (b : Bool) → env.has_constructor d ≡ b → (if b then Some d else None) ≡ Some c → ◌≡◌ {A = Option (List ℕ)} (Some d) (Some c)
    by true is k = k
    by false is k = cc

cannot : (env : EnvironmentNode) (o : Option (List ℕ)) → if_constructs env o ≡ None → (c : List ℕ) → o ≡ Some c → env.has_constructor c ≡ false
cannot env None h c is = cc
cannot env (Some d) h c is = by (env.has_constructor d) refl h
  where
    by : (b : Bool) → env.has_constructor d ≡ b → ◌≡◌ {A = Option (List ℕ)} (if b then Some d else None) None → env.has_constructor c ≡ false
    by true has k = cc
    by false has k = cc

-- another type that is wanted
abbrev IsOther : (found : List ℕ) → (wanted other : Option (List ℕ)) → Type 0
IsOther found wanted None = Unit {0}
IsOther found wanted (Some ty) = (wanted ≡ Some ty) × (found ≢ ty)

other_by : (found ty : List ℕ) (b : Bool) → bytes_eq found ty ≡ b → IsOther found (Some ty) (if b then None else Some ty)
other_by found ty true is = tt
other_by found ty false is = (refl, other_text found ty is)

other : (found : List ℕ) (wanted : Option (List ℕ)) → IsOther found wanted (other_than found wanted)
other found None = tt
other found (Some ty) = other_by found ty (bytes_eq found ty) refl

-- P holds of each error that typing a part of the rule adds, if it holds of each broken expression
module _ (env : EnvironmentNode) (r : RuleDefinition) (flags : Flags) (P : FaultNode → Type 0)
    (holds : (kind : kinds.KindNode) (place : Pos) → IsBrokenExpression env r kind place → P (record { kind = kind; pos = place })) where
  abbrev V : List ℕ → List ℕ → Type 0
  V = BindsVariable env r

  abbrev Good : ProgressNode → Type 0
  Good s = IsGood P V s

  abbrev GoodOne : {T : Type 0} → Typing T → Type 0
  GoodOne m = IsGood P V m.after

  abbrev GoodAll : {T : Type 0} → Typings T → Type 0
  GoodAll m = IsGood P V m.after

  -- leaves

  integer : (val : ℤ) (place : Pos) (wanted : Option (List ℕ)) → IsExpression env r flags (int_expression val place) wanted → (s : ProgressNode) → Good s →
      GoodOne (type_integer env val place wanted s)
  integer val place None stands s good =
      told P V kinds.integer_without_type place s (holds kinds.integer_without_type place (broken.integer_without_type flags val place stands)) good
  integer val place (Some ty) stands s good =
      unless_told P V (env.is_number ty) (kinds.integer_type val ty) place s
      (λ no. holds (kinds.integer_type val ty) place (broken.integer_type flags val place ty stands no)) good

  bool : (val : Bool) (place : Pos) (wanted : Option (List ℕ)) → IsExpression env r flags (bool_expression val place) wanted → (s : ProgressNode) → Good s →
      (o : Option (List ℕ)) → IsOther (codes "bool") wanted o → Good (bool_by o val place s)
  bool val place wanted stands s good None is = good
  bool val place wanted stands s good (Some ty) is =
      told P V (kinds.bool_type val ty) place s
      (holds (kinds.bool_type val ty) place
      (broken.bool_type flags val place ty (subst (λ w. IsExpression env r flags (bool_expression val place) w) is.0 stands) is.1)) good

  constant_other : (name : Name) (place : Pos) (wanted : Option (List ℕ)) → IsExpression env r flags (constant_expression name place) wanted →
      (s : ProgressNode) → Good s → (found : List ℕ) → env.constants name.text ≡ Some found → (o : Option (List ℕ)) → IsOther found wanted o →
      GoodOne (constant_as found o name.text place s)
  constant_other name place wanted stands s good found known None is = good
  constant_other name place wanted stands s good found known (Some ty) is =
      told P V (kinds.expression_constant_type name.text ty found) place s
      (holds (kinds.expression_constant_type name.text ty found) place
      (broken.constant_type flags name place ty found (subst (λ w. IsExpression env r flags (constant_expression name place) w) is.0 stands) known is.1)) good

  constant : (name : Name) (place : Pos) (wanted : Option (List ℕ)) → IsExpression env r flags (constant_expression name place) wanted →
      (s : ProgressNode) → Good s → (o : Option (List ℕ)) → env.constants name.text ≡ o → GoodOne (constant_by o name.text place wanted s)
  constant name place wanted stands s good None is =
      told P V (kinds.constant_unknown name.text) place s
      (holds (kinds.constant_unknown name.text) place (broken.constant_unknown flags name place wanted stands is)) good
  constant name place wanted stands s good (Some found) is =
      constant_other name place wanted stands s good found is (other_than found wanted) (other found wanted)

  -- expressions whose parts are typed with no more than this depth
  module _ (depth : ℕ)
      (below : (e : Expression) (wanted : Option (List ℕ)) → IsExpression env r flags e wanted → (s : ProgressNode) → Good s →
      IfSome (expression_at depth env flags e wanted s) GoodOne) where
    arguments : (es : ExpressionList) (types : List (List ℕ)) →
        ((e : Expression) (ty : List ℕ) → Contains (zip (expressions es) types) (e, ty) → IsExpression env r flags e (Some ty)) →
        (typed : List TypedExpressionNode) (s : ProgressNode) → Good s → IfSome (arguments_by (expression_at depth env flags) es types typed s) GoodAll
    arguments no_expression types all typed s good = good
    arguments (more_expression e es) [] all typed s good = good
    arguments (more_expression e es) (ty ∷ types) all typed s good =
        then_some GoodOne GoodAll (expression_at depth env flags e (Some ty) s)
        (λ m. arguments_by (expression_at depth env flags) es types (with_typed typed m.typed) m.after)
        (below e (Some ty) (all e ty (here (e, ty) (zip (expressions es) types))) s good)
        (λ m _ after. arguments es types (λ q u among. all q u (later (e, ty) (zip (expressions es) types) (q, u) among))
        (with_typed typed m.typed) m.after after)

    -- variables
    module _ (name : Name) (place : Pos) (wanted : Option (List ℕ)) (stands : IsExpression env r flags (var_expression name place) wanted) where
      variable_other : (known : FoundNode) → V name.text known.ty → (ty : List ℕ) → (wanted ≡ Some ty) × (known.ty ≢ ty) → (o : Option (List ℕ)) → converting env known.ty ty ≡ o →
          (s : ProgressNode) → Good s →
          IfSome (variable_converted (expression_at depth env flags) o known (var_expression name place) name.text place ty s) GoodOne
      variable_other known bound ty is None lacks s good =
          told P V (kinds.expression_variable_type name.text ty known.ty) place s
          (holds (kinds.expression_variable_type name.text ty known.ty) place
          (broken.variable_type flags name place ty known.ty (subst (λ w. IsExpression env r flags (var_expression name place) w) is.0 stands) bound is.1
          (cannot env (env.converters known.ty ty) lacks))) good
      variable_other known bound ty is (Some c) has s good =
          below (term_expression (record { text = c; pos = place }) (more_expression (var_expression name place) no_expression) place) (Some ty)
          (parts.of_converted_variable (subst (λ w. IsExpression env r flags (var_expression name place) w) is.0 stands) is.1
          (constructs env (env.converters known.ty ty) c has)) s good

      variable_known : (known : FoundNode) → V name.text known.ty → (o : Option (List ℕ)) → IsOther known.ty wanted o → (s : ProgressNode) → Good s →
          IfSome (variable_as (expression_at depth env flags) env known o (var_expression name place) name.text place s) GoodOne
      variable_known known bound None is s good = good
      variable_known known bound (Some ty) is s good = variable_other known bound ty is (converting env known.ty ty) refl s good

      variable : (s : ProgressNode) → Good s → (o : Option FoundNode) → find s.bound name.text ≡ o →
          IfSome (variable_by (expression_at depth env flags) env o (var_expression name place) name.text place wanted s) GoodOne
      variable s good None is =
          told P V (kinds.variable_unknown name.text) place s
          (holds (kinds.variable_unknown name.text) place (broken.variable_unknown flags name place wanted stands)) good
      variable s good (Some known) is =
          variable_known known (found_variable V name.text known s.bound good.1 is) (other_than known.ty wanted) (other known.ty wanted) s good

    -- terms
    module _ (name : Name) (args : ExpressionList) (place : Pos) (wanted : Option (List ℕ))
        (stands : IsExpression env r flags (term_expression name args place) wanted) where
      allowed : (t : TermNode) → env.terms name.text ≡ Some t → (s : ProgressNode) → Good s → Good (use_term flags t name.text place s)
      allowed t known s good =
          let pure : ProgressNode = unless (not flags.pure || (t.pure || t.is_variant)) (kinds.impure_term name.text) place s in
          let multi : ProgressNode = unless (flags.multi || not t.multi) (kinds.multi_term name.text) place pure in
          unless_told P V (flags.partial || not t.partial) (kinds.partial_term name.text flags.multi) place multi
          (λ no. let both = both_false flags.partial (not t.partial) no in
          holds (kinds.partial_term name.text flags.multi) place
          (broken.partial_term flags name args place wanted t stands known both.0 (not_false t.partial both.1)))
          (unless_told P V (flags.multi || not t.multi) (kinds.multi_term name.text) place pure
          (λ no. let both = both_false flags.multi (not t.multi) no in
          holds (kinds.multi_term name.text) place
          (broken.multi_term flags name args place wanted t stands known both.0 (not_false t.multi both.1)))
          (unless_told P V (not flags.pure || (t.pure || t.is_variant)) (kinds.impure_term name.text) place s
          (λ no. let both = both_false (not flags.pure) (t.pure || t.is_variant) no in
          let last = both_false t.pure t.is_variant both.1 in
          holds (kinds.impure_term name.text) place
          (broken.impure_term flags name args place wanted t stands known (not_false flags.pure both.0) last.0 last.1))
          good))

      own : (t : TermNode) → env.terms name.text ≡ Some t → (s : ProgressNode) → Good s →
          IfSome (own_by (expression_at depth env flags) flags t name.text args place s) GoodOne
      own t known s good =
          let before : ProgressNode = use_term flags t name.text place s in
          let counted : ProgressNode = count_arguments t name.text (count_expressions args) place before in
          map_some GoodAll GoodOne (arguments_by (expression_at depth env flags) args t.args [] counted) _
          (arguments args t.args (λ e ty among. parts.of_term stands known among) [] counted
          (unless_told P V (length t.args == count_expressions args) (kinds.argument_count name.text (count_expressions args) (length t.args)) place before
          (λ no. holds (kinds.argument_count name.text (count_expressions args) (length t.args)) place
          (broken.argument_count flags name args place wanted t stands known (other_number (length t.args) (count_expressions args) no)))
          (allowed t known s good)))
          (λ m after. after)

      converted : (t : TermNode) → env.terms name.text ≡ Some t → (ty : List ℕ) → (wanted ≡ Some ty) × (t.ret ≢ ty) →
          (o : Option (List ℕ)) → converting env t.ret ty ≡ o → (s : ProgressNode) → Good s →
          IfSome (term_converted (expression_at depth env flags) o flags t (term_expression name args place) name.text args place ty s) GoodOne
      converted t known ty is None lacks s good =
          own t known (tell (kinds.expression_term_type ty t.ret) place s)
          (told P V (kinds.expression_term_type ty t.ret) place s
          (holds (kinds.expression_term_type ty t.ret) place
          (broken.term_type flags name args place ty t (subst (λ w. IsExpression env r flags (term_expression name args place) w) is.0 stands) known is.1
          (cannot env (env.converters t.ret ty) lacks))) good)
      converted t known ty is (Some c) has s good =
          below (term_expression (record { text = c; pos = place }) (more_expression (term_expression name args place) no_expression) place) (Some ty)
          (parts.of_converted_term (subst (λ w. IsExpression env r flags (term_expression name args place) w) is.0 stands) known is.1
          (constructs env (env.converters t.ret ty) c has)) s good

      known_term : (t : TermNode) → env.terms name.text ≡ Some t → (o : Option (List ℕ)) → IsOther t.ret wanted o → (s : ProgressNode) → Good s →
          IfSome (term_as (expression_at depth env flags) env flags t o (term_expression name args place) name.text args place s) GoodOne
      known_term t known None is s good = own t known s good
      known_term t known (Some ty) is s good = converted t known ty is (converting env t.ret ty) refl s good

      bound_by : (o : Option FoundNode) (s : ProgressNode) → Good s → find s.bound name.text ≡ o → is_some o ≡ true → (ty : List ℕ) × V name.text ty
      bound_by None s good is h = cc
      bound_by (Some known) s good is h = (known.ty, found_variable V name.text known s.bound good.1 is)

      term : (o : Option TermNode) → env.terms name.text ≡ o → (s : ProgressNode) → Good s →
          IfSome (term_by (expression_at depth env flags) env flags o (term_expression name args place) name.text args place wanted s) GoodOne
      term None is s good =
          let is_variable : Bool = is_some (find s.bound name.text) in
          told P V (kinds.expression_term_unknown name.text is_variable) place s
          (holds (kinds.expression_term_unknown name.text is_variable) place (broken.term_unknown flags name args place wanted is_variable stands is (bound_by (find s.bound name.text) s good refl))) good
      term (Some t) is s good = known_term t is (other_than t.ret wanted) (other t.ret wanted) s good

    -- `let`
    module _ (all : LetList) (body : Expression) (place : Pos) (wanted : Option (List ℕ)) (stands : IsExpression env r flags (let_expression all body place) wanted) where
      defined : (o : Option TypedExpressionNode) (var ty : List ℕ) → V var ty → (s : ProgressNode) → Good s → GoodOne (defined_by o var ty s)
      defined None var ty binds_it s good = good
      defined (Some val) var ty binds_it s good = binds P V var ty s binds_it good

      let_type : (d : LetVariable) → Contains (let_variables all) d → (s : ProgressNode) → Good s → (b : Bool) → env.is_type d.ty.text ≡ b →
          IfSome (if b then option_map (define d.var.text d.ty.text) (expression_at depth env flags d.val (Some d.ty.text) s)
          else Some (gives_none (tell (kinds.let_type_unknown d.var.text d.ty.text) place s))) GoodOne
      let_type d among s good true is =
          map_some GoodOne GoodOne (expression_at depth env flags d.val (Some d.ty.text) s) (define d.var.text d.ty.text)
          (below d.val (Some d.ty.text) (parts.of_let stands among) s good) (λ m after. defined m.typed d.var.text d.ty.text (parts.by_let stands among) m.after after)
      let_type d among s good false is =
          told P V (kinds.let_type_unknown d.var.text d.ty.text) place s
          (holds (kinds.let_type_unknown d.var.text d.ty.text) place (broken.let_type_unknown flags all body place wanted d stands among is)) good

      one_let : (d : LetVariable) → Contains (let_variables all) d → (s : ProgressNode) → Good s →
          IfSome (let_by (expression_at depth env flags) env place d.var.text d.ty.text d.val s) GoodOne
      one_let d among s good = let_type d among s good (env.is_type d.ty.text) refl

      lets : (ds : LetList) → ((d : LetVariable) → Contains (let_variables ds) d → Contains (let_variables all) d) → (typed : List TypedLetNode) →
          (s : ProgressNode) → Good s → IfSome (lets_by (expression_at depth env flags) env place ds typed s) GoodAll
      lets no_let among typed s good = good
      lets (more_let var ty val place' ds) among typed s good =
          let d : LetVariable = record { var = var; ty = ty; val = val } in
          then_some GoodOne GoodAll (let_by (expression_at depth env flags) env place var.text ty.text val s)
          (λ m. lets_by (expression_at depth env flags) env place ds (with_typed typed m.typed) m.after)
          (one_let d (among d (here d (let_variables ds))) s good)
          (λ m _ after. lets ds (λ e inside. among e (later d (let_variables ds) e inside)) (with_typed typed m.typed) m.after after)

      whole : (s : ProgressNode) → Good s → IfSome (type_let (expression_at depth env flags) env all body place wanted s) GoodOne
      whole s good =
          then_some GoodAll GoodOne (lets_by (expression_at depth env flags) env place all [] s) _
          (lets all (λ d inside. inside) [] s good)
          (λ ds _ after. map_some GoodOne GoodOne (expression_at depth env flags body wanted ds.after) _
          (below body wanted (parts.of_body stands) ds.after after) (λ m h. hides P V (length s.bound) m.after h))

    expression_step : (e : Expression) (wanted : Option (List ℕ)) → IsExpression env r flags e wanted → (s : ProgressNode) → Good s →
        IfSome (step (expression_at depth env flags) env flags e wanted s) GoodOne
    expression_step (term_expression name args place) wanted stands s good = term name args place wanted stands (env.terms name.text) refl s good
    expression_step (var_expression name place) wanted stands s good = variable name place wanted stands s good (find s.bound name.text) refl
    expression_step (bool_expression val place) wanted stands s good =
        bool val place wanted stands s good (other_than (codes "bool") wanted) (other (codes "bool") wanted)
    expression_step (int_expression val place) wanted stands s good = integer val place wanted stands s good
    expression_step (constant_expression name place) wanted stands s good = constant name place wanted stands s good (env.constants name.text) refl
    expression_step (let_expression defs body place) wanted stands s good = whole defs body place wanted stands s good

  pub expression : (depth : ℕ) (e : Expression) (wanted : Option (List ℕ)) → IsExpression env r flags e wanted → (s : ProgressNode) → Good s →
      IfSome (expression_at depth env flags e wanted s) GoodOne
  expression zero e wanted stands s good = tt
  expression (suc depth) e wanted stands s good = expression_step depth (expression depth) e wanted stands s good
