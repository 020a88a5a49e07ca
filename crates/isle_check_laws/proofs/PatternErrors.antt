-- Each error of the patterns of a rule is broken.
use Rattle.std.proofs.Common.{◌≡◌, ◌≢◌, ℕ, suc, zero, List, [], ◌∷◌, Bool, true, false, ◌==◌, Option, None, Some, IfSome, is_none, Contains, refl, length, codes, bytes_eq, zip, if◌then◌else◌}
use Rattle.isle_base_source.specs.declared.pos.Pos.{Pos}
use Rattle.isle_ast_names.specs.Tree.{Name}
use Rattle.isle_ast_rules.specs.Templates.{plug}
use Rattle.isle_ast_rules.specs.Tree.{PatternList, PatternNode, RuleDefinition, and_pattern, bind_pattern, bool_pattern, constant_pattern, int_pattern, macro_arg_pattern, more_pattern, no_pattern, term_pattern, var_pattern, wildcard_pattern}
use Rattle.isle_check_environment.specs.signatures.Environment.{EnvironmentNode}
use Rattle.isle_check_environment.specs.signatures.Signatures.{TermNode}
use Rattle.isle_check_typing.specs.Faults as kinds
use Rattle.isle_check_typing.specs.Faults.{FaultNode}
use Rattle.isle_check_typing.specs.PatternTypes.{arguments_by, bound_by, constant_by, converted_by, converting, count_patterns, each_by, filled_by, if_extracts, list_list, own_by, step, term_by, type_at, use_by, variable_by}
use Rattle.isle_check_typing.specs.Progress.{FoundNode, ProgressNode, find, tell, unless}
use Rattle.isle_check_typing.specs.Typed.{TypedNode, type_of}
use Rattle.isle_check_typing.specs.Typings.{Typing, Typings, with_typed}
use Rattle.isle_check_laws.specs.BrokenRules as broken
use Rattle.isle_check_laws.specs.BrokenRules.{CannotExtract, IsBrokenPattern}
use Rattle.isle_check_laws.specs.RuleParts as parts
use Rattle.isle_check_laws.specs.RuleParts.{BindsVariable, IsPattern}
use Rattle.isle_check_laws.proofs.Lists.{here, later}
use Rattle.isle_check_laws.proofs.Names.{other_text}
use Rattle.isle_check_laws.proofs.RuleSteps.{IsGood, binds, found_variable, map_some, other_number, then_some, told, unless_told}

-- a converter that can be used is a converter
extracts : (env : EnvironmentNode) (o : Option (List ℕ)) (c : List ℕ) → if_extracts env o ≡ Some c → o ≡ Some c
extracts env None c h = cc
extracts env (Some d) c h = by (env.has_extractor d) refl h
  where
    by : (b : Bool) → env.has_extractor d ≡ b → (if b then Some d else None) ≡ Some c → ◌≡◌ {A = Option (List ℕ)} (Some d) (Some c)
    by true is k = k
    by false is k = cc

cannot : (env : EnvironmentNode) (o : Option (List ℕ)) → if_extracts env o ≡ None → (c : List ℕ) → o ≡ Some c → env.has_extractor c ≡ false
cannot env None h c is = cc
cannot env (Some d) h c is = by (env.has_extractor d) refl h
  where
    by : (b : Bool) → env.has_extractor d ≡ b → ◌≡◌ {A = Option (List ℕ)} (if b then Some d else None) None → env.has_extractor c ≡ false
    by true has k = cc
    by false has k = cc

-- P holds of each error that typing a part of the rule adds, if it holds of each broken pattern
module _ (env : EnvironmentNode) (r : RuleDefinition) (P : FaultNode → Type 0)
    (holds : (kind : kinds.KindNode) (place : Pos) → IsBrokenPattern env r kind place → P (record { kind = kind; pos = place })) where
  abbrev V : List ℕ → List ℕ → Type 0
  V = BindsVariable env r

  abbrev Good : ProgressNode → Type 0
  Good s = IsGood P V s

  abbrev GoodOne : Typing TypedNode → Type 0
  GoodOne m = IsGood P V m.after

  abbrev GoodAll : Typings TypedNode → Type 0
  GoodAll m = IsGood P V m.after

  -- leaves

  constant : (name : Name) (place : Pos) (ty : List ℕ) → IsPattern env r (constant_pattern name place) ty → (s : ProgressNode) → Good s →
      (o : Option (List ℕ)) → env.constants name.text ≡ o → GoodOne (constant_by o name place ty s)
  constant name place ty stands s good None is =
      told P V (kinds.constant_unknown name.text) place s (holds (kinds.constant_unknown name.text) place (broken.constant_unknown name place ty stands is)) good
  constant name place ty stands s good (Some found) is =
      unless_told P V (bytes_eq found ty) (kinds.constant_type ty found) place s
      (λ other. holds (kinds.constant_type ty found) place (broken.constant_type name place ty found stands is (other_text found ty other))) good

  variable : (var : Name) (place : Pos) (ty : List ℕ) → IsPattern env r (var_pattern var place) ty → (s : ProgressNode) → Good s →
      (o : Option FoundNode) → find s.bound var.text ≡ o → GoodOne (variable_by o var place ty s)
  variable var place ty stands s good None is = binds P V var.text ty s (parts.by_mention stands) good
  variable var place ty stands s good (Some known) is =
      unless_told P V (bytes_eq known.ty ty) (kinds.variable_type var.text ty known.ty) place s
      (λ other. holds (kinds.variable_type var.text ty known.ty) place
      (broken.variable_type var place ty known.ty stands (found_variable V var.text known s.bound good.1 is) (other_text known.ty ty other))) good

  bound : (var : Name) (p : PatternNode) (place : Pos) (ty : List ℕ) → IsPattern env r (bind_pattern var p place) ty → (s : ProgressNode) → Good s →
      (o : Option TypedNode) → GoodOne (bound_by o var place s)
  bound var p place ty stands s good None = good
  bound var p place ty stands s good (Some typed) =
      binds P V var.text (type_of typed) (unless (is_none (find s.bound var.text)) (kinds.variable_bound var.text) place s)
      (parts.by_name stands (type_of typed))
      (unless_told P V (is_none (find s.bound var.text)) (kinds.variable_bound var.text) place s
      (λ _. holds (kinds.variable_bound var.text) place (broken.variable_bound var p place ty stands)) good)

  -- patterns whose parts are typed with no more than this depth
  module _ (depth : ℕ) (below : (p : PatternNode) (ty : List ℕ) → IsPattern env r p ty → (s : ProgressNode) → Good s → IfSome (type_at depth env p ty s) GoodOne) where
    each : (ps : PatternList) (ty : List ℕ) → ((p : PatternNode) → Contains (list_list ps) p → IsPattern env r p ty) →
        (typed : List TypedNode) (s : ProgressNode) → Good s → IfSome (each_by (type_at depth env) ps ty typed s) GoodAll
    each no_pattern ty all typed s good = good
    each (more_pattern p ps) ty all typed s good =
        then_some GoodOne GoodAll (type_at depth env p ty s) (λ m. each_by (type_at depth env) ps ty (with_typed typed m.typed) m.after)
        (below p ty (all p (here p (list_list ps))) s good)
        (λ m _ after. each ps ty (λ q among. all q (later p (list_list ps) q among)) (with_typed typed m.typed) m.after after)

    pub arguments : (ps : PatternList) (types : List (List ℕ)) → ((p : PatternNode) (ty : List ℕ) → Contains (zip (list_list ps) types) (p, ty) → IsPattern env r p ty) →
        (typed : List TypedNode) (s : ProgressNode) → Good s → IfSome (arguments_by (type_at depth env) ps types typed s) GoodAll
    arguments no_pattern types all typed s good = good
    arguments (more_pattern p ps) [] all typed s good = good
    arguments (more_pattern p ps) (ty ∷ types) all typed s good =
        then_some GoodOne GoodAll (type_at depth env p ty s) (λ m. arguments_by (type_at depth env) ps types (with_typed typed m.typed) m.after)
        (below p ty (all p ty (here (p, ty) (zip (list_list ps) types))) s good)
        (λ m _ after. arguments ps types (λ q u among. all q u (later (p, ty) (zip (list_list ps) types) (q, u) among))
        (with_typed typed m.typed) m.after after)

    -- terms
    module _ (name : Name) (args : PatternList) (place : Pos) (ty : List ℕ) (stands : IsPattern env r (term_pattern name args place) ty) where
      filled : (template : PatternNode) → env.templates name.text ≡ Some template → (o : Option PatternNode) → plug template (list_list args) ≡ o →
          (counts : Bool) (s : ProgressNode) → Good s → IfSome (filled_by (type_at depth env) o counts name.text place ty s) GoodOne
      filled template is None fills true s good =
          told P V (kinds.parameter_without_argument name.text) place s
          (holds (kinds.parameter_without_argument name.text) place (broken.parameter_without_argument name args place ty template stands is fills)) good
      filled template is None fills false s good = good
      filled template is (Some q) fills counts s good = below q ty (parts.of_template stands is fills) s good

      used : (t : TermNode) → env.terms name.text ≡ Some t → (o : Option PatternNode) → env.templates name.text ≡ o → (s : ProgressNode) → Good s →
          IfSome (use_by (type_at depth env) env o t name.text args place ty s) GoodOne
      used t known None is s good =
          map_some GoodAll GoodOne
          (arguments_by (type_at depth env) args t.args [] (unless (env.has_extractor name.text) (kinds.no_extractor name.text) place s)) _
          (arguments args t.args (λ p u among. parts.of_term stands known is among) []
          (unless (env.has_extractor name.text) (kinds.no_extractor name.text) place s)
          (unless_told P V (env.has_extractor name.text) (kinds.no_extractor name.text) place s
          (λ lacks. holds (kinds.no_extractor name.text) place (broken.no_extractor name args place ty stands is lacks)) good))
          (λ m after. after)
      used t known (Some template) is s good =
          filled template is (plug template (list_list args)) refl (length t.args == count_patterns args) s good

      own : (t : TermNode) → env.terms name.text ≡ Some t → (s : ProgressNode) → Good s →
          IfSome (own_by (type_at depth env) env t name.text args place ty s) GoodOne
      own t known s good =
          used t known (env.templates name.text) refl
          (unless (length t.args == count_patterns args) (kinds.argument_count name.text (count_patterns args) (length t.args)) place s)
          (unless_told P V (length t.args == count_patterns args) (kinds.argument_count name.text (count_patterns args) (length t.args)) place s
          (λ other. holds (kinds.argument_count name.text (count_patterns args) (length t.args)) place
          (broken.argument_count name args place ty t stands known (other_number (length t.args) (count_patterns args) other))) good)

      converted : (t : TermNode) → env.terms name.text ≡ Some t → t.ret ≢ ty → (o : Option (List ℕ)) → converting env t.ret ty ≡ o →
          (s : ProgressNode) → Good s → IfSome (converted_by (type_at depth env) env o (term_pattern name args place) t name.text args place ty s) GoodOne
      converted t known other None is s good =
          own t known (tell (kinds.term_type ty t.ret) place s)
          (told P V (kinds.term_type ty t.ret) place s
          (holds (kinds.term_type ty t.ret) place
          (broken.term_type name args place ty t stands known other (cannot env (env.converters t.ret ty) is))) good)
      converted t known other (Some c) is s good =
          below (term_pattern (record { text = c; pos = place }) (more_pattern (term_pattern name args place) no_pattern) place) ty
          (parts.of_converter stands known other (extracts env (env.converters t.ret ty) c is)) s good

      found : (t : TermNode) → env.terms name.text ≡ Some t → (b : Bool) → bytes_eq t.ret ty ≡ b → (s : ProgressNode) → Good s →
          IfSome (if b then own_by (type_at depth env) env t name.text args place ty s
          else converted_by (type_at depth env) env (converting env t.ret ty) (term_pattern name args place) t name.text args place ty s) GoodOne
      found t known true is s good = own t known s good
      found t known false is s good = converted t known (other_text t.ret ty is) (converting env t.ret ty) refl s good

      term : (o : Option TermNode) → env.terms name.text ≡ o → (s : ProgressNode) → Good s →
          IfSome (term_by (type_at depth env) env o (term_pattern name args place) name.text args place ty s) GoodOne
      term None is s good =
          told P V (kinds.term_unknown name.text) place s (holds (kinds.term_unknown name.text) place (broken.term_unknown name args place ty stands is)) good
      term (Some t) is s good = found t is (bytes_eq t.ret ty) refl s good

    pattern_step : (p : PatternNode) (ty : List ℕ) → IsPattern env r p ty → (s : ProgressNode) → Good s → IfSome (step (type_at depth env) env p ty s) GoodOne
    pattern_step (var_pattern var place) ty stands s good = variable var place ty stands s good (find s.bound var.text) refl
    pattern_step (bind_pattern var p place) ty stands s good =
        map_some GoodOne GoodOne (type_at depth env p ty s) _ (below p ty (parts.of_name stands) s good)
        (λ m after. bound var p place ty stands m.after after m.typed)
    pattern_step (bool_pattern val place) ty stands s good =
        unless_told P V (bytes_eq ty (codes "bool")) (kinds.bool_type val ty) place s
        (λ other. holds (kinds.bool_type val ty) place (broken.bool_type val place ty stands (other_text ty (codes "bool") other))) good
    pattern_step (int_pattern val place) ty stands s good =
        unless_told P V (env.is_number ty) (kinds.integer_type val ty) place s
        (λ other. holds (kinds.integer_type val ty) place (broken.integer_type val place ty stands other)) good
    pattern_step (constant_pattern name place) ty stands s good = constant name place ty stands s good (env.constants name.text) refl
    pattern_step (term_pattern name args place) ty stands s good = term name args place ty stands (env.terms name.text) refl s good
    pattern_step (wildcard_pattern place) ty stands s good = good
    pattern_step (and_pattern ps place) ty stands s good =
        map_some GoodAll GoodOne (each_by (type_at depth env) ps ty [] s) _ (each ps ty (λ p among. parts.of_several stands among) [] s good) (λ m after. after)
    pattern_step (macro_arg_pattern index place) ty stands s good =
        told P V kinds.macro_argument place s (holds kinds.macro_argument place (broken.macro_argument index place ty stands)) good

  pub pattern : (depth : ℕ) (p : PatternNode) (ty : List ℕ) → IsPattern env r p ty → (s : ProgressNode) → Good s → IfSome (type_at depth env p ty s) GoodOne
  pattern zero p ty stands s good = tt
  pattern (suc depth) p ty stands s good = pattern_step depth (pattern depth) p ty stands s good
