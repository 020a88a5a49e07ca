-- Examples of runs, by computing, in a world of numbers.
use Rattle.std.proofs.Common.{◌≡◌, ◌∙◌, sym, subst, arith, ltb-false, ◌≤◌, ℕ, ◌+◌, ◌-◌, ◌==◌, List, [], ◌∷◌, map, nat_lt, Bool, true, false, Option, Some, None, refl, codes, bytes_eq, pos, if◌then◌else◌}
use Rattle.std.proofs.lemmas.Bool.Decides.{Decides-eqb}
use Rattle.std.proofs.lemmas.Option.{none-some, same_Some}
use Rattle.std.specs.List.{sum_by}
use Rattle.isle_check_environment.specs.signatures.Signatures.{TermNode}
use Rattle.isle_check_typing.specs.Typed.{TypedNode, typed_bind, typed_var, typed_int, typed_term, typed_wildcard, typed_and, no_typed, more_typed}
use Rattle.isle_check_typing.specs.expressions.TypedExpressions.{typed_var_expression, typed_int_expression, typed_term_expression, typed_let_expression, no_typed_expression, more_typed_expression, more_typed_let, no_typed_let}
use Rattle.isle_check_rules.specs.TypedRules.{TypedCondition, TypedRuleNode}
use Rattle.isle_check_places.specs.Places.{ConstraintNode, of_int, present}
use Rattle.isle_check_matchings.specs.Asks.{TermsNode}
use Rattle.isle_check_matchings.specs.RuleAsks.{rule_asks}
use Rattle.isle_check_matchings.specs.Matchings.{constraints_of}
use Rattle.isle_check_laws.specs.Extensional.{HaveEqualParts, IsExtensional}
use Rattle.isle_check_laws.specs.PlaceValues.{value_at}
use Rattle.isle_check_laws.specs.Runs.{bound, run}
use Rattle.isle_check_laws.specs.Worlds.{World}

abbrev looks : ℕ → Option ConstraintNode
looks n = if nat_lt n 10 then Some (of_int (pos n)) else if nat_lt n 100 then Some present else None

-- numbers below 10 are themselves, and those below 100 are answers
abbrev numbers : World ℕ
numbers =
    record {
      same = λ m n. m == n;
      decides = Decides-eqb;
      constraint = looks;
      field = λ v i n. n;
      content = λ n. n - 10;
      part = λ i n. n + i;
      extracted = λ f n. n + 1;
      computed = λ f ns. 12 + sum_by (λ n. n) ns;
      bool_value = λ b ty. 0;
      int_value = λ i ty. 4;
      constant_value = λ name. 5;
    }

-- what holds of a number
data Looks (n : ℕ) (c : ConstraintNode) : Type 0 where
  literal : c ≡ of_int (pos n) → Looks n c
  answer : c ≡ present → 10 ≤ n → Looks n c

looks_by : (n : ℕ) (c : ConstraintNode) (b d : Bool) → nat_lt n 10 ≡ b → (if b then Some (of_int (pos n)) else if d then Some present else None) ≡ Some c → Looks n c
looks_by n c true d is h = literal (sym (same_Some (of_int (pos n)) c h))
looks_by n c false true is h = answer (sym (same_Some present c h)) (ltb-false n 10 is)
looks_by n c false false is h = absurd (none-some c h)

both_look : (c : ConstraintNode) (u v : ℕ) → Looks u c → Looks v c → HaveEqualParts numbers c u v → u ≡ v
both_look c u v (literal is) (literal other) parts = number u v (sym is ∙ other) where
  number : (u v : ℕ) → of_int (pos u) ≡ of_int (pos v) → u ≡ v
  number u v h = cc
both_look c u v (literal is) (answer other le) parts = let e : of_int (pos u) ≡ present = sym is ∙ other in cc
both_look c u v (answer is le) (literal other) parts = let e : present ≡ of_int (pos v) = sym is ∙ other in cc
both_look c u v (answer is le) (answer other more) parts = equal u v le more (subst (λ d. HaveEqualParts numbers d u v) is parts) where
  equal : (u v : ℕ) → 10 ≤ u → 10 ≤ v → u - 10 ≡ v - 10 → u ≡ v
  equal u v le more h = omega (arith, le, more, h)

-- in this world values are equal if they look so
numbers_look : IsExtensional numbers
numbers_look c u v is_u is_v parts =
    both_look c u v (looks_by u c (nat_lt u 10) (nat_lt u 100) refl is_u) (looks_by v c (nat_lt v 10) (nat_lt v 100) refl is_v) parts

abbrev term : (partial : Bool) → TermNode
term partial = record { args = []; ret = []; pure = true; multi = false; partial = partial; is_variant = false }

-- the term g is partial
abbrev terms : TermsNode
terms = record { terms = λ f. Some (term (bytes_eq f (codes "g"))); infallible = bytes_eq (codes "i") }

abbrev rule_of : List TypedNode → List TypedCondition → TypedRuleNode
rule_of ps cs = record { term = codes "f"; args = ps; iflets = cs; expr = typed_var_expression 0 []; prio = pos 0; pos = record { file = 0; offset = 0 } }

-- (rule (f x x) ..)
abbrev twice : TypedRuleNode
twice = rule_of (typed_bind 0 [] (typed_wildcard []) ∷ typed_var 0 [] ∷ []) []

twice_runs : run terms numbers twice (λ i. 3) ≡ Some (bound 0 (Some 3) ∷ [])
twice_runs = refl

twice_not : run terms numbers twice (λ i. i + 1) ≡ None
twice_not = refl

-- (rule (f (e x (i 3))) (if-let (and y 9) (let ((u ty (g 4))) (g x u))) ..)
abbrev deep : TypedRuleNode
deep =
    rule_of (typed_term (codes "e") [] (more_typed (typed_bind 0 [] (typed_wildcard [])) (more_typed (typed_term (codes "i") [] (more_typed (typed_int (pos 3) []) no_typed)) no_typed)) ∷ [])
    (record {
      pattern = typed_and [] (more_typed (typed_bind 1 [] (typed_wildcard [])) (more_typed (typed_int (pos 9) []) no_typed));
      expr = typed_let_expression [] (more_typed_let 2 (typed_term_expression (codes "g") [] (more_typed_expression (typed_int_expression (pos 4) []) no_typed_expression)) no_typed_let)
          (typed_term_expression (codes "g") [] (more_typed_expression (typed_var_expression 0 []) (more_typed_expression (typed_var_expression 2 []) no_typed_expression)));
    } ∷ [])

deep_runs : run terms numbers deep (λ i. 10) ≡ Some (bound 0 (Some 1) ∷ bound 1 (Some 9) ∷ [])
deep_runs = refl

deep_not : run terms numbers deep (λ i. 3) ≡ None
deep_not = refl

-- the values at the places of the constraints: those of the answers are there
deep_values : map (λ c. value_at numbers (λ i. 10) c.at) (constraints_of (rule_asks terms deep)) ≡ Some 11 ∷ Some 3 ∷ Some 16 ∷ Some 19 ∷ Some 9 ∷ []
deep_values = refl
