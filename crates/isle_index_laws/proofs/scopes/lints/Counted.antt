-- How many variables stand at a position, by the lists of variables that rules bind and by the events of trees.
use Rattle.std.proofs.Common.{◌≡◌, ℕ, ◌+◌, ◌≤◌, List, [], ◌∷◌, ◌++◌, Bool, true, false, not, ◌==◌, Contains, inl, inr, refl, sym, ap, subst, ◌∙◌, arith, ⊎_elim}
use Rattle.std.proofs.lemmas.Bool.{and_from, eq-eqb}
use Rattle.std.proofs.lemmas.List.Elements.{Contains-append_cases}
use Rattle.std.specs.List.{flat_map}
use Rattle.isle_base_source.specs.declared.pos.Pos.{Pos}
use Rattle.isle_ast_names.specs.Tree.{Name}
use Rattle.isle_ast_rules.specs.Tree.{PatternNode, var_pattern, bind_pattern, bool_pattern, int_pattern, constant_pattern, term_pattern, wildcard_pattern, and_pattern, macro_arg_pattern, PatternList, no_pattern, more_pattern, Expression, term_expression, var_expression, bool_expression, int_expression, constant_expression, let_expression, ExpressionList, no_expression, more_expression, LetList, no_let, more_let, Condition, RuleDefinition}
use Rattle.isle_ast.specs.Tree.{Definition, rule}
use Rattle.isle_resolve.specs.declared.event.Kind.TheVariants as kinds
use Rattle.isle_resolve.specs.declared.event.Role.{Role}
use Rattle.isle_resolve.specs.declared.event.Role.TheVariants as roles
use Rattle.isle_resolve.specs.Event.{EventNode, defines, uses, defines_variant, occurs, binds, reads, closes, ends}
use Rattle.isle_resolve.specs.Events.{pattern_events, pattern_list_events, expression_events, expression_list_events, let_events, let_ends, condition_events, rule_events, definition_events, events}
use Rattle.isle_index.specs.Renamed.{places_of, same_place}
use Rattle.isle_resolve.specs.Scopes.{BoundNode, after, seen, seen_from}
use Rattle.isle_index_laws.proofs.Marks.{one_if}
use Rattle.isle_index_laws.proofs.RenamedTokens.{once, places_at}
use Rattle.isle_index_laws.specs.scopes.Reads.{condition_variables, pattern_list_variables, pattern_variables, rule_variables}
use Rattle.isle_index_laws.proofs.scopes.Occurrences.{no_element}
use Rattle.isle_index_laws.proofs.scopes.Programs.{alone}
use Rattle.isle_lint_core.specs.Findings.{of_rule, of_rules}
use Rattle.isle_lint_core.specs.Names.{kept_if}
use Rattle.isle_lint_core.specs.Unused.{unused_lets}
use Rattle.isle_lint_core.specs.Uses as lint
use Rattle.isle_index_laws.specs.scopes.lints.Unread.{HasNamesApart}
use Rattle.isle_index_laws.proofs.scopes.lints.Definitions.{rule_or_other}
use Rattle.isle_index_laws.proofs.scopes.lints.Lets.{let_lets_by, lets_by, list_lets_by}
use Rattle.isle_index_laws.proofs.scopes.lints.Rules.{rule_lets_by, rule_unused_are}

-- names

abbrev pub at : Pos → List Name → ℕ
at p [] = 0
at p (n ∷ ns) = one_if (same_place p n.pos) + at p ns

pub at-append : (p : Pos) (xs ys : List Name) → at p (xs ++ ys) ≡ at p xs + at p ys
at-append p [] ys = omega arith
at-append p (x ∷ xs) ys = let more = at-append p xs ys in omega (arith, more)

pub at_itself : (ns : List Name) (n : Name) → Contains ns n → 1 ≤ at n.pos ns
at_itself [] n h = absurd (no_element n h)
at_itself (x ∷ xs) n h =
    ⊎_elim
    (λ this.
    let own : one_if (same_place n.pos n.pos) ≡ 1 =
    ap one_if (and_from (n.pos.file == n.pos.file) (n.pos.offset == n.pos.offset) (eq-eqb n.pos.file n.pos.file refl) (eq-eqb n.pos.offset n.pos.offset refl)) in
    let first : one_if (same_place n.pos x.pos) ≡ 1 = ap (λ m. one_if (same_place n.pos m.pos)) (alone x n this) ∙ own in
    omega (arith, first))
    (λ later. let rest = at_itself xs n later in omega (arith, rest))
    (Contains-append_cases (x ∷ []) xs n h)

-- events

abbrev bound_one : Pos → EventNode → ℕ
bound_one p (defines _ _) = 0
bound_one p (uses _ _) = 0
bound_one p (defines_variant _ _) = 0
bound_one p (occurs _ n) = one_if (same_place p n.pos)
bound_one p (binds n) = one_if (same_place p n.pos)
bound_one p (reads _) = 0
bound_one p closes = 0
bound_one p ends = 0

abbrev bound_at : Pos → List EventNode → ℕ
bound_at p [] = 0
bound_at p (e ∷ es) = bound_one p e + bound_at p es

bound-append : (p : Pos) (xs ys : List EventNode) → bound_at p (xs ++ ys) ≡ bound_at p xs + bound_at p ys
bound-append p [] ys = omega arith
bound-append p (x ∷ xs) ys = let more = bound-append p xs ys in omega (arith, more)

-- the names of events are at least as many
placed : (p : Pos) (i : ℕ) (bound : List BoundNode) (es : List EventNode) → bound_at p es ≤ places_at p (places_of (seen_from i bound es))
placed p i bound [] = omega arith
placed p i bound (defines k n ∷ es) = let more = placed p (i + 1) (after (defines k n) i bound) es in omega (arith, more)
placed p i bound (uses k n ∷ es) = let more = placed p (i + 1) (after (uses k n) i bound) es in omega (arith, more)
placed p i bound (defines_variant o m ∷ es) = let more = placed p (i + 1) (after (defines_variant o m) i bound) es in omega (arith, more)
placed p i bound (occurs r n ∷ es) = let more = placed p (i + 1) (after (occurs r n) i bound) es in omega (arith, more)
placed p i bound (binds n ∷ es) = let more = placed p (i + 1) (after (binds n) i bound) es in omega (arith, more)
placed p i bound (reads n ∷ es) = let more = placed p (i + 1) (after (reads n) i bound) es in omega (arith, more)
placed p i bound (closes ∷ es) = let more = placed p (i + 1) (after closes i bound) es in omega (arith, more)
placed p i bound (ends ∷ es) = let more = placed p (i + 1) (after ends i bound) es in omega (arith, more)

-- patterns

mutual
  pattern_bound : (p : Pos) (role : Role) (q : PatternNode) → bound_at p (pattern_events role q) ≡ at p (pattern_variables q)
  pattern_bound p role (var_pattern var place) = refl
  pattern_bound p role (bind_pattern var subpat place) = ap (λ n. one_if (same_place p var.pos) + n) (pattern_bound p role subpat)
  pattern_bound p role (bool_pattern val place) = refl
  pattern_bound p role (int_pattern val place) = refl
  pattern_bound p role (constant_pattern val place) = refl
  pattern_bound p role (term_pattern f args place) = let more = pattern_list_bound p role args in omega (arith, more)
  pattern_bound p role (wildcard_pattern place) = refl
  pattern_bound p role (and_pattern subpats place) = pattern_list_bound p role subpats
  pattern_bound p role (macro_arg_pattern index place) = refl

  pattern_list_bound : (p : Pos) (role : Role) (qs : PatternList) → bound_at p (pattern_list_events role qs) ≡ at p (pattern_list_variables qs)
  pattern_list_bound p role no_pattern = refl
  pattern_list_bound p role (more_pattern q qs) =
      let first = pattern_bound p role q in
      let later = pattern_list_bound p role qs in
      let es = bound-append p (pattern_events role q) (pattern_list_events role qs) in
      let ns = at-append p (pattern_variables q) (pattern_list_variables qs) in
      omega (arith, first, later, es, ns)

-- `let`s: each variable is used or not

abbrev pub itself : Bool → Bool
itself b = b

either : (p : Pos) (b : Bool) (n : Name) → at p (kept_if (not b) n) + at p (kept_if (itself b) n) ≡ one_if (same_place p n.pos)
either p true n = omega arith
either p false n = omega arith

no_end : (p : Pos) (ds : LetList) → bound_at p (let_ends ds) ≡ 0
no_end p no_let = refl
no_end p (more_let var ty val place ds) = let more = no_end p ds in omega (arith, more)

mutual
  lets_bound : (p : Pos) (x : Expression) → at p (lets_by not x) + at p (lets_by itself x) ≡ bound_at p (expression_events x)
  lets_bound p (term_expression f args place) = let more = list_bound p args in omega (arith, more)
  lets_bound p (var_expression n place) = omega arith
  lets_bound p (bool_expression val place) = omega arith
  lets_bound p (int_expression val place) = omega arith
  lets_bound p (constant_expression val place) = omega arith
  lets_bound p (let_expression defs body place) =
      let own = let_bound p defs body in
      let inside = lets_bound p body in
      let none = no_end p defs in
      let es = bound-append p (let_events defs ++ expression_events body) (let_ends defs) in
      let fs = bound-append p (let_events defs) (expression_events body) in
      let unused = at-append p (let_lets_by not defs body) (lets_by not body) in
      let used = at-append p (let_lets_by itself defs body) (lets_by itself body) in
      omega (arith, own, inside, none, es, fs, unused, used)

  list_bound : (p : Pos) (xs : ExpressionList) → at p (list_lets_by not xs) + at p (list_lets_by itself xs) ≡ bound_at p (expression_list_events xs)
  list_bound p no_expression = omega arith
  list_bound p (more_expression x xs) =
      let first = lets_bound p x in
      let later = list_bound p xs in
      let es = bound-append p (expression_events x) (expression_list_events xs) in
      let unused = at-append p (lets_by not x) (list_lets_by not xs) in
      let used = at-append p (lets_by itself x) (list_lets_by itself xs) in
      omega (arith, first, later, es, unused, used)

  let_bound : (p : Pos) (ds : LetList) (body : Expression) → at p (let_lets_by not ds body) + at p (let_lets_by itself ds body) ≡ bound_at p (let_events ds)
  let_bound p no_let body = omega arith
  let_bound p (more_let var ty val place ds) body =
      let b : Bool = lint.let_uses ds var.text (lint.uses body var.text) in
      let own = either p b var in
      let value = lets_bound p val in
      let later = let_bound p ds body in
      let es = bound-append p (expression_events val ++ (uses kinds.Type ty ∷ binds var ∷ [])) (let_events ds) in
      let fs = bound-append p (expression_events val) (uses kinds.Type ty ∷ binds var ∷ []) in
      let unused = at-append p (kept_if (not b) var ++ lets_by not val) (let_lets_by not ds body) in
      let used = at-append p (kept_if (itself b) var ++ lets_by itself val) (let_lets_by itself ds body) in
      let unused_here = at-append p (kept_if (not b) var) (lets_by not val) in
      let used_here = at-append p (kept_if (itself b) var) (lets_by itself val) in
      omega (arith, own, value, later, es, fs, unused, used, unused_here, used_here)

-- rules

conditions_bound : (p : Pos) (cs : List Condition) →
    at p (flat_map (λ c. lets_by not c.expr) cs) + at p (flat_map (λ c. lets_by itself c.expr) cs) + at p (condition_variables cs) ≡ bound_at p (flat_map condition_events cs)
conditions_bound p [] = omega arith
conditions_bound p (c ∷ cs) =
    let own = lets_bound p c.expr in
    let variables = pattern_bound p roles.Plain c.pattern in
    let later = conditions_bound p cs in
    let es = bound-append p (condition_events c) (flat_map condition_events cs) in
    let fs = bound-append p (expression_events c.expr) (pattern_events roles.Plain c.pattern) in
    let unused = at-append p (lets_by not c.expr) (flat_map (λ d. lets_by not d.expr) cs) in
    let used = at-append p (lets_by itself c.expr) (flat_map (λ d. lets_by itself d.expr) cs) in
    let ns = at-append p (pattern_variables c.pattern) (condition_variables cs) in
    omega (arith, own, variables, later, es, fs, unused, used, ns)

rule_bound : (p : Pos) (r : RuleDefinition) → at p (rule_lets_by not r) + at p (rule_lets_by itself r) + at p (rule_variables r) ≡ bound_at p (rule_events r)
rule_bound p r =
    let left : List EventNode = pattern_events roles.Plain r.pattern in
    let middle : List EventNode = flat_map condition_events r.iflets in
    let right : List EventNode = expression_events r.expr in
    let own = pattern_bound p roles.Plain r.pattern in
    let conditions = conditions_bound p r.iflets in
    let value = lets_bound p r.expr in
    let es = bound-append p (left ++ middle ++ right) (ends ∷ []) in
    let fs = bound-append p (left ++ middle) right in
    let gs = bound-append p left middle in
    let unused = at-append p (flat_map (λ c. lets_by not c.expr) r.iflets) (lets_by not r.expr) in
    let used = at-append p (flat_map (λ c. lets_by itself c.expr) r.iflets) (lets_by itself r.expr) in
    let ns = at-append p (pattern_variables r.pattern) (condition_variables r.iflets) in
    omega (arith, own, conditions, value, es, fs, gs, unused, used, ns)

-- programs

abbrev pub used_lets : RuleDefinition → List Name
used_lets r = rule_lets_by itself r

abbrev IsBound : Pos → Definition → Type 0
IsBound p d = at p (of_rule unused_lets d) + at p (of_rule used_lets d) + at p (of_rule rule_variables d) ≤ bound_at p (definition_events d)

rule_is_bound : (p : Pos) (r : RuleDefinition) → IsBound p (rule r)
rule_is_bound p r =
    let all = rule_bound p r in
    let same : at p (unused_lets r) ≡ at p (rule_lets_by not r) = ap (at p) (rule_unused_are r) in
    omega (arith, all, same)

definition_bound : (p : Pos) (d : Definition) → IsBound p d
definition_bound p d =
    elim (rule_or_other d) [
      | inl this ↦ subst (IsBound p) (sym this.1) (rule_is_bound p this.0)
      | inr other ↦
          let unused : at p (of_rule unused_lets d) ≡ 0 = ap (at p) (other.found unused_lets) in
          let used : at p (of_rule used_lets d) ≡ 0 = ap (at p) (other.found used_lets) in
          let variables : at p (of_rule rule_variables d) ≡ 0 = ap (at p) (other.found rule_variables) in
          omega (arith, unused, used, variables)
    ]

program_bound : (p : Pos) (ds : List Definition) → at p (of_rules unused_lets ds) + at p (of_rules used_lets ds) + at p (of_rules rule_variables ds) ≤ bound_at p (events ds)
program_bound p [] = omega arith
program_bound p (d ∷ ds) =
    let own = definition_bound p d in
    let later = program_bound p ds in
    let es = bound-append p (definition_events d) (events ds) in
    let unused = at-append p (of_rule unused_lets d) (of_rules unused_lets ds) in
    let used = at-append p (of_rule used_lets d) (of_rules used_lets ds) in
    let ns = at-append p (of_rule rule_variables d) (of_rules rule_variables ds) in
    omega (arith, own, later, es, unused, used, ns)

-- a position has one variable at most, if the names of the program stand apart
pub one_at : (ds : List Definition) → HasNamesApart ds → (p : Pos) → at p (of_rules unused_lets ds) + at p (of_rules used_lets ds) + at p (of_rules rule_variables ds) ≤ 1
one_at ds apart p =
    let all = program_bound p ds in
    let names = placed p 0 [] (events ds) in
    let one = once (places_of (seen (events ds))) apart p in
    omega (arith, all, names, one)
