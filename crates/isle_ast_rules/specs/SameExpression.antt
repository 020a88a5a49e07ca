-- Equality of expressions, positions included. `==` computes it, and the laws of `==` follow from
-- it.
use Rattle.std.specs.Prelude.{◌≡◌, Bool, true, false, ◌&&◌}
use Rattle.std.specs.Bool.{Decides, beq}
use Rattle.std.specs.Cmp.{IsEquivalence, decided, on_equiv, booleans_Decides, signed_Decides}
use Rattle.std.specs.Ordering.{on, int_eq}
use Rattle.std.proofs.Common.{refl, sym, subst}
use Rattle.std.proofs.lemmas.Bool.{true≢false, and_parts, and_from}
use Rattle.isle_ast_names.specs.SameParts.{same_pos, same_name, pos_same, pos_self, name_same, name_self}
use Rattle.isle_ast_rules.specs.Tree.{Expression, term_expression, var_expression, bool_expression, int_expression, constant_expression, let_expression, ExpressionList, no_expression, more_expression, LetList, no_let, more_let}
use Rattle.isle_ast_rules.specs.TreeView.{SingleLet, expression_of, single_let_of}

abbrev mutual
  pub same_expression : Expression → Expression → Bool
  same_expression (term_expression m xs p) (term_expression n ys q) =
      same_name m n && (same_expressions xs ys && same_pos p q)
  same_expression (var_expression m p) (var_expression n q) = same_name m n && same_pos p q
  same_expression (bool_expression a p) (bool_expression b q) = beq a b && same_pos p q
  same_expression (int_expression a p) (int_expression b q) = int_eq a b && same_pos p q
  same_expression (constant_expression m p) (constant_expression n q) = same_name m n && same_pos p q
  same_expression (let_expression ds x p) (let_expression es y q) =
      same_lets ds es && (same_expression x y && same_pos p q)
  same_expression _ _ = false

  pub same_expressions : ExpressionList → ExpressionList → Bool
  same_expressions no_expression no_expression = true
  same_expressions (more_expression x xs) (more_expression y ys) = same_expression x y && same_expressions xs ys
  same_expressions _ _ = false

  pub same_lets : LetList → LetList → Bool
  same_lets no_let no_let = true
  same_lets (more_let m t x p ds) (more_let n u y q es) =
      (same_name m n && (same_name t u && (same_expression x y && same_pos p q))) && same_lets ds es
  same_lets _ _ = false

-- the same of one definition, by itself
abbrev pub same_single_let : SingleLet → SingleLet → Bool
same_single_let d e = same_name d.var e.var && (same_name d.ty e.ty && (same_expression d.val e.val && same_pos d.pos e.pos))

-- The test is true exactly of equal expressions.

-- four tests, each true
four_true : (a b c d : Bool) → (a && (b && (c && d))) ≡ true → (a ≡ true) × (b ≡ true) × (c ≡ true) × (d ≡ true)
four_true a b c d h =
    let all = and_parts a (b && (c && d)) h in
    let others = and_parts b (c && d) all.1 in
    let last = and_parts c d others.1 in
    (all.0, others.0, last.0, last.1)

true_four : (a b c d : Bool) → a ≡ true → b ≡ true → c ≡ true → d ≡ true → (a && (b && (c && d))) ≡ true
true_four a b c d e f g h = and_from a (b && (c && d)) e (and_from b (c && d) f (and_from c d g h))

mutual
  pub expression_same : (x y : Expression) → same_expression x y ≡ true → x ≡ y
  expression_same (term_expression m xs p) (term_expression n ys q) h =
      let all = and_parts (same_name m n) (same_expressions xs ys && same_pos p q) h in
      let others = and_parts (same_expressions xs ys) (same_pos p q) all.1 in
      λ i. term_expression (name_same m n all.0 i) (expressions_same xs ys others.0 i) (pos_same p q others.1 i)
  expression_same (var_expression m p) (var_expression n q) h =
      let all = and_parts (same_name m n) (same_pos p q) h in
      λ i. var_expression (name_same m n all.0 i) (pos_same p q all.1 i)
  expression_same (bool_expression a p) (bool_expression b q) h =
      let all = and_parts (beq a b) (same_pos p q) h in
      λ i. bool_expression ((booleans_Decides a b).0 all.0 i) (pos_same p q all.1 i)
  expression_same (int_expression a p) (int_expression b q) h =
      let all = and_parts (int_eq a b) (same_pos p q) h in
      λ i. int_expression ((signed_Decides a b).0 all.0 i) (pos_same p q all.1 i)
  expression_same (constant_expression m p) (constant_expression n q) h =
      let all = and_parts (same_name m n) (same_pos p q) h in
      λ i. constant_expression (name_same m n all.0 i) (pos_same p q all.1 i)
  expression_same (let_expression ds x p) (let_expression es y q) h =
      let all = and_parts (same_lets ds es) (same_expression x y && same_pos p q) h in
      let others = and_parts (same_expression x y) (same_pos p q) all.1 in
      λ i. let_expression (lets_same ds es all.0 i) (expression_same x y others.0 i) (pos_same p q others.1 i)
  expression_same _ _ h = absurd (true≢false (sym h))

  pub expressions_same : (xs ys : ExpressionList) → same_expressions xs ys ≡ true → xs ≡ ys
  expressions_same no_expression no_expression h = refl
  expressions_same (more_expression x xs) (more_expression y ys) h =
      let all = and_parts (same_expression x y) (same_expressions xs ys) h in
      λ i. more_expression (expression_same x y all.0 i) (expressions_same xs ys all.1 i)
  expressions_same _ _ h = absurd (true≢false (sym h))

  pub lets_same : (ds es : LetList) → same_lets ds es ≡ true → ds ≡ es
  lets_same no_let no_let h = refl
  lets_same (more_let m t x p ds) (more_let n u y q es) h =
      let all = and_parts (same_name m n && (same_name t u && (same_expression x y && same_pos p q))) (same_lets ds es) h in
      let parts = four_true (same_name m n) (same_name t u) (same_expression x y) (same_pos p q) all.0 in
      λ i. more_let (name_same m n parts.0 i) (name_same t u parts.1 i) (expression_same x y parts.2 i) (pos_same p q parts.3 i) (lets_same ds es all.1 i)
  lets_same _ _ h = absurd (true≢false (sym h))

mutual
  pub expression_self : (x : Expression) → same_expression x x ≡ true
  expression_self (term_expression m xs p) =
      and_from (same_name m m) (same_expressions xs xs && same_pos p p) (name_self m)
      (and_from (same_expressions xs xs) (same_pos p p) (expressions_self xs) (pos_self p))
  expression_self (var_expression m p) = and_from (same_name m m) (same_pos p p) (name_self m) (pos_self p)
  expression_self (bool_expression a p) = and_from (beq a a) (same_pos p p) ((booleans_Decides a a).1 refl) (pos_self p)
  expression_self (int_expression a p) = and_from (int_eq a a) (same_pos p p) ((signed_Decides a a).1 refl) (pos_self p)
  expression_self (constant_expression m p) = and_from (same_name m m) (same_pos p p) (name_self m) (pos_self p)
  expression_self (let_expression ds x p) =
      and_from (same_lets ds ds) (same_expression x x && same_pos p p) (lets_self ds)
      (and_from (same_expression x x) (same_pos p p) (expression_self x) (pos_self p))

  pub expressions_self : (xs : ExpressionList) → same_expressions xs xs ≡ true
  expressions_self no_expression = refl
  expressions_self (more_expression x xs) =
      and_from (same_expression x x) (same_expressions xs xs) (expression_self x) (expressions_self xs)

  pub lets_self : (ds : LetList) → same_lets ds ds ≡ true
  lets_self no_let = refl
  lets_self (more_let m t x p ds) =
      and_from (same_name m m && (same_name t t && (same_expression x x && same_pos p p))) (same_lets ds ds)
      (true_four (same_name m m) (same_name t t) (same_expression x x) (same_pos p p) (name_self m) (name_self t) (expression_self x) (pos_self p))
      (lets_self ds)

pub expression-Decides : (x y : Expression) → Decides (same_expression x y) (x ≡ y)
expression-Decides x y = (expression_same x y, λ e. subst (λ z. same_expression x z ≡ true) e (expression_self x))

single_let_same : (d e : SingleLet) → same_single_let d e ≡ true → d ≡ e
single_let_same d e h =
    let parts = four_true (same_name d.var e.var) (same_name d.ty e.ty) (same_expression d.val e.val) (same_pos d.pos e.pos) h in
    λ i. record {
      var = name_same d.var e.var parts.0 i;
      ty = name_same d.ty e.ty parts.1 i;
      val = expression_same d.val e.val parts.2 i;
      pos = pos_same d.pos e.pos parts.3 i;
    }

single_let_self : (d : SingleLet) → same_single_let d d ≡ true
single_let_self d =
    true_four (same_name d.var d.var) (same_name d.ty d.ty) (same_expression d.val d.val) (same_pos d.pos d.pos)
    (name_self d.var) (name_self d.ty) (expression_self d.val) (pos_self d.pos)

pub single_let-Decides : (d e : SingleLet) → Decides (same_single_let d e) (d ≡ e)
single_let-Decides d e = (single_let_same d e, λ h. subst (λ z. same_single_let d z ≡ true) h (single_let_self d))

pub expressions_equiv : IsEquivalence (on expression_of same_expression)
expressions_equiv = on_equiv expression_of (decided same_expression expression-Decides)

pub let_defs_equiv : IsEquivalence (on single_let_of same_single_let)
let_defs_equiv = on_equiv single_let_of (decided same_single_let single_let-Decides)
