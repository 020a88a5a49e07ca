-- Equality of patterns, positions included. `==` computes it, and the laws of `==` follow from it.
use Rattle.std.specs.Prelude.{◌≡◌, Bool, true, false, ◌&&◌, nat_eq}
use Rattle.std.specs.Bool.{Decides, beq}
use Rattle.std.specs.Cmp.{IsEquivalence, decided, on_equiv, booleans_Decides, signed_Decides}
use Rattle.std.specs.Ordering.{on, int_eq}
use Rattle.std.proofs.Common.{refl, sym, ap, subst}
use Rattle.std.proofs.lemmas.Bool.{true≢false, and_parts, and_from}
use Rattle.std.proofs.lemmas.Bool.Decides.{Decides-eqb}
use Rattle.isle_ast_names.specs.SameParts.{same_pos, same_name, pos_same, pos_self, name_same, name_self}
use Rattle.isle_ast_rules.specs.Tree.{PatternNode, var_pattern, bind_pattern, bool_pattern, int_pattern, constant_pattern, term_pattern, wildcard_pattern, and_pattern, macro_arg_pattern, PatternList, no_pattern, more_pattern}
use Rattle.isle_ast_rules.specs.TreeView.{pattern_of}

abbrev mutual
  pub same_pattern : PatternNode → PatternNode → Bool
  same_pattern (var_pattern m p) (var_pattern n q) = same_name m n && same_pos p q
  same_pattern (bind_pattern m s p) (bind_pattern n t q) = same_name m n && (same_pattern s t && same_pos p q)
  same_pattern (bool_pattern a p) (bool_pattern b q) = beq a b && same_pos p q
  same_pattern (int_pattern a p) (int_pattern b q) = int_eq a b && same_pos p q
  same_pattern (constant_pattern m p) (constant_pattern n q) = same_name m n && same_pos p q
  same_pattern (term_pattern m ss p) (term_pattern n ts q) = same_name m n && (same_patterns ss ts && same_pos p q)
  same_pattern (wildcard_pattern p) (wildcard_pattern q) = same_pos p q
  same_pattern (and_pattern ss p) (and_pattern ts q) = same_patterns ss ts && same_pos p q
  same_pattern (macro_arg_pattern a p) (macro_arg_pattern b q) = nat_eq a b && same_pos p q
  same_pattern _ _ = false

  pub same_patterns : PatternList → PatternList → Bool
  same_patterns no_pattern no_pattern = true
  same_patterns (more_pattern s ss) (more_pattern t ts) = same_pattern s t && same_patterns ss ts
  same_patterns _ _ = false

-- The test is true exactly of equal patterns.

mutual
  pub pattern_same : (s t : PatternNode) → same_pattern s t ≡ true → s ≡ t
  pattern_same (var_pattern m p) (var_pattern n q) h =
      let all = and_parts (same_name m n) (same_pos p q) h in
      λ i. var_pattern (name_same m n all.0 i) (pos_same p q all.1 i)
  pattern_same (bind_pattern m s p) (bind_pattern n t q) h =
      let all = and_parts (same_name m n) (same_pattern s t && same_pos p q) h in
      let others = and_parts (same_pattern s t) (same_pos p q) all.1 in
      λ i. bind_pattern (name_same m n all.0 i) (pattern_same s t others.0 i) (pos_same p q others.1 i)
  pattern_same (bool_pattern a p) (bool_pattern b q) h =
      let all = and_parts (beq a b) (same_pos p q) h in
      λ i. bool_pattern ((booleans_Decides a b).0 all.0 i) (pos_same p q all.1 i)
  pattern_same (int_pattern a p) (int_pattern b q) h =
      let all = and_parts (int_eq a b) (same_pos p q) h in
      λ i. int_pattern ((signed_Decides a b).0 all.0 i) (pos_same p q all.1 i)
  pattern_same (constant_pattern m p) (constant_pattern n q) h =
      let all = and_parts (same_name m n) (same_pos p q) h in
      λ i. constant_pattern (name_same m n all.0 i) (pos_same p q all.1 i)
  pattern_same (term_pattern m ss p) (term_pattern n ts q) h =
      let all = and_parts (same_name m n) (same_patterns ss ts && same_pos p q) h in
      let others = and_parts (same_patterns ss ts) (same_pos p q) all.1 in
      λ i. term_pattern (name_same m n all.0 i) (patterns_same ss ts others.0 i) (pos_same p q others.1 i)
  pattern_same (wildcard_pattern p) (wildcard_pattern q) h = ap wildcard_pattern (pos_same p q h)
  pattern_same (and_pattern ss p) (and_pattern ts q) h =
      let all = and_parts (same_patterns ss ts) (same_pos p q) h in
      λ i. and_pattern (patterns_same ss ts all.0 i) (pos_same p q all.1 i)
  pattern_same (macro_arg_pattern a p) (macro_arg_pattern b q) h =
      let all = and_parts (nat_eq a b) (same_pos p q) h in
      λ i. macro_arg_pattern ((Decides-eqb a b).0 all.0 i) (pos_same p q all.1 i)
  pattern_same _ _ h = absurd (true≢false (sym h))

  pub patterns_same : (ss ts : PatternList) → same_patterns ss ts ≡ true → ss ≡ ts
  patterns_same no_pattern no_pattern h = refl
  patterns_same (more_pattern s ss) (more_pattern t ts) h =
      let all = and_parts (same_pattern s t) (same_patterns ss ts) h in
      λ i. more_pattern (pattern_same s t all.0 i) (patterns_same ss ts all.1 i)
  patterns_same _ _ h = absurd (true≢false (sym h))

mutual
  pub pattern_self : (s : PatternNode) → same_pattern s s ≡ true
  pattern_self (var_pattern m p) = and_from (same_name m m) (same_pos p p) (name_self m) (pos_self p)
  pattern_self (bind_pattern m s p) =
      and_from (same_name m m) (same_pattern s s && same_pos p p) (name_self m)
      (and_from (same_pattern s s) (same_pos p p) (pattern_self s) (pos_self p))
  pattern_self (bool_pattern a p) = and_from (beq a a) (same_pos p p) ((booleans_Decides a a).1 refl) (pos_self p)
  pattern_self (int_pattern a p) = and_from (int_eq a a) (same_pos p p) ((signed_Decides a a).1 refl) (pos_self p)
  pattern_self (constant_pattern m p) = and_from (same_name m m) (same_pos p p) (name_self m) (pos_self p)
  pattern_self (term_pattern m ss p) =
      and_from (same_name m m) (same_patterns ss ss && same_pos p p) (name_self m)
      (and_from (same_patterns ss ss) (same_pos p p) (patterns_self ss) (pos_self p))
  pattern_self (wildcard_pattern p) = pos_self p
  pattern_self (and_pattern ss p) = and_from (same_patterns ss ss) (same_pos p p) (patterns_self ss) (pos_self p)
  pattern_self (macro_arg_pattern a p) = and_from (nat_eq a a) (same_pos p p) ((Decides-eqb a a).1 refl) (pos_self p)

  pub patterns_self : (ss : PatternList) → same_patterns ss ss ≡ true
  patterns_self no_pattern = refl
  patterns_self (more_pattern s ss) =
      and_from (same_pattern s s) (same_patterns ss ss) (pattern_self s) (patterns_self ss)

pub pattern-Decides : (s t : PatternNode) → Decides (same_pattern s t) (s ≡ t)
pattern-Decides s t = (pattern_same s t, λ e. subst (λ z. same_pattern s z ≡ true) e (pattern_self s))

pub patterns_equiv : IsEquivalence (on pattern_of same_pattern)
patterns_equiv = on_equiv pattern_of (decided same_pattern pattern-Decides)
