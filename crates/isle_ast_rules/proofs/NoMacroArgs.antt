-- A writable rule contains no macro argument.
use Rattle.std.proofs.Common.{[], ◌≡◌, List, ◌∷◌, Bool, false, ◌||◌, refl}
use Rattle.std.specs.List.{list_any}
use Rattle.isle_base.specs.Place.{Placed}
use Rattle.isle_ast_rules.specs.Tree.{PatternNode, var_pattern, bind_pattern, bool_pattern, int_pattern, constant_pattern, term_pattern, wildcard_pattern, and_pattern, macro_arg_pattern, PatternList, no_pattern, more_pattern, Condition, RuleDefinition, ExtractorDefinition}
use Rattle.isle_ast_rules.specs.MacroArgs.{has_macro_arg, have_macro_arg, condition_has_macro_arg, rule_has_macro_arg, extractor_has_macro_arg}
use Rattle.isle_ast_rules.specs.PatternGrammar.{SpellsPattern}
use Rattle.isle_ast_rules.specs.RuleGrammar.{SpellsCondition, SpellsRule, SpellsExtractor}
use Rattle.isle_ast_names.specs.Writable.{Each}
use Rattle.isle_ast_rules.specs.Writable.{IsWritablePattern, AreWritablePatterns, IsWritableCondition, IsWritableRule, IsWritableExtractor}
use Rattle.isle_ast_rules.proofs.Writable.Spelt.{pattern-spelt, condition-spelt, rule-spelt, extractor-spelt}

neither : (a b : Bool) → a ≡ false → b ≡ false → (a || b) ≡ false
neither a b first second = (λ i. first i || second i)

pub none_of : {A : Type 0} (P : A → Type 0) (test : A → Bool) → ((x : A) → P x → test x ≡ false) → (xs : List A) → Each P xs → list_any test xs ≡ false
none_of P test each [] h = refl
none_of P test each (x ∷ xs) h = neither (test x) (list_any test xs) (each x h.0) (none_of P test each xs h.1)

-- writable trees

mutual
  pub writable_pattern_has_no_macro_arg : (p : PatternNode) → IsWritablePattern p → has_macro_arg p ≡ false
  writable_pattern_has_no_macro_arg (var_pattern _ _) h = refl
  writable_pattern_has_no_macro_arg (bind_pattern _ subpat _) h = writable_pattern_has_no_macro_arg subpat h.1
  writable_pattern_has_no_macro_arg (bool_pattern _ _) h = refl
  writable_pattern_has_no_macro_arg (int_pattern _ _) h = refl
  writable_pattern_has_no_macro_arg (constant_pattern _ _) h = refl
  writable_pattern_has_no_macro_arg (term_pattern _ args _) h = writable_patterns_have_no_macro_arg args h.2
  writable_pattern_has_no_macro_arg (wildcard_pattern _) h = refl
  writable_pattern_has_no_macro_arg (and_pattern subpats _) h = writable_patterns_have_no_macro_arg subpats h
  writable_pattern_has_no_macro_arg (macro_arg_pattern _ _) h = absurd h

  pub writable_patterns_have_no_macro_arg : (ps : PatternList) → AreWritablePatterns ps → have_macro_arg ps ≡ false
  writable_patterns_have_no_macro_arg no_pattern h = refl
  writable_patterns_have_no_macro_arg (more_pattern p ps) h =
      neither (has_macro_arg p) (have_macro_arg ps) (writable_pattern_has_no_macro_arg p h.0) (writable_patterns_have_no_macro_arg ps h.1)

pub writable_condition_has_no_macro_arg : (c : Condition) → IsWritableCondition c → condition_has_macro_arg c ≡ false
writable_condition_has_no_macro_arg c h = writable_pattern_has_no_macro_arg c.pattern h.0

pub writable_rule_has_no_macro_arg : (r : RuleDefinition) → IsWritableRule r → rule_has_macro_arg r ≡ false
writable_rule_has_no_macro_arg r h =
    neither (has_macro_arg r.pattern) (list_any condition_has_macro_arg r.iflets) (writable_pattern_has_no_macro_arg r.pattern h.pattern)
    (none_of IsWritableCondition condition_has_macro_arg writable_condition_has_no_macro_arg r.iflets h.iflets)

pub writable_extractor_has_no_macro_arg : (e : ExtractorDefinition) → IsWritableExtractor e → extractor_has_macro_arg e ≡ false
writable_extractor_has_no_macro_arg e h = writable_pattern_has_no_macro_arg e.template h.2

-- spelt trees

pub spelt_pattern_has_no_macro_arg : (p : PatternNode) (all rest : List Placed) → SpellsPattern p all rest → has_macro_arg p ≡ false
spelt_pattern_has_no_macro_arg p all rest s = writable_pattern_has_no_macro_arg p (pattern-spelt p all rest s)

pub spelt_condition_has_no_macro_arg : (c : Condition) (all rest : List Placed) → SpellsCondition c all rest → condition_has_macro_arg c ≡ false
spelt_condition_has_no_macro_arg c all rest s = writable_condition_has_no_macro_arg c (condition-spelt c all rest s)

pub spelt_rule_has_no_macro_arg : (r : RuleDefinition) (all rest : List Placed) → SpellsRule r all rest → rule_has_macro_arg r ≡ false
spelt_rule_has_no_macro_arg r all rest s = writable_rule_has_no_macro_arg r (rule-spelt r all rest s)

pub spelt_extractor_has_no_macro_arg : (e : ExtractorDefinition) (all rest : List Placed) → SpellsExtractor e all rest → extractor_has_macro_arg e ≡ false
spelt_extractor_has_no_macro_arg e all rest s = writable_extractor_has_no_macro_arg e (extractor-spelt e all rest s)
