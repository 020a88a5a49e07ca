-- The parts of rules that are, or contain, a macro argument, which has no syntax and is never
-- printed.
use Rattle.std.specs.Prelude.{Bool, true, false, ◌||◌}
use Rattle.std.specs.List.{list_any}
use Rattle.isle_ast_rules.specs.Tree.{PatternNode, var_pattern, bind_pattern, bool_pattern, int_pattern, constant_pattern, term_pattern, wildcard_pattern, and_pattern, macro_arg_pattern, PatternList, no_pattern, more_pattern, Condition, RuleDefinition, ExtractorDefinition}

abbrev mutual
  pub has_macro_arg : PatternNode → Bool
  has_macro_arg (var_pattern _ _) = false
  has_macro_arg (bind_pattern _ subpat _) = has_macro_arg subpat
  has_macro_arg (bool_pattern _ _) = false
  has_macro_arg (int_pattern _ _) = false
  has_macro_arg (constant_pattern _ _) = false
  has_macro_arg (term_pattern _ args _) = have_macro_arg args
  has_macro_arg (wildcard_pattern _) = false
  has_macro_arg (and_pattern subpats _) = have_macro_arg subpats
  has_macro_arg (macro_arg_pattern _ _) = true

  pub have_macro_arg : PatternList → Bool
  have_macro_arg no_pattern = false
  have_macro_arg (more_pattern p ps) = has_macro_arg p || have_macro_arg ps

abbrev pub condition_has_macro_arg : Condition → Bool
condition_has_macro_arg c = has_macro_arg c.pattern

abbrev pub rule_has_macro_arg : RuleDefinition → Bool
rule_has_macro_arg r = has_macro_arg r.pattern || list_any condition_has_macro_arg r.iflets

abbrev pub extractor_has_macro_arg : ExtractorDefinition → Bool
extractor_has_macro_arg e = has_macro_arg e.template
