-- The variables of patterns, once for each occurrence. The first one of a name binds it, and every later one uses it.
use Rattle.std.specs.Prelude.{List, [], ◌++◌, true}
use Rattle.std.specs.List.{flat_map}
use Rattle.isle_ast_names.specs.Tree.{Name}
use Rattle.isle_ast_rules.specs.Tree.{PatternNode, var_pattern, bind_pattern, bool_pattern, int_pattern, constant_pattern, term_pattern, wildcard_pattern, and_pattern, macro_arg_pattern, PatternList, no_pattern, more_pattern, Condition, RuleDefinition}
use Rattle.isle_lint_core.specs.Names.{kept_if}
use Rattle.isle_lint_core.specs.declared.patterns.Wanted.{Wanted}

-- all variables are wanted: those that stand alone, and those before an `@`
abbrev pub all : Wanted
all = record { alone = true; bindings = true }

abbrev mutual
  pub variables : Wanted → PatternNode → List Name
  variables w (var_pattern var _) = kept_if w.alone var
  variables w (bind_pattern var subpat _) = kept_if w.bindings var ++ variables w subpat
  variables w (bool_pattern _ _) = []
  variables w (int_pattern _ _) = []
  variables w (constant_pattern _ _) = []
  variables w (term_pattern _ args _) = list_variables w args
  variables w (wildcard_pattern _) = []
  variables w (and_pattern subpats _) = list_variables w subpats
  variables w (macro_arg_pattern _ _) = []

  pub list_variables : Wanted → PatternList → List Name
  list_variables w no_pattern = []
  list_variables w (more_pattern p ps) = variables w p ++ list_variables w ps

abbrev pub condition_variables : List Condition → List Name
condition_variables cs = flat_map (λ c. variables all c.pattern) cs

-- those of all patterns of a rule
abbrev pub rule_variables : RuleDefinition → List Name
rule_variables r = variables all r.pattern ++ condition_variables r.iflets
