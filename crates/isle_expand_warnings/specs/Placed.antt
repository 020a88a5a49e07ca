-- The terms of patterns, each with what says which type is wanted at its place.
use Rattle.std.specs.Prelude.{ℕ, ◌+◌, List, [], ◌∷◌, ◌++◌, map}
use Rattle.std.specs.List.{flat_map}
use Rattle.isle_ast_names.specs.Tree.{Name}
use Rattle.isle_ast_names.specs.TreeView.{name_of}
use Rattle.isle_ast_rules.specs.Tree.{PatternNode, var_pattern, bind_pattern, bool_pattern, int_pattern, constant_pattern, term_pattern, wildcard_pattern, and_pattern, macro_arg_pattern, PatternList, no_pattern, more_pattern, Expression, term_expression, Condition, RuleDefinition}
use Rattle.isle_ast.specs.Tree.{Definition, rule, extractor}
use Rattle.isle_expand_warnings.specs.declared.placed.Placed.{Placed}
use Rattle.isle_expand_warnings.specs.declared.placed.Wanted as declared
use Rattle.isle_expand_warnings.specs.declared.placed.Wanted.TheVariants as wanted

-- nothing says it; or the term does of which this is the argument of a number, counted from 0; or the term whose value
-- is matched
pub data Wanted : Type 0 where
  unsaid : Wanted
  argument : (term : List ℕ) → (number : ℕ) → Wanted
  value : (term : List ℕ) → Wanted

pub record PlacedTerm : Type 0 where
  pub term : Name
  pub wanted : Wanted

-- the terms of a pattern, in the order in which they are written; a binding and a conjunction pass on what is wanted
abbrev mutual
  pub placed : Wanted → PatternNode → List PlacedTerm
  placed w (var_pattern _ _) = []
  placed w (bind_pattern _ subpat _) = placed w subpat
  placed w (bool_pattern _ _) = []
  placed w (int_pattern _ _) = []
  placed w (constant_pattern _ _) = []
  placed w (term_pattern term args _) = (record { term = term; wanted = w } ∷ []) ++ arguments_placed term.text 0 args
  placed w (wildcard_pattern _) = []
  placed w (and_pattern subpats _) = each_placed w subpats
  placed w (macro_arg_pattern _ _) = []

  -- those of patterns of each of which the same is wanted
  pub each_placed : Wanted → PatternList → List PlacedTerm
  each_placed w no_pattern = []
  each_placed w (more_pattern p ps) = placed w p ++ each_placed w ps

  -- those of the arguments of a term, from this number on
  pub arguments_placed : (term : List ℕ) → (number : ℕ) → PatternList → List PlacedTerm
  arguments_placed term number no_pattern = []
  arguments_placed term number (more_pattern p ps) = placed (argument term number) p ++ arguments_placed term (number + 1) ps

-- those beneath the root of a rule, if that is a term
abbrev pub root_placed : PatternNode → List PlacedTerm
root_placed (term_pattern term args _) = arguments_placed term.text 0 args
root_placed p = []

-- what an expression says of the pattern that its value is matched with
abbrev pub wanted_by : Expression → Wanted
wanted_by (term_expression term _ _) = value term.text
wanted_by x = unsaid

abbrev pub condition_placed : Condition → List PlacedTerm
condition_placed c = placed (wanted_by c.expr) c.pattern

abbrev pub rule_placed : RuleDefinition → List PlacedTerm
rule_placed r = root_placed r.pattern ++ flat_map condition_placed r.iflets

-- those of a definition; nothing says which type is wanted of the template of an extractor, which is put in at each use
abbrev pub placed_in : Definition → List PlacedTerm
placed_in (rule r) = rule_placed r
placed_in (extractor e) = placed unsaid e.template
placed_in d = []

-- those of the code
abbrev pub wanted_of : declared.Wanted → Wanted
wanted_of wanted.Unsaid = unsaid
wanted_of (wanted.Argument term number) = argument (name_of term.now).text number
wanted_of (wanted.Value term) = value (name_of term.now).text

abbrev pub placed_of : Placed → PlacedTerm
placed_of p = record { term = name_of p.term.now; wanted = wanted_of p.wanted }

abbrev pub all_placed : List Placed → List PlacedTerm
all_placed ps = map placed_of ps
