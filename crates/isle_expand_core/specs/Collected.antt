-- The terms of a pattern behind those that were collected before.
use Rattle.std.specs.Prelude.{List, [], ◌∷◌, ◌++◌, length}
use Rattle.isle_base_source.specs.declared.pos.Pos.{Pos}
use Rattle.isle_ast_names.specs.Tree.{Name}
use Rattle.isle_ast_rules.specs.Tree.{PatternNode, var_pattern, bind_pattern, bool_pattern, int_pattern, constant_pattern, term_pattern, wildcard_pattern, and_pattern, macro_arg_pattern, PatternList, no_pattern, more_pattern}
use Rattle.isle_expand_core.specs.Expansion.{list_list}
use Rattle.isle_expand_core.specs.Mentions.{TermUse}

abbrev pub with_term : List TermUse → Name → PatternList → Pos → List TermUse
with_term us term args place = us ++ (record { term = term; given = length (list_list args); pos = place } ∷ [])

abbrev mutual
  pub collected : PatternNode → List TermUse → List TermUse
  collected (var_pattern _ _) us = us
  collected (bind_pattern _ subpat _) us = collected subpat us
  collected (bool_pattern _ _) us = us
  collected (int_pattern _ _) us = us
  collected (constant_pattern _ _) us = us
  collected (term_pattern term args place) us = list_collected args (with_term us term args place)
  collected (wildcard_pattern _) us = us
  collected (and_pattern subpats _) us = list_collected subpats us
  collected (macro_arg_pattern _ _) us = us

  pub list_collected : PatternList → List TermUse → List TermUse
  list_collected no_pattern us = us
  list_collected (more_pattern p ps) us = list_collected ps (collected p us)

abbrev pub root_collected : PatternNode → List TermUse → List TermUse
root_collected (term_pattern term args place) us = list_collected args us
root_collected p us = us
