-- Macro templates: the places of a pattern that macro arguments replace, and the substitution of
-- patterns for the arguments. A place is a variable `x`, or `x @ _`.
use Rattle.std.specs.Prelude.{ℕ, ◌+◌, List, [], ◌∷◌, ◌++◌, Bool, true, false, Option, None, Some, option_map, length, slice_get, nat_le, if◌then◌else◌}
use Rattle.std.specs.List.{list_any}
use Rattle.std.specs.Str.{bytes_eq}
use Rattle.isle_base_source.specs.declared.pos.Pos.{Pos}
use Rattle.isle_ast_names.specs.Tree.{Name}
use Rattle.isle_ast_rules.specs.Tree.{PatternNode, var_pattern, bind_pattern, bool_pattern, int_pattern, constant_pattern, term_pattern, wildcard_pattern, and_pattern, macro_arg_pattern, PatternList, no_pattern, more_pattern}

-- the index of the first name with this text, if the first name has the index `i`
abbrev pub first_from : ℕ → List ℕ → List Name → Option ℕ
first_from i text [] = None
first_from i text (name ∷ names) = if bytes_eq name.text text then Some i else first_from (i + 1) text names

-- the index of the first name with this text, counted from 0
abbrev pub first_index : List ℕ → List Name → Option ℕ
first_index text names = first_from 0 text names

-- whether a pattern is `_`
abbrev pub is_wildcard : PatternNode → Bool
is_wildcard (var_pattern _ _) = false
is_wildcard (bind_pattern _ _ _) = false
is_wildcard (bool_pattern _ _) = false
is_wildcard (int_pattern _ _) = false
is_wildcard (constant_pattern _ _) = false
is_wildcard (term_pattern _ _ _) = false
is_wildcard (wildcard_pattern _) = true
is_wildcard (and_pattern _ _) = false
is_wildcard (macro_arg_pattern _ _) = false

-- the index of the argument that replaces `x @ p`: none unless `p` is `_`
abbrev pub bound_index : List ℕ → PatternNode → List Name → Option ℕ
bound_index text subpat names = if is_wildcard subpat then first_index text names else None

-- `new` of the index, if there is one, and else the old value
abbrev pub put : {A : Type 0} → Option ℕ → (ℕ → A) → A → A
put None new old = old
put (Some i) new old = new i

-- each place with one of the names becomes `new` of the index of the first such name and the
-- position of the place, all at once; everything else stays
abbrev mutual
  pub replace : PatternNode → List Name → (ℕ → Pos → PatternNode) → PatternNode
  replace (var_pattern var place) names new =
      put (first_index var.text names) (λ i. new i place) (var_pattern var place)
  replace (bind_pattern var subpat place) names new =
      put (bound_index var.text subpat names) (λ i. new i place) (bind_pattern var (replace subpat names new) place)
  replace (bool_pattern val place) names new = bool_pattern val place
  replace (int_pattern val place) names new = int_pattern val place
  replace (constant_pattern val place) names new = constant_pattern val place
  replace (term_pattern sym args place) names new = term_pattern sym (replace_list args names new) place
  replace (wildcard_pattern place) names new = wildcard_pattern place
  replace (and_pattern subpats place) names new = and_pattern (replace_list subpats names new) place
  replace (macro_arg_pattern index place) names new = macro_arg_pattern index place

  pub replace_list : PatternList → List Name → (ℕ → Pos → PatternNode) → PatternList
  replace_list no_pattern names new = no_pattern
  replace_list (more_pattern p ps) names new = more_pattern (replace p names new) (replace_list ps names new)

-- a pattern before a list of patterns, if both are given
abbrev pub join : Option PatternNode → Option PatternList → Option PatternList
join None list = None
join (Some p) None = None
join (Some p) (Some ps) = Some (more_pattern p ps)

-- as `replace`, but none if the replacement of a place is missing
abbrev mutual
  pub replace_by : PatternNode → List Name → (ℕ → Pos → Option PatternNode) → Option PatternNode
  replace_by (var_pattern var place) names new =
      put (first_index var.text names) (λ i. new i place) (Some (var_pattern var place))
  replace_by (bind_pattern var subpat place) names new =
      put (bound_index var.text subpat names) (λ i. new i place) (option_map (λ p. bind_pattern var p place) (replace_by subpat names new))
  replace_by (bool_pattern val place) names new = Some (bool_pattern val place)
  replace_by (int_pattern val place) names new = Some (int_pattern val place)
  replace_by (constant_pattern val place) names new = Some (constant_pattern val place)
  replace_by (term_pattern sym args place) names new =
      option_map (λ ps. term_pattern sym ps place) (replace_list_by args names new)
  replace_by (wildcard_pattern place) names new = Some (wildcard_pattern place)
  replace_by (and_pattern subpats place) names new = option_map (λ ps. and_pattern ps place) (replace_list_by subpats names new)
  replace_by (macro_arg_pattern index place) names new = Some (macro_arg_pattern index place)

  pub replace_list_by : PatternList → List Name → (ℕ → Pos → Option PatternNode) → Option PatternList
  replace_list_by no_pattern names new = Some no_pattern
  replace_list_by (more_pattern p ps) names new = join (replace_by p names new) (replace_list_by ps names new)

-- each macro argument becomes the pattern at its index, all at once; none if there is no pattern at
-- one of the indices. Substituted patterns are not searched again
abbrev mutual
  pub plug : PatternNode → List PatternNode → Option PatternNode
  plug (var_pattern var place) args = Some (var_pattern var place)
  plug (bind_pattern var subpat place) args = option_map (λ p. bind_pattern var p place) (plug subpat args)
  plug (bool_pattern val place) args = Some (bool_pattern val place)
  plug (int_pattern val place) args = Some (int_pattern val place)
  plug (constant_pattern val place) args = Some (constant_pattern val place)
  plug (term_pattern sym parts place) args = option_map (λ ps. term_pattern sym ps place) (plug_list parts args)
  plug (wildcard_pattern place) args = Some (wildcard_pattern place)
  plug (and_pattern subpats place) args = option_map (λ ps. and_pattern ps place) (plug_list subpats args)
  plug (macro_arg_pattern index _) args = slice_get args index

  pub plug_list : PatternList → List PatternNode → Option PatternList
  plug_list no_pattern args = Some no_pattern
  plug_list (more_pattern p ps) args = join (plug p args) (plug_list ps args)

-- the indices of the macro arguments in a pattern, from left to right
abbrev mutual
  pub indices : PatternNode → List ℕ
  indices (var_pattern _ _) = []
  indices (bind_pattern _ subpat _) = indices subpat
  indices (bool_pattern _ _) = []
  indices (int_pattern _ _) = []
  indices (constant_pattern _ _) = []
  indices (term_pattern _ args _) = list_indices args
  indices (wildcard_pattern _) = []
  indices (and_pattern subpats _) = list_indices subpats
  indices (macro_arg_pattern index _) = index ∷ []

  pub list_indices : PatternList → List ℕ
  list_indices no_pattern = []
  list_indices (more_pattern p ps) = indices p ++ list_indices ps

-- whether one of the indices has no pattern
abbrev pub lacks : List PatternNode → List ℕ → Bool
lacks args is = list_any (λ i. nat_le (length args) i) is
