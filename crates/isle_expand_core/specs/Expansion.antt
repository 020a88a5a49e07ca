-- The expansion of patterns: each use of a macro is replaced by what it stands for.
use Rattle.std.specs.Prelude.{◌≡◌, ℕ, zero, suc, List, [], ◌∷◌, Option, None, Some, option_map, option_and_then, length, map, ◌==◌, if◌then◌else◌}
use Rattle.isle_base_source.specs.declared.pos.Pos.{Pos}
use Rattle.isle_ast_names.specs.Tree.{Name}
use Rattle.isle_ast_rules.specs.Tree.{PatternNode, var_pattern, bind_pattern, bool_pattern, int_pattern, constant_pattern, term_pattern, wildcard_pattern, and_pattern, macro_arg_pattern, PatternList, no_pattern, more_pattern}
use Rattle.isle_ast_rules.specs.Templates.{join, plug}
use Rattle.isle_ast.specs.Tree.{Definition}
use Rattle.isle_expand_core.specs.Macros.{MacroNode, macros_in, meant}

abbrev pub list_list : PatternList → List PatternNode
list_list no_pattern = []
list_list (more_pattern p ps) = p ∷ list_list ps

-- what a macro stands for with these arguments: its expansion, if that is known, with the arguments
-- in their places. None if the macro takes another number of them
abbrev pub filled : MacroNode → List PatternNode → Option PatternNode
filled m args =
    if length args == m.arity then option_and_then (λ t. plug t args) m.expansion else None

-- a term whose arguments are expanded: a use, if its symbol means a macro
abbrev pub expand_use : Name → Pos → Option MacroNode → PatternList → Option PatternNode
expand_use term place None args = Some (term_pattern term args place)
expand_use term place (Some m) args = filled m (list_list args)

-- a pattern with its uses expanded by what is known of the macros; none if one can't be
abbrev mutual
  pub expand : PatternNode → List MacroNode → Option PatternNode
  expand (var_pattern var place) ms = Some (var_pattern var place)
  expand (bind_pattern var subpat place) ms =
      option_map (λ p. bind_pattern var p place) (expand subpat ms)
  expand (bool_pattern val place) ms = Some (bool_pattern val place)
  expand (int_pattern val place) ms = Some (int_pattern val place)
  expand (constant_pattern val place) ms = Some (constant_pattern val place)
  expand (term_pattern term args place) ms =
      option_and_then (expand_use term place (meant term.text ms)) (expand_list args ms)
  expand (wildcard_pattern place) ms = Some (wildcard_pattern place)
  expand (and_pattern subpats place) ms =
      option_map (λ ps. and_pattern ps place) (expand_list subpats ms)
  expand (macro_arg_pattern index place) ms = Some (macro_arg_pattern index place)

  pub expand_list : PatternList → List MacroNode → Option PatternList
  expand_list no_pattern ms = Some no_pattern
  expand_list (more_pattern p ps) ms = join (expand p ms) (expand_list ps ms)

-- a macro, with its template expanded by what is known of the macros
abbrev pub expanded_by : List MacroNode → MacroNode → MacroNode
expanded_by ms m = record { term = m.term; arity = m.arity; template = m.template; expansion = expand m.template ms }

-- what is known of macros where uses in templates are expanded, and those in the templates of these,
-- and so on, as deep as the number says
abbrev pub known : ℕ → List MacroNode → List MacroNode
known zero ms = ms
known (suc depth) ms = map (expanded_by (known depth ms)) ms

-- by the extractors among the definitions, p expands to q
abbrev pub Expands : List Definition → PatternNode → PatternNode → Type 0
Expands ds p q = (depth : ℕ) × (expand p (known depth (macros_in ds)) ≡ Some q)
