-- How deep the patterns of an expansion may be nested: what is counted is never less than the terms, `@` and `and` that are in one another.
use Rattle.std.specs.Prelude.{◌≡◌, ℕ, ◌+◌, List, [], ◌∷◌, Bool, Option, None, Some, get_or, length, map, max, min, nat_lt, slice_get, slice_set, if◌then◌else◌}
use Rattle.isle_base_source.specs.declared.pos.Pos.{Pos}
use Rattle.isle_ast.specs.Tree.{Definition, rule, extractor}
use Rattle.isle_ast_names.specs.Tree.{Name}
use Rattle.isle_ast_rules.specs.Tree.{PatternNode, var_pattern, bind_pattern, bool_pattern, int_pattern, constant_pattern, term_pattern, wildcard_pattern, and_pattern, macro_arg_pattern, PatternList, no_pattern, more_pattern, Condition, RuleDefinition}
use Rattle.isle_expand_core.specs.Macros.{MacroNode, macros_in, place_of}
use Rattle.isle_expand_core.specs.Order.{IsClosed, IsOrder, callees_in}
use Rattle.isle_expand_warnings.specs.First.{first}

-- how many may be in one another
abbrev pub most : ℕ
most = 500

-- all numbers that are too great count as the least of them
abbrev pub capped : ℕ → ℕ
capped n = min n (most + 1)

-- how far the arguments of a term are beneath it: one, or, for the macro at a place, as far as its expansion reaches
abbrev pub step : List ℕ → Option ℕ → ℕ
step reaches None = 1
step reaches (Some place) = get_or reaches place 0

-- how deep the expansion of a pattern reaches, by how deep those of the macros do; of patterns the greatest, and of this number
abbrev mutual
  pub reach : PatternNode → List MacroNode → List ℕ → ℕ
  reach (var_pattern _ _) ms reaches = 0
  reach (bind_pattern _ subpat _) ms reaches = capped (1 + reach subpat ms reaches)
  reach (bool_pattern _ _) ms reaches = 0
  reach (int_pattern _ _) ms reaches = 0
  reach (constant_pattern _ _) ms reaches = 0
  reach (term_pattern term args _) ms reaches = capped (step reaches (place_of term.text ms) + list_reach args 0 ms reaches)
  reach (wildcard_pattern _) ms reaches = 0
  reach (and_pattern subpats _) ms reaches = capped (1 + list_reach subpats 0 ms reaches)
  reach (macro_arg_pattern _ _) ms reaches = 0

  pub list_reach : PatternList → ℕ → List MacroNode → List ℕ → ℕ
  list_reach no_pattern deepest ms reaches = deepest
  list_reach (more_pattern p ps) deepest ms reaches = list_reach ps (max deepest (reach p ms reaches)) ms reaches

-- the patterns of a rule beneath its root, if that is a term, and those of its conditions
abbrev pub root_reach : PatternNode → List MacroNode → List ℕ → ℕ
root_reach (term_pattern term args place) ms reaches = list_reach args 0 ms reaches
root_reach p ms reaches = 0

abbrev pub conditions_reach : List Condition → ℕ → List MacroNode → List ℕ → ℕ
conditions_reach [] deepest ms reaches = deepest
conditions_reach (c ∷ cs) deepest ms reaches = conditions_reach cs (max deepest (reach c.pattern ms reaches)) ms reaches

abbrev pub rule_reach : RuleDefinition → List MacroNode → List ℕ → ℕ
rule_reach r ms reaches = conditions_reach r.iflets (root_reach r.pattern ms reaches) ms reaches

-- what is known of the macros once it is found out how deep the one at a place reaches
abbrev pub settled_by : Option MacroNode → ℕ → List MacroNode → List ℕ → List ℕ
settled_by None place ms reaches = reaches
settled_by (Some m) place ms reaches = slice_set reaches place (reach m.template ms reaches)

-- the same of those at places in order
abbrev pub settled : List ℕ → List MacroNode → List ℕ → List ℕ
settled [] ms reaches = reaches
settled (place ∷ places) ms reaches = settled places ms (settled_by (slice_get ms place) place ms reaches)

-- how deep the macros reach, found out in an order in which each comes after those that it uses; none, if it comes back to itself
pub record AreReaches (ms : List MacroNode) (reaches : List ℕ) : Type 0 where
  pub ends : List Bool
  pub places : List ℕ
  pub in_order : IsOrder (callees_in ms) ends places
  pub all : IsClosed (callees_in ms) ends (length ms)
  pub are : reaches ≡ settled places ms (map (λ _. 0) ms)

-- the position of a definition with a pattern that reaches too deep
abbrev pub deep_at : List MacroNode → List ℕ → Definition → Option Pos
deep_at ms reaches (rule r) = if nat_lt most (rule_reach r ms reaches) then Some r.pos else None
deep_at ms reaches (extractor e) = if nat_lt most (reach e.template ms reaches) then Some e.pos else None
deep_at ms reaches d = None

-- this is the first definition of which that is so
pub record IsFirstDeep (ds : List Definition) (found : Option Pos) : Type 0 where
  pub reaches : List ℕ
  pub are : AreReaches (macros_in ds) reaches
  pub is : found ≡ first (deep_at (macros_in ds) reaches) ds
