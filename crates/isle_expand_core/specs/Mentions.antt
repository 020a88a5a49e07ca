-- Where extractors are given and used, in the order of the definitions and of their places.
use Rattle.std.specs.Prelude.{ℕ, ◌+◌, List, [], ◌∷◌, ◌++◌, length, map}
use Rattle.std.specs.List.{flat_map}
use Rattle.isle_base_source.specs.declared.pos.Pos.{Pos}
use Rattle.isle_ast_names.specs.Tree.{Name}
use Rattle.isle_ast_rules.specs.Tree.{PatternNode, var_pattern, bind_pattern, bool_pattern, int_pattern, constant_pattern, term_pattern, wildcard_pattern, and_pattern, macro_arg_pattern, PatternList, no_pattern, more_pattern, RuleDefinition}
use Rattle.isle_ast.specs.Tree.{Definition, rule, extractor}
use Rattle.isle_expand_core.specs.Macros.{template_of}
use Rattle.isle_expand_core.specs.Expansion.{list_list}

-- a term in a pattern: its symbol, how many arguments it has, and its position
pub record TermUse : Type 0 where
  pub term : Name
  pub given : ℕ
  pub pos : Pos

-- the terms of a pattern, in the order in which they are written
abbrev mutual
  pub uses : PatternNode → List TermUse
  uses (var_pattern _ _) = []
  uses (bind_pattern _ subpat _) = uses subpat
  uses (bool_pattern _ _) = []
  uses (int_pattern _ _) = []
  uses (constant_pattern _ _) = []
  uses (term_pattern term args place) =
      record { term = term; given = length (list_list args); pos = place } ∷ list_uses args
  uses (wildcard_pattern _) = []
  uses (and_pattern subpats _) = list_uses subpats
  uses (macro_arg_pattern _ _) = []

  pub list_uses : PatternList → List TermUse
  list_uses no_pattern = []
  list_uses (more_pattern p ps) = uses p ++ list_uses ps

-- those beneath the root of a rule, if that is a term
abbrev pub root_uses : PatternNode → List TermUse
root_uses (term_pattern term args place) = list_uses args
root_uses p = []

abbrev pub rule_uses : RuleDefinition → List TermUse
rule_uses r = root_uses r.pattern ++ flat_map (λ c. uses c.pattern) r.iflets

-- an extractor that is given, with its place among the extractors, counted from 0; or a use
pub data Mention : Type 0 where
  given_mention : (term : Name) → (place : ℕ) → Pos → Mention
  use_mention : TermUse → Mention

-- the mentions in a definition; if that is an extractor, it has this place
abbrev pub definition_mentions : ℕ → Definition → List Mention
definition_mentions place (rule r) = map use_mention (rule_uses r)
definition_mentions place (extractor e) = given_mention e.term place e.pos ∷ map use_mention (uses (template_of e))
definition_mentions place d = []

-- the place of the next extractor
abbrev pub place_after : ℕ → Definition → ℕ
place_after place (extractor e) = place + 1
place_after place d = place

-- the mentions in definitions, the first extractor among which has this place
abbrev pub mentions : ℕ → List Definition → List Mention
mentions place [] = []
mentions place (d ∷ ds) = definition_mentions place d ++ mentions (place_after place d) ds
