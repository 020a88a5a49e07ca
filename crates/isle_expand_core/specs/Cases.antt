-- What a term expands to, by whether its symbol means a macro.
use Rattle.std.specs.Prelude.{◌≡◌, ℕ, List, Some, length}
use Rattle.isle_base_source.specs.declared.pos.Pos.{Pos}
use Rattle.isle_ast_names.specs.Tree.{Name}
use Rattle.isle_ast_rules.specs.Tree.{PatternNode, term_pattern, PatternList}
use Rattle.isle_ast_rules.specs.Templates.{plug}
use Rattle.isle_ast.specs.Tree.{Definition}
use Rattle.isle_expand_core.specs.Macros.{MacroNode, macros_in}
use Rattle.isle_expand_core.specs.Expansion.{Expands, expand_list, known, list_list}

-- by the extractors among the definitions, the patterns ps expand to qs
abbrev pub ExpandList : List Definition → PatternList → PatternList → Type 0
ExpandList ds ps qs = (depth : ℕ) × (expand_list ps (known depth (macros_in ds)) ≡ Some qs)

-- a use: the arguments expand, as many as the macro has parameters, the template expands, and q is
-- that with these arguments in their places
pub record UseExpands (ds : List Definition) (m : MacroNode) (args : PatternList) (q : PatternNode)
    : Type 0 where
  pub list : PatternList
  pub template : PatternNode
  pub arguments : ExpandList ds args list
  pub count : length (list_list list) ≡ m.arity
  pub body : Expands ds m.template template
  pub whole : plug template (list_list list) ≡ Some q

-- a term that is no use: the arguments expand, and q is the term with these
pub record TermExpands (ds : List Definition) (term : Name) (args : PatternList) (place : Pos)
    (q : PatternNode) : Type 0 where
  pub list : PatternList
  pub arguments : ExpandList ds args list
  pub whole : q ≡ term_pattern term list place
