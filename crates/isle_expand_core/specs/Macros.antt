-- Extractors as macros of patterns.
use Rattle.std.specs.Prelude.{ℕ, List, [], ◌∷◌, Option, None, Some, length, map, if◌then◌else◌}
use Rattle.std.specs.List.{filter_map}
use Rattle.std.specs.Str.{bytes_eq}
use Rattle.isle_ast_names.specs.Tree.{Name}
use Rattle.isle_ast_rules.specs.Tree.{PatternNode, macro_arg_pattern, ExtractorDefinition}
use Rattle.isle_ast_rules.specs.Templates.{first_index, replace}
use Rattle.isle_ast.specs.Tree.{Definition, extractor}

-- a macro: the term that it defines, how many parameters it has, its template with arguments of a
-- macro in the places of the parameters, and its template expanded, if that is known
pub record MacroNode : Type 0 where
  pub term : Name
  pub arity : ℕ
  pub template : PatternNode
  pub expansion : Option PatternNode

abbrev pub template_of : ExtractorDefinition → PatternNode
template_of e = replace e.template e.args macro_arg_pattern

-- the macro of an extractor, whose expansion isn't known yet
abbrev pub macro_in : Definition → Option MacroNode
macro_in (extractor e) = Some (record { term = e.term; arity = length e.args; template = template_of e; expansion = None })
macro_in _ = None

-- those of the extractors among definitions, in order
abbrev pub macros_in : List Definition → List MacroNode
macros_in ds = filter_map macro_in ds

-- the macro that a symbol means: the first of that name
abbrev pub meant : List ℕ → List MacroNode → Option MacroNode
meant text [] = None
meant text (m ∷ ms) = if bytes_eq m.term.text text then Some m else meant text ms

-- its place among the macros, counted from 0
abbrev pub place_of : List ℕ → List MacroNode → Option ℕ
place_of text ms = first_index text (map (λ m. m.term) ms)
