-- What it says of a program that an internal extractor uses itself.
use Rattle.std.specs.Prelude.{◌≡◌, List, [], ◌∷◌, ◌++◌, Contains}
use Rattle.isle_base_source.specs.declared.pos.Pos.{Pos}
use Rattle.isle_ast_names.specs.Tree.{Name}
use Rattle.isle_ast_rules.specs.Roots.{pattern_pos}
use Rattle.isle_ast_rules.specs.Templates.{replace}
use Rattle.isle_ast_rules.specs.TermHeads.{heads}
use Rattle.isle_ast_rules.specs.Tree.{ExtractorDefinition, PatternNode, macro_arg_pattern}
use Rattle.isle_ast.specs.Tree.{Declaration, Definition}
use Rattle.isle_check_environment.specs.Parts.{decls_in, extractors_in}

-- each element has R to the one behind it
abbrev pub AreLinked : {X : Type 0} → (X → X → Type 0) → List X → Type 0
AreLinked R [] = Unit {0}
AreLinked R (x ∷ []) = Unit {0}
AreLinked R (x ∷ y ∷ xs) = R x y × AreLinked R (y ∷ xs)

-- the template of an extractor, without its parameters
abbrev pub template_of : ExtractorDefinition → PatternNode
template_of x = replace x.template x.args macro_arg_pattern

-- a declared term has an extractor with this template
abbrev pub HasTemplate : List Definition → Name → PatternNode → Type 0
HasTemplate ds term template =
    (d : Declaration) × (x : ExtractorDefinition) × Contains (decls_in ds) d × (d.term ≡ term) × Contains (extractors_in ds) x
    × (x.term.text ≡ term.text) × (template_of x ≡ template)

-- the template of the one term names the other one
abbrev pub UsesTerm : List Definition → (term used : Name) → Type 0
UsesTerm ds term used =
    (template : PatternNode) × (place : Pos) × (name : Name) × HasTemplate ds term template × Contains (heads template) (place, name)
    × (name.text ≡ used.text)

-- each term of the path uses the next one, the last one comes twice, and the position is that of its template
pub record IsBrokenRecursion (ds : List Definition) (path : List Name) (pos : Pos) : Type 0 where
  pub front : List Name
  pub last : Name
  pub template : PatternNode
  pub ends : path ≡ front ++ last ∷ []
  pub linked : AreLinked (UsesTerm ds) path
  pub again : Contains front last
  pub has_template : HasTemplate ds last template
  pub at_template : pos ≡ pattern_pos template
