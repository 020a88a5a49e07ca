-- The grammar of ISLE: the tokens that spell each definition. Each relation goes from the remaining
-- tokens, `all`, to the tokens after the spelling, `rest`: `all` begins with a spelling of the
-- node, and `rest` follows.
use Rattle.std.specs.Prelude.{[], List, codes}
use Rattle.isle_base.specs.Place.{Placed}
use Rattle.isle_ast.specs.Tree.{Definition, type_def, rule, extractor, decl, attr, spec, spec_macro, model, state, form, instantiation, external, converter}
use Rattle.isle_ast_names.specs.Words.{SpellsAll, InForm}
use Rattle.isle_ast.specs.ModelGrammar.{SpellsForm, SpellsInstantiation, SpellsModel}
use Rattle.isle_ast_rules.specs.RuleGrammar.{SpellsRule, SpellsExtractor}
use Rattle.isle_ast_verification.specs.SpecDefinitionGrammar.{SpellsSpecDefinition, SpellsSpecMacro, SpellsState}
use Rattle.isle_ast.specs.TermGrammar.{SpellsDeclaration, SpellsAttribute, SpellsExtern, SpellsConversion}
use Rattle.isle_ast.specs.TypeGrammar.{SpellsTypeDefinition}

-- Each kind by its keyword. Pragmas have no syntax.
abbrev pub SpellsDefinition : Definition → List Placed → List Placed → Type 0
SpellsDefinition (type_def t) = InForm (codes "type") (SpellsTypeDefinition t)
SpellsDefinition (rule r) = InForm (codes "rule") (SpellsRule r)
SpellsDefinition (extractor e) = InForm (codes "extractor") (SpellsExtractor e)
SpellsDefinition (decl d) = InForm (codes "decl") (SpellsDeclaration d)
SpellsDefinition (attr a) = InForm (codes "attr") (SpellsAttribute a)
SpellsDefinition (spec s) = InForm (codes "spec") (SpellsSpecDefinition s)
SpellsDefinition (spec_macro m) = InForm (codes "macro") (SpellsSpecMacro m)
SpellsDefinition (model m) = InForm (codes "model") (SpellsModel m)
SpellsDefinition (state s) = InForm (codes "state") (SpellsState s)
SpellsDefinition (form f) = InForm (codes "form") (SpellsForm f)
SpellsDefinition (instantiation i) = InForm (codes "instantiate") (SpellsInstantiation i)
SpellsDefinition (external e) = InForm (codes "extern") (SpellsExtern e)
SpellsDefinition (converter c) = InForm (codes "convert") (SpellsConversion c)

-- the definitions, and nothing else
abbrev pub SpellsDefinitions : List Definition → List Placed → Type 0
SpellsDefinitions ds all = SpellsAll SpellsDefinition ds all []
