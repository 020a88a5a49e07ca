-- Each relation of models of types and of specs is by parts.
use Rattle.std.proofs.Common.{sym, subst}
use Rattle.isle_ast_verification.specs.Tree.{TypeModel, SpecNode, SpecDefinition, SpecMacroDefinition, StateDefinition}
use Rattle.isle_ast_verification.specs.TypeModelGrammar.{SpellsTypeModel}
use Rattle.isle_ast_names.specs.Parts.{IsByParts}
use Rattle.isle_ast_verification.specs.SpecDefinitionGrammar.{SpellsSpecDefinition, SpellsSpecMacro, SpellsState}
use Rattle.isle_ast_verification.specs.SpecGrammar.{SpellsSpec}
use Rattle.isle_ast_verification.proofs.Lawful.Models.{model_lawful}
use Rattle.isle_ast_verification.proofs.Lawful.SpecDefinitions.{spec_definition_cuts, spec_macro_lawful, state_lawful}
use Rattle.isle_ast_verification.proofs.Lawful.Specs.{spec_lawful}
use Rattle.isle_ast_names.proofs.Parts.{by_parts}

pub type_models_by_parts : (t : TypeModel) → IsByParts (SpellsTypeModel t)
type_models_by_parts t = by_parts SpellsTypeModel _ t (model_lawful t)

pub specs_by_parts : (x : SpecNode) → IsByParts (SpellsSpec x)
specs_by_parts x = by_parts SpellsSpec _ x (spec_lawful x)

pub spec_definitions_by_parts : (s : SpecDefinition) → IsByParts (SpellsSpecDefinition s)
spec_definitions_by_parts s all rest =
    (spec_definition_cuts s all rest, λ h. subst (λ xs. SpellsSpecDefinition s xs rest) (sym h.1) (h.2 rest))

pub spec_macros_by_parts : (m : SpecMacroDefinition) → IsByParts (SpellsSpecMacro m)
spec_macros_by_parts m = by_parts SpellsSpecMacro _ m (spec_macro_lawful m)

pub states_by_parts : (s : StateDefinition) → IsByParts (SpellsState s)
states_by_parts s = by_parts SpellsState _ s (state_lawful s)
