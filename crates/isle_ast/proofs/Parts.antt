-- Each relation of definitions is by parts, and their laws together.
use Rattle.std.proofs.Common.{[], ◌↔◌, List, ◌∷◌, map, sym, subst}
use Rattle.isle_base.specs.Place.{Placed}
use Rattle.isle_ast_names.specs.Tree.{Name}
use Rattle.isle_ast.specs.Tree.{Declaration, Conversion, TypeDefinition, Attribute, FormDefinition, TermInstantiation, ModelDefinition, ExternDefinition, Definition}
use Rattle.isle_ast_names.specs.Words.{SpellsAll, SpellsName}
use Rattle.isle_ast_names.specs.Erased.{erase_name}
use Rattle.isle_ast.specs.Grammar.{SpellsDefinition, SpellsDefinitions}
use Rattle.isle_ast.specs.ModelGrammar.{SpellsForm, SpellsInstantiation, SpellsModel}
use Rattle.isle_ast_names.specs.Parts.{IsByParts, AreParts}
use Rattle.isle_ast.specs.TermGrammar.{SpellsDeclaration, SpellsAttribute, SpellsExtern, SpellsConversion}
use Rattle.isle_ast.specs.TypeGrammar.{SpellsTypeDefinition}
use Rattle.isle_ast_names.proofs.Lawful.{name_lawful, all_lawful}
use Rattle.isle_ast.proofs.Lawful.Definitions.{definition_lawful}
use Rattle.isle_ast.proofs.Lawful.ModelContents.{model_definition_lawful}
use Rattle.isle_ast.proofs.Lawful.Forms.{form_lawful, instantiation_lawful}
use Rattle.isle_ast.proofs.Lawful.Terms.{declaration_lawful, attribute_lawful, extern_lawful, conversion_lawful}
use Rattle.isle_ast.proofs.Lawful.Types.{type_lawful}
use Rattle.isle_ast_names.proofs.Parts.{by_parts}

pub names_by_parts : (n : Name) → IsByParts (SpellsName n)
names_by_parts n = by_parts SpellsName erase_name n (name_lawful n)

pub lists_by_parts : (ns : List Name) → IsByParts (SpellsAll SpellsName ns)
lists_by_parts ns = by_parts (SpellsAll SpellsName) (map erase_name) ns (all_lawful SpellsName erase_name name_lawful ns)

pub types_by_parts : (t : TypeDefinition) → IsByParts (SpellsTypeDefinition t)
types_by_parts t = by_parts SpellsTypeDefinition _ t (type_lawful t)

pub declarations_by_parts : (d : Declaration) → IsByParts (SpellsDeclaration d)
declarations_by_parts d = by_parts SpellsDeclaration _ d (declaration_lawful d)

pub attributes_by_parts : (a : Attribute) → IsByParts (SpellsAttribute a)
attributes_by_parts a = by_parts SpellsAttribute _ a (attribute_lawful a)

pub models_by_parts : (m : ModelDefinition) → IsByParts (SpellsModel m)
models_by_parts m = by_parts SpellsModel _ m (model_definition_lawful m)

pub forms_by_parts : (f : FormDefinition) → IsByParts (SpellsForm f)
forms_by_parts f = by_parts SpellsForm _ f (form_lawful f)

pub instantiations_by_parts : (i : TermInstantiation) → IsByParts (SpellsInstantiation i)
instantiations_by_parts i = by_parts SpellsInstantiation _ i (instantiation_lawful i)

pub externs_by_parts : (e : ExternDefinition) → IsByParts (SpellsExtern e)
externs_by_parts e = by_parts SpellsExtern _ e (extern_lawful e)

pub conversions_by_parts : (c : Conversion) → IsByParts (SpellsConversion c)
conversions_by_parts c = by_parts SpellsConversion _ c (conversion_lawful c)

pub definition_by_parts : (d : Definition) → IsByParts (SpellsDefinition d)
definition_by_parts d = by_parts SpellsDefinition _ d (definition_lawful d)

are_parts : (ds : List Definition) (all : List Placed) → SpellsAll SpellsDefinition ds all [] → AreParts SpellsDefinition ds all
are_parts [] all h = h
are_parts (d ∷ ds) all h =
    let p = (definition_lawful d).cuts all h.0 h.1 in
    (p.0, h.0, p.1, p.2, are_parts ds h.0 h.2)

from_parts : (ds : List Definition) (all : List Placed) → AreParts SpellsDefinition ds all → SpellsAll SpellsDefinition ds all []
from_parts [] all h = h
from_parts (d ∷ ds) all h = (h.1, subst (λ xs. SpellsDefinition d xs h.1) (sym h.2) (h.3 h.1), from_parts ds h.1 h.4)

pub definitions_by_parts : (ds : List Definition) (all : List Placed) → SpellsDefinitions ds all ↔ AreParts SpellsDefinition ds all
definitions_by_parts ds all = (are_parts ds all, from_parts ds all)
