-- A writable tree contains no macro argument, and so a spelt tree contains none.
use Rattle.std.proofs.Common.{◌≡◌, List, false, refl}
use Rattle.isle_base.specs.Place.{Placed}
use Rattle.isle_ast.specs.Tree.{Definition, type_def, rule, extractor, decl, attr, spec, spec_macro, model, state, form, instantiation, external, converter}
use Rattle.isle_ast.specs.Grammar.{SpellsDefinition, SpellsDefinitions}
use Rattle.isle_ast.specs.MacroArgs.{definition_has_macro_arg, definitions_have_macro_arg}
use Rattle.isle_ast.specs.Writable.{IsWritable, AreWritable}
use Rattle.isle_ast.proofs.Writable.Spelt.{definition-spelt, spelt_is_writable}
use Rattle.isle_ast_rules.proofs.NoMacroArgs.{writable_rule_has_no_macro_arg, writable_extractor_has_no_macro_arg, none_of}

pub writable_has_no_macro_arg : (d : Definition) → IsWritable d → definition_has_macro_arg d ≡ false
writable_has_no_macro_arg (type_def _) h = refl
writable_has_no_macro_arg (rule r) h = writable_rule_has_no_macro_arg r h
writable_has_no_macro_arg (extractor e) h = writable_extractor_has_no_macro_arg e h
writable_has_no_macro_arg (decl _) h = refl
writable_has_no_macro_arg (attr _) h = refl
writable_has_no_macro_arg (spec _) h = refl
writable_has_no_macro_arg (spec_macro _) h = refl
writable_has_no_macro_arg (model _) h = refl
writable_has_no_macro_arg (state _) h = refl
writable_has_no_macro_arg (form _) h = refl
writable_has_no_macro_arg (instantiation _) h = refl
writable_has_no_macro_arg (external _) h = refl
writable_has_no_macro_arg (converter _) h = refl

pub writable_trees_have_no_macro_arg : (ds : List Definition) → AreWritable ds → definitions_have_macro_arg ds ≡ false
writable_trees_have_no_macro_arg ds h = none_of IsWritable definition_has_macro_arg writable_has_no_macro_arg ds h

pub spelt_definition_has_no_macro_arg : (d : Definition) (all rest : List Placed) → SpellsDefinition d all rest → definition_has_macro_arg d ≡ false
spelt_definition_has_no_macro_arg d all rest s = writable_has_no_macro_arg d (definition-spelt d all rest s)

pub spelt_has_no_macro_arg : (ds : List Definition) (all : List Placed) → SpellsDefinitions ds all → definitions_have_macro_arg ds ≡ false
spelt_has_no_macro_arg ds all s = writable_trees_have_no_macro_arg ds (spelt_is_writable ds all s)
