-- The definitions that contain a macro argument, which has no syntax and is never printed.
use Rattle.std.specs.Prelude.{List, Bool, false}
use Rattle.std.specs.List.{list_any}
use Rattle.isle_ast.specs.Tree.{Definition, type_def, rule, extractor, decl, attr, spec, spec_macro, model, state, form, instantiation, external, converter}
use Rattle.isle_ast_rules.specs.MacroArgs.{rule_has_macro_arg, extractor_has_macro_arg}

abbrev pub definition_has_macro_arg : Definition → Bool
definition_has_macro_arg (type_def _) = false
definition_has_macro_arg (rule r) = rule_has_macro_arg r
definition_has_macro_arg (extractor e) = extractor_has_macro_arg e
definition_has_macro_arg (decl _) = false
definition_has_macro_arg (attr _) = false
definition_has_macro_arg (spec _) = false
definition_has_macro_arg (spec_macro _) = false
definition_has_macro_arg (model _) = false
definition_has_macro_arg (state _) = false
definition_has_macro_arg (form _) = false
definition_has_macro_arg (instantiation _) = false
definition_has_macro_arg (external _) = false
definition_has_macro_arg (converter _) = false

abbrev pub definitions_have_macro_arg : List Definition → Bool
definitions_have_macro_arg ds = list_any definition_has_macro_arg ds
