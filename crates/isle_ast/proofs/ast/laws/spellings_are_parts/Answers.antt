use Rattle.isle_ast.proofs.Parts.{names_by_parts, lists_by_parts, types_by_parts, declarations_by_parts, attributes_by_parts, models_by_parts, forms_by_parts, instantiations_by_parts, externs_by_parts, conversions_by_parts, definition_by_parts, definitions_by_parts}
use Rattle.isle_ast_verification.proofs.Parts.{type_models_by_parts, specs_by_parts, spec_definitions_by_parts, spec_macros_by_parts, states_by_parts}
use Rattle.isle_ast_rules.proofs.Parts.{patterns_by_parts, expressions_by_parts, conditions_by_parts, rules_by_parts, extractors_by_parts}
use Rattle.isle_ast.proofs.ast.laws.spellings_are_parts.Goals as goal

pub returns : goal.returns
returns c = record {
  names = names_by_parts;
  lists_of_names = lists_by_parts;
  types = types_by_parts;
  declarations = declarations_by_parts;
  attributes = attributes_by_parts;
  type_models = type_models_by_parts;
  models = models_by_parts;
  forms = forms_by_parts;
  instantiations = instantiations_by_parts;
  patterns = patterns_by_parts;
  expressions = expressions_by_parts;
  conditions = conditions_by_parts;
  rules = rules_by_parts;
  extractors = extractors_by_parts;
  specs = specs_by_parts;
  spec_definitions = spec_definitions_by_parts;
  spec_macros = spec_macros_by_parts;
  states = states_by_parts;
  externs = externs_by_parts;
  conversions = conversions_by_parts;
  definitions = definition_by_parts;
  whole_texts = definitions_by_parts;
}
