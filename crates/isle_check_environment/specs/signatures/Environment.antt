-- What the definitions of a program declare, by text.
use Rattle.std.specs.Prelude.{ℕ, List, ◌++◌, Bool, ◌&&◌, ◌||◌, Option, is_some, option_map}
use Rattle.std.specs.List.{find, flat_map}
use Rattle.std.specs.Str.{bytes_eq}
use Rattle.isle_ast_rules.specs.Tree.{PatternNode}
use Rattle.isle_ast.specs.Tree.{Conversion, Definition}
use Rattle.isle_check_environment.specs.Names.{has}
use Rattle.isle_check_environment.specs.Parts.{converters_in, type_names, types_in}
use Rattle.isle_check_environment.specs.Terms.{known_terms}
use Rattle.isle_check_environment.specs.Types.{is_integer_type, is_type}
use Rattle.isle_check_environment.specs.signatures.Entries.{value_of}
use Rattle.isle_check_environment.specs.signatures.Signatures.{TermNode, constant_entry, constructor_name, declared_entry, extractor_name, primitive_name, template_entry, variant_entries}

pub record EnvironmentNode : Type 0 where
  -- whether a type is known
  pub is_type : List ℕ → Bool
  -- whether integers are values of a type
  pub is_number : List ℕ → Bool
  -- the type of a constant
  pub constants : List ℕ → Option (List ℕ)
  pub terms : List ℕ → Option TermNode
  -- the template of an internal extractor
  pub templates : List ℕ → Option PatternNode
  -- the term that converts the inner type to the outer one
  pub converters : (inner outer : List ℕ) → Option (List ℕ)
  -- whether a term may stand in an expression
  pub has_constructor : List ℕ → Bool
  -- whether a term may stand in a pattern
  pub has_extractor : List ℕ → Bool

-- the term of the first converter of these types
abbrev pub converting : List Conversion → (inner outer : List ℕ) → Option (List ℕ)
converting cs inner outer =
    option_map (λ c. c.term.text) (find (λ c. bytes_eq c.inner_ty.text inner && bytes_eq c.outer_ty.text outer) cs)

abbrev pub environment : List Definition → EnvironmentNode
environment ds =
    record {
      is_type = is_type (type_names (types_in ds));
      is_number = λ text. is_integer_type text || has (flat_map primitive_name ds) text;
      constants = value_of (flat_map constant_entry ds);
      terms = value_of (flat_map variant_entries ds ++ flat_map declared_entry ds);
      templates = value_of (flat_map template_entry ds);
      converters = converting (converters_in ds);
      has_constructor = λ text.
          is_some ((known_terms ds).variants text)
          || (is_some ((known_terms ds).ruled text) || has (flat_map constructor_name ds) text);
      has_extractor = λ text.
          is_some ((known_terms ds).variants text)
          || (is_some ((known_terms ds).templates text) || has (flat_map extractor_name ds) text);
    }
