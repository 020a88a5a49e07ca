-- The terms and the environment of code, as pure values.
use Rattle.std.specs.Prelude.{◌≡◌, ℕ, List, ◌||◌, is_some, map, option_map, string_bytes}
use Rattle.std.specs.Borrow.{Bor}
use Rattle.std.specs.HashMap.{get_by_text}
use Rattle.std.specs.declared.alloc.Global.{Global}
use Rattle.std.specs.declared.string.String.{String}
use Rattle.isle_ast.specs.Tree.{Conversion}
use Rattle.isle_ast_rules.specs.TreeView.{pattern_of}
use Rattle.isle_check_environment.specs.ByText.{ByText}
use Rattle.isle_check_environment.specs.Types.{is_integer_type, is_type_in}
use Rattle.isle_check_environment.specs.declared.signatures.environment.Environment.{Environment}
use Rattle.isle_check_environment.specs.declared.signatures.terms.Term.{Term}
use Rattle.isle_check_environment.specs.signatures.ByTexts.{get_by_texts}
use Rattle.isle_check_environment.specs.signatures.Environment.{EnvironmentNode, converting}
use Rattle.isle_check_environment.specs.signatures.Signatures.{TermNode}

abbrev pub term_of : Term → TermNode
term_of t =
    record {
      args = map string_bytes t.args.items;
      ret = string_bytes t.ret;
      pure = t.pure;
      multi = t.multi;
      partial = t.partial;
      is_variant = t.is_variant;
    }

-- the map has the terms of these converters and no others, of two types that of the first one
abbrev pub Converts : ByText (ByText (Bor (String Global))) → List Conversion → Type 0
Converts terms cs = (inner outer : List ℕ) → option_map (λ t. string_bytes t.now) (get_by_texts terms inner outer) ≡ converting cs inner outer

abbrev pub environment_of : Environment → EnvironmentNode
environment_of e =
    record {
      is_type = is_type_in e.types;
      is_number = λ text. is_integer_type text || is_some (get_by_text e.primitives text);
      constants = λ text. option_map string_bytes (get_by_text e.constants text);
      terms = λ text. option_map term_of (get_by_text e.terms text);
      templates = λ text. option_map pattern_of (get_by_text e.templates text);
      converters = λ inner outer. option_map (λ t. string_bytes t.now) (get_by_texts e.converters inner outer);
      has_constructor = λ text.
          is_some (get_by_text e.sorts.variants text)
          || (is_some (get_by_text e.sorts.ruled text) || is_some (get_by_text e.constructors text));
      has_extractor = λ text.
          is_some (get_by_text e.sorts.variants text)
          || (is_some (get_by_text e.sorts.templates text) || is_some (get_by_text e.extractors text));
    }
