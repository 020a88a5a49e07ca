-- Readers of definitions.
use Rattle.std.specs.Prelude.{ℕ, List, Some, None, if◌then◌else◌, codes}
use Rattle.std.specs.Str.{bytes_eq}
use Rattle.isle_ast.specs.Tree.{Declaration, Conversion, Definition, type_def, rule, extractor, decl, attr, spec, spec_macro, model, state, form, instantiation, external, converter}
use Rattle.isle_parser_cursor.specs.Reading.{Reader, ◌>>=◌, text, flag, pos_ahead, ends, in_parentheses, many}
use Rattle.isle_parser_cursor.specs.NameReaders.{name, names}
use Rattle.isle_parser.specs.FormReaders.{form_definition, instantiation_of_term}
use Rattle.isle_parser.specs.ModelReaders.{model_definition}
use Rattle.isle_parser_rules.specs.RuleReaders.{rule_definition, extractor_definition}
use Rattle.isle_parser_verification.specs.SpecDefinitionReaders.{spec_definition, spec_macro_definition, state_definition}
use Rattle.isle_parser.specs.TermReaders.{attribute, extern_definition}
use Rattle.isle_parser.specs.TypeReaders.{type_definition}

unfoldable pub declaration : Reader Declaration
declaration all = do
  pure ← flag (codes "pure") all
  multi ← flag (codes "multi") pure.1
  partial ← flag (codes "partial") multi.1
  rec ← flag (codes "rec") partial.1
  term ← name rec.1
  arg_tys ← names term.1
  ret_ty ← name arg_tys.1
  Some (
    record {
      term = term.0;
      arg_tys = arg_tys.0;
      ret_ty = ret_ty.0;
      pure = pure.0;
      multi = multi.0;
      partial = partial.0;
      rec = rec.0;
      pos = pos_ahead all;
    },
    ret_ty.1,
  )

unfoldable pub conversion : Reader Conversion
conversion all = do
  inner_ty ← name all
  outer_ty ← name inner_ty.1
  term ← name outer_ty.1
  Some (record { term = term.0; inner_ty = inner_ty.0; outer_ty = outer_ty.0; pos = pos_ahead all }, term.1)

-- no pragma is defined, so each is rejected
abbrev pub pragma : Reader Definition
pragma all = None

-- the reader's result, as a definition of that kind
unfoldable pub as_definition : {A : Type 0} → (A → Definition) → Reader A → Reader Definition
as_definition kind read all = read all >>= λ x. Some (kind x.0, x.1)

-- the rest after this keyword
unfoldable pub behind_keyword : List ℕ → Reader Definition
behind_keyword word all =
    if bytes_eq word (codes "type") then as_definition type_def type_definition all
    else (if bytes_eq word (codes "decl") then as_definition decl declaration all
    else (if bytes_eq word (codes "attr") then as_definition attr attribute all
    else (if bytes_eq word (codes "spec") then as_definition spec spec_definition all
    else (if bytes_eq word (codes "macro") then as_definition spec_macro spec_macro_definition all
    else (if bytes_eq word (codes "model") then as_definition model model_definition all
    else (if bytes_eq word (codes "state") then as_definition state state_definition all
    else (if bytes_eq word (codes "form") then as_definition form form_definition all
    else (if bytes_eq word (codes "instantiate") then as_definition instantiation instantiation_of_term all
    else (if bytes_eq word (codes "rule") then as_definition rule rule_definition all
    else (if bytes_eq word (codes "extractor") then as_definition extractor extractor_definition all
    else (if bytes_eq word (codes "extern") then as_definition external extern_definition all
    else (if bytes_eq word (codes "convert") then as_definition converter conversion all
    else None))))))))))))

-- a keyword, and the rest after it
unfoldable pub keyword_form : Reader Definition
keyword_form all = do
  word ← text all
  behind_keyword word.0 word.1

unfoldable pub definition : Reader Definition
definition = in_parentheses keyword_form

unfoldable pub definitions : Reader (List Definition)
definitions = many ends definition
