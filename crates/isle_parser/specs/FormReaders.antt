-- Readers of forms and instantiations, after the keywords `form` and `instantiate`.
use Rattle.std.specs.Prelude.{[], List, Some, None, if◌then◌else◌, codes}
use Rattle.std.specs.Str.{bytes_eq}
use Rattle.isle_ast_names.specs.Tree.{Name}
use Rattle.isle_ast.specs.Tree.{TermSignature, FormDefinition, TermInstantiation}
use Rattle.isle_parser_cursor.specs.Reading.{Reader, ◌>>=◌, is_lparen, is_ahead, pos_ahead, at_rparen, in_parentheses, many, text}
use Rattle.isle_parser_cursor.specs.NameReaders.{name}
use Rattle.isle_parser_verification.specs.ModelReaders.{tagged_types, tagged_type}

unfoldable pub tag_inside : Reader Name
tag_inside all = do
  word ← text all
  if bytes_eq word.0 (codes "tag") then name word.1 else None

unfoldable pub tag : Reader Name
tag = in_parentheses tag_inside

unfoldable pub signature_inside : Reader TermSignature
signature_inside all = do
  args ← tagged_types (codes "args") all
  ret ← tagged_type (codes "ret") args.1
  Some (record { args = args.0; ret = ret.0; pos = pos_ahead all }, ret.1)

unfoldable pub signature : Reader TermSignature
signature = in_parentheses signature_inside

unfoldable pub signatures : Reader (List TermSignature)
signatures = many at_rparen signature

unfoldable pub form_definition : Reader FormDefinition
form_definition all = do
  n ← name all
  gs ← signatures n.1
  Some (record { name = n.0; signatures = gs.0; pos = pos_ahead all }, gs.1)

-- signatures if `(` is ahead, else a form and tags
unfoldable pub instantiation_of_term : Reader TermInstantiation
instantiation_of_term all = do
  term ← name all
  if is_ahead is_lparen term.1
      then (signatures term.1 >>= λ gs. Some (record { term = term.0; form = None; signatures = gs.0; tags = []; pos = pos_ahead all }, gs.1))
      else (name term.1 >>= λ f. many at_rparen tag f.1 >>= λ ts. Some (record { term = term.0; form = Some f.0; signatures = []; tags = ts.0; pos = pos_ahead all }, ts.1))
