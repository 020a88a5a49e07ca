-- Readers of definitions of terms, after the keywords `attr` and `extern`.
use Rattle.std.specs.Prelude.{Some, None, if◌then◌else◌, codes}
use Rattle.std.specs.Str.{bytes_eq}
use Rattle.isle_base_source.specs.declared.pos.Pos.{Pos}
use Rattle.isle_ast.specs.Tree.{term_target, rule_target, AttributeKind, chain_kind, priority_kind, tag_kind, Attribute, ExternDefinition, extern_extractor, extern_constructor, extern_const}
use Rattle.isle_parser_cursor.specs.Reading.{Reader, ◌>>=◌, text, flag, pos_ahead, at_rparen, in_parentheses, many}
use Rattle.isle_parser_cursor.specs.NameReaders.{name}
use Rattle.isle_parser_rules.specs.ConstantReaders.{constant}

unfoldable pub veri_kind : Reader AttributeKind
veri_kind all = do
  word ← text all
  if bytes_eq word.0 (codes "chain") then Some (chain_kind, word.1)
      else (if bytes_eq word.0 (codes "priority") then Some (priority_kind, word.1) else None)

unfoldable pub kind_inside : Reader AttributeKind
kind_inside all = do
  word ← text all
  if bytes_eq word.0 (codes "veri") then veri_kind word.1
      else (if bytes_eq word.0 (codes "tag") then (name word.1 >>= λ n. Some (tag_kind n.0, n.1)) else None)

unfoldable pub kind : Reader AttributeKind
kind = in_parentheses kind_inside

unfoldable pub attribute : Reader Attribute
attribute all = do
  word ← flag (codes "rule") all
  n ← name word.1
  kinds ← many at_rparen kind n.1
  Some (
    record {
      target = (if word.0 then rule_target n.0 else term_target n.0);
      kinds = kinds.0;
      pos = pos_ahead all;
    },
    kinds.1,
  )

unfoldable pub extern_constant : Reader ExternDefinition
extern_constant all = do
  word ← flag (codes "const") all
  if word.0
      then (constant word.1 >>= λ n. name n.1 >>= λ ty. Some (extern_const n.0 ty.0 (pos_ahead word.1), ty.1))
      else None

unfoldable pub extern_etor : Pos → Reader ExternDefinition
extern_etor place all = do
  word ← flag (codes "extractor") all
  if word.0
      then (flag (codes "infallible") word.1 >>= λ i. name i.1 >>= λ term. name term.1 >>= λ func. Some (extern_extractor term.0 func.0 place i.0, func.1))
      else extern_constant word.1

-- `constructor`, `extractor` or `const`, and the rest after the word
unfoldable pub extern_definition : Reader ExternDefinition
extern_definition all = do
  word ← flag (codes "constructor") all
  if word.0
      then (name word.1 >>= λ term. name term.1 >>= λ func. Some (extern_constructor term.0 func.0 (pos_ahead all), func.1))
      else extern_etor (pos_ahead all) word.1
