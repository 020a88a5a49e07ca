use Rattle.std.proofs.Common.{◌≡◌, true, false, ap, ◌∙◌, rules}
use Rattle.isle_ast_names.specs.TreeView.{name_of}
use Rattle.isle_ast_names.specs.Words.{is_constant}
use Rattle.isle_parser_cursor.specs.Outcomes.{left, source}
use Rattle.isle_parser_rules.proofs.Constants.{no_dollar}
use Rattle.isle_parser_rules.proofs.names.parse_const.Goals as goal

pub returns : goal.returns
returns c = record {
  same = search rules;
  gives =
      no_dollar (left c.args.cursor.now) (name_of (c.in_ok-name.field-0)) (left c.parse_ident.new.self) (source c.parse_ident.new.self) c.refuse_at.result c.in_ok-name.ensures.gives
      (λ bytes e. let clash : false ≡ true = c.if-begins_constant.ensures ∙ ap is_constant (c.deref.ensures ∙ e) in cc)
      c.refuse_at.ensures;
}
