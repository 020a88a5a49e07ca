use Rattle.std.proofs.Common.{◌≡◌, IfOk, map, option_map, ap, sym, subst, ◌∙◌}
use Rattle.isle_ast.specs.TreeView.{definition_of}
use Rattle.isle_ast_rules.specs.TreeView.{rule_of}
use Rattle.isle_expand_core.specs.Mentions.{definition_mentions, rule_uses, use_mention}
use Rattle.isle_expand_warnings.specs.First.{first}
use Rattle.isle_expand_core.specs.Search.{mention_misuse, use_misuse}
use Rattle.isle_expand_core.specs.Views.{begun_of, misuse_of, uses_of}
use Rattle.isle_expand_core.proofs.Searching.{first_map}
use Rattle.isle_expand_core.proofs.Steps.{ok_from}
use Rattle.isle_expand_core.proofs.search.definition_misuse.Goals as goal

pub returns-in_ok-rule_uses-in-Rule : goal.returns-in_ok-rule_uses-in-Rule
returns-in_ok-rule_uses-in-Rule c =
    let ms = map begun_of c.args.templates.now in
    let f = mention_misuse ms c.args.ends.now in
    let g = use_misuse ms c.args.ends.now in
    subst (λ d. IfOk c.first_use_misuse.result (λ found. option_map misuse_of found ≡ first f (definition_mentions c.args.place (definition_of d)))) (sym c.in-Rule.is)
    (ok_from c.first_use_misuse.result (λ found. option_map misuse_of found ≡ first g (uses_of c.deref.result.now)) _
    (λ found h. h ∙ ap (λ us. first g (uses_of us)) c.deref.ensures.value ∙ ap (first g) c.in_ok-rule_uses-in-Rule.ensures ∙ sym (first_map f use_mention (rule_uses (rule_of c.in-Rule.rule))))
    c.first_use_misuse.ensures)
