use Rattle.std.proofs.Common.{◌≡◌, ap, map, ◌∙◌}
use Rattle.std.proofs.lemmas.Result.{IfOk-weaker}
use Rattle.serde_json.specs.Data.{array}
use Rattle.serde_json.specs.View.{items_of}
use Rattle.isle_ast.specs.TreeView.{definitions_of}
use Rattle.isle_check_environment.specs.Views.{rules_at}
use Rattle.isle_check_environment.specs.signatures.Environment.{environment}
use Rattle.isle_lsp_features.specs.Places.{file_of}
use Rattle.isle_lsp_diagnostics.specs.Hints.{are_within, hint_data, hint_of, hints_in, rules_hints}
use Rattle.isle_lsp_diagnostics.proofs.hints.items_in.Goals as goal

pub returns : goal.returns
returns c =
    let ds = definitions_of c.args.defs.now in
    let text = c.args.file.text.now in
    let rules = ap rules_at c.deref.ensures.value ∙ c.in_ok-rules.ensures in
    let all = c.in_ok-hints.ensures ∙ ap (λ env. rules_hints text env (rules_at c.deref.result.now)) c.in_ok-env.ensures ∙ ap (rules_hints text (environment ds)) rules in
    let own : map hint_of c.deref-2.result.now ≡ hints_in (file_of c.args.file) ds = ap (map hint_of) c.deref-2.ensures.value ∙ all in
    let shown = ap (map hint_of) c.deref-3.ensures.value ∙ c.in_ok-found.ensures ∙ ap (are_within c.args.file.encoding text c.args.range) own in
    IfOk-weaker c.items.result _ _ (λ items is. ap (λ ds. array (items_of ds)) (is ∙ ap (map (hint_data c.args.file.encoding text)) shown)) c.items.ensures
