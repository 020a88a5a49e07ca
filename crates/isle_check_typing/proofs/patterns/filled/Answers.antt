use Rattle.std.proofs.Common.{◌≡◌, option_map, ap, sym, ◌∙◌}
use Rattle.std.proofs.lemmas.Result.{IfOk-weaker}
use Rattle.isle_ast_rules.specs.Templates.{plug}
use Rattle.isle_ast_rules.specs.TreeView.{pattern_of, pattern_list_of, patterns_of}
use Rattle.isle_check_typing.specs.PatternTypes.{list_list}
use Rattle.isle_check_typing.proofs.Counts.{list_listed}
use Rattle.isle_check_typing.proofs.patterns.filled.Goals as goal

pub returns : goal.returns
returns c =
    let template = pattern_of c.args.template.now in
    let args = patterns_of c.args.args.now in
    IfOk-weaker c.subst_macro_args.result (λ made. option_map pattern_of made ≡ plug template args)
    (λ made. option_map pattern_of made ≡ plug template (list_list (pattern_list_of args)))
    (λ made e. e ∙ ap (plug template) (sym (list_listed args)))
    c.subst_macro_args.ensures.plugged
