use Rattle.std.proofs.Common.{◌≡◌, option_map, is_none, sym, ap, ◌∙◌}
use Rattle.std.proofs.lemmas.Result.{IfOk-weaker}
use Rattle.isle_ast_rules.specs.Templates.{indices, lacks, plug}
use Rattle.isle_ast_rules.specs.TreeView.{pattern_of, patterns_of}
use Rattle.isle_ast_rules.proofs.Templates.{mapped_none, plug_lacks}
use Rattle.isle_ast_rules.proofs.Pattern.subst_macro_args.Goals as goal

pub returns-clause-missing : goal.returns-clause-missing
returns-clause-missing c =
    let pattern = pattern_of c.args.self.now in
    let args = patterns_of c.args.macro_args.now in
    IfOk-weaker c.plugged.result (λ made. option_map pattern_of made ≡ plug pattern args) (λ made. is_none made ≡ lacks args (indices pattern))
    (λ made e. sym (mapped_none pattern_of made) ∙ ap is_none e ∙ plug_lacks pattern args) c.plugged.ensures
