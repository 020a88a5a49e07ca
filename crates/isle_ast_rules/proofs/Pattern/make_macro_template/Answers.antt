use Rattle.std.proofs.Common.{◌≡◌, List, is_none, slice_get, ap, ◌∙◌}
use Rattle.std.proofs.lemmas.Result.{IfOk-weaker}
use Rattle.isle_ast_rules.specs.Tree.{PatternNode, macro_arg_pattern}
use Rattle.isle_ast_rules.specs.Templates.{indices, lacks, plug, replace, replace_by}
use Rattle.isle_ast_names.specs.TreeView.{names_of}
use Rattle.isle_ast_rules.specs.TreeView.{pattern_of}
use Rattle.isle_ast_rules.proofs.Templates.{plug_lacks, template_filled}
use Rattle.isle_ast_rules.proofs.Pattern.make_macro_template.Goals as goal

pub returns-clause-filled : goal.returns-clause-filled
returns-clause-filled c =
    let pattern = pattern_of c.args.self.now in
    let names = names_of c.args.macro_args.now in
    IfOk-weaker c.template_of.result (λ made. pattern_of made ≡ replace pattern names macro_arg_pattern)
    (λ made. (args : List PatternNode) → plug (pattern_of made) args ≡ replace_by pattern names (λ i _. slice_get args i))
    (λ made e args. ap (λ p. plug p args) e ∙ template_filled pattern names args c.requires) c.template_of.ensures

pub returns-clause-missing : goal.returns-clause-missing
returns-clause-missing c =
    let pattern = pattern_of c.args.self.now in
    let names = names_of c.args.macro_args.now in
    IfOk-weaker c.template_of.result (λ made. pattern_of made ≡ replace pattern names macro_arg_pattern)
    (λ made. (args : List PatternNode) → is_none (plug (pattern_of made) args) ≡ lacks args (indices (pattern_of made)))
    (λ made e args. plug_lacks (pattern_of made) args) c.template_of.ensures
