use Rattle.std.proofs.Common.{[], ap, ◌∙◌}
use Rattle.isle_ast_rules.specs.TreeView.{pattern_of}
use Rattle.isle_expand_core.specs.Collected.{collected}
use Rattle.isle_expand_core.specs.Views.{uses_of}
use Rattle.isle_expand_core.proofs.Collecting.{collected_uses}
use Rattle.isle_expand_core.proofs.mentions.uses.Goals as goal

pub returns : goal.returns
returns c =
    let p = pattern_of c.args.pattern.now in
    c.in_ok-add_uses.ensures ∙ ap (λ us. collected p (uses_of us)) c.new-found.ensures.items ∙ collected_uses p []
