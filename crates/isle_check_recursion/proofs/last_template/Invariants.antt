use Rattle.std.proofs.Common.{◌≡◌, None, drop, option_map}
use Rattle.isle_ast_rules.specs.TreeView.{pattern_of}
use Rattle.isle_check_recursion.specs.Recursion.{last_template}
use Rattle.isle_check_recursion.specs.Views.{names_at}
use Rattle.isle_check_environment.specs.signatures.Views.{environment_of}
use Rattle.isle_check_recursion.proofs.last_template.Given as goal

abbrev pub invariant-loop-name : goal.invariant-loop-name
invariant-loop-name l =
    last_template (environment_of l.env).templates (option_map (λ p. pattern_of p.now) l.template) (names_at (drop l.name-index l.path))
    ≡ last_template (environment_of l.env).templates None (names_at l.path)
