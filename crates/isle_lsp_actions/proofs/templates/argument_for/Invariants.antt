use Rattle.std.proofs.Common.{◌≡◌, length, map}
use Rattle.isle_lsp_actions.specs.Templates.{argument_for}
use Rattle.isle_lsp_actions.proofs.templates.argument_for.Given as goal

abbrev pub invariant-loop-parameters : goal.invariant-loop-parameters
invariant-loop-parameters l =
    argument_for l.name (map (λ p. p.now) l.parameters) (map (λ a. a.now) l.arguments)
    ≡ argument_for l.name (map (λ p. p.now) l.fn.parameters) (map (λ a. a.now) l.fn.arguments)

abbrev pub decreases-loop-parameters : goal.decreases-loop-parameters
decreases-loop-parameters l = length l.parameters
