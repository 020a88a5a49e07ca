use Rattle.std.proofs.Common.{arith}
use Rattle.std.proofs.lemmas.Grind.{common_steps}
use Rattle.isle_lint_core.proofs.rules.add_conditions_shadowed.Goals as goal

pub loop-condition-preserved : goal.loop-condition-preserved
loop-condition-preserved c = grind (arith, common_steps)
