use Rattle.std.proofs.Common.{◌≡◌, List, length, false}
use Rattle.isle_base.specs.Steps.{is_failed}
use Rattle.isle_base.specs.Token.{Lexeme}
use Rattle.isle_tidy_core.specs.Parentheses.{HasRead}
use Rattle.isle_tidy_core.proofs.parentheses.check_parentheses.Given as goal

abbrev pub invariant-loop-parentheses : goal.invariant-loop-parentheses
invariant-loop-parentheses l = ((taken : List Lexeme) × HasRead l.text taken l.scanner l.parentheses) × (is_failed l.scanner ≡ false)

abbrev pub decreases-loop-parentheses : goal.decreases-loop-parentheses
decreases-loop-parentheses l = length l.scanner.coming
