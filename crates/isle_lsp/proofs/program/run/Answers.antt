use Rattle.std.proofs.Common.{sym, ◌∙◌}
use Rattle.isle_lsp.proofs.program.run.Goals as goal

pub returns-then-asks_nothing-clause-usage : goal.returns-then-asks_nothing-clause-usage
returns-then-asks_nothing-clause-usage g c = λ two. absurd (c.converse.ensures.no_usage two)

pub returns-clause-usage : goal.returns-clause-usage
returns-clause-usage g c = λ two. record { serves = sym c.asks_nothing.ensures ∙ c.if-asks_nothing.false; help = c.inform.ensures.usage two }

pub returns-clause-wrong : goal.returns-clause-wrong
returns-clause-wrong g c = λ wrong. c.inform.ensures.wrong wrong.help
