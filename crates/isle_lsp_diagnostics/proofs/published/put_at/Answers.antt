use Rattle.isle_lsp_diagnostics.proofs.published.put_at.Goals as goal

pub returns-in-Parser-clause-tokens : goal.returns-in-Parser-clause-tokens
returns-in-Parser-clause-tokens c = rw c.in-Parser.is c.put_error.ensures.tokens

pub returns-in-Lint-clause-tokens : goal.returns-in-Lint-clause-tokens
returns-in-Lint-clause-tokens c = rw c.in-Lint.is (rw c.name.ensures at c.put_warning.ensures.tokens)

pub returns-in-Check-clause-tokens : goal.returns-in-Check-clause-tokens
returns-in-Check-clause-tokens c = rw c.in-Check.is c.put_checked.ensures.tokens
