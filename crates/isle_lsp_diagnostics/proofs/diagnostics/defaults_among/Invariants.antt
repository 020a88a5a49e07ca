use Rattle.std.proofs.Common.{◌≡◌, ◌++◌, drop, filter}
use Rattle.isle_lint_core.specs.Lint.{is_default}
use Rattle.isle_lsp_diagnostics.proofs.diagnostics.defaults_among.Given as goal

abbrev pub invariant-loop-lint : goal.invariant-loop-lint
invariant-loop-lint l = l.chosen.items ++ filter is_default (drop l.lint-index l.lints) ≡ filter is_default l.lints
