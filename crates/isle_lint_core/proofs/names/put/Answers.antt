use Rattle.isle_ast_names.specs.TreeView.{name_of}
use Rattle.isle_lint_core.proofs.SeenLemmas.{Knows-put}
use Rattle.isle_lint_core.proofs.names.put.Goals as goal

pub returns-clause-known : goal.returns-clause-known
returns-clause-known c =
    λ names knows. Knows-put c.args.seen.now c.insert.new.self c.as_str.result (name_of c.args.name.now) names c.as_str.ensures.value c.in_ok-insert.ensures.updates.0 knows
