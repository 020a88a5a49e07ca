use Rattle.std.proofs.Common.{string_bytes}
use Rattle.isle_ast_rules.specs.TreeView.{pattern_of}
use Rattle.isle_check_environment.proofs.signatures.EntryLemmas.{Holds-put}
use Rattle.isle_check_environment.proofs.signatures.templates.put_template.Goals as goal

pub returns : goal.returns
returns c = λ entries holds.
    Holds-put pattern_of c.args.templates.now c.insert.new.self (string_bytes c.args.name) c.args.template entries c.in_ok-insert.ensures.updates holds
