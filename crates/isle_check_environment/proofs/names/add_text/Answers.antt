use Rattle.std.proofs.Common.{string_bytes}
use Rattle.isle_check_environment.proofs.NameLemmas.{Knows-put}
use Rattle.isle_check_environment.proofs.names.add_text.Goals as goal

pub returns : goal.returns
returns c = λ known knows. Knows-put c.args.names.now c.insert.new.self (string_bytes c.args.text) c.args.pos known c.in_ok-insert.ensures.updates knows
