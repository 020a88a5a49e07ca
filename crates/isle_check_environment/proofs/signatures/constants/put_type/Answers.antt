use Rattle.std.proofs.Common.{string_bytes}
use Rattle.isle_check_environment.proofs.signatures.EntryLemmas.{Holds-put}
use Rattle.isle_check_environment.proofs.signatures.constants.put_type.Goals as goal

pub returns : goal.returns
returns c = λ entries holds.
    Holds-put string_bytes c.args.types.now c.insert.new.self (string_bytes c.args.name) c.args.ty entries c.in_ok-insert.ensures.updates holds
