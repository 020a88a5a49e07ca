use Rattle.std.proofs.Common.{string_bytes}
use Rattle.isle_check_environment.proofs.signatures.EntryLemmas.{Holds-put}
use Rattle.isle_check_recursion.proofs.uses.put_number.Goals as goal

pub returns : goal.returns
returns c = λ entries holds.
    Holds-put (λ n. n) c.args.numbers.now c.insert.new.self (string_bytes c.args.name) c.args.number entries c.in_ok-insert.ensures.updates holds
