use Rattle.std.proofs.Common.{string_bytes}
use Rattle.isle_check_environment.specs.signatures.Views.{term_of}
use Rattle.isle_check_environment.proofs.signatures.EntryLemmas.{Holds-put}
use Rattle.isle_check_environment.proofs.signatures.terms.put_term.Goals as goal

pub returns : goal.returns
returns c = λ entries holds.
    Holds-put term_of c.args.terms.now c.insert.new.self (string_bytes c.args.name) c.args.term entries c.in_ok-insert.ensures.updates holds
