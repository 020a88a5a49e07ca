use Rattle.std.proofs.Common.{◌≡◌, subst}
use Rattle.isle_base.specs.Place.{in_file}
use Rattle.isle_base.specs.Reads.{Finds}
use Rattle.isle_base.proofs.Stepping.{starts_token}
use Rattle.isle_base.proofs.scanner.Scanner.new.Goals as goal

pub returns-in-Token-clause-tokens : goal.returns-in-Token-clause-tokens
returns-in-Token-clause-tokens c =
    let found = subst (Finds c.args.src.now 0) c.in-Token.is c.read.ensures in
    let pos : c.new.result ≡ in_file c.args.file c.in-Token.end = λ i. record { file = c.new.ensures.file i; offset = c.new.ensures.offset i } in
    let ahead : c.new-in-Token.result ≡ in_file c.args.file c.in-Token.start = λ i. record { file = c.new-in-Token.ensures.file i; offset = c.new-in-Token.ensures.offset i } in
    starts_token c.args.file c.args.src.now c.new.result c.new-in-Token.result c.in-Token.start c.in-Token.end c.in-Token.token pos ahead found
