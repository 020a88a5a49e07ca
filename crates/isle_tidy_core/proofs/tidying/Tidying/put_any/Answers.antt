use Rattle.std.proofs.Common.{string_bytes}
use Rattle.isle_tidy_core.proofs.Laying.{lays_last}
use Rattle.isle_tidy_core.proofs.tidying.Tidying.put_any.Goals as goal

pub returns-in_ok-put_end-in-End-clause-last : goal.returns-in_ok-put_end-in-End-clause-last
returns-in_ok-put_end-in-End-clause-last c = λ _.
    lays_last c.args.self.now (string_bytes c.args.out.now) (string_bytes c.put_end.new.out) c.in-End.ensures c.in_ok-put_end-in-End.ensures
