use Rattle.std.proofs.Common.{string_bytes}
use Rattle.isle_tidy_core.proofs.Streams.{not_made, puts_laid, puts_laid_last}
use Rattle.isle_tidy_core.proofs.tidying.Tidying.put_next.Goals as goal

pub returns-clause-more : goal.returns-clause-more
returns-clause-more c = λ ok.
    puts_laid c.args.self.now c.lay_next.new.self (string_bytes c.args.out.now) (string_bytes c.lay_next.new.out) (not_made c.args.self.now c.in_default.not-Some) (c.lay_next.ensures.more ok)

pub returns-clause-last : goal.returns-clause-last
returns-clause-last c = λ ok.
    puts_laid_last c.args.self.now (string_bytes c.args.out.now) (string_bytes c.lay_next.new.out) (not_made c.args.self.now c.in_default.not-Some) (c.lay_next.ensures.last ok)
