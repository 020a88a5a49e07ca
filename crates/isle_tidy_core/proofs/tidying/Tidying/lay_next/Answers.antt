use Rattle.std.proofs.Common.{◌++◌, string_bytes}
use Rattle.isle_tidy_core.proofs.Laying.{last_laid, more_laid}
use Rattle.isle_tidy_core.proofs.tidying.Tidying.lay_next.Goals as goal

pub put_any-requires : goal.put_any-requires
put_any-requires c =
    let now = c.in_ok-put_common_entry.ensures.more c.requires.0 c.requires.1 c.requires.2 in
    (c.requires.0, c.requires.1 ++ now.0, now.2)

pub returns-clause-more : goal.returns-clause-more
returns-clause-more c = λ ok.
    more_laid c.args.self.now c.put_common_entry.new.self c.put_any.new.self (string_bytes c.args.out.now) (string_bytes c.put_common_entry.new.out) (string_bytes c.put_any.new.out)
    c.in_ok-put_common_entry.ensures.more (c.put_any.ensures.more ok)

pub returns-clause-last : goal.returns-clause-last
returns-clause-last c = λ ok.
    last_laid c.args.self.now c.put_common_entry.new.self (string_bytes c.args.out.now) (string_bytes c.put_common_entry.new.out) (string_bytes c.put_any.new.out)
    c.in_ok-put_common_entry.ensures.more (c.put_any.ensures.last ok)
