use Rattle.std.proofs.Common.{refl, string_bytes}
use Rattle.isle_tidy_core.proofs.Laying.{entry_utf8, lays_more}
use Rattle.isle_tidy_core.proofs.tidying.Tidying.put.Goals as goal

pub put_entry-requires-clause-first : goal.put_entry-requires-clause-first
put_entry-requires-clause-first c = entry_utf8 c.args.self.now c.requires.begun.0 c.requires.begun.1 c.args.entry c.args.span c.requires.begun.2 c.requires.found

pub returns-clause-more : goal.returns-clause-more
returns-clause-more c =
    lays_more c.args.self.now _ c.args.entry c.args.span c.closings_after-closings.result c.in_ok-placed.placed
    (string_bytes c.args.out.now) (string_bytes c.put_entry.new.out)
    c.requires.found c.closings_after-closings.ensures c.in_ok-placed.ensures c.in_ok-self.ensures refl refl refl refl
