use Rattle.isle_tidy_core.proofs.Laying.{near_utf8}
use Rattle.isle_tidy_core.proofs.tidying.Tidying.put_common_entry.Goals as goal

pub lexeme_at-requires-clause-first : goal.lexeme_at-requires-clause-first
lexeme_at-requires-clause-first c =
    near_utf8 c.args.self.now c.requires.0 c.requires.1 c.as_bytes.result.now c.in-Some.width c.requires.2 c.as_bytes.ensures.value c.in-Some.ensures
