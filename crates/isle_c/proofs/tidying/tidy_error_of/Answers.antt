use Rattle.isle_c.proofs.TidyLemmas.{tidied_document}
use Rattle.isle_c.proofs.tidying.tidy_error_of.Goals as goal

pub returns-in-Ok-clause-err : goal.returns-in-Ok-clause-err
returns-in-Ok-clause-err c = (c.utf8.text, tidied_document c.args.text.now _ c.in-Ok.ensures.tidied)
