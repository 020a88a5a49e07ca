use Rattle.isle_tidy_core.proofs.TidyTexts.{tidied_tokens}
use Rattle.isle_tidy_core.proofs.laws.same_tokens_stay.Goals as goal

pub returns : goal.returns
returns c = tidied_tokens
