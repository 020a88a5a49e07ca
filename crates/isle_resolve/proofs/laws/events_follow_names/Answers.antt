use Rattle.isle_resolve.proofs.MappedLemmas.{events_follow}
use Rattle.isle_resolve.proofs.laws.events_follow_names.Goals as goal

pub returns : goal.returns
returns c = events_follow
