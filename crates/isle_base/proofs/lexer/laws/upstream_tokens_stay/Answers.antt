use Rattle.isle_base.proofs.Upstream.{upstream_stays}
use Rattle.isle_base.proofs.lexer.laws.upstream_tokens_stay.Goals as goal

pub returns : goal.returns
returns c = upstream_stays
