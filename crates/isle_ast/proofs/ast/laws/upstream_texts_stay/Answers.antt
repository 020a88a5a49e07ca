use Rattle.isle_base.proofs.Upstream.{upstream_stays}
use Rattle.isle_ast.proofs.ast.laws.upstream_texts_stay.Goals as goal

pub returns : goal.returns
returns c = λ place text ds h. (h.0, upstream_stays text h.0 h.1, h.2)
