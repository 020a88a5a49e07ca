use Rattle.isle_lsp_text.proofs.Places.{start_place}
use Rattle.isle_lsp_calls.proofs.rulers.mark_before.Goals as goal

pub returns-in-None : goal.returns-in-None
returns-in-None c = start_place c.args.ruler.now.encoding c.args.ruler.now.text.now
