use Rattle.std.proofs.Common.{string_bytes}
use Rattle.isle_tidy_laws.proofs.Trees.{format_answers}
use Rattle.isle_tidy_laws.proofs.formatting.formatted.Goals as goal

pub returns : goal.returns
returns c = format_answers string_bytes c.format.result c.args.text.now c.args.width c.format.ensures.spelt c.format.ensures.printed
