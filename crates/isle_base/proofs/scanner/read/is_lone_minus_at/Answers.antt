use Rattle.isle_base.proofs.Minus.{lone_minus_at}
use Rattle.isle_base.proofs.scanner.read.is_lone_minus_at.Goals as goal

pub returns : goal.returns
returns c = lone_minus_at c.args.bytes.now c.args.at c.symbol_end.result c.requires.minus c.symbol_end.ensures.end
