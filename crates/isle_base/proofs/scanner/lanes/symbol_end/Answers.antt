use Rattle.std.proofs.Common.{drop, arith}
use Rattle.std.proofs.lemmas.List.{length-drop}
use Rattle.std.proofs.lemmas.List.Sums.{prefix_len-le-length}
use Rattle.isle_base.specs.Spellings.{in_symbol}
use Rattle.isle_base.proofs.scanner.lanes.symbol_end.Goals as goal

pub returns-clause-within : goal.returns-clause-within
returns-clause-within c = omega (arith, c.run_end.ensures, prefix_len-le-length in_symbol (drop c.args.from c.args.bytes.now), length-drop c.args.from c.args.bytes.now)
