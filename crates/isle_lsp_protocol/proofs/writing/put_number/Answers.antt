use Rattle.std.proofs.Common.{arith}
use Rattle.serde_json.proofs.Numbers.{number_of-decimal}
use Rattle.isle_lsp_protocol.proofs.writing.put_number.Goals as goal

pub returns-in_err-key-clause-reads : goal.returns-in_err-key-clause-reads
returns-in_err-key-clause-reads c = number_of-decimal c.args.n (omega arith)

pub returns-clause-reads : goal.returns-clause-reads
returns-clause-reads c = number_of-decimal c.args.n (omega arith)
