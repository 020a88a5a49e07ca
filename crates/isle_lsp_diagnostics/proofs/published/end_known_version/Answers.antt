use Rattle.std.proofs.Common.{SFits, w64, arith}
use Rattle.isle_lsp_diagnostics.proofs.Readings.{version_reads}
use Rattle.isle_lsp_diagnostics.proofs.published.end_known_version.Goals as goal

pub returns-clause-reads : goal.returns-clause-reads
returns-clause-reads c =
    let fits : SFits w64 c.args.version = grind arith in
    version_reads c.args.version fits

pub returns-in_err-key-clause-reads : goal.returns-in_err-key-clause-reads
returns-in_err-key-clause-reads c =
    let fits : SFits w64 c.args.version = grind arith in
    version_reads c.args.version fits

pub returns-in_err-i64-clause-reads : goal.returns-in_err-i64-clause-reads
returns-in_err-i64-clause-reads c =
    let fits : SFits w64 c.args.version = grind arith in
    version_reads c.args.version fits
