use Rattle.std.proofs.Common.{SFits, w64, arith, subst, sym}
use Rattle.std.proofs.lemmas.Result.{on_ok_weaker}
use Rattle.isle_lsp_protocol.proofs.Ids.{integer_reads}
use Rattle.isle_lsp_protocol.specs.Results.{version_data}
use Rattle.isle_lsp_protocol.specs.Written.{Reads}
use Rattle.isle_lsp_protocol.proofs.items.put_version.Goals as goal

pub returns-in-Some-clause-reads : goal.returns-in-Some-clause-reads
returns-in-Some-clause-reads c =
    let fits : SFits w64 c.in-Some.version = grind arith in
    let reads = integer_reads c.in-Some.version fits in
    on_ok_weaker c.i64.result (λ _. subst (λ v. Reads (version_data v)) (sym c.in-Some.is) reads) c.i64.ensures.ok
