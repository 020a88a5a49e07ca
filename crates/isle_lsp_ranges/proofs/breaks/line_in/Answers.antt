use Rattle.std.proofs.Common.{nat_le, rules, sym}
use Rattle.std.proofs.lemmas.List.Sorted.{IsPartitionPoint-from_clause, IsPartitionedBy-leb}
use Rattle.isle_base_source.proofs.LineLemmas.{count_by-upto}
use Rattle.isle_lsp_ranges.proofs.LineBreaks.{breaks_rise}
use Rattle.isle_lsp_ranges.proofs.breaks.line_in.Goals as goal

pub returns-clause-line : goal.returns-clause-line
returns-clause-line c =
    let point = IsPartitionPoint-from_clause (λ start. nat_le start c.args.offset) c.args.breaks.now c.partition_point.result c.partition_point.ensures.partitioned (IsPartitionedBy-leb (λ x. x) c.args.breaks.now c.args.offset (rw c.requires (breaks_rise c.args.text.now))) (λ a r q k. search rules) in
    sym (count_by-upto (λ start. nat_le start c.args.offset) c.args.breaks.now c.partition_point.result c.partition_point.ensures.bound point.0 point.1)
