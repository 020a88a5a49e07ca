use Rattle.std.proofs.Common.{nat_le, rules, sym, ◌∙◌}
use Rattle.std.proofs.lemmas.List.Sorted.{IsPartitionPoint-from_clause, IsPartitionedBy-leb}
use Rattle.isle_base_source.proofs.LineLemmas.{count_by-upto, count-line_ends}
use Rattle.isle_base_source.proofs.files.LineMap.line.Goals as goal

pub returns-clause-below : goal.returns-clause-below
returns-clause-below c =
    let point = IsPartitionPoint-from_clause (λ end. nat_le end c.args.pos) c.deref.result.now c.partition_point.result c.partition_point.ensures.partitioned (IsPartitionedBy-leb (λ x. x) c.deref.result.now c.args.pos (rw c.deref.ensures.value c.self.invariant)) (λ a r q k. search rules) in
    let counted = count_by-upto (λ end. nat_le end c.args.pos) c.deref.result.now c.partition_point.result c.partition_point.ensures.bound point.0 point.1 in
    rw (← c.self.view_is, ← c.deref.ensures.value) (sym counted)

pub returns-clause-of_text : goal.returns-clause-of_text
returns-clause-of_text c = λ text is. returns-clause-below c ∙ (rw is (count-line_ends text c.args.pos))
