use Rattle.std.proofs.Common.{[], ap, nat_le, rules, sym, ◌∙◌}
use Rattle.std.proofs.lemmas.List.Sorted.{IsPartitionPoint-from_clause, IsPartitionedBy-leb}
use Rattle.isle_program.proofs.OffLemmas.{off_none, off_some}
use Rattle.isle_program.proofs.allowances.Allowances.lints_at.Goals as goal

pub returns-then-count-eq0 : goal.returns-then-count-eq0
returns-then-count-eq0 c =
    let parted = IsPartitionedBy-leb (λ a. a.start) c.deref.result.now c.args.offset (rw c.deref.ensures.value c.self.invariant) in
    let point = IsPartitionPoint-from_clause (λ a. nat_le a.start c.args.offset) c.deref.result.now _ c.partition_point-count.ensures.partitioned parted (λ a r q k. search rules) in
    rw (← c.self.view_is, ← c.deref.ensures.value) (sym (off_none c.args.offset [] c.deref.result.now c.partition_point-count.result c.if-count-eq0.true point.1))

pub returns : goal.returns
returns c =
    let parted = IsPartitionedBy-leb (λ a. a.start) c.deref.result.now c.args.offset (rw c.deref.ensures.value c.self.invariant) in
    let point = IsPartitionPoint-from_clause (λ a. nat_le a.start c.args.offset) c.deref.result.now _ c.partition_point-count.ensures.partitioned parted (λ a r q k. search rules) in
    let last = off_some c.args.offset [] c.deref.result.now c.partition_point-count.result c.index.result.now c.if-count-eq0.false c.partition_point-count.ensures.bound point.0 point.1 in
    let at = rw (← c.deref.ensures.value) at c.index.ensures in
    rw (← c.self.view_is, ← c.deref.ensures.value, last) (c.deref-2.ensures.value ∙ ap (λ a. a.lints.items) at)
