use Rattle.std.proofs.Common.{◌++◌, ap, ◌∙◌, take, drop, ◌-◌}
use Rattle.std.proofs.lemmas.List.{map-append}
use Rattle.isle_check_overlaps.specs.Views.{candidate_of, candidates_at}
use Rattle.isle_check_overlaps.proofs.ListLemmas.{slice_map}
use Rattle.isle_check_overlaps.proofs.groups.add_between.Goals as goal

pub returns : goal.returns
returns c =
    ap candidates_at c.in_ok-extend_from_slice.ensures.items
    ∙ (map-append (λ x. candidate_of x.now) c.args.made.now.items (take (c.min-to.result - c.min-from.result) (drop c.min-from.result c.args.rules.now))
    ∙ ap (λ l. candidates_at c.args.made.now.items ++ l)
    (slice_map (λ x. candidate_of x.now) c.args.from c.args.to c.args.rules.now c.min-to.result c.min-from.result c.min-to.ensures c.min-from.ensures))
