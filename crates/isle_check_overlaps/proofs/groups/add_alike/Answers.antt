use Rattle.std.proofs.Common.{ap, sym, ◌∙◌, string_bytes}
use Rattle.isle_check_overlaps.specs.Groups.{all_ranked_of, ranked_of}
use Rattle.isle_check_overlaps.proofs.GroupLemmas.{alike_put}
use Rattle.isle_check_overlaps.proofs.ListLemmas.{map_last}
use Rattle.isle_check_overlaps.proofs.groups.add_alike.Goals as goal

pub returns : goal.returns
returns c = λ other.
    alike_put c.args.alike.now c.taken_alike-same.new.alike c.insert.new.self c.as_str.result.now (string_bytes c.args.text) c.push.new.self (all_ranked_of c.taken_alike-same.result.items)
    (ranked_of c.args.ranked) (sym c.as_str.ensures.value) c.taken_alike-same.ensures.left c.in_ok-insert.ensures.updates c.taken_alike-same.ensures.items
    (ap all_ranked_of c.in_ok-push.ensures.items ∙ map_last ranked_of c.taken_alike-same.result.items c.args.ranked) other
