use Rattle.std.proofs.Common.{string_bytes}
use Rattle.std.specs.List.{filter}
use Rattle.isle_check_overlaps.specs.Groups.{is_of}
use Rattle.isle_check_overlaps.specs.Views.{candidate_of}
use Rattle.isle_check_overlaps.proofs.GroupLemmas.{groups_put}
use Rattle.isle_check_overlaps.proofs.groups.add_to_group.Goals as goal

pub returns : goal.returns
returns c = λ cs held.
    groups_put c.args.groups.now c.taken.new.groups c.insert.new.self (candidate_of c.args.candidate.now) (string_bytes c.in_ok-from_str.field-0) c.add.new.group cs
    c.in_ok-from_str.ensures.ok c.taken.ensures.left c.in_ok-insert.ensures.updates
    (c.in_ok-add.ensures (filter (is_of c.args.candidate.now.term.now) cs)
    (c.in_ok-group.ensures.group (filter (is_of c.args.candidate.now.term.now) cs) (held c.args.candidate.now.term.now))) held
