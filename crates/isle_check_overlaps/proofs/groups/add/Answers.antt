use Rattle.std.proofs.Common.{ap, sym, ◌∙◌, refl, length, option_map, string_bytes}
use Rattle.std.proofs.lemmas.Result.{on_ok_weaker}
use Rattle.std.proofs.lemmas.List.{length-map}
use Rattle.isle_check_overlaps.specs.Views.{candidate_of, candidates_at}
use Rattle.isle_check_overlaps.proofs.GroupLemmas.{group_alike, group_free}
use Rattle.isle_check_overlaps.proofs.ListLemmas.{map_last}
use Rattle.isle_check_overlaps.proofs.groups.add.Goals as goal

pub returns-in-Some : goal.returns-in-Some
returns-in-Some c =
    on_ok_weaker c.add_alike.result
    (λ more cs held.
    group_alike c.args.group.now record { place = c.args.group.now.place; all = c.push.new.self; free = c.args.group.now.free; alike = c.add_alike.new.alike } cs
    record { candidate = candidate_of c.args.candidate.now; before = length c.as_slice-before.result.now } (string_bytes c.in-Some.text)
    (sym c.in_ok-text.ensures ∙ ap (option_map string_bytes) c.in-Some.is) refl refl
    (ap candidates_at c.in_ok-push.ensures.items ∙ map_last (λ x. candidate_of x.now) c.args.group.now.all.items c.args.candidate)
    (ap length c.as_slice-before.ensures.value ∙ sym (length-map c.args.group.now.free.items (λ x. candidate_of x.now))) more held) c.add_alike.ensures

pub returns-in_ok-push-in-None : goal.returns-in_ok-push-in-None
returns-in_ok-push-in-None c = λ cs held.
    group_free c.args.group.now record { place = c.args.group.now.place; all = c.push.new.self; free = c.push-in-None.new.self; alike = c.args.group.now.alike } cs
    (candidate_of c.args.candidate.now)
    (sym c.in_ok-text.ensures ∙ ap (option_map string_bytes) c.in-None.is) refl refl
    (ap candidates_at c.in_ok-push.ensures.items ∙ map_last (λ x. candidate_of x.now) c.args.group.now.all.items c.args.candidate)
    (ap candidates_at c.in_ok-push-in-None.ensures.items ∙ map_last (λ x. candidate_of x.now) c.args.group.now.free.items c.args.candidate) held
