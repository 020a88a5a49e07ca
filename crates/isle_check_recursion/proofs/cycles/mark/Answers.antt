use Rattle.std.proofs.Common.{List, ℕ, ◌<◌, [], false, get_or, length, map, arith}
use Rattle.std.proofs.lemmas.List.{length-map}
use Rattle.isle_check_recursion.specs.Walks.{all_end}
use Rattle.isle_check_recursion.proofs.Marking.{ready_unset, sound_mark, unended_set}
use Rattle.isle_check_recursion.proofs.cycles.mark.Goals as goal

pub returns-clause-sound : goal.returns-clause-sound
returns-clause-sound c =
    let cs : List (List ℕ) = map (λ v. v.items) c.args.next.now in
    let within : c.args.place < length cs = omega (arith, length-map c.args.next.now (λ v. v.items), c.requires.within) in
    sound_mark cs c.args.ends.now.items c.args.place c.requires.sound within c.requires.ended

pub returns-clause-fewer : goal.returns-clause-fewer
returns-clause-fewer c =
    let cs : List (List ℕ) = map (λ v. v.items) c.args.next.now in
    let flags = c.args.ends.now.items in
    let place = c.args.place in
    let within : place < length flags = omega (arith, length-map c.args.next.now (λ v. v.items), c.requires.within, c.requires.sound.count) in
    unended_set flags place within (ready_unset (get_or flags place false) (all_end flags (get_or cs place [])) c.requires.ended)
