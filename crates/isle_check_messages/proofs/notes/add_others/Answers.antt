use Rattle.std.proofs.Common.{◌≡◌, ◌+◌, [], ◌∷◌, ◌++◌, List, ap, append_assoc, drop, map, sym, ◌∙◌}
use Rattle.std.proofs.lemmas.List.{drop_more, map-append}
use Rattle.isle_check_messages.specs.Notes.{NoteNode, note_of, notes_of, other_note}
use Rattle.isle_check_overlaps.specs.Views.{other_of, others_of}
use Rattle.isle_check_messages.proofs.notes.add_others.Goals as goal

pub loop-other-preserved : goal.loop-other-preserved
loop-other-preserved c =
    let others = c.args.others.now in
    let i = c.loop-other.other-index in
    let told : List NoteNode = notes_of c.loop-other.notes.items in
    let rest : List NoteNode = map other_note (others_of (drop (i + 1) others)) in
    let one : NoteNode = other_note (other_of c.other-item.result) in
    let step : map other_note (others_of (drop i others)) ≡ one ∷ rest =
    ap (λ os. map other_note (others_of os))
    (drop_more others i c.other-item.result c.loop-other-test.true ∙ ap (λ q. q ∷ drop (i + 1) others) (sym c.other-item.is)) in
    ap (λ ns. ns ++ rest)
    (ap notes_of c.in_ok-push.ensures.items ∙ map-append note_of c.loop-other.notes.items (c.in_ok-other_note.field-0 ∷ []) ∙ ap (λ n. told ++ n ∷ []) c.in_ok-other_note.ensures)
    ∙ append_assoc told (one ∷ []) rest ∙ ap (λ ns. told ++ ns) (sym step) ∙ c.loop-other.invariant
