use Rattle.std.proofs.Common.{◌++◌, ◌∙◌, ap, map, refl, sym}
use Rattle.isle_tidy_diff.specs.Edits.{added_line, edits_of, texts_of}
use Rattle.isle_tidy_diff.proofs.EditLemmas.{old-within, pushed, same-line, tells-kept, tells-removed, texts-part}
use Rattle.isle_tidy_diff.proofs.edits.push_old.Goals as goal

pub returns-then-eq-clause-told : goal.returns-then-eq-clause-told
returns-then-eq-clause-told c =
    let edits = edits_of c.args.edits.now.items in
    let news = texts_of c.args.new.now in
    tells-kept edits (edits_of c.push_added.new.edits.items) _ c.args.line.now news c.args.paired.told c.args.paired.next c.requires.order
    (old-within c.args.new.now c.args.paired.next c.if-next-new.true)
    (c.in_ok-push_added.ensures ∙ ap (λ ls. edits ++ map added_line ls) (texts-part c.args.paired.told _ c.args.new.now))
    (pushed c.push_added.new.edits.items c.push.new.self.items _ c.in_ok-push.ensures.items)
    (same-line c.args.line.now c.args.new.now c.args.paired.next _ refl (sym c.eq.ensures ∙ c.if-eq.true))

pub returns-then-not-is_left_out-clause-told : goal.returns-then-not-is_left_out-clause-told
returns-then-not-is_left_out-clause-told c =
    tells-removed (edits_of c.args.edits.now.items) _ c.args.line.now (texts_of c.args.new.now) c.args.paired.told (pushed c.args.edits.now.items _ _ c.in_ok-push-2.ensures.items)

pub returns-clause-told : goal.returns-clause-told
returns-clause-told c =
    tells-removed (edits_of c.args.edits.now.items) _ c.args.line.now (texts_of c.args.new.now) c.args.paired.told (pushed c.args.edits.now.items _ _ c.in_ok-push-2.ensures.items)
