use Rattle.std.proofs.Common.{map, ap, ◌++◌, length, ◌∙◌}
use Rattle.isle_index.specs.Entries.{moved}
use Rattle.isle_index.proofs.Replacing.{of-index, replaced}
use Rattle.isle_index.proofs.Index.replace.Goals as goal

pub returns : goal.returns
returns c = λ before old after_them new is at_start at_stop at_end.
    let es = c.args.self.now.entries.items in
    let begun = c.truncate.new.self.items in
    let half = c.add_moved.new.entries.items in
    let all =
    replaced c.args.self.now.texts.items.items es c.split.new.entries.items c.in_ok-new.new.items c.split-2.new.entries.items c.in_ok-after.after.items begun half
    c.add_moved-2.new.entries.items before old after_them new c.args.start c.args.stop c.args.end
    c.in_ok-new.ensures.front c.in_ok-new.ensures.back c.in_ok-after.ensures.front c.in_ok-after.ensures.back c.truncate.ensures.items
    (c.in_ok-add_moved.ensures ∙ ap (λ xs. begun ++ map (moved c.args.end (length begun)) xs) c.deref.ensures.value)
    (c.in_ok-add_moved-2.ensures ∙ ap (λ xs. half ++ map (moved c.args.stop (length half)) xs) c.deref-2.ensures.value)
    (of-index (before ++ old ++ after_them ++ new) c.args.self.now is) at_start at_stop at_end in
    record { whole = all.has; is = all.are }
