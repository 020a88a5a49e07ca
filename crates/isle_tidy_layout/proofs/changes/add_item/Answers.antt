use Rattle.std.proofs.Common.{subst, ◌<◌, length, arith}
use Rattle.std.proofs.lemmas.Grind.{common_steps}
use Rattle.isle_tidy_layout.specs.EntriesView.{lexeme_of}
use Rattle.isle_tidy_layout.specs.Placing.{head_of}
use Rattle.isle_tidy_layout.proofs.Stacks.{item_on_row, IsLast}
use Rattle.isle_tidy_layout.proofs.changes.add_item.Goals as goal

pub returns-in_ok-push-in_default : goal.returns-in_ok-push-in_default
returns-in_ok-push-in_default c = λ ls s.
    let last = subst (λ xs. IsLast xs c.innermost-list.result) c.deref.ensures.value c.innermost-list.ensures.last in
    let some : 0 < length c.args.lists.now.items = grind (arith, common_steps, c.is_empty.ensures, c.if-is_empty.false, c.args.lists.now.ok.0) in
    item_on_row ls c.args.lists.now.items c.args.arguments.now.items c.push.new.self.items c.innermost-list.result (head_of (lexeme_of c.args.lexeme.now)) c.args.row c.args.at s some last c.requires c.in_default.not-NoHead c.if-list-row.true c.in_ok-push-in_default.ensures.items
