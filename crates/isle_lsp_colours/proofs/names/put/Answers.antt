use Rattle.std.proofs.Common.{ap, not, ◌∙◌}
use Rattle.isle_lsp_colours.proofs.Putting.{put-over, put-past, put-there}
use Rattle.isle_lsp_colours.proofs.names.put.Goals as goal
use Rattle.isle_lsp_colours.proofs.names.put.Goals.{else-name-classes-via-then-name-classes+else-is_none, else-name-classes-via-else-name-classes}

pub returns-then-is_none : goal.returns-then-is_none
returns-then-is_none c =
    λ offset. put-there c.args.classes.now c.args.name.offset c.args.name.class offset c.if-name-classes.true (c.is_none.ensures ∙ ap not c.if-is_none.true)

pub returns-else-name-classes : goal.returns-else-name-classes
returns-else-name-classes c = elim c.else-name-classes.branch [
  | else-name-classes-via-then-name-classes+else-is_none w ↦
      λ offset. put-over c.args.classes.now c.args.name.offset c.args.name.class offset w.if-name-classes.true (w.is_none.ensures ∙ ap not w.if-is_none.false)
  | else-name-classes-via-else-name-classes w ↦ λ offset. put-past c.args.classes.now c.args.name.offset c.args.name.class offset w.if-name-classes.false
]
