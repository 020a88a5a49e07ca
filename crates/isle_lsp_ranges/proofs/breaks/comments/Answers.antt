use Rattle.isle_lsp_ranges.proofs.LineBreaks.{within_text}
use Rattle.isle_lsp_ranges.proofs.breaks.comments.Goals as goal

pub slice_bounds-is_comment-count : goal.slice_bounds-is_comment-count
slice_bounds-is_comment-count c = within_text c.args.text.now c.args.breaks.now c.loop-start.start-index 0 c.requires c.loop-start-test.true

pub slice_bounds-is_comment-start : goal.slice_bounds-is_comment-start
slice_bounds-is_comment-start c = within_text c.args.text.now c.args.breaks.now c.loop-start.start-index 0 c.requires c.loop-start-test.true
