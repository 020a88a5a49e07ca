use Rattle.std.proofs.Common.{◌+◌, arith}
use Rattle.isle_base.proofs.Places.{comment_further, opens_room}
use Rattle.isle_lsp_text.proofs.Covered.{covers_block, covers_open}
use Rattle.isle_lsp_text.proofs.comments.block_end.Goals as goal

pub block_comment_end-requires : goal.block_comment_end-requires
block_comment_end-requires c = opens_room c.args.text.now c.args.at c.requires.opens

pub returns-in-Some-clause-on : goal.returns-in-Some-clause-on
returns-in-Some-clause-on c =
    let further = comment_further c.args.text.now (c.args.at + 2) c.in-Some.end c.in-Some.ensures.1 c.in-Some.ensures.0 in
    omega (arith, further)

pub returns-in-Some-clause-covers : goal.returns-in-Some-clause-covers
returns-in-Some-clause-covers c =
    covers_block c.args.text.now c.args.at c.in-Some.end c.requires.opens c.in-Some.ensures.0 c.requires.at c.in-Some.ensures.1

pub returns-in-None-clause-covers : goal.returns-in-None-clause-covers
returns-in-None-clause-covers c = covers_open c.args.text.now c.args.at c.requires.opens c.in-None.ensures
