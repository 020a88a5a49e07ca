use Rattle.std.proofs.Common.{refl}
use Rattle.isle_lsp_features.specs.Pieces.{deep}
use Rattle.isle_lsp_features.proofs.pieces.add_deep.Goals as goal

pub returns-clause-ok : goal.returns-clause-ok
returns-clause-ok c =
    let front = c.in_ok-add_front.ensures.ok in
    record {
      piece = deep c.args.offset front.0;
      is = (c.requires, front.1);
      left = refl;
      holds = front.2;
      refused = c.in_ok-push.ensures.items;
    }
