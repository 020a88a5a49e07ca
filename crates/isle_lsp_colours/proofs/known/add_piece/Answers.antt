use Rattle.std.proofs.Common.{refl}
use Rattle.isle_lsp_features.specs.Pieces.{deep}
use Rattle.isle_lsp_colours.proofs.known.add_piece.Goals as goal

pub returns-in_ok-add_front-in-Some : goal.returns-in_ok-add_front-in-Some
returns-in_ok-add_front-in-Some c =
    let front = c.in_ok-add_front-in-Some.ensures in
    record { piece = deep c.in-Some.offset front.0; is = (rw c.in-Some.is at c.in_ok-offset.ensures, front.1); left = refl; holds = front.2 }
