use Rattle.std.proofs.Common.{length, arith}
use Rattle.isle_base.specs.Computed.{computed}
use Rattle.isle_base.proofs.Complete.{Lexes-unique}
use Rattle.isle_base.proofs.Exists.{computed_sound}
use Rattle.isle_base.proofs.lexer.laws.one_lexing.Goals as goal

pub returns : goal.returns
returns c =
    λ text. (
      ((computed (length text) (length text) text).tokens, (computed (length text) (length text) text).ending, computed_sound (length text) (length text) text (omega arith)),
      λ tokens others ending other l m. Lexes-unique (length text) text tokens others ending other l m,
    )
