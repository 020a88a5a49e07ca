use Rattle.std.proofs.Common.{[], ap, map}
use Rattle.isle_base.specs.Token.{fault}
use Rattle.isle_lsp_text.proofs.calls.words.Goals as goal

pub returns-in-Err-Error : goal.returns-in-Err-Error
returns-in-Err-Error c =
    let refused = rw c.in-Err-Error.field-0-is at c.in-Err-Error.ensures.refused in
    record { tokens = []; ending = fault refused.0; lexed = refused.1; are = ap (map (λ word. word.now)) c.new-in-Err-Error.ensures.items }
