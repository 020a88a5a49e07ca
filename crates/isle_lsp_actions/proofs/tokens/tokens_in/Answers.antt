use Rattle.std.proofs.Common.{ap, map, subst, sym}
use Rattle.isle_base.specs.Token.{fault}
use Rattle.isle_lsp_actions.specs.Tokens.{AreTokens, lexeme_of}
use Rattle.isle_lsp_actions.proofs.tokens.tokens_in.Goals as goal

pub returns-in-Err-Error : goal.returns-in-Err-Error
returns-in-Err-Error c =
    let refused = rw c.in-Err-Error.field-0-is at c.in-Err-Error.ensures.refused in
    subst (AreTokens c.args.text.now) (sym (ap (map lexeme_of) c.new-in-Err-Error.ensures.items)) (fault refused.0, refused.1)
