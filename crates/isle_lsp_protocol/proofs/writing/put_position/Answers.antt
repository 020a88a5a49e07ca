use Rattle.std.proofs.Common.{[], ◌∷◌, ◌++◌, ap, ◌∙◌, append_assoc, codes, decimal}
use Rattle.std.proofs.lemmas.Result.{on_ok_weaker}
use Rattle.json.specs.Token.{begin_object, end_object, key, number}
use Rattle.isle_lsp_protocol.proofs.writing.put_position.Goals as goal

pub returns-clause-tokens : goal.returns-clause-tokens
returns-clause-tokens c =
    let opened = c.in_ok-begin_object.ensures.ok ∙ ap (λ ts. ts ++ begin_object ∷ []) c.in_ok-key.ensures.ok in
    let one = c.in_ok-put_number.ensures.tokens ∙ ap (λ ts. ts ++ key (codes "character") ∷ number (decimal c.args.position.unit) ∷ []) opened in
    let two = c.in_ok-put_number-2.ensures.tokens ∙ ap (λ ts. ts ++ key (codes "line") ∷ number (decimal c.args.position.line) ∷ []) one in
    on_ok_weaker c.end_object.result (λ closed. closed ∙ ap (λ ts. ts ++ end_object ∷ []) two ∙ simp append_assoc) c.end_object.ensures.ok
