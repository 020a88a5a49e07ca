use Rattle.std.proofs.Common.{[], ◌∷◌, ◌++◌, ap, ◌∙◌, append_assoc, codes}
use Rattle.std.proofs.lemmas.Result.{on_ok_weaker}
use Rattle.json.specs.Token.{end_object, key, string}
use Rattle.json.specs.Tree.{json_tokens}
use Rattle.serde_json.specs.Written.{outline}
use Rattle.isle_lsp_protocol.specs.Results.{range_data}
use Rattle.isle_lsp_protocol.proofs.items.put_location.Goals as goal

pub returns-clause-tokens : goal.returns-clause-tokens
returns-clause-tokens c =
    let range = c.in_ok-put_range.ensures.tokens ∙ ap (λ ts. ts ++ key (codes "range") ∷ json_tokens (outline (range_data c.args.range))) c.in_ok-begin_object.ensures.ok in
    let uri = c.in_ok-put_text.ensures.tokens ∙ ap (λ ts. ts ++ key (codes "uri") ∷ string c.args.uri.now ∷ []) range in
    on_ok_weaker c.end_object.result (λ closed. closed ∙ ap (λ ts. ts ++ end_object ∷ []) uri ∙ simp append_assoc) c.end_object.ensures.ok
