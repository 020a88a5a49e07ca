use Rattle.std.proofs.Common.{[], ◌∷◌, ◌++◌, ap, sym, ◌∙◌, append_assoc, codes, decimal}
use Rattle.std.proofs.lemmas.Result.{on_ok_weaker}
use Rattle.json.specs.Token.{end_object, key, number, string}
use Rattle.json.specs.Tree.{json_tokens}
use Rattle.serde_json.specs.Written.{outline}
use Rattle.isle_lsp_protocol.specs.Results.{range_data}
use Rattle.isle_lsp_protocol.proofs.writing.put_checked.Goals as goal

pub returns-clause-tokens : goal.returns-clause-tokens
returns-clause-tokens c =
    let kind = c.in_ok-put_text.ensures.tokens ∙ ap (λ ts. ts ++ key (codes "code") ∷ string c.args.kind.now ∷ []) c.in_ok-begin_object.ensures.ok in
    let message = c.in_ok-put_text-2.ensures.tokens ∙ ap (λ ts. ts ++ key (codes "message") ∷ string c.args.message.now ∷ []) kind in
    let range = c.in_ok-put_range.ensures.tokens ∙ ap (λ ts. ts ++ key (codes "range") ∷ json_tokens (outline (range_data c.args.range))) message in
    let severity = c.in_ok-put_number.ensures.tokens ∙ ap (λ ts. ts ++ key (codes "severity") ∷ number (decimal c.severity.result) ∷ []) range in
    let source = c.in_ok-put_text-3.ensures.tokens ∙ ap (λ ts. ts ++ key (codes "source") ∷ string (codes "isle-check") ∷ []) severity in
    rw (sym c.severity.ensures) (on_ok_weaker c.end_object.result (λ closed. closed ∙ ap (λ ts. ts ++ end_object ∷ []) source ∙ simp append_assoc) c.end_object.ensures.ok)
