use Rattle.std.proofs.Common.{[], ◌∷◌, ◌++◌, ap, ◌∙◌, append_assoc, codes, decimal}
use Rattle.std.proofs.lemmas.Result.{on_ok_weaker}
use Rattle.json.specs.Token.{end_object, key, number, string}
use Rattle.json.specs.Tree.{json_tokens}
use Rattle.serde_json.specs.Written.{outline}
use Rattle.isle_lsp_protocol.proofs.Readings.{inlay_hint_reads}
use Rattle.isle_lsp_protocol.specs.Results.{position_data}
use Rattle.isle_lsp_protocol.proofs.items.put_inlay_hint.Goals as goal

pub returns-clause-tokens : goal.returns-clause-tokens
returns-clause-tokens c =
    let kind = c.in_ok-put_number.ensures.tokens ∙ ap (λ ts. ts ++ key (codes "kind") ∷ number (decimal 1) ∷ []) c.in_ok-begin_object.ensures.ok in
    let label = c.in_ok-put_text.ensures.tokens ∙ ap (λ ts. ts ++ key (codes "label") ∷ string c.args.label.now ∷ []) kind in
    let position = c.in_ok-put_position.ensures.tokens ∙ ap (λ ts. ts ++ key (codes "position") ∷ json_tokens (outline (position_data c.args.position))) label in
    on_ok_weaker c.end_object.result (λ closed. closed ∙ ap (λ ts. ts ++ end_object ∷ []) position ∙ simp append_assoc) c.end_object.ensures.ok

pub returns-clause-reads : goal.returns-clause-reads
returns-clause-reads c =
    on_ok_weaker c.end_object.result (λ closed. inlay_hint_reads c.args.position c.args.label.now c.in_ok-put_position.ensures.reads) c.end_object.ensures.ok
