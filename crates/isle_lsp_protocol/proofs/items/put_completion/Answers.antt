use Rattle.std.proofs.Common.{[], ◌∷◌, ◌++◌, ap, ◌∙◌, append_assoc, codes, decimal}
use Rattle.std.proofs.lemmas.Result.{on_ok_weaker}
use Rattle.json.specs.Token.{end_object, key, number, string}
use Rattle.json.specs.Tree.{json_tokens}
use Rattle.serde_json.specs.Written.{outline}
use Rattle.isle_lsp_protocol.proofs.Readings.{completion_reads}
use Rattle.isle_lsp_protocol.specs.Results.{text_edit}
use Rattle.isle_lsp_protocol.proofs.items.put_completion.Goals as goal

pub returns-clause-tokens : goal.returns-clause-tokens
returns-clause-tokens c =
    let kind = c.in_ok-put_number.ensures.tokens ∙ ap (λ ts. ts ++ key (codes "kind") ∷ number (decimal c.args.kind) ∷ []) c.in_ok-begin_object.ensures.ok in
    let label = c.in_ok-put_text.ensures.tokens ∙ ap (λ ts. ts ++ key (codes "label") ∷ string c.args.name.now ∷ []) kind in
    let begun = c.in_ok-key.ensures.ok ∙ ap (λ ts. ts ++ key (codes "textEdit") ∷ []) label in
    let edit = c.in_ok-put_edit.ensures.tokens ∙ ap (λ ts. ts ++ json_tokens (outline (text_edit c.args.range c.args.name.now))) begun in
    on_ok_weaker c.end_object.result (λ closed. closed ∙ ap (λ ts. ts ++ end_object ∷ []) edit ∙ simp append_assoc) c.end_object.ensures.ok

pub returns-clause-reads : goal.returns-clause-reads
returns-clause-reads c =
    on_ok_weaker c.end_object.result
    (λ closed. completion_reads c.args.name.now c.args.kind c.args.range c.in_ok-put_number.ensures.reads c.in_ok-put_edit.ensures.reads)
    c.end_object.ensures.ok
