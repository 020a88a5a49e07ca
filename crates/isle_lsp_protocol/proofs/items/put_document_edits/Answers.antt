use Rattle.std.proofs.Common.{[], ◌∷◌, ◌++◌, ap, ◌∙◌, append_assoc, codes}
use Rattle.std.proofs.lemmas.Result.{on_ok_weaker}
use Rattle.json.specs.Token.{end_object, key}
use Rattle.json.specs.Tree.{json_tokens}
use Rattle.serde_json.specs.Written.{outline}
use Rattle.isle_lsp_protocol.proofs.Readings.{document_edits_reads}
use Rattle.isle_lsp_protocol.specs.Items.{edits_data}
use Rattle.isle_lsp_protocol.specs.Results.{document_identifier}
use Rattle.isle_lsp_protocol.proofs.items.put_document_edits.Goals as goal

pub returns-clause-tokens : goal.returns-clause-tokens
returns-clause-tokens c =
    let begun = c.in_ok-key.ensures.ok ∙ ap (λ ts. ts ++ key (codes "edits") ∷ []) c.in_ok-begin_object.ensures.ok in
    let edits = c.in_ok-put_edits.ensures.tokens ∙ ap (λ ts. ts ++ json_tokens (outline (edits_data c.args.text.now c.args.ranges.now))) begun in
    let document = c.in_ok-put_document_identifier.ensures.tokens ∙ ap (λ ts. ts ++ key (codes "textDocument") ∷ json_tokens (outline (document_identifier c.args.uri.now c.args.version))) edits in
    on_ok_weaker c.end_object.result (λ closed. closed ∙ ap (λ ts. ts ++ end_object ∷ []) document ∙ simp append_assoc) c.end_object.ensures.ok

pub returns-clause-reads : goal.returns-clause-reads
returns-clause-reads c =
    on_ok_weaker c.end_object.result (λ closed. document_edits_reads c.args.uri.now c.args.version (edits_data c.args.text.now c.args.ranges.now) c.in_ok-put_edits.ensures.reads c.in_ok-put_document_identifier.ensures.reads) c.end_object.ensures.ok
