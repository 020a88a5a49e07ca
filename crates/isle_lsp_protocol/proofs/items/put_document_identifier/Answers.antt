use Rattle.std.proofs.Common.{[], ◌∷◌, ◌++◌, ap, ◌∙◌, append_assoc, codes}
use Rattle.std.proofs.lemmas.Result.{on_ok_weaker}
use Rattle.json.specs.Token.{begin_object, end_object, key, string}
use Rattle.json.specs.Tree.{json_tokens}
use Rattle.serde_json.specs.Written.{outline}
use Rattle.isle_lsp_protocol.proofs.Readings.{identifier_reads}
use Rattle.isle_lsp_protocol.specs.Results.{version_data}
use Rattle.isle_lsp_protocol.proofs.items.put_document_identifier.Goals as goal

pub returns-clause-tokens : goal.returns-clause-tokens
returns-clause-tokens c =
    let opened = c.in_ok-begin_object.ensures.ok ∙ ap (λ ts. ts ++ begin_object ∷ []) c.in_ok-key.ensures.ok in
    let uri = c.in_ok-put_text.ensures.tokens ∙ ap (λ ts. ts ++ key (codes "uri") ∷ string c.args.uri.now ∷ []) opened in
    let version = c.in_ok-key-2.ensures.ok ∙ ap (λ ts. ts ++ key (codes "version") ∷ []) uri in
    let number = c.in_ok-put_version.ensures.tokens ∙ ap (λ ts. ts ++ json_tokens (outline (version_data c.args.version))) version in
    on_ok_weaker c.end_object.result (λ closed. closed ∙ ap (λ ts. ts ++ end_object ∷ []) number ∙ simp append_assoc) c.end_object.ensures.ok

pub returns-clause-reads : goal.returns-clause-reads
returns-clause-reads c =
    on_ok_weaker c.end_object.result (λ closed. identifier_reads c.args.uri.now c.args.version c.in_ok-put_version.ensures.reads) c.end_object.ensures.ok
