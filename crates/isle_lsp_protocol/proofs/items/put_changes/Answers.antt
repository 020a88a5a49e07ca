use Rattle.std.proofs.Common.{[], ◌∷◌, ◌++◌, ap, ◌∙◌, append_assoc, codes}
use Rattle.std.proofs.lemmas.Result.{on_ok_weaker}
use Rattle.json.specs.Token.{end_object, key}
use Rattle.json.specs.Tree.{json_tokens}
use Rattle.serde_json.specs.Written.{outline}
use Rattle.isle_lsp_protocol.proofs.Readings.{changes_reads}
use Rattle.isle_lsp_protocol.specs.Items.{items_data}
use Rattle.isle_lsp_protocol.proofs.items.put_changes.Goals as goal

pub returns-clause-tokens : goal.returns-clause-tokens
returns-clause-tokens c =
    let begun = c.in_ok-key.ensures.ok ∙ ap (λ ts. ts ++ key (codes "documentChanges") ∷ []) c.in_ok-begin_object.ensures.ok in
    let items = c.in_ok-put_items.ensures.tokens ∙ ap (λ ts. ts ++ json_tokens (outline (items_data c.args.items.now))) begun in
    on_ok_weaker c.end_object.result (λ closed. closed ∙ ap (λ ts. ts ++ end_object ∷ []) items ∙ simp append_assoc) c.end_object.ensures.ok

pub returns-clause-reads : goal.returns-clause-reads
returns-clause-reads c =
    on_ok_weaker c.end_object.result (λ closed. changes_reads (items_data c.args.items.now) c.in_ok-put_items.ensures.reads) c.end_object.ensures.ok
