use Rattle.std.proofs.Common.{◌≡◌, ℕ, List, ◌++◌, OnOk, subst}
use Rattle.json.specs.Tree.{json_tokens}
use Rattle.serde_json.specs.Written.{outline}
use Rattle.isle_lsp_protocol.specs.Items.{edits_data}
use Rattle.isle_lsp_protocol.specs.Results.{document_edits}
use Rattle.isle_lsp_protocol.specs.Written.{Reads}
use Rattle.isle_lsp_protocol.proofs.items.put_item.Goals as goal

pub returns-in-Location-clause-tokens : goal.returns-in-Location-clause-tokens
returns-in-Location-clause-tokens c = rw c.in-Location.is c.put_location.ensures.tokens

pub returns-in-Location-clause-reads : goal.returns-in-Location-clause-reads
returns-in-Location-clause-reads c = rw c.in-Location.is c.put_location.ensures.reads

pub returns-in-Highlight-clause-tokens : goal.returns-in-Highlight-clause-tokens
returns-in-Highlight-clause-tokens c = rw c.in-Highlight.is c.put_highlight.ensures.tokens

pub returns-in-Highlight-clause-reads : goal.returns-in-Highlight-clause-reads
returns-in-Highlight-clause-reads c = rw c.in-Highlight.is c.put_highlight.ensures.reads

pub returns-in-DocumentSymbol-clause-tokens : goal.returns-in-DocumentSymbol-clause-tokens
returns-in-DocumentSymbol-clause-tokens c = rw c.in-DocumentSymbol.is (rw c.as_str.ensures.value at c.put_document_symbol.ensures.tokens)

pub returns-in-DocumentSymbol-clause-reads : goal.returns-in-DocumentSymbol-clause-reads
returns-in-DocumentSymbol-clause-reads c = rw c.in-DocumentSymbol.is (rw c.as_str.ensures.value at c.put_document_symbol.ensures.reads)

pub returns-in-WorkspaceSymbol-clause-tokens : goal.returns-in-WorkspaceSymbol-clause-tokens
returns-in-WorkspaceSymbol-clause-tokens c = rw c.in-WorkspaceSymbol.is (rw c.as_str-in-WorkspaceSymbol.ensures.value at c.put_workspace_symbol.ensures.tokens)

pub returns-in-WorkspaceSymbol-clause-reads : goal.returns-in-WorkspaceSymbol-clause-reads
returns-in-WorkspaceSymbol-clause-reads c = rw c.in-WorkspaceSymbol.is (rw c.as_str-in-WorkspaceSymbol.ensures.value at c.put_workspace_symbol.ensures.reads)

pub returns-in-Completion-clause-tokens : goal.returns-in-Completion-clause-tokens
returns-in-Completion-clause-tokens c = rw c.in-Completion.is (rw c.as_str-in-Completion.ensures.value at c.put_completion.ensures.tokens)

pub returns-in-Completion-clause-reads : goal.returns-in-Completion-clause-reads
returns-in-Completion-clause-reads c = rw c.in-Completion.is (rw c.as_str-in-Completion.ensures.value at c.put_completion.ensures.reads)

pub returns-in-InlayHint-clause-tokens : goal.returns-in-InlayHint-clause-tokens
returns-in-InlayHint-clause-tokens c = rw c.in-InlayHint.is (rw c.as_str-in-InlayHint.ensures.value at c.put_inlay_hint.ensures.tokens)

pub returns-in-InlayHint-clause-reads : goal.returns-in-InlayHint-clause-reads
returns-in-InlayHint-clause-reads c = rw c.in-InlayHint.is (rw c.as_str-in-InlayHint.ensures.value at c.put_inlay_hint.ensures.reads)

pub returns-in-Edits-clause-tokens : goal.returns-in-Edits-clause-tokens
returns-in-Edits-clause-tokens c =
    let Adds : List ℕ → Type 0 = λ text. OnOk c.put_document_edits.result
    (c.put_document_edits.new.out.tokens ≡ c.args.out.now.tokens ++ json_tokens (outline (document_edits c.in-Edits.uri.now c.in-Edits.version (edits_data text c.in-Edits.ranges.items)))) in
    rw c.in-Edits.is (subst Adds c.as_str-in-Edits.ensures.value (rw c.deref.ensures.value at c.put_document_edits.ensures.tokens))

pub returns-in-Edits-clause-reads : goal.returns-in-Edits-clause-reads
returns-in-Edits-clause-reads c =
    let Read : List ℕ → Type 0 = λ text. OnOk c.put_document_edits.result (Reads (document_edits c.in-Edits.uri.now c.in-Edits.version (edits_data text c.in-Edits.ranges.items))) in
    rw c.in-Edits.is (subst Read c.as_str-in-Edits.ensures.value (rw c.deref.ensures.value at c.put_document_edits.ensures.reads))
