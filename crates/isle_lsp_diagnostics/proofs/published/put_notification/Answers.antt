use Rattle.std.proofs.Common.{[], ◌∷◌, ◌++◌, ap, ◌∙◌, append_assoc, codes, map}
use Rattle.std.proofs.lemmas.Result.{on_ok_weaker}
use Rattle.json.specs.Token.{end_object, key, string}
use Rattle.json.specs.Tree.{json_tokens}
use Rattle.serde_json.specs.Written.{outline}
use Rattle.isle_lsp_diagnostics.specs.Marks.{mark_of}
use Rattle.isle_lsp_diagnostics.specs.Published.{diagnostics_data}
use Rattle.isle_lsp_diagnostics.specs.Published.{parameters_data}
use Rattle.isle_lsp_diagnostics.proofs.published.put_notification.Goals as goal

pub returns-clause-tokens : goal.returns-clause-tokens
returns-clause-tokens c =
    let version = c.in_ok-put_text.ensures.tokens ∙ ap (λ ts. ts ++ key (codes "jsonrpc") ∷ string (codes "2.0") ∷ []) c.in_ok-begin_object.ensures.ok in
    let method = c.in_ok-put_text-2.ensures.tokens ∙ ap (λ ts. ts ++ key (codes "method") ∷ string (codes "textDocument/publishDiagnostics") ∷ []) version in
    let parameters = json_tokens (outline (parameters_data c.args.uri.now c.args.version (diagnostics_data c.args.encoding c.args.text.now (map mark_of c.args.diagnostics.now)))) in
    let all = c.in_ok-put_parameters.ensures.tokens ∙ ap (λ ts. ts ++ key (codes "params") ∷ parameters) method in
    on_ok_weaker c.end_object.result (λ closed. closed ∙ ap (λ ts. ts ++ end_object ∷ []) all ∙ simp append_assoc) c.end_object.ensures.ok
