use Rattle.std.proofs.Common.{[], ◌∷◌, ◌++◌, ap, ◌∙◌, append_assoc, codes, map}
use Rattle.std.proofs.lemmas.Result.{on_ok_weaker}
use Rattle.json.specs.Token.{begin_object, key, string}
use Rattle.json.specs.Tree.{json_tokens, members_tokens}
use Rattle.serde_json.specs.Written.{members_outline, outline}
use Rattle.isle_lsp_diagnostics.specs.Marks.{mark_of}
use Rattle.isle_lsp_diagnostics.specs.Published.{diagnostics_data, version_member}
use Rattle.isle_lsp_diagnostics.proofs.published.put_parameters.Goals as goal

pub returns-clause-tokens : goal.returns-clause-tokens
returns-clause-tokens c =
    let opened = c.in_ok-begin_object.ensures.ok ∙ ap (λ ts. ts ++ begin_object ∷ []) c.in_ok-key.ensures.ok in
    let list = json_tokens (outline (diagnostics_data c.args.encoding c.args.text.now (map mark_of c.args.diagnostics.now))) in
    let all = c.in_ok-put_diagnostics.ensures.tokens ∙ ap (λ ts. ts ++ key (codes "diagnostics") ∷ list) opened in
    let uri = c.in_ok-put_text.ensures.tokens ∙ ap (λ ts. ts ++ key (codes "uri") ∷ string c.args.uri.now ∷ []) all in
    let version = members_tokens (members_outline (version_member c.args.version)) in
    on_ok_weaker c.end_version.result (λ closed. closed ∙ ap (λ ts. ts ++ version) uri ∙ simp append_assoc) c.end_version.ensures.tokens
