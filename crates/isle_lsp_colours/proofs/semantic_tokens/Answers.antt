use Rattle.std.proofs.Common.{◌≡◌, ◌≤◌}
use Rattle.std.proofs.lemmas.Result.{IfOk-weaker}
use Rattle.serde_json.specs.Data.{depth}
use Rattle.serde_json.specs.View.{view}
use Rattle.isle_lsp_colours.specs.Coloured.{AreTokens}
use Rattle.isle_lsp_colours.specs.Tokens.{tokens_data}
use Rattle.isle_lsp_colours.proofs.Depths.{tokens_shallow}
use Rattle.isle_lsp_colours.proofs.Whole.{made}
use Rattle.isle_lsp_colours.proofs.semantic_tokens.Goals as goal

pub returns : goal.returns
returns c =
    let text = c.args.text.now in
    let classes = c.in_ok-classes.classes.items in
    let tokens = c.in_ok-tokens.tokens.items in
    let found = rw c.offsets_of.ensures at (rw c.deref.ensures.value at c.in_ok-tokens.ensures) in
    let shown = rw c.deref-2.ensures.value at c.tokens_value.ensures in
    record {
      tokens =
          IfOk-weaker c.tokens_value.result (λ value. view value ≡ tokens_data c.args.encoding text tokens) (λ value. AreTokens c.args.encoding text c.args.within (view value))
          (λ value is. made c.args.encoding text c.args.within classes tokens (view value) c.in_ok-classes.ensures found is)
          shown;
      shallow =
          IfOk-weaker c.tokens_value.result (λ value. view value ≡ tokens_data c.args.encoding text tokens) (λ value. depth (view value) ≤ 2)
          (λ value is. tokens_shallow c.args.encoding text c.args.within (view value) (made c.args.encoding text c.args.within classes tokens (view value) c.in_ok-classes.ensures found is))
          shown;
    }
