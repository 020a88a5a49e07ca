use Rattle.std.proofs.Common.{◌++◌, ap, map}
use Rattle.isle_lsp_text.proofs.Places.{start_place}
use Rattle.serde_json.specs.View.{view}
use Rattle.isle_lsp_colours.specs.Tokens.{count, encoded, origin}
use Rattle.isle_lsp_colours.proofs.encoding.token_values.Goals as goal

pub loop-token-init : goal.loop-token-init
loop-token-init c = record {
  so_far = ap (λ vs. map view vs ++ map count (encoded c.args.encoding c.args.text.now origin c.args.tokens.now)) c.new-values.ensures.items;
  place = start_place c.args.encoding c.args.text.now;
}
