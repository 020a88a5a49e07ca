use Rattle.std.proofs.Common.{◌≡◌, ◌++◌, drop, map}
use Rattle.serde_json.specs.View.{view}
use Rattle.isle_lsp_text.specs.Positions.{IsPlace}
use Rattle.isle_lsp_colours.specs.Tokens.{count, encoded, origin}
use Rattle.isle_lsp_colours.proofs.encoding.token_values.Given as goal

abbrev pub invariant-loop-token : goal.invariant-loop-token
invariant-loop-token l = record {
  so_far : map view l.values.items ++ map count (encoded l.encoding l.text l.last.position (drop l.token-index l.tokens)) ≡ map count (encoded l.encoding l.text origin l.tokens);
  place : IsPlace l.encoding l.text l.last;
}
