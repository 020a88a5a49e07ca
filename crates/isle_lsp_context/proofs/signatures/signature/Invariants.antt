use Rattle.std.proofs.Common.{◌≡◌, map, take}
use Rattle.serde_json.specs.View.{view}
use Rattle.isle_lsp_context.specs.Signatures.{parameter_data}
use Rattle.isle_lsp_context.proofs.signatures.signature.Given as goal

abbrev pub invariant-loop-parameter : goal.invariant-loop-parameter
invariant-loop-parameter l = map view l.values.items ≡ map (parameter_data l.label) (take l.parameter-index l.parameter-items)
