use Rattle.std.proofs.Common.{◌≡◌, drop}
use Rattle.isle_lsp_features.specs.Defined.{has_letters}
use Rattle.isle_lsp_features.proofs.symbols.has_letters.Given as goal

abbrev pub invariant-loop-byte : goal.invariant-loop-byte
invariant-loop-byte l = has_letters l.letters (drop l.byte-index l.fn.name) ≡ has_letters l.fn.query l.fn.name
