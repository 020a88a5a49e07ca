use Rattle.std.proofs.Common.{◌≡◌, map, take}
use Rattle.isle_lsp_features.specs.Gathered.{events_in, kept_of}
use Rattle.isle_lsp_features.proofs.known.events_in.Given as goal

abbrev pub invariant-loop-known : goal.invariant-loop-known
invariant-loop-known l = l.events ≡ events_in (map kept_of (take l.known-index l.texts))
