-- The call hierarchy at a place, as JSON.
use Rattle.std.specs.Prelude.{List, map}
use Rattle.serde_json.specs.Data.{Data}
use Rattle.isle_index.specs.Occurrences.{occurrence_at}
use Rattle.isle_lsp_calls.specs.Incoming.{IsIncoming}
use Rattle.isle_lsp_calls.specs.Items.{IsPrepared, term_at}
use Rattle.isle_lsp_calls.specs.Outgoing.{IsOutgoing}
use Rattle.isle_lsp_calls.specs.Sources.{Source}
use Rattle.isle_lsp_features.specs.Places.{Place}
use Rattle.isle_lsp_features.specs.Programs.{Text}
use Rattle.isle_lsp_protocol.specs.declared.machine.Request.{Request}
use Rattle.isle_lsp_protocol.specs.declared.machine.Request.TheVariants.{PrepareCallHierarchy, IncomingCalls, OutgoingCalls}
use Rattle.isle_resolve.specs.Scopes.{SeenNode}

-- a text, with its encoding and its URI alone
abbrev pub source_in : Text → Source
source_in t = record { encoding = t.encoding; uri = t.uri; text = t.text }

-- the item of the term at a place, the calls of the term, or the calls by the definitions that implement it
abbrev pub FindsCalls : Request → List Text → List SeenNode → Place → Data → Type 0
FindsCalls PrepareCallHierarchy program all p d = IsPrepared (map source_in program) (term_at p.pos all) all d
FindsCalls IncomingCalls program all p d = IsIncoming (map source_in program) (term_at p.pos all) all d
FindsCalls OutgoingCalls program all p d =
    IsOutgoing p.encoding (map source_in program) p.pos.file p.text (term_at p.pos all) (occurrence_at p.pos all) all d
FindsCalls _ program all p d = Unit {0}
