use Rattle.std.proofs.Common.{[], map, sym, ◌∙◌}
use Rattle.std.proofs.lemmas.List.{append-nil}
use Rattle.serde_json.specs.View.{view}
use Rattle.isle_index.specs.Held.{all_in}
use Rattle.isle_lsp_calls.proofs.Unread.{none_incoming}
use Rattle.isle_lsp_calls.specs.Sources.{source_of}
use Rattle.isle_lsp_calls.proofs.incoming.add_incoming.Goals as goal

-- a text without an occurrence has no calls
pub returns-then-not-has_some : goal.returns-then-not-has_some
returns-then-not-has_some c =
    ([], none_incoming c.args.number (source_of c.args.source) (all_in c.args.index.now) c.args.found.now (sym c.has_some.ensures ∙ c.if-not-has_some.true), sym (append-nil (map view c.args.calls.now.items)))
