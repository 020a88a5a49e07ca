use Rattle.std.proofs.Common.{◌≡◌, ℕ, [], drop, map, option_map, slice_get}
use Rattle.isle_resolve.specs.EventView.{events_of}
use Rattle.isle_lsp_colours.specs.Classes.{first}
use Rattle.isle_lsp_colours.specs.Names.{class_in}
use Rattle.isle_lsp_colours.proofs.names.add_names.Given as goal

abbrev pub invariant-loop-event : goal.invariant-loop-event
invariant-loop-event l =
    (offset : ℕ) → option_map (λ c. first c (class_in offset (map (λ p. p.now) l.parameters.items) (events_of (drop l.event-index l.event-items)))) (slice_get l.classes offset)
    ≡ option_map (λ c. first c (class_in offset [] (events_of l.event-items))) (slice_get l.fn.classes offset)
