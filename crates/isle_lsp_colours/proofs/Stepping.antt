-- The events of a definition, one after another.
use Rattle.std.proofs.Common.{◌≡◌, ◌+◌, ◌<◌, ◌≤◌, ℕ, List, [], Option, ap, drop, get_or, length, option_map, slice_get, sym, ◌∙◌}
use Rattle.std.proofs.lemmas.List.{drop_all, drop_more}
use Rattle.isle_ast.specs.Tree.{Definition}
use Rattle.isle_resolve.specs.Event.{EventNode}
use Rattle.isle_resolve.specs.EventView.{event_of, events_of}
use Rattle.isle_resolve.specs.Events.{definition_events}
use Rattle.isle_resolve.specs.declared.event.Event.{Event}
use Rattle.isle_lsp_colours.specs.Classes.{first}
use Rattle.isle_lsp_colours.specs.Names.{class_if, class_in, name_of, parameters_after}
use Rattle.isle_lsp_colours.specs.declared.classes.Class.{Class}
use Rattle.isle_lsp_colours.specs.declared.names.NameAt.{NameAt}
use Rattle.isle_lsp_colours.proofs.Firsts.{both-merged, none-merged}

-- the class at an offset once these events have come
abbrev pub with : ℕ → (parameters : List (List ℕ)) → List EventNode → List (Option Class) → Option (Option Class)
with offset parameters es classes = option_map (λ c. first c (class_in offset parameters es)) (slice_get classes offset)

pub one-more : (offset : ℕ) (all : List Event) (i : ℕ) (e : Event) (ps qs : List (List ℕ)) (name : Option NameAt) (old new : List (Option Class)) (end : Option (Option Class)) →
    i < length all → name ≡ name_of ps (event_of (get_or all i e)) → qs ≡ parameters_after (event_of (get_or all i e)) ps →
    slice_get new offset ≡ option_map (λ c. first c (class_if offset name)) (slice_get old offset) → with offset ps (events_of (drop i all)) old ≡ end →
    with offset qs (events_of (drop (i + 1) all)) new ≡ end
one-more offset all i e ps qs name old new end h named after put so_far =
    let n = event_of (get_or all i e) in
    let es = events_of (drop (i + 1) all) in
    let next : class_in offset ps (events_of (drop i all)) ≡ first (class_if offset (name_of ps n)) (class_in offset (parameters_after n ps) es) =
    ap (λ xs. class_in offset ps (events_of xs)) (drop_more all i e h) in
    let same : first (class_if offset name) (class_in offset qs es) ≡ class_in offset ps (events_of (drop i all)) =
    ap (λ m. first (class_if offset m) (class_in offset qs es)) named ∙ ap (λ q. first (class_if offset (name_of ps n)) (class_in offset q es)) after ∙ sym next in
    ap (option_map (λ c. first c (class_in offset qs es))) put ∙ both-merged (slice_get old offset) (class_if offset name) (class_in offset qs es)
    ∙ ap (λ f. option_map (λ c. first c f) (slice_get old offset)) same ∙ so_far

pub no-more : (offset : ℕ) (all : List Event) (i : ℕ) (d : Definition) (ps : List (List ℕ)) (old new : List (Option Class)) → length all ≤ i →
    events_of all ≡ definition_events d → with offset ps (events_of (drop i all)) new ≡ with offset [] (events_of all) old →
    slice_get new offset ≡ option_map (λ c. first c (class_in offset [] (definition_events d))) (slice_get old offset)
no-more offset all i d ps old new h are so_far =
    none-merged (slice_get new offset) ∙ sym (ap (λ xs. with offset ps (events_of xs) new) (drop_all i all h)) ∙ so_far
    ∙ ap (λ es. with offset [] es old) are
