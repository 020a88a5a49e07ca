-- An index of one definition more.
use Rattle.std.proofs.Common.{◌≡◌, ℕ, ◌+◌, ◌<◌, List, [], ◌∷◌, ◌++◌, append_assoc, get_or, length, take, sym, ap, ◌∙◌, subst}
use Rattle.std.proofs.lemmas.Grind.{take_at_read}
use Rattle.std.proofs.lemmas.List.{append-nil, map-append}
use Rattle.isle_ast.specs.Tree.{Definition}
use Rattle.isle_ast.specs.TreeView.{definition_of, definitions_of}
use Rattle.isle_ast.specs.declared.ast.Def.{Def}
use Rattle.isle_resolve.specs.Event.{EventNode}
use Rattle.isle_resolve.specs.Events.{definition_events, events}
use Rattle.isle_index.specs.declared.Index.{Index}
use Rattle.isle_index.specs.Held.{Adds, IsIndexOf}
use Rattle.isle_resolve.specs.Scopes.{seen, seen_from}
use Rattle.isle_index.proofs.Adding.{length-unpacked}
use Rattle.isle_index.proofs.Closing.{length-seen, seen-more}

index-more : (ds : List Definition) (d : Definition) (old new : Index) (es : List EventNode) → IsIndexOf ds old → es ≡ definition_events d ++ [] →
    Adds (seen_from (length old.entries.items) [] es) old new → IsIndexOf (ds ++ d ∷ []) new
index-more ds d old new es before is adds =
    let added = adds before.whole in
    let count : length old.entries.items ≡ length (events ds) =
    sym (length-unpacked old.texts.items.items 0 old.entries.items) ∙ ap length before.is ∙ length-seen 0 [] (events ds) in
    record {
      whole = added.0;
      is =
          added.1
          ∙ ap (λ ss. ss ++ seen_from (length old.entries.items) [] es) before.is
          ∙ ap (λ n. seen (events ds) ++ seen_from n [] es) count
          ∙ ap (λ xs. seen (events ds) ++ seen_from (length (events ds)) [] xs) (is ∙ append-nil (definition_events d))
          ∙ sym (seen-more ds d);
    }

grown : (ds : List Definition) (defs : List Def) (i : ℕ) (x : Def) → i < length defs → x ≡ get_or defs i x →
    (ds ++ definitions_of (take i defs)) ++ definition_of x ∷ [] ≡ ds ++ definitions_of (take (i + 1) defs)
grown ds defs i x within is =
    append_assoc ds (definitions_of (take i defs)) (definition_of x ∷ [])
    ∙ ap (λ ys. ds ++ ys)
    (ap (λ y. definitions_of (take i defs) ++ definition_of y ∷ []) is
    ∙ sym (map-append definition_of (take i defs) (get_or defs i x ∷ []))
    ∙ ap definitions_of (sym (take_at_read defs i x within).1))

-- the same in a loop over definitions
pub index-step : (ds : List Definition) (defs : List Def) (i : ℕ) (x : Def) (old new : Index) (es : List EventNode) →
    i < length defs → x ≡ get_or defs i x → IsIndexOf (ds ++ definitions_of (take i defs)) old → es ≡ definition_events (definition_of x) ++ [] →
    Adds (seen_from (length old.entries.items) [] es) old new → IsIndexOf (ds ++ definitions_of (take (i + 1) defs)) new
index-step ds defs i x old new es within is before events_are adds =
    subst (λ all. IsIndexOf all new) (grown ds defs i x within is)
    (index-more (ds ++ definitions_of (take i defs)) (definition_of x) old new es before events_are adds)
