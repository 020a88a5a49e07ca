-- The edits of a program by the URIs of its texts, text by text.
use Rattle.std.proofs.Common.{◌≡◌, ◌≢◌, ℕ, ◌+◌, ◌<◌, List, [], ◌∷◌, ◌++◌, length, get_or, map, drop, Option, None, Some, option_to_list, refl, sym, ap, ◌∙◌, add-one, drop-cons}
use Rattle.std.specs.List.{flat_map}
use Rattle.serde_json.specs.Data.{Members, no_members}
use Rattle.isle_base_source.specs.declared.pos.Pos.{Pos}
use Rattle.isle_index.specs.Renaming.{Part}
use Rattle.isle_resolve.specs.Names.{NameNode}
use Rattle.isle_lsp_protocol.specs.Items as lists
use Rattle.isle_lsp_protocol.specs.declared.items.Item.{Item}
use Rattle.isle_lsp_features.specs.Programs.{text_of}
use Rattle.isle_lsp_features.specs.Renamed.{range_in, with_change, with_changes}
use Rattle.isle_lsp_features.specs.declared.Text.{Text}

with_changes-append : (xs ys : List Item) (changes : Members) → lists.with_changes (xs ++ ys) changes ≡ lists.with_changes ys (lists.with_changes xs changes)
with_changes-append [] ys changes = refl
with_changes-append (x ∷ xs) ys changes = with_changes-append xs ys (lists.with_change x changes)

-- nothing is listed of what is none
pub none-listed : (o : Option Item) → ((x : Item) → o ≢ Some x) → option_to_list o ≡ []
none-listed None h = refl
none-listed (Some x) h = absurd (h x refl)

module _ (xs : List Text) (i : ℕ) (d : Text) (name : NameNode) (part : Part) (new : List ℕ) (places : List Pos) (within : i < length xs) where
  -- the edits in one text
  abbrev pub here : Members → Members
  here changes = with_change (text_of (get_or xs i d)) new (flat_map (range_in (get_or xs i d).encoding i (text_of (get_or xs i d)).text name part) places) changes

  -- those in the texts from this one on
  abbrev pub from : ℕ → Members → Members
  from n changes = with_changes n (map text_of (drop n xs)) name part new places changes

  step : (changes : Members) → from i changes ≡ from (i + 1) (here changes)
  step changes =
      let first : drop i xs ≡ get_or xs i d ∷ drop (i + 1) xs = rw (add-one, drop-cons xs i d) refl in
      ap (λ ys. with_changes i (map text_of ys) name part new places changes) first

  -- a text adds these items, or none
  pub goes_on : (items more : List Item) (all : Members) → from i (lists.with_changes items no_members) ≡ all →
      ((changes : Members) → lists.with_changes more changes ≡ here changes) → from (i + 1) (lists.with_changes (items ++ more) no_members) ≡ all
  goes_on items more all so_far adds =
      ap (from (i + 1)) (with_changes-append items more no_members ∙ adds (lists.with_changes items no_members))
      ∙ sym (step (lists.with_changes items no_members)) ∙ so_far
