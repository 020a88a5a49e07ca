-- The items of a list in a response, as JSON.
use Rattle.std.specs.Prelude.{ℕ, List, [], ◌∷◌, map, string_bytes, Bool, false, true}
use Rattle.serde_json.specs.Data.{Data, Members, array, no_members, put}
use Rattle.serde_json.specs.View.{items_of}
use Rattle.isle_lsp_protocol.specs.Results.{completion_item, document_edits, document_symbol, inlay_hint, location, plain_edit, ranged, text_edit, workspace_edit, workspace_symbol}
use Rattle.isle_lsp_protocol.specs.declared.items.Item.{Item}
use Rattle.isle_lsp_protocol.specs.declared.items.Item.TheVariants as kinds
use Rattle.isle_lsp_protocol.specs.declared.items.Listing.{Listing}
use Rattle.isle_lsp_protocol.specs.declared.items.Listing.TheVariants as listings
use Rattle.isle_lsp_text.specs.declared.positions.Range.{Range}

-- an edit for each range, which this text replaces
abbrev pub edits_data : List ℕ → List Range → Data
edits_data text ranges = array (items_of (map (λ r. text_edit r text) ranges))

abbrev pub item_data : Item → Data
item_data (kinds.Location uri range) = location uri.now range
item_data (kinds.Highlight range) = ranged range
item_data (kinds.DocumentSymbol name kind range selection) = document_symbol (string_bytes name) kind range selection
item_data (kinds.WorkspaceSymbol name kind uri range) = workspace_symbol (string_bytes name) kind uri.now range
item_data (kinds.Completion name kind range) = completion_item (string_bytes name) kind range
item_data (kinds.InlayHint position label) = inlay_hint position (string_bytes label)
item_data (kinds.Edits uri version ranges text) = document_edits uri.now version (edits_data (string_bytes text) ranges.items)

abbrev pub items_data : List Item → Data
items_data items = array (items_of (map item_data items))

-- a list of items, or the changes to the documents of the items
abbrev pub list_data : (are_changes : Bool) → List Item → Data
list_data false items = items_data items
list_data true items = workspace_edit (items_data items)

-- with the edits of an item in place of those of its document; an item of another kind changes nothing
abbrev pub with_change : Item → Members → Members
with_change (kinds.Edits uri version ranges text) changes = put uri.now (edits_data (string_bytes text) ranges.items) changes
with_change (kinds.Location uri range) changes = changes
with_change (kinds.Highlight range) changes = changes
with_change (kinds.DocumentSymbol name kind range selection) changes = changes
with_change (kinds.WorkspaceSymbol name kind uri range) changes = changes
with_change (kinds.Completion name kind range) changes = changes
with_change (kinds.InlayHint position label) changes = changes

abbrev pub with_changes : List Item → Members → Members
with_changes [] changes = changes
with_changes (item ∷ items) changes = with_changes items (with_change item changes)

abbrev pub plain_changes : List Item → Data
plain_changes items = plain_edit (with_changes items no_members)

abbrev pub listing_data : Listing → Data
listing_data (listings.Items items) = list_data false items.items
listing_data (listings.Changes items) = list_data true items.items
listing_data (listings.PlainChanges items) = plain_changes items.items
