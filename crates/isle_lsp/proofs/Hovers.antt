-- A list shows nothing, so no type is added to it.
use Rattle.std.proofs.Common.{◌≡◌, ℕ, List, None, Option, Some, refl, subst, sym}
use Rattle.serde_json.specs.Data.{Data}
use Rattle.isle_lsp_features.specs.Programs.{Text}
use Rattle.isle_lsp_files.specs.Disks.{View}
use Rattle.isle_lsp_files.specs.Texts.{programs_of}
use Rattle.isle_lsp_protocol.specs.Items.{listing_data}
use Rattle.isle_lsp_protocol.specs.Parameters.{position_of}
use Rattle.isle_lsp_protocol.specs.Replies.{done}
use Rattle.isle_lsp_protocol.specs.declared.items.Listing.{Listing}
use Rattle.isle_lsp_protocol.specs.declared.items.Listing.TheVariants.{Items, Changes, PlainChanges}
use Rattle.isle_lsp_text.specs.declared.positions.Position.{Position}
use Rattle.isle_lsp_diagnostics.specs.Hovers.{IsTypedHover, IsTypedShown, shown_in}
use Rattle.isle_lsp.specs.Serving.{Held, IsTyped}

list_shows_nothing : (listing : Listing) → shown_in (listing_data listing) ≡ None
list_shows_nothing (Items items) = refl
list_shows_nothing (Changes items) = refl
list_shows_nothing (PlainChanges items) = refl

unshown : (programs : List (List Text)) (file : List ℕ) (position : Option Position) (hover : Data) → shown_in hover ≡ None → IsTypedHover programs file position hover hover
unshown programs file None hover none = refl
unshown programs file (Some position) hover none = subst (λ shown. IsTypedShown programs file position shown hover hover) (sym none) refl

pub list_stays : (d : Data) (held : Held) (view : View) (listing : Listing) → IsTyped d held view (done (listing_data listing)) (done (listing_data listing))
list_stays d held view listing =
    (listing_data listing, unshown (programs_of held.encoding held.documents view view.file) view.file (position_of d) (listing_data listing) (list_shows_nothing listing), refl)
