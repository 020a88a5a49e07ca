-- How deep the answers nest that show types of variables.
use Rattle.std.proofs.Common.{ℕ, ◌≤◌, ◌-◌, List, None, Option, Some, arith, codes}
use Rattle.serde_json.specs.Data.{Data, null, boolean, number, string, array, object, depth, members_depth}
use Rattle.isle_lsp_text.specs.Positions.{position_at}
use Rattle.isle_lsp_text.specs.declared.positions.Position.{Position}
use Rattle.isle_lsp_text.specs.declared.positions.Range.{Range}
use Rattle.isle_lsp_features.specs.Places.{File, file_from}
use Rattle.isle_lsp_features.specs.Programs.{Text}
use Rattle.isle_lsp_protocol.proofs.Depths.{at_most, items_shallow, map_shallow, position_depth, put_depth}
use Rattle.isle_lsp_protocol.specs.Results.{markdown}
use Rattle.isle_lsp_diagnostics.specs.Hints.{AreHints, AreHintsOf, HintNode, are_within, hint_data, hints_data, hints_in}
use Rattle.isle_lsp_diagnostics.specs.Hovers.{IsTypedHover, IsTypedShown, above, showing, shown_in, with_type}
use Rattle.isle_lsp_diagnostics.specs.Rules.{first_of}
use Rattle.isle_lsp_text.specs.declared.positions.PositionEncoding.{PositionEncoding}

hint_depth : (enc : PositionEncoding) (text : List ℕ) (h : HintNode) → depth (hint_data enc text h) ≤ 3
hint_depth enc text h = omega (arith, position_depth (position_at enc h.offset text))

shown_depth : (enc : PositionEncoding) (text : List ℕ) (range : Range) (hs : List HintNode) → depth (hints_data enc text range hs) ≤ 4
shown_depth enc text range hs = omega (arith, items_shallow 3 _ (map_shallow 3 (hint_data enc text) (are_within enc text range hs) (hint_depth enc text)))

of_depth : (program : List Text) (f : Option File) (range : Range) (d : Data) → AreHintsOf program f range d → depth d ≤ 4
of_depth program None range d h = at_most 4 d _ h (omega arith)
of_depth program (Some f) range d (ds, read, are) = at_most 4 d _ are (shown_depth f.encoding f.text range (hints_in f ds))

pub hints_depth : (programs : List (List Text)) (file : List ℕ) (range : Range) (d : Data) → AreHints programs file range d → depth d ≤ 4
hints_depth programs file range d h = of_depth (first_of programs) (file_from 0 file (first_of programs)) range d h

-- ---- hovers

showing_depth : (n : ℕ) (shown : List ℕ) (hover : Data) → 3 ≤ n → depth hover ≤ n → depth (showing shown hover) ≤ n
showing_depth n shown null l h = h
showing_depth n shown (boolean b) l h = h
showing_depth n shown (number x) l h = h
showing_depth n shown (string s) l h = h
showing_depth n shown (array ds) l h = h
showing_depth n shown (object ms) l h =
    let inner : members_depth ms ≤ n - 1 = omega arith in
    let put_in = put_depth (n - 1) (codes "contents") (markdown shown) ms (omega arith) inner in
    omega (arith, put_in)

with_type_depth : (n : ℕ) (ty : Option (List ℕ)) (shown : List ℕ) (hover : Data) → 3 ≤ n → depth hover ≤ n → depth (with_type ty shown hover) ≤ n
with_type_depth n None shown hover l h = h
with_type_depth n (Some ty) shown hover l h = showing_depth n (above ty shown) hover l h

typed_shown_depth : (n : ℕ) (programs : List (List Text)) (file : List ℕ) (position : Position) (shown : Option (List ℕ)) (hover d : Data) → 3 ≤ n → depth hover ≤ n
    → IsTypedShown programs file position shown hover d → depth d ≤ n
typed_shown_depth n programs file position None hover d l h is = at_most n d _ is h
typed_shown_depth n programs file position (Some shown) hover d l h (ty, typed, is) = at_most n d _ is (with_type_depth n ty shown hover l h)

-- a type makes no hover deeper than three, or than it is
pub typed_depth : (n : ℕ) (programs : List (List Text)) (file : List ℕ) (position : Option Position) (hover d : Data) → 3 ≤ n → depth hover ≤ n
    → IsTypedHover programs file position hover d → depth d ≤ n
typed_depth n programs file None hover d l h is = at_most n d _ is h
typed_depth n programs file (Some position) hover d l h is = typed_shown_depth n programs file position (shown_in hover) hover d l h is
