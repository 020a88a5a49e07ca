-- How deep the results nest.
use Rattle.std.proofs.Common.{◌≡◌, ℕ, ◌+◌, ◌≤◌, Bool, true, false, List, [], ◌∷◌, ◌++◌, length, map, arith, Result, Ok, Err, IfOk}
use Rattle.std.specs.declared.alloc.AllocError.{AllocError}
use Rattle.serde_json.specs.Data.{Data, depth}
use Rattle.serde_json.specs.View.{view}
use Rattle.serde_json.specs.declared.value.Value.{Value}
use Rattle.isle_lsp_text.specs.Edits.{part}
use Rattle.isle_lsp_text.specs.Positions.{offset_at}
use Rattle.isle_lsp_text.specs.Ranges.{range_between}
use Rattle.isle_lsp_text.specs.declared.edits.Edit.{Edit}
use Rattle.isle_lsp_text.specs.declared.lists.ListSpan.{ListSpan}
use Rattle.isle_lsp_text.specs.declared.positions.Position.{Position}
use Rattle.isle_lsp_text.specs.declared.positions.Range.{Range}
use Rattle.isle_lsp_text.specs.declared.wholes.Part.{Part}
use Rattle.isle_lsp_protocol.proofs.Depths.{AreShallow, append_shallow, at_most, items_shallow, map_shallow, range_depth, text_edit_depth}
use Rattle.isle_lsp_ranges.specs.Foldings.{AreFoldings, comment_data, folds, folds_at, folds_from, foldings, comments, last_line, line_at, list_data, run_end}
use Rattle.isle_lsp_ranges.specs.LineEdits.{IsRangeFormatting, edit_data, edits_data}
use Rattle.isle_lsp_ranges.specs.Selections.{AreSelections, grown, list_part, most, part as a_part, parts_around, selection, selection_at, word_at}
use Rattle.std.proofs.lemmas.List.{length-take}
use Rattle.std.proofs.Common.{nat_lt, if◌then◌else◌}
use Rattle.isle_lsp_text.specs.declared.positions.PositionEncoding.{PositionEncoding}

folds_shallow : (fold : Data) (start end : ℕ) → depth fold ≤ 2 → AreShallow 2 (folds fold start end)
folds_shallow fold start end h = by_test (nat_lt start end) where
  by_test : (v : Bool) → AreShallow 2 (if v then fold ∷ [] else [])
  by_test true = (h, tt)
  by_test false = tt

comments_shallow : (v : Bool) (ds : List Data) → AreShallow 2 ds → AreShallow 2 (if v then [] else ds)
comments_shallow true ds h = tt
comments_shallow false ds h = h

all_folds_shallow : (ends : ℕ → ℕ) (line : ℕ) (after : Bool) (cs : List Bool) → AreShallow 2 (folds_from ends line after cs)
all_folds_shallow ends line after [] = tt
all_folds_shallow ends line after (c ∷ cs) =
    append_shallow 2 (folds_at (ends line) line after (c ∷ cs)) (folds_from ends (line + 1) c cs)
    (append_shallow 2 (folds (list_data line (ends line)) line (ends line)) _
    (folds_shallow (list_data line (ends line)) line (ends line) (omega arith))
    (comments_shallow after _ (folds_shallow (comment_data line (run_end line (c ∷ cs))) line (run_end line (c ∷ cs)) (omega arith))))
    (all_folds_shallow ends (line + 1) c cs)

pub foldings_depth : (text : List ℕ) (d : Data) → AreFoldings text d → depth d ≤ 120
foldings_depth text d f = at_most 120 d _ f.2 (omega (arith, items_shallow 2 (foldings text f.0) (all_folds_shallow (λ line. last_line (line_at text) line f.0) 0 false (comments text))))

selection_depth : (enc : PositionEncoding) (text : List ℕ) (ps : List Part) → depth (selection enc text ps) ≤ length ps + 4
selection_depth enc text [] = omega (arith, range_depth (range_between enc text 0 (length text)))
selection_depth enc text (p ∷ ps) = omega (arith, range_depth (range_between enc text p.from p.to), selection_depth enc text ps)

selection_at_depth : (enc : PositionEncoding) (text : List ℕ) (words : List Part) (lists : List ListSpan) (p : Position) → depth (selection_at enc text words lists p) ≤ 104
selection_at_depth enc text words lists p =
    let offset : ℕ = offset_at enc p text in
    let all : List Part = grown (a_part 0 (length text)) (a_part offset offset) (word_at offset words ++ map list_part lists) in
    omega (arith, length-take most all, selection_depth enc text (parts_around text words lists offset))

pub selections_depth : (enc : PositionEncoding) (text : List ℕ) (positions : List Position) (d : Data) → AreSelections enc text positions d → depth d ≤ 120
selections_depth enc text positions d s =
    at_most 120 d _ s.are (omega (arith, items_shallow 104 _ (map_shallow 104 (selection_at enc text s.words s.lists) positions (selection_at_depth enc text s.words s.lists))))

pub edits_depth : (enc : PositionEncoding) (old new : List ℕ) (es : List Edit) → depth (edits_data enc old new es) ≤ 120
edits_depth enc old new es = omega (arith, items_shallow 4 _ (map_shallow 4 (edit_data enc old new) es (λ e. text_edit_depth (range_between enc old e.start e.end) (part new e.from e.to))))

pub formatting_depth : (enc : PositionEncoding) (old new : List ℕ) (range : Range) (d : Data) → IsRangeFormatting enc old new range d → depth d ≤ 120
formatting_depth enc old new range d f = at_most 120 d _ f.2 (edits_depth enc old new f.0)

pub edits_shallow : (enc : PositionEncoding) (r : Result Value AllocError) (old new : List ℕ) (es : List Edit) → IfOk r (λ v. view v ≡ edits_data enc old new es) → IfOk r (λ v. depth (view v) ≤ 120)
edits_shallow enc (Ok v) old new es h = at_most 120 (view v) _ h (edits_depth enc old new es)
edits_shallow enc (Err e) old new es h = tt
