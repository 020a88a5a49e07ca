use Rattle.std.proofs.Common.{◌∙◌, ap, map}
use Rattle.serde_json.proofs.Views.{view-Array}
use Rattle.serde_json.specs.Data.{array}
use Rattle.serde_json.specs.View.{items_of, view}
use Rattle.isle_lsp_text.proofs.Places.{start_place}
use Rattle.isle_lsp_ranges.specs.LineEdits.{edit_data}
use Rattle.isle_lsp_ranges.proofs.Values.{all_values, value_more}
use Rattle.isle_lsp_ranges.proofs.lines.edits_value.Goals as goal

pub loop-edit-init : goal.loop-edit-init
loop-edit-init c = record { values = ap (map view) c.new-values.ensures.items; place = start_place c.args.encoding c.args.old.now }

pub loop-edit-preserved : goal.loop-edit-preserved
loop-edit-preserved c = record {
  values = ap (map view) c.in_ok-push.ensures.items
      ∙ value_more (edit_data c.args.encoding c.args.old.now c.args.new.now) c.args.edits.now c.loop-edit.edit-index _ c.loop-edit.values.items c.in_ok-value.value c.loop-edit-test.true c.loop-edit.invariant.values c.in_ok-value.ensures.value;
  place = c.in_ok-value.ensures.place;
}

pub returns : goal.returns
returns c =
    view-Array c.loop-edit.values ∙ ap (λ vs. array (items_of vs)) (all_values (edit_data c.args.encoding c.args.old.now c.args.new.now) c.args.edits.now c.loop-edit.edit-index c.loop-edit.values.items c.loop-edit-test.false c.loop-edit.invariant.values)
