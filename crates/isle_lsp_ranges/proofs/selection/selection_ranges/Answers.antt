use Rattle.std.proofs.Common.{◌∙◌, ap}
use Rattle.serde_json.proofs.Views.{view-Array}
use Rattle.serde_json.specs.Data.{array}
use Rattle.serde_json.specs.View.{items_of}
use Rattle.isle_lsp_ranges.specs.Selections.{selection_at}
use Rattle.isle_lsp_ranges.proofs.Depths.{selections_depth}
use Rattle.isle_lsp_ranges.proofs.Values.{all_values}
use Rattle.isle_lsp_ranges.proofs.selection.selection_ranges.Goals as goal

pub returns-clause-selections : goal.returns-clause-selections
returns-clause-selections c = record {
  words = c.in_ok-words.words.items;
  lists = c.in_ok-lists.lists.items;
  are_words = c.in_ok-words.ensures;
  are_lists = c.in_ok-lists.ensures;
  are = view-Array c.loop-position.values ∙ ap (λ vs. array (items_of vs)) (all_values (selection_at c.args.encoding c.args.text.now c.in_ok-words.words.items c.in_ok-lists.lists.items) c.args.positions.now c.loop-position.position-index c.loop-position.values.items c.loop-position-test.false c.loop-position.invariant);
}

pub returns-clause-shallow : goal.returns-clause-shallow
returns-clause-shallow c = selections_depth c.args.encoding c.args.text.now c.args.positions.now _ (returns-clause-selections c)
