use Rattle.std.proofs.Common.{◌≡◌, ◌++◌, ◌∷◌, codes, drop, map}
use Rattle.isle_lsp_text.specs.Positions.{IsPlace}
use Rattle.json.specs.Token.{begin_array, key}
use Rattle.json.specs.Tree.{items_tokens}
use Rattle.serde_json.specs.View.{items_of}
use Rattle.serde_json.specs.Written.{items_outline}
use Rattle.isle_lsp_diagnostics.specs.Marks.{mark_of}
use Rattle.isle_lsp_diagnostics.specs.Published.{mark_data}
use Rattle.isle_lsp_diagnostics.proofs.published.put_diagnostics.Given as goal

abbrev pub invariant-loop-diagnostic : goal.invariant-loop-diagnostic
invariant-loop-diagnostic l = record {
  before : l.out.before ≡ l.fn.out.before;
  tokens : l.out.tokens ++ items_tokens (items_outline (items_of (map (mark_data l.encoding l.text) (map mark_of (drop l.diagnostic-index l.diagnostics)))))
      ≡ l.fn.out.tokens ++ key (codes "diagnostics") ∷ begin_array ∷ items_tokens (items_outline (items_of (map (mark_data l.encoding l.text) (map mark_of l.diagnostics))));
  place : IsPlace l.encoding l.text l.place;
}
