use Rattle.std.proofs.Common.{◌≡◌, ◌++◌, ◌∷◌, drop}
use Rattle.json.specs.Token.{begin_array}
use Rattle.isle_lsp_protocol.proofs.Listings.{AllRead, tokens_of}
use Rattle.isle_lsp_protocol.specs.Results.{text_edit}
use Rattle.isle_lsp_protocol.proofs.items.put_edits.Given as goal

abbrev pub invariant-loop-range : goal.invariant-loop-range
invariant-loop-range l = record {
  before : l.out.before ≡ l.fn.out.before;
  tokens : l.out.tokens ++ tokens_of (λ r. text_edit r l.text) (drop l.range-index l.ranges) ≡ l.fn.out.tokens ++ begin_array ∷ tokens_of (λ r. text_edit r l.text) l.ranges;
  reads : AllRead (λ r. text_edit r l.text) (drop l.range-index l.ranges) → AllRead (λ r. text_edit r l.text) l.ranges;
}
