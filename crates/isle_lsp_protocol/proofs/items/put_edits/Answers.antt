use Rattle.std.proofs.Common.{◌≡◌, [], ◌++◌, drop, ap, refl, subst, sym, ◌∙◌, append_assoc}
use Rattle.std.proofs.lemmas.List.{drop_all}
use Rattle.std.proofs.lemmas.Result.{on_ok_weaker}
use Rattle.isle_lsp_protocol.specs.Results.{text_edit}
use Rattle.isle_lsp_protocol.proofs.Listings.{AllRead, list-reads, read-step, tokens-step, tokens_of}
use Rattle.isle_lsp_protocol.proofs.items.put_edits.Goals as goal

pub loop-range-init : goal.loop-range-init
loop-range-init c = record {
  before = c.in_ok-begin_array.ensures.room.0;
  tokens = ap (λ ts. ts ++ tokens_of (λ r. text_edit r c.args.text.now) c.args.ranges.now) c.in_ok-begin_array.ensures.ok ∙ simp append_assoc;
  reads = λ h. h;
}

pub loop-range-preserved : goal.loop-range-preserved
loop-range-preserved c =
    let i = c.loop-range.invariant in
    record {
      before = c.in_ok-put_edit.ensures.before ∙ i.before;
      tokens = tokens-step (λ r. text_edit r c.args.text.now) c.args.ranges.now c.loop-range.range-index _ c.loop-range.out.tokens _ c.loop-range-test.true c.in_ok-put_edit.ensures.tokens ∙ i.tokens;
      reads = λ h. i.reads (read-step (λ r. text_edit r c.args.text.now) c.args.ranges.now c.loop-range.range-index _ c.loop-range-test.true c.in_ok-put_edit.ensures.reads h);
    }

pub returns-clause-tokens : goal.returns-clause-tokens
returns-clause-tokens c =
    let none : drop c.loop-range.range-index c.args.ranges.now ≡ [] = drop_all c.loop-range.range-index c.args.ranges.now c.loop-range-test.false in
    on_ok_weaker c.end_array.result
    (λ closed. closed ∙ sym (ap (λ xs. c.loop-range.out.tokens ++ tokens_of (λ r. text_edit r c.args.text.now) xs) none) ∙ c.loop-range.invariant.tokens)
    c.end_array.ensures.ok

pub returns-clause-reads : goal.returns-clause-reads
returns-clause-reads c =
    let none : drop c.loop-range.range-index c.args.ranges.now ≡ [] = drop_all c.loop-range.range-index c.args.ranges.now c.loop-range-test.false in
    on_ok_weaker c.end_array.result (λ closed. list-reads (λ r. text_edit r c.args.text.now) c.args.ranges.now (c.loop-range.invariant.reads (subst (AllRead (λ r. text_edit r c.args.text.now)) (sym none) refl))) c.end_array.ensures.ok
