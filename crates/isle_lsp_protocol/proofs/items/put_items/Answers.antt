use Rattle.std.proofs.Common.{◌≡◌, [], ◌++◌, drop, ap, refl, subst, sym, ◌∙◌, append_assoc}
use Rattle.std.proofs.lemmas.List.{drop_all}
use Rattle.std.proofs.lemmas.Result.{on_ok_weaker}
use Rattle.json.specs.Tree.{json_tokens}
use Rattle.serde_json.specs.Written.{outline}
use Rattle.isle_lsp_protocol.specs.Items.{item_data}
use Rattle.isle_lsp_protocol.specs.Written.{Reads}
use Rattle.isle_lsp_protocol.proofs.Listings.{AllRead, list-reads, read-step, tokens-step, tokens_of}
use Rattle.isle_lsp_protocol.proofs.items.put_items.Goals as goal

pub loop-item-init : goal.loop-item-init
loop-item-init c = record {
  before = c.in_ok-begin_array.ensures.room.0;
  tokens = ap (λ ts. ts ++ tokens_of item_data c.args.items.now) c.in_ok-begin_array.ensures.ok ∙ simp append_assoc;
  reads = λ h. h;
}

pub loop-item-preserved : goal.loop-item-preserved
loop-item-preserved c =
    let i = c.loop-item.invariant in
    record {
      before = c.in_ok-put_item.ensures.before ∙ i.before;
      tokens = tokens-step item_data c.args.items.now c.loop-item.item-index c.item-item.result c.loop-item.out.tokens _ c.loop-item-test.true
          (c.in_ok-put_item.ensures.tokens ∙ ap (λ x. c.loop-item.out.tokens ++ json_tokens (outline (item_data x))) c.item-item.is)
          ∙ i.tokens;
      reads = λ h. i.reads (read-step item_data c.args.items.now c.loop-item.item-index c.item-item.result c.loop-item-test.true (subst (λ x. Reads (item_data x)) c.item-item.is c.in_ok-put_item.ensures.reads) h);
    }

pub returns-clause-tokens : goal.returns-clause-tokens
returns-clause-tokens c =
    let none : drop c.loop-item.item-index c.args.items.now ≡ [] = drop_all c.loop-item.item-index c.args.items.now c.loop-item-test.false in
    on_ok_weaker c.end_array.result
    (λ closed. closed ∙ sym (ap (λ xs. c.loop-item.out.tokens ++ tokens_of item_data xs) none) ∙ c.loop-item.invariant.tokens)
    c.end_array.ensures.ok

pub returns-clause-reads : goal.returns-clause-reads
returns-clause-reads c =
    let none : drop c.loop-item.item-index c.args.items.now ≡ [] = drop_all c.loop-item.item-index c.args.items.now c.loop-item-test.false in
    on_ok_weaker c.end_array.result (λ closed. list-reads item_data c.args.items.now (c.loop-item.invariant.reads (subst (AllRead item_data) (sym none) refl))) c.end_array.ensures.ok
