use Rattle.std.proofs.Common.{◌≡◌, ap, arith, refl, rules}
use Rattle.isle_base.specs.Steps.{offset_by, placed_ref}
use Rattle.isle_base.specs.Token.{Feed}
use Rattle.isle_lsp_context.specs.Calls.{levels_of}
use Rattle.isle_lsp_context.proofs.OpenLists.{few_before, few_end, few_more, levels_before}
use Rattle.isle_lsp_context.proofs.calls.lists_at.Goals as goal

pub add-requires : goal.add-requires
add-requires c =
    let scanner = c.loop-ahead.scanner in
    let before = levels_before c.args.text.now _ c.loop-ahead.lists.items c.end_before.new.lists.items c.end_before.ensures in
    let few = few_before c.args.text.now _ (levels_of c.loop-ahead.lists.items) _ scanner.coming before (c.loop-ahead.invariant.few c.peek.ensures.rising) in
    let end = few_end scanner.file scanner.coming scanner.ending scanner.size (placed_ref c.in-Some.ahead.now) few.most c.in-Some.ensures.value few.rising in
    let to : c.pos-to.result.offset ≡ offset_by scanner.coming scanner.ending scanner.size = rw c.pos-to.ensures.value refl in
    (few.most, few.are, omega (arith, end, to))

pub loop-ahead-preserved : goal.loop-ahead-preserved
loop-ahead-preserved c =
    let scanner = c.loop-ahead.scanner in
    let before = levels_before c.args.text.now _ c.loop-ahead.lists.items c.end_before.new.lists.items c.end_before.ensures in
    let few = few_before c.args.text.now _ (levels_of c.loop-ahead.lists.items) _ scanner.coming before (c.loop-ahead.invariant.few c.peek.ensures.rising) in
    record {
      lists = search (rules, before);
      few = λ up. few_more scanner.file scanner.coming _ (placed_ref c.in-Some.ahead.now) _ (levels_of c.end_before.new.lists.items) _ c.in-Some.ensures.value c.in_ok-add.ensures (ap (λ (f : Feed). f.coming) c.in_ok-pass.ensures) few;
    }
