use Rattle.std.proofs.Common.{◌≡◌, ◌∙◌, ℕ, ◌+◌, ◌-◌, ap, get_or, arith, drop, max, sym}
use Rattle.std.proofs.lemmas.Grind.{get_or-set_at}
use Rattle.std.proofs.lemmas.List.{drop_more, get_or-set_other, get_or_default, length-set}
use Rattle.isle_lsp_text.specs.declared.lists.ListSpan.{ListSpan}
use Rattle.isle_lsp_ranges.specs.Foldings.{last_line, line_in}
use Rattle.isle_lsp_ranges.proofs.LineBreaks.{last_line_first, last_line_next}
use Rattle.isle_lsp_ranges.proofs.folding.last_lines.Goals as goal

pub loop-list-init : goal.loop-list-init
loop-list-init c = record {
  len = omega (arith, c.loop-line.invariant.len);
  each = λ k h. last_line_first (line_in c.args.breaks.now) c.args.lists.now k _ (c.loop-line.invariant.each k (omega arith));
}

pub loop-list-preserved : goal.loop-list-preserved
loop-list-preserved c =
    let none : ListSpan = record { from = 0; to = 0; depth = 0 } in
    let old = c.loop-list.ends.items in
    let i = c.loop-list.list-index in
    let start = c.line_in-start.result in
    let here = c.line_in-start.ensures.line in
    let end : ℕ = line_in c.args.breaks.now ((get_or c.args.lists.now i none).to - 1) in
    let last : c.max.result ≡ max end (get_or old start 0) = rw (c.max.ensures, c.line_in-end.ensures.line, c.saturating_sub.ensures) (ap (max end) (c.index.ensures ∙ get_or_default old start _ 0 (omega (arith, c.line_in-start.ensures.within, c.loop-list.invariant.len)))) in
    record {
      len = length-set old start c.max.result ∙ c.loop-list.invariant.len;
      each = λ k h.
          let inv = c.loop-list.invariant.each k h in
          let behind = drop_more c.args.lists.now i none c.loop-list-test.true in
          last_line_next (line_in c.args.breaks.now) (get_or c.args.lists.now i none) (drop (i + 1) c.args.lists.now) k (get_or old k 0) _ _
          (λ e. get_or-set_at old start k c.max.result 0 (e ∙ sym here) (omega (arith, c.line_in-start.ensures.within, c.loop-list.invariant.len)) ∙ last ∙ ap (λ n. max end (get_or old n 0)) (here ∙ sym e))
          (λ n. get_or-set_other old start k c.max.result 0 (λ e. n (e ∙ here)))
          inv.0
          (ap (λ ls. max (get_or old k 0) (last_line (line_in c.args.breaks.now) k ls)) (sym behind) ∙ inv.1);
    }
