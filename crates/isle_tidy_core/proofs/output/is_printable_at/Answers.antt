use Rattle.std.proofs.Common.{◌-◌, drop, take, sym, ap, ◌∙◌, arith}
use Rattle.std.specs.List.{list_all}
use Rattle.isle_tidy_layout.specs.Columns.{is_printable}
use Rattle.isle_tidy_layout.specs.EntriesView.{lexeme_of}
use Rattle.isle_tidy_layout.proofs.Printable.{run_printable}
use Rattle.isle_tidy_core.proofs.Pending.{stands_part}
use Rattle.isle_tidy_core.proofs.output.is_printable_at.Goals as goal

pub returns-in-Atom : goal.returns-in-Atom
returns-in-Atom c = λ h.
    let bytes = c.as_bytes.result.now in
    let start = c.args.span.start in
    let far = c.are_printable.ensures h in
    let run = run_printable (c.args.span.end - start) (drop start bytes) (omega (arith, far)) in
    ap (list_all is_printable) (sym (stands_part c.args.text.now (lexeme_of c.args.lexeme.now) start c.args.span.end c.requires) ∙ ap (λ xs. take (c.args.span.end - start) (drop start xs)) (sym c.as_bytes.ensures.value)) ∙ run
