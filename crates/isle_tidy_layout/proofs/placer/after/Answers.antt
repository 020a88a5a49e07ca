use Rattle.std.proofs.Common.{◌∷◌, length, sym, ap, ◌∙◌, arith}
use Rattle.isle_tidy_layout.specs.EntriesView.{lexeme_of}
use Rattle.isle_tidy_layout.specs.Placing.{tidied}
use Rattle.isle_tidy_layout.specs.Writing.{spelling}
use Rattle.isle_tidy_layout.proofs.Printable.{after_moved}
use Rattle.isle_tidy_layout.proofs.placer.after.Goals as goal

pub returns-then-is_printable : goal.returns-then-is_printable
returns-then-is_printable c =
    let long = ap length (sym c.as_bytes-bytes.ensures.value) in
    after_moved (lexeme_of c.args.lexeme.now) c.args.at _ _ c.moved.result (c.requires.printable c.if-is_printable.true)
    (ap (λ x. length (spelling (lexeme_of x))) c.in-Atom.is ∙ long) (ap (λ x. length (spelling (tidied (lexeme_of x)))) c.in-Atom.is ∙ long) c.moved.ensures

pub returns-then-is_printable-2 : goal.returns-then-is_printable-2
returns-then-is_printable-2 c =
    after_moved (lexeme_of c.args.lexeme.now) c.args.at _ _ c.moved-then-is_printable-2.result (c.requires.printable c.if-is_printable-2.true)
    (ap (λ x. length (spelling (lexeme_of x))) c.in-LineComment.is ∙ omega arith)
    (ap (λ x. length (spelling (tidied (lexeme_of x)))) c.in-LineComment.is ∙ ap (λ xs. length (59 ∷ xs)) (sym c.trimmed-kept.ensures) ∙ omega arith)
    c.moved-then-is_printable-2.ensures
