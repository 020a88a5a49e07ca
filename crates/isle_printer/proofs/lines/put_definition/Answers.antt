use Rattle.std.proofs.Common.{◌≡◌, [], ◌∷◌, ◌++◌, ◌∙◌, ap, length, rules, string_bytes}
use Rattle.std.proofs.lemmas.List.{append_assoc}
use Rattle.isle_ast.specs.TreeView.{definition_of}
use Rattle.isle_printer_layout.specs.Layout.{layout}
use Rattle.isle_printer_layout.specs.Pieces.{first_made}
use Rattle.isle_printer.specs.Printed.{definition_text}
use Rattle.isle_printer.proofs.Printing.{printed_text-first, printed_text-next}
use Rattle.isle_printer.proofs.lines.put_definition.Goals.{then-not-is_empty+in_ok-push, else-not-is_empty}
use Rattle.isle_printer.proofs.lines.put_definition.Goals as goal

pub returns-clause-printed : goal.returns-clause-printed
unfolding lib.Utf8.encode
returns-clause-printed c before e =
    let width = c.args.width in
    let text = string_bytes c.args.out.now in
    let lines = definition_text width (definition_of c.args.def.now) in
    let from = string_bytes c.if-not-is_empty.out in
    let shown = c.in_ok-put.ensures.written ∙ ap (λ made. from ++ layout width (first_made made.0)) c.in_ok-pieces.ensures.made in
    let written : string_bytes c.push-2.new.self ≡ from ++ lines =
    c.in_ok-push-2.ensures.bytes ∙ ap (λ t. t ++ 10 ∷ []) shown ∙ append_assoc from _ (10 ∷ []) in
    elim c.if-not-is_empty.branch [
      | then-not-is_empty+in_ok-push w ↦
          let some : length text ≡ 0 → ⊥ = search rules in
          let separated = ap string_bytes w.out-is ∙ w.in_ok-push.ensures.bytes in
          let is : string_bytes c.push-2.new.self ≡ text ++ 10 ∷ lines =
          written ∙ ap (λ t. t ++ lines) separated ∙ append_assoc text (10 ∷ []) lines in
          is ∙ printed_text-next width before text _ e some
      | else-not-is_empty w ↦
          let none : length text ≡ 0 = search rules in
          written ∙ ap (λ t. string_bytes t ++ lines) w.out-is ∙ printed_text-first width before text _ e none
    ]
