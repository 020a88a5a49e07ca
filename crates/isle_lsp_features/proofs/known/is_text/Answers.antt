use Rattle.std.proofs.Common.{Some, ap, string_bytes, sym, ◌∙◌}
use Rattle.std.proofs.lemmas.Slice.Eq.{bytes_eq-Decides}
use Rattle.isle_lsp_features.proofs.Renewing.{text-at}
use Rattle.isle_lsp_features.proofs.known.is_text.Goals as goal

pub returns-in-Some : goal.returns-in-Some
returns-in-Some c = λ same.
    let found = c.in-Some.ensures.lookup in
    text-at c.args.texts.now c.args.place c.in-Some.known.now found.3.0
    ∙ ap (λ k. Some (string_bytes k.text)) (sym found.1)
    ∙ ap Some (sym c.as_str.ensures.value ∙ (bytes_eq-Decides c.as_str.result.now c.args.text.now).0 (sym c.eq.ensures ∙ same))
