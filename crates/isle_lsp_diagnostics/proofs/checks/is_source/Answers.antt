use Rattle.std.proofs.Common.{codes, refl, sym, ◌∙◌}
use Rattle.std.proofs.lemmas.Slice.Eq.{bytes_eq-Decides}
use Rattle.isle_lsp_diagnostics.proofs.checks.is_source.Goals as goal

pub returns-then-eq : goal.returns-then-eq
returns-then-eq c = λ same.
    let none = (bytes_eq-Decides c.as_str.result.now (codes "")).0 (sym c.eq.ensures ∙ c.if-eq.true) in
    let equal = (bytes_eq-Decides c.as_str-then-eq.result.now c.args.text.now.text.now).0 (sym c.eq-then-eq.ensures ∙ same) in
    rw (sym c.as_str.ensures.value ∙ none, sym c.as_str-then-eq.ensures.value ∙ equal) refl
