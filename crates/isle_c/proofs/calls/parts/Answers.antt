use Rattle.std.proofs.Common.{◌≡◌, refl, ap, sym, subst, ◌∙◌}
use Rattle.isle_c.specs.Refusals.{place_at}
use Rattle.isle_c.proofs.calls.parts.Goals as goal

pub returns : goal.returns
returns c =
    let text = c.args.text.now in
    let said = rw c.in-ParseError.is at c.requires in
    let at : c.in-ParseError.span.from.offset ≡ said.0 = ap (λ span. span.from.offset) said.2 in
    let place = c.in_ok-place-in-ParseError.ensures in
    let same : c.in_ok-place-in-ParseError.place.offset ≡ c.in-ParseError.span.from.offset = ap (λ place. place.offset) place in
    let offset = same ∙ at in
    record {
      says = rw c.in-ParseError.is refl;
      stands = rw (c.in-ParseError.is, offset) said.2;
      within = rw offset said.1;
      shown = subst (λ offset. c.in_ok-place-in-ParseError.place ≡ place_at text offset) (sym same) place;
    }
