use Rattle.std.proofs.Common.{◌≡◌, Some, ap, option_map, string_bytes, sym, ◌∙◌}
use Rattle.std.proofs.lemmas.Option.{slice_get-get_or}
use Rattle.isle_index.specs.Entries.{text_in}
use Rattle.isle_resolve.proofs.Texts.{bytes-are}
use Rattle.isle_index.proofs.numbers.Texts.find.Goals as goal

pub returns-in-Some : goal.returns-in-Some
returns-in-Some c =
    let number = c.in_ok-number.number.now in
    let held = c.in-Some.held.now in
    let found = c.in-Some.ensures.lookup in
    let same : c.as_str.result.now ≡ c.args.text.now = bytes-are c.as_str.result.now c.args.text.now (sym c.eq.ensures ∙ c.if-eq.true) in
    sym (ap (λ texts. text_in texts number) c.deref.ensures.value)
    ∙ ap (option_map string_bytes) (slice_get-get_or c.deref.result.now number held found.3.0)
    ∙ ap (λ s. Some (string_bytes s)) (sym found.1)
    ∙ ap Some (sym c.as_str.ensures.value ∙ same)
