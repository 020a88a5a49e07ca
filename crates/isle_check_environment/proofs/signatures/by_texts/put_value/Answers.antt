use Rattle.std.proofs.Common.{string_bytes, ap, ◌∙◌}
use Rattle.std.specs.HashMap.{get_by_text}
use Rattle.isle_check_environment.specs.signatures.ByTexts.{get_if_some}
use Rattle.isle_check_environment.proofs.signatures.ByTextsLemmas.{get-or_empty, get_by_texts-put}
use Rattle.isle_check_environment.proofs.signatures.by_texts.put_value.Goals as goal

pub returns : goal.returns
returns g c =
    get_by_texts-put c.args.values.now c.remove.new.self c.insert-2.new.self c.unwrap_or-at_first.result c.insert.new.self
    c.as_str.result.now (string_bytes c.args.first) (string_bytes c.args.second) c.args.value c.as_str.ensures.value
    (λ text.
    ap (λ values. get_by_text values text) c.unwrap_or-at_first.ensures
    ∙ get-or_empty c.remove.result c.new.result c.new.ensures.empty text
    ∙ ap (λ found. get_if_some found text) c.remove.ensures.value)
    c.remove.ensures.updates c.in_ok-insert.ensures.updates c.in_ok-insert-2.ensures.updates
