use Rattle.std.proofs.Common.{◌≤◌, length, sym, ◌∙◌, subst}
use Rattle.isle_lsp_features.proofs.Letters.{ended}
use Rattle.isle_lsp_features.proofs.symbols.has_letters.Goals as goal

pub returns : goal.returns
returns c =
    let all : length c.args.name.now ≤ c.loop-byte.byte-index = subst (λ bs. length bs ≤ c.loop-byte.byte-index) c.as_bytes-byte-items.ensures.value c.loop-byte-test.false in
    c.is_empty.ensures ∙ sym (ended c.loop-byte.letters.now c.args.name.now c.loop-byte.byte-index all) ∙ c.loop-byte.invariant
