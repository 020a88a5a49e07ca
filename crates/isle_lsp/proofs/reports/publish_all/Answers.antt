use Rattle.std.proofs.Common.{[], ◌∷◌, ◌++◌, ap, map, string_bytes, ◌∙◌}
use Rattle.isle_lsp.proofs.reports.publish_all.Goals as goal

pub returns-clause-ok : goal.returns-clause-ok
returns-clause-ok c =
    let named = c.in_ok-named.named in
    let others = c.in_ok-others.others.items in (
      string_bytes named,
      map string_bytes others,
      ap (map string_bytes) (c.in_ok-append.ensures.items ∙ ap (λ xs. xs ++ others) (c.in_ok-push.ensures.items ∙ ap (λ xs. xs ++ named ∷ []) c.new-sent.ensures.items)),
      rw c.as_str.ensures.value at c.in_ok-named.ensures.ok,
      c.in_ok-others.ensures.ok,
    )
