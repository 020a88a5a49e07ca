use Rattle.std.proofs.Common.{rules, ◌≡◌, map, true}
use Rattle.std.specs.List.{list_any}
use Rattle.std.specs.Str.{bytes_eq}
use Rattle.isle_lsp_text.proofs.Words.{known}
use Rattle.isle_lsp_text.proofs.calls.add_word.Goals as goal

pub returns-else-not-has_word : goal.returns-else-not-has_word
returns-else-not-has_word c =
    let found = map (λ word. word.now) c.args.found.now.items in
    let is : list_any (λ w. bytes_eq w c.in-Symbol.word.now) found ≡ true = search rules in
    rw c.in-Symbol.is (known found c.in-Symbol.word.now is)
