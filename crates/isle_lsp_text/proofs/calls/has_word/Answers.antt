use Rattle.std.proofs.Common.{◌∙◌, sym}
use Rattle.std.specs.Str.{bytes_eq}
use Rattle.isle_lsp_text.proofs.Words.{any_map}
use Rattle.isle_lsp_text.proofs.calls.has_word.Goals as goal

pub returns : goal.returns
returns c = c.contains.ensures.value ∙ sym (any_map (λ w. bytes_eq w c.args.word.now) (λ w. w.now) c.args.words.now)
