use Rattle.std.proofs.Common.{◌∙◌, ap, map, rules}
use Rattle.std.proofs.lemmas.Fn.{dedup_same}
use Rattle.isle_lsp_features.specs.Completed.{word_of}
use Rattle.isle_lsp_features.proofs.Completing.{has_text_of, kept_once}
use Rattle.isle_lsp_features.proofs.completion.drop_repeats.Goals as goal

pub returns : goal.returns
returns c =
    let kept = dedup_same _ has_text_of _ (λ x y b f' x' y' k. search rules) _ _ c.dedup_by.ensures.filtered in
    ap (map word_of) kept ∙ kept_once c.args.words.now.items
