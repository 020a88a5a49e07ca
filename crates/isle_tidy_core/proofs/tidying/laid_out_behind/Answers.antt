use Rattle.std.proofs.Common.{string_bytes, sym, subst, ◌∙◌}
use Rattle.isle_tidy_core.specs.Refused.{HasDocument}
use Rattle.isle_tidy_core.proofs.TidyTexts.{body_utf8, ended_body, ended_document}
use Rattle.isle_tidy_core.proofs.tidying.laid_out_behind.Goals as goal

pub part-requires-clause-first : goal.part-requires-clause-first
part-requires-clause-first c = body_utf8 c.args.text.now c.args.mark c.requires.mark c.utf8.text

pub laid_out-requires : goal.laid_out-requires
laid_out-requires c =
    subst HasDocument (sym (c.as_str.ensures.value ∙ ended_body c.args.text.now c.part.result.now (string_bytes c.new-plain.result) (string_bytes c.put_with_ends.new.out) c.args.mark
    c.requires.mark c.part.ensures c.new-plain.ensures.bytes c.in_ok-put_with_ends.ensures)) (ended_document c.args.text.now c.requires.document)
