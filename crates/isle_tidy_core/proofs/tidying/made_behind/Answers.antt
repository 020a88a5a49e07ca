use Rattle.std.proofs.Common.{string_bytes}
use Rattle.isle_tidy_core.proofs.TidyTexts.{body_utf8, made_text}
use Rattle.isle_tidy_core.proofs.tidying.made_behind.Goals as goal

pub part-requires-clause-last : goal.part-requires-clause-last
part-requires-clause-last c = body_utf8 c.args.text.now c.args.mark c.requires.mark c.utf8.text

pub returns : goal.returns
returns c =
    made_text c.args.text.now (string_bytes c.in_ok-laid_out.laid_out) c.part.result.now (string_bytes c.new-made.result) (string_bytes c.push_str.new.self) c.as_bytes.result.now c.as_str.result.now
    (string_bytes c.put_with_ends.new.out) c.args.mark c.line_end_of.result
    c.requires.document c.in_ok-laid_out.ensures c.requires.mark c.part.ensures c.new-made.ensures.bytes c.in_ok-push_str.ensures.bytes c.line_end_of.ensures c.as_bytes.ensures.value c.as_str.ensures.value c.in_ok-put_with_ends.ensures
