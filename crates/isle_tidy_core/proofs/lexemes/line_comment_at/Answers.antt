use Rattle.std.proofs.Common.{◌≡◌, ◌+◌, drop, subst, sym, lit<, IsUtf8}
use Rattle.std.specs.List.{prefix_len}
use Rattle.isle_base.specs.Skips.{in_line}
use Rattle.isle_tidy_core.specs.Finds.{Stands}
use Rattle.isle_tidy_layout.specs.Entries.{line_comment}
use Rattle.isle_tidy_core.proofs.Standing.{line_comment_stands, semicolon_here, tail_utf8}
use Rattle.isle_tidy_core.proofs.lexemes.line_comment_at.Goals as goal

pub part-requires-clause-within : goal.part-requires-clause-within
part-requires-clause-within c =
    let here = semicolon_here c.args.text.now c.args.start c.requires.within c.requires.begins in
    let stop = subst (λ xs. c.line_comment_end-end.result ≡ c.args.start + 1 + prefix_len in_line (drop (c.args.start + 1) xs)) c.as_bytes.ensures.value c.line_comment_end-end.ensures in
    (line_comment_stands c.args.text.now c.args.start c.line_comment_end-end.result c.requires.within here stop c.requires.first).2

pub part-requires-clause-first : goal.part-requires-clause-first
part-requires-clause-first c =
    let here = semicolon_here c.args.text.now c.args.start c.requires.within c.requires.begins in
    tail_utf8 59 (drop (c.args.start + 1) c.args.text.now) (lit< tt) (subst IsUtf8 here c.requires.first)

pub part-requires-clause-last : goal.part-requires-clause-last
part-requires-clause-last c =
    let here = semicolon_here c.args.text.now c.args.start c.requires.within c.requires.begins in
    let stop = subst (λ xs. c.line_comment_end-end.result ≡ c.args.start + 1 + prefix_len in_line (drop (c.args.start + 1) xs)) c.as_bytes.ensures.value c.line_comment_end-end.ensures in
    (line_comment_stands c.args.text.now c.args.start c.line_comment_end-end.result c.requires.within here stop c.requires.first).3

pub returns : goal.returns
returns c =
    let here = semicolon_here c.args.text.now c.args.start c.requires.within c.requires.begins in
    let stop = subst (λ xs. c.line_comment_end-end.result ≡ c.args.start + 1 + prefix_len in_line (drop (c.args.start + 1) xs)) c.as_bytes.ensures.value c.line_comment_end-end.ensures in
    subst (λ xs. Stands c.args.text.now (line_comment xs) c.args.start c.line_comment_end-end.result) (sym c.part.ensures)
    (line_comment_stands c.args.text.now c.args.start c.line_comment_end-end.result c.requires.within here stop c.requires.first)
