use Rattle.std.proofs.Common.{◌≡◌, ◌<◌, IfOk, length, get_or, map, Some, ap, option_map, slice_get, string_bytes, subst, sym, ◌∙◌}
use Rattle.std.proofs.lemmas.List.{get_or-map, length-map}
use Rattle.std.proofs.lemmas.Option.{slice_get-get_or, slice_get-map}
use Rattle.isle_base_source.specs.Lines.{line_ends}
use Rattle.isle_cli.specs.Sources.{source_of}
use Rattle.isle_check.specs.Report.{told_of}
use Rattle.isle_program.specs.reports.Messages.{message_of}
use Rattle.isle_check.proofs.report.told_at.Goals as goal

pub told_line-requires : goal.told_line-requires
told_line-requires c =
    let sources = c.args.sources.now in
    let file = c.args.pos.file in
    let source = c.index-sources-pos.result in
    let lines = c.index-maps-pos.result in
    let within : file < length (map source_of sources) = subst (λ n. file < n) (sym (length-map sources source_of)) c.if-pos-sources.false in
    c.index-maps-pos.is
    ∙ ap (λ ms. get_or ms file lines) c.requires
    ∙ get_or-map (λ s. line_ends s.text) (map source_of sources) file (source_of source) lines within
    ∙ ap (λ s. line_ends s.text) (get_or-map source_of sources file source (source_of source) c.if-pos-sources.false)
    ∙ ap (λ s. line_ends (source_of s).text) (sym c.index-sources-pos.is)

pub returns : goal.returns
returns c =
    let sources = c.args.sources.now in
    let file = c.args.pos.file in
    let source = c.index-sources-pos.result in
    let there : slice_get (map source_of sources) file ≡ Some (source_of source) =
    slice_get-map source_of sources file ∙ ap (option_map source_of) (slice_get-get_or sources file source c.if-pos-sources.false)
    ∙ ap (λ s. Some (source_of s)) (sym c.index-sources-pos.is) in
    subst (λ s. IfOk c.told_line.result (λ line. string_bytes line ≡ told_of c.args.format s c.args.pos.offset (message_of c.args.message.now))) (sym there) c.told_line.ensures.line
