use Rattle.std.proofs.Common.{◌≡◌, append_assoc, ap, sym, ◌∙◌}
use Rattle.std.specs.Option.{option_copied}
use Rattle.isle_base_source.specs.Lines.{line_ends}
use Rattle.isle_base_source.specs.Source.{source_at}
use Rattle.isle_base_source.proofs.SourceLemmas.{source_at-read}
use Rattle.isle_base_source.proofs.pos.Pos.pretty_print_line.Goals as goal

pub returns : goal.returns
returns c =
    let files = c.args.files.now in
    let file = c.args.self.now.file in
    let name : c.unwrap-name.result.now ≡ (source_at files file).name = source_at-read (λ source. source.name) files file c.unwrap-name.result.now (sym (ap option_copied c.unwrap-name.ensures) ∙ c.file_name.ensures) in
    let map : c.unwrap.result.now ≡ line_ends (source_at files file).text = source_at-read (λ source. line_ends source.text) files file c.unwrap.result.now (sym (ap option_copied c.unwrap.ensures) ∙ c.file_line_map.ensures) in
    let number = c.line-line.ensures.of_text (source_at files file).text map in
    rw (← number, ← name, append_assoc) c.format.ensures.ok
