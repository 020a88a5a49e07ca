use Rattle.std.proofs.Common.{◌≡◌, ℕ, ◌+◌, List, [], ◌∷◌, ◌++◌, Bool, true, false, not, if◌then◌else◌, refl, ap, sym, ◌∙◌}
use Rattle.std.proofs.Output.{has_written_styled_append as then_written, has_written_styled_of_eq}
use Rattle.std.specs.Prelude.{codes}
use Rattle.std.specs.Fmt.{decimal}
use Rattle.std.specs.Option.{option_copied}
use Rattle.isle_base_source.specs.declared.error.Span.{Span}
use Rattle.isle_base_source.specs.Diagnostic.{label_text}
use Rattle.isle_base_source.specs.Bytes.{line_feed}
use Rattle.isle_base_source.specs.Lines.{line, column, line_text, has_line_feed, missing_line_feed}
use Rattle.isle_base_source.specs.Source.{Source, source_at}
use Rattle.isle_base_source.proofs.SourceLemmas.{source_at-read}
use Rattle.isle_base_source.proofs.error.show.write_label.Goals as goal

lacking : (is_last has : Bool) → is_last ≡ not has → (if is_last then line_feed ∷ [] else []) ≡ (if has then [] else line_feed ∷ [])
lacking is_last true e = rw e refl
lacking is_last false e = rw e refl

-- a label, by its parts
label_text-parts : (files : List Source) (span : Span) (name text shown : List ℕ) (number before : ℕ) (is_last : Bool) → name ≡ (source_at files span.from.file).name → text ≡ (source_at files span.from.file).text → number ≡ line text span.from.offset → before ≡ column text span.from.offset → shown ≡ line_text text (line text span.from.offset) → is_last ≡ not (has_line_feed text (line text span.from.offset)) → name ++ codes ":" ++ decimal (number + 1) ++ codes ":" ++ decimal (before + 1) ++ codes ": " ++ shown ++ (if is_last then line_feed ∷ [] else []) ≡ label_text files span
unfolding label_text
label_text-parts files span name text shown number before is_last is_name is_text is_number is_before is_shown is =
    let closed : (if is_last then line_feed ∷ [] else []) ≡ missing_line_feed text (line text span.from.offset) = lacking is_last (has_line_feed text (line text span.from.offset)) is in
    rw (closed, is_number, is_before, is_shown, is_text, is_name) refl

pub returns : goal.returns
returns g c = λ flush ok.
    let files = c.args.files.now in
    let pos = c.args.span.now.from in
    let name : c.unwrap-name.result.now ≡ (source_at files pos.file).name = source_at-read (λ source. source.name) files pos.file c.unwrap-name.result.now (sym (ap option_copied c.unwrap-name.ensures) ∙ c.file_name.ensures) in
    let text : c.unwrap-text.result.now ≡ (source_at files pos.file).text = source_at-read (λ source. source.text) files pos.file c.unwrap-text.result.now (sym (ap option_copied c.unwrap-text.ensures) ∙ c.file_text.ensures) in
    let line = c.source_line-line.ensures in
    let parts = label_text-parts files c.args.span.now c.unwrap-name.result.now c.unwrap-text.result.now c.source_line-line.result.text.now c.source_line-line.result.number c.source_line-line.result.column c.source_line-line.result.is_last name text line.number line.column line.text line.last in
    let place = c.in_ok-write_place.ensures flush refl in
    has_written_styled_of_eq _ _ _ _ _ parts (then_written _ _ _ _ _ _ place (c.write_line_end.ensures place.flush ok))
