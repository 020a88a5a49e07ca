use Rattle.std.proofs.Common.{◌≡◌, ◌&&◌, filter, map, string_bytes, take}
use Rattle.isle_program_manifest.specs.Membership.{has_file}
use Rattle.isle_lsp_features.specs.Programs.{text_of}
use Rattle.isle_lsp_files.specs.Texts.{is_whole, texts_in}
use Rattle.isle_lsp_files.proofs.texts.programs_in.Given as goal

abbrev pub invariant-loop-program : goal.invariant-loop-program
invariant-loop-program l =
    map (λ p. map text_of p.items) l.programs.items
    ≡ map (texts_in (map text_of l.texts))
    (filter (λ p. has_file l.file p && is_whole (map text_of l.texts) p) (map (λ p. map string_bytes p.items) (take l.program-index l.view.programs.items)))
