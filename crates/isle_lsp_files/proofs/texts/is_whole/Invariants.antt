use Rattle.std.proofs.Common.{◌≡◌, drop, map, string_bytes}
use Rattle.isle_lsp_features.specs.Programs.{text_of}
use Rattle.isle_lsp_files.specs.Texts.{is_whole}
use Rattle.isle_lsp_files.proofs.texts.is_whole.Given as goal

abbrev pub invariant-loop-file : goal.invariant-loop-file
invariant-loop-file l =
    is_whole (map text_of l.texts) (map string_bytes (drop l.file-index l.files)) ≡ is_whole (map text_of l.texts) (map string_bytes l.files)
