use Rattle.std.proofs.Common.{◌≡◌, map, string_bytes, take}
use Rattle.isle_lsp_features.specs.Programs.{text_of}
use Rattle.isle_lsp_files.specs.Texts.{texts_in}
use Rattle.isle_lsp_files.proofs.texts.texts_in.Given as goal

abbrev pub invariant-loop-file : goal.invariant-loop-file
invariant-loop-file l =
    map text_of l.found.items ≡ texts_in (map text_of l.texts) (map string_bytes (take l.file-index l.files))
