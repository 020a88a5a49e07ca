use Rattle.std.proofs.Common.{◌≡◌, map, take}
use Rattle.isle_lsp_files.specs.Disks.{file_of, view_of}
use Rattle.isle_lsp_files.specs.Texts.{file_text}
use Rattle.isle_lsp_features.specs.Programs.{text_of}
use Rattle.isle_lsp_files.proofs.texts.file_texts.Given as goal

abbrev pub invariant-loop-file : goal.invariant-loop-file
invariant-loop-file l =
    map text_of l.texts.items ≡ map (file_text l.encoding (view_of l.view) (map text_of l.opened)) (map file_of (take l.file-index l.view.files.items))
