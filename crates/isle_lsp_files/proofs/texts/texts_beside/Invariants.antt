use Rattle.std.proofs.Common.{◌≡◌, map, take}
use Rattle.std.specs.Prelude.{filter}
use Rattle.isle_lsp_files.specs.Disks.{view_of}
use Rattle.isle_lsp_files.specs.Texts.{is_beside}
use Rattle.isle_lsp_features.specs.Programs.{text_of}
use Rattle.isle_lsp_files.proofs.texts.texts_beside.Given as goal

abbrev pub invariant-loop-text : goal.invariant-loop-text
invariant-loop-text l =
    map text_of l.beside.items ≡ filter (is_beside (view_of l.view)) (map text_of (take l.text-index l.texts))
