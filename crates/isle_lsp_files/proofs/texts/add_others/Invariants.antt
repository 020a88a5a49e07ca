use Rattle.std.proofs.Common.{◌≡◌, ◌++◌, map, take, not}
use Rattle.std.specs.Prelude.{filter}
use Rattle.isle_lsp_files.specs.Disks.{view_of}
use Rattle.isle_lsp_files.specs.Texts.{shows}
use Rattle.isle_lsp_features.specs.Programs.{text_of}
use Rattle.isle_lsp_files.proofs.texts.add_others.Given as goal

abbrev pub invariant-loop-text : goal.invariant-loop-text
invariant-loop-text l =
    map text_of l.texts.items
    ≡ map text_of l.initial.texts.items
    ++ filter (λ t. not (shows (view_of l.view) t.file)) (map text_of (take l.text-index l.opened))
