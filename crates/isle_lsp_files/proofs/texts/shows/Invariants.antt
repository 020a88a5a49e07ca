use Rattle.std.proofs.Common.{◌≡◌, bytes_eq, drop, map}
use Rattle.std.specs.List.{list_any}
use Rattle.isle_lsp_files.specs.Disks.{file_of, view_of}
use Rattle.isle_lsp_files.specs.Texts.{shows}
use Rattle.isle_lsp_files.proofs.texts.shows.Given as goal

abbrev pub invariant-loop-shown : goal.invariant-loop-shown
invariant-loop-shown l =
    list_any (λ f. bytes_eq f.path l.file) (map file_of (drop l.shown-index l.view.files.items)) ≡ shows (view_of l.view) l.file
