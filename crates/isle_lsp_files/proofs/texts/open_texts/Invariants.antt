use Rattle.std.proofs.Common.{◌≡◌, ◌++◌, length, map}
use Rattle.isle_lsp_files.specs.Disks.{view_of}
use Rattle.isle_lsp_files.specs.Documents.{document_of}
use Rattle.isle_lsp_files.specs.Texts.{open_texts}
use Rattle.isle_lsp_features.specs.Programs.{text_of}
use Rattle.isle_lsp_files.proofs.texts.open_texts.Given as goal

abbrev pub invariant-loop-rest : goal.invariant-loop-rest
invariant-loop-rest l = map text_of l.texts.items ++ open_texts l.encoding (view_of l.view) (map document_of l.rest)
    ≡ open_texts l.encoding (view_of l.view) (map document_of l.documents)

abbrev pub decreases-loop-rest : goal.decreases-loop-rest
decreases-loop-rest l = length l.rest
