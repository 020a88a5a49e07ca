use Rattle.std.proofs.Common.{◌≡◌, ◌++◌, take, drop, map}
use Rattle.isle_lsp_files.specs.Documents.{document_of, without}
use Rattle.isle_lsp_files.proofs.documents.place_of.Given as goal

abbrev pub invariant-loop-i : goal.invariant-loop-i
invariant-loop-i l =
    without l.uri (map document_of l.documents) ≡ map document_of (take l.i l.documents) ++ without l.uri (map document_of (drop l.i l.documents))
