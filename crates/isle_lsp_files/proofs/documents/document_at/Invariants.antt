use Rattle.std.proofs.Common.{◌≡◌, drop, map}
use Rattle.isle_lsp_files.specs.Documents.{document_at, document_of}
use Rattle.isle_lsp_files.proofs.documents.document_at.Given as goal

abbrev pub invariant-loop-document : goal.invariant-loop-document
invariant-loop-document l =
    document_at l.uri (map document_of (drop l.document-index l.documents)) ≡ document_at l.uri (map document_of l.documents)
