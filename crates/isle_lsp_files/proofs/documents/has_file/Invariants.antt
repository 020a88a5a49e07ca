use Rattle.std.proofs.Common.{◌≡◌, drop, map}
use Rattle.isle_lsp_files.specs.Documents.{document_of, has_file}
use Rattle.isle_lsp_files.proofs.documents.has_file.Given as goal

abbrev pub invariant-loop-document : goal.invariant-loop-document
invariant-loop-document l =
    has_file l.file (map document_of (drop l.document-index l.documents)) ≡ has_file l.file (map document_of l.documents)
