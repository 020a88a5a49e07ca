use Rattle.std.proofs.Common.{ℕ, List, ◌++◌, drop, map, option_map, string_bytes}
use Rattle.isle_lsp_files.specs.Disks.{view_of}
use Rattle.isle_lsp_files.specs.Documents.{document_of}
use Rattle.isle_lsp.specs.Serving.{AreReports, others}
use Rattle.isle_lsp.proofs.reports.publish_others.Given as goal

-- with the texts of the documents that are left, there are those of all
abbrev pub invariant-loop-document : goal.invariant-loop-document
invariant-loop-document l =
    (more : List (List ℕ)) → AreReports l.encoding (map document_of l.documents) (view_of l.shown) (others l.all (option_map (λ u. u.now) l.named) (view_of l.shown) (map document_of (drop l.document-index l.documents))) more
    → AreReports l.encoding (map document_of l.documents) (view_of l.shown) (others l.all (option_map (λ u. u.now) l.named) (view_of l.shown) (map document_of l.documents)) (map string_bytes l.sent.items ++ more)
