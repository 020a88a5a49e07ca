use Rattle.std.proofs.Common.{ℕ, List, [], refl, ◌+◌, ◌∷◌, ◌++◌, ap, append_assoc, append-nil, drop, map, option_map, string_bytes, subst, sym, ◌∙◌}
use Rattle.std.proofs.lemmas.List.{drop_all, drop_more, map-append}
use Rattle.isle_lsp_files.specs.Disks.{view_of}
use Rattle.isle_lsp_files.specs.Documents.{document_of}
use Rattle.isle_lsp_files.specs.declared.documents.Document.{Document}
use Rattle.isle_lsp.specs.Serving.{AreReports, others}
use Rattle.isle_lsp.proofs.Reporting.{reports_more, reports_same}
use Rattle.isle_lsp.proofs.reports.publish_others.Goals.{then-is_other+in_ok-text+in_ok-push, else-is_other}
use Rattle.isle_lsp.proofs.reports.publish_others.Goals as goal

pub loop-document-preserved : goal.loop-document-preserved
loop-document-preserved c = λ more left.
    let docs = map document_of c.args.documents.now in
    let view = view_of c.args.shown.now in
    let uri = option_map (λ u. u.now) c.args.named in
    let documents = c.args.documents.now in
    let i = c.loop-document.document-index in
    let d = c.document-item.result in
    let next = drop_more documents i d c.loop-document-test.true ∙ ap (λ q. q ∷ drop (i + 1) documents) (sym c.document-item.is) in
    let Left : List Document → List (List ℕ) → Type 0 = λ ds ts. AreReports c.args.encoding docs view (others c.args.all uri view (map document_of ds)) ts in
    let later = drop (i + 1) documents in
    elim c.if-is_other.branch [
      | then-is_other+in_ok-text+in_ok-push w ↦
          let sent = c.loop-document.sent.items in
          let text = w.in_ok-text.text in
          let is = sym c.is_other.ensures ∙ w.if-is_other.true in
          let report = rw (w.as_str-uri.ensures.value, w.as_str-file.ensures.value) at w.in_ok-text.ensures.ok in
          let all = c.loop-document.invariant (string_bytes text ∷ more)
          (subst (λ ds. Left ds (string_bytes text ∷ more)) (sym next) (reports_more c.args.encoding docs view c.args.all uri (document_of d) (map document_of later) (string_bytes text) more is report left)) in
          rw w.sent-is
          (subst (AreReports c.args.encoding docs view (others c.args.all uri view docs))
          (sym (append_assoc (map string_bytes sent) (string_bytes text ∷ []) more)
          ∙ ap (λ ts. ts ++ more) (sym (map-append string_bytes sent (text ∷ [])) ∙ ap (map string_bytes) (sym w.in_ok-push.ensures.items)))
          all)
      | else-is_other w ↦
          let is = sym c.is_other.ensures ∙ w.if-is_other.false in
          rw w.sent-is
          (c.loop-document.invariant more (subst (λ ds. Left ds more) (sym next) (reports_same c.args.encoding docs view c.args.all uri (document_of d) (map document_of later) more is left)))
    ]

pub returns-clause-ok : goal.returns-clause-ok
returns-clause-ok c =
    let docs = map document_of c.args.documents.now in
    let view = view_of c.args.shown.now in
    let uri = option_map (λ u. u.now) c.args.named in
    let none = drop_all c.loop-document.document-index c.args.documents.now c.loop-document-test.false in
    let Left : List Document → Type 0 = λ ds. AreReports c.args.encoding docs view (others c.args.all uri view (map document_of ds)) [] in
    subst (AreReports c.args.encoding docs view (others c.args.all uri view docs)) (append-nil (map string_bytes c.loop-document.sent.items))
    (c.loop-document.invariant [] (subst Left (sym none) refl))
