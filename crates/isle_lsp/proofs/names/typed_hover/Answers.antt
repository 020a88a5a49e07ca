use Rattle.std.proofs.Common.{map, refl, subst}
use Rattle.serde_json.specs.View.{view}
use Rattle.isle_lsp_diagnostics.specs.Hovers.{IsTypedHover}
use Rattle.isle_lsp_features.specs.Programs.{text_of}
use Rattle.isle_lsp_files.specs.Disks.{view_of}
use Rattle.isle_lsp_files.specs.Documents.{document_of}
use Rattle.isle_lsp_files.specs.Texts.{programs_of}
use Rattle.isle_lsp_protocol.specs.Parameters.{position_of}
use Rattle.isle_lsp.proofs.names.typed_hover.Goals as goal

pub returns-clause-ok : goal.returns-clause-ok
returns-clause-ok c =
    let hover = view c.args.hover.now in
    let typed = view c.in_ok-typed.typed in
    let shown = view_of c.args.shown.now in
    let name = c.as_str-file.result.now in
    let place = c.position_of-position.result in
    let by_items = subst (λ programs. IsTypedHover (map (λ p. map text_of p.items) programs) name place hover typed) c.deref-2.ensures.value c.in_ok-typed.ensures.ok in
    let by_programs = subst (λ programs. IsTypedHover programs name place hover typed) c.in_ok-programs.ensures by_items in
    let by_documents =
    subst (λ documents. IsTypedHover (programs_of c.args.server.now.encoding (map document_of documents) shown name) name place hover typed) c.deref.ensures.value by_programs in
    let documents = map document_of c.args.server.now.documents.items in
    let by_name = subst (λ file. IsTypedHover (programs_of c.args.server.now.encoding documents shown file) file place hover typed) c.as_str-file.ensures.value by_documents in
    let file = shown.file in (
      typed,
      subst (λ position. IsTypedHover (programs_of c.args.server.now.encoding documents shown file) file position hover typed) c.position_of-position.ensures by_name,
      refl,
    )
