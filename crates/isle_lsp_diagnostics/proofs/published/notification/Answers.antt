use Rattle.std.proofs.Common.{[], ◌++◌, ap, map, ◌∙◌, arith, string_bytes}
use Rattle.json.specs.Lex.{tokens}
use Rattle.json.specs.Tree.{json_tokens}
use Rattle.serde_json.specs.Written.{outline}
use Rattle.isle_lsp_diagnostics.specs.Marks.{mark_of}
use Rattle.isle_lsp_diagnostics.specs.Published.{diagnostics_data, publishing}
use Rattle.isle_lsp_protocol.proofs.Readings.{adds_outline, is_text}
use Rattle.isle_lsp_diagnostics.proofs.Depths.{published_depth}
use Rattle.isle_lsp_diagnostics.proofs.Readings.{publishing_reads}
use Rattle.isle_lsp_diagnostics.proofs.published.notification.Goals as goal

pub into_text-requires : goal.into_text-requires
into_text-requires c = c.in_ok-put_notification.ensures.before ∙ c.new-out.ensures.before ∙ c.new.ensures.items

pub returns : goal.returns
returns c =
    let d = publishing c.args.uri.now c.args.version (diagnostics_data c.args.encoding c.args.text.now (map mark_of c.args.diagnostics.now)) in
    let all = c.in_ok-put_notification.ensures.tokens ∙ ap (λ l. l ++ json_tokens (outline d)) c.new-out.ensures.tokens in
    let reads = publishing_reads c.args.encoding c.args.uri.now c.args.version c.args.text.now (omega arith) (map mark_of c.args.diagnostics.now) c.in_ok-put_notification.ensures.reads in
    is_text d (string_bytes c.into_text.result) (adds_outline d [] (tokens (string_bytes c.into_text.result)) reads (c.into_text.ensures ∙ all))
    (published_depth c.args.encoding c.args.uri.now c.args.version c.args.text.now (map mark_of c.args.diagnostics.now))
