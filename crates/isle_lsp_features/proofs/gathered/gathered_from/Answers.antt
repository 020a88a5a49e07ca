use Rattle.std.proofs.Common.{ap, map, sym, ◌∙◌}
use Rattle.std.specs.List.{slice_get}
use Rattle.isle_lsp_features.specs.Programs.{bytes_of, text_of}
use Rattle.isle_lsp_features.specs.Gathered.{bytes_in, kept_of}
use Rattle.isle_lsp_features.proofs.Renewing.{program-at, reached-more, reached-same}
use Rattle.isle_lsp_features.proofs.gathered.gathered_from.Goals.{then-not-is_text+in_ok-renew, else-not-is_text}
use Rattle.isle_lsp_features.proofs.gathered.gathered_from.Goals as goal

pub loop-file-preserved : goal.loop-file-preserved
loop-file-preserved c =
    let i = c.loop-file.invariant in
    let program = map bytes_of (map text_of c.args.program.now) in
    let file = c.loop-file.file in
    let ks = map kept_of c.loop-file.texts.items in
    let at = program-at c.args.program.now file _ c.loop-file-test.true in
    elim c.if-not-is_text.branch [
      | then-not-is_text+in_ok-renew w ↦
          rw (w.texts-is, w.index-is)
          (reached-more program ks (map kept_of w.renew.new.texts.items) c.loop-file.index w.renew.new.index file _ at w.in_ok-renew.ensures.texts
          w.in_ok-renew.ensures.ok i)
      | else-not-is_text w ↦
          let there = sym (ap (λ xs. slice_get (bytes_in (map kept_of xs)) file) c.deref.ensures.value) ∙ c.is_text.ensures w.if-not-is_text.false in
          rw (w.texts-is, w.index-is) (reached-same program ks c.loop-file.index file _ at there i)
    ]
