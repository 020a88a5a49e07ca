use Rattle.std.proofs.Common.{ap, ◌∙◌}
use Rattle.isle_lsp_calls.proofs.Looking.{looked_up}
use Rattle.isle_index.specs.Renaming.{part_view}
use Rattle.isle_resolve.specs.Names.{named_of}
use Rattle.isle_lsp_features.specs.Programs.{text_of}
use Rattle.isle_lsp_features.specs.Renamed.{is_glued_text}
use Rattle.isle_lsp_features.proofs.renaming.is_glued_at.Goals as goal

pub returns : goal.returns
returns c =
    c.is_glued_text.ensures
    ∙ ap (λ s. is_glued_text s (named_of c.args.name.now) (part_view c.args.part.now) c.args.pos) (looked_up text_of c.args.program.now c.args.pos.file c.get.result c.get.ensures.lookup)
