use Rattle.std.proofs.Common.{◌≡◌, drop, map}
use Rattle.isle_lsp_files.specs.Texts.{text_at}
use Rattle.isle_lsp_features.specs.Programs.{text_of}
use Rattle.isle_lsp_files.proofs.texts.text_at.Given as goal

abbrev pub invariant-loop-text : goal.invariant-loop-text
invariant-loop-text l = text_at l.file (map text_of (drop l.text-index l.texts)) ≡ text_at l.file (map text_of l.texts)
