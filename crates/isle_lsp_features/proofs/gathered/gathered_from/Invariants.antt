use Rattle.std.proofs.Common.{map}
use Rattle.isle_lsp_features.specs.Programs.{bytes_of, text_of}
use Rattle.isle_lsp_features.specs.Gathered.{kept_of}
use Rattle.isle_lsp_features.proofs.Renewing.{Reached}
use Rattle.isle_lsp_features.proofs.gathered.gathered_from.Given as goal

abbrev pub invariant-loop-file : goal.invariant-loop-file
invariant-loop-file l = Reached (map bytes_of (map text_of l.program)) (map kept_of l.texts.items) l.index l.file
