use Rattle.std.proofs.Common.{length, arith}
use Rattle.isle_lsp_frames.proofs.Strings.{strings_stay}
use Rattle.isle_lsp_frames.proofs.mending.keeps_strings.Goals as goal

pub returns : goal.returns
returns c = λ bytes text. strings_stay (length bytes) bytes (omega arith) text
