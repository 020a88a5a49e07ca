use Rattle.std.proofs.Common.{take}
use Rattle.std.specs.Fmt.{HasWrittenStyled, IsFlush}
use Rattle.std.specs.List.{flat_map}
use Rattle.isle_base_source.specs.Diagnostic.{error_text}
use Rattle.isle_base_source.proofs.error.show.write_errors.Given as goal

abbrev pub invariant-loop-error : goal.invariant-loop-error
invariant-loop-error g l =
    IsFlush l.initial.f
    → HasWrittenStyled g.W.Write.write_str_gives l.initial.f (flat_map (error_text l.files) (take l.error-index l.errors)) l.f
