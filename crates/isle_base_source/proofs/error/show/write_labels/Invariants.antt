use Rattle.std.proofs.Common.{take}
use Rattle.std.specs.Fmt.{HasWrittenStyled, IsFlush}
use Rattle.std.specs.List.{flat_map}
use Rattle.isle_base_source.specs.Diagnostic.{label_text}
use Rattle.isle_base_source.proofs.error.show.write_labels.Given as goal

abbrev pub invariant-loop-span : goal.invariant-loop-span
invariant-loop-span g l =
    IsFlush l.initial.f
    → HasWrittenStyled g.W.Write.write_str_gives l.initial.f (flat_map (label_text l.files) (take l.span-index l.spans)) l.f
