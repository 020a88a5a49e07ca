use Rattle.std.proofs.Common.{◌≡◌, ◌++◌, map, take}
use Rattle.isle_check_rules.specs.Views.{texts_at, warnings_of}
use Rattle.isle_check_rules.specs.Warnings.{multi_warning}
use Rattle.isle_check_rules.proofs.extractors.add_multi_warnings.Given as goal

abbrev pub invariant-loop-term : goal.invariant-loop-term
invariant-loop-term l =
    warnings_of l.found.items ≡ warnings_of l.fn.found.items ++ map (multi_warning l.pos) (texts_at (take l.term-index l.terms))
