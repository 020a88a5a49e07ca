use Rattle.std.proofs.Common.{◌≡◌, drop, map}
use Rattle.isle_expand_warnings.specs.First.{first}
use Rattle.isle_expand_core.specs.Search.{use_misuse}
use Rattle.isle_expand_core.specs.Views.{begun_of, uses_of}
use Rattle.isle_expand_core.proofs.search.first_use_misuse.Given as goal

abbrev pub invariant-loop-term_use : goal.invariant-loop-term_use
invariant-loop-term_use l =
    first (use_misuse (map begun_of l.templates) l.ends) (uses_of (drop l.term_use-index l.uses))
    ≡ first (use_misuse (map begun_of l.templates) l.ends) (uses_of l.uses)
