use Rattle.std.proofs.Common.{◌≡◌, ◌++◌, drop, map}
use Rattle.isle_expand_core.specs.Views.{begun_of, macros_of}
use Rattle.isle_expand_core.proofs.macros.unexpanded_macros.Given as goal

abbrev pub invariant-loop-template : goal.invariant-loop-template
invariant-loop-template l = macros_of l.macros.items ++ map begun_of (drop l.template-index l.templates) ≡ map begun_of l.templates
