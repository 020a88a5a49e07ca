use Rattle.std.proofs.Common.{◌≡◌, drop, map}
use Rattle.isle_ast_names.specs.TreeView.{name_of}
use Rattle.isle_ast_rules.specs.Templates.{first_from}
use Rattle.isle_expand_core.specs.Macros.{place_of}
use Rattle.isle_expand_core.specs.Views.{begun_of}
use Rattle.isle_expand_core.proofs.macros.place_of.Given as goal

abbrev pub invariant-loop-place : goal.invariant-loop-place
invariant-loop-place l =
    first_from l.place (name_of l.sym).text (map (λ m. m.term) (map begun_of (drop l.place l.templates)))
    ≡ place_of (name_of l.sym).text (map begun_of l.templates)
