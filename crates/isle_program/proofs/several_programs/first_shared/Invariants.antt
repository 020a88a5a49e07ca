use Rattle.std.proofs.Common.{◌≡◌, [], List, drop, map}
use Rattle.isle_ast_names.specs.Tree.{Name}
use Rattle.isle_cli.specs.Sources.{source_of}
use Rattle.isle_program.specs.SeveralPrograms.{first_shared}
use Rattle.isle_program.specs.SharedView.{Knows, terms_at}
use Rattle.isle_program.proofs.several_programs.first_shared.Given as goal

-- what is shared by the declarations to come is what is shared by all
abbrev pub invariant-loop-decl : goal.invariant-loop-decl
invariant-loop-decl l =
    (known : List Name) × Knows l.places known
    × (first_shared (map source_of l.sources) known (terms_at (drop l.decl-index l.decls)) ≡ first_shared (map source_of l.sources) [] (terms_at l.decls))
