use Rattle.std.proofs.Common.{take}
use Rattle.isle_check_environment.specs.Types.{is_type_in}
use Rattle.isle_check_environment.specs.Views.{decls_at}
use Rattle.isle_check_declarations.specs.Terms.{counted_decls}
use Rattle.isle_check_declarations.specs.Views.{Declares}
use Rattle.isle_check_declarations.proofs.lookup.counted_decls.Given as goal

abbrev pub invariant-loop-decl : goal.invariant-loop-decl
invariant-loop-decl l = Declares l.found (counted_decls (is_type_in l.known) (decls_at (take l.decl-index l.decls)))
