-- Terms that two texts declare, as pure values; and a map from texts to positions, viewed as the terms that were added to it.
use Rattle.std.specs.Prelude.{◌≡◌, ℕ, List, map}
use Rattle.std.specs.Borrow.{Bor}
use Rattle.std.specs.HashMap.{HashMap, get_by}
use Rattle.std.specs.Str.{bytes_eq}
use Rattle.isle_ast.specs.TreeView.{declaration_of}
use Rattle.isle_ast.specs.declared.ast.Decl.{Decl}
use Rattle.isle_ast_names.specs.Tree.{Name}
use Rattle.isle_base_source.specs.declared.pos.Pos.{Pos}
use Rattle.isle_program.specs.SeveralPrograms as pure
use Rattle.isle_program.specs.SeveralPrograms.{declared, place_of}
use Rattle.isle_program.specs.declared.several_programs.SharedTerm.{SharedTerm}

abbrev pub terms_at : List (Bor Decl) → List Name
terms_at decls = map (λ d. declared (declaration_of d.now)) decls

abbrev pub shared_of : SharedTerm → pure.SharedTerm
shared_of s = record { term = record { text = s.name.now; pos = s.pos }; other = s.other }

-- the map has the positions of these terms and no others
abbrev pub Knows : {S : Type 0} → HashMap (Bor (List ℕ)) Pos S → List Name → Type 0
Knows places terms = (text : List ℕ) → get_by (λ key. bytes_eq text key.now) places ≡ place_of terms text
