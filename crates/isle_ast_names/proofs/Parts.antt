-- A relation of the grammar that keeps the laws is by parts.
use Rattle.std.proofs.Common.{List, sym, subst}
use Rattle.isle_base.specs.Place.{Placed}
use Rattle.isle_ast_names.specs.Parts.{IsByParts}
use Rattle.isle_ast_names.proofs.Lawful.{Lawful}

pub by_parts : {A : Type 0} (Spells : A → List Placed → List Placed → Type 0) (erase : A → A) (x : A) → Lawful Spells erase x → IsByParts (Spells x)
by_parts Spells erase x lawful all rest = (lawful.cuts all rest, λ h. subst (λ xs. Spells x xs rest) (sym h.1) (h.2 rest))
