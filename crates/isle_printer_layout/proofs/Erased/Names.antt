-- Positions play no part in the shapes of names.
use Rattle.std.proofs.Common.{◌≡◌, List, [], ◌∷◌, map, refl, ap, ◌∙◌}
use Rattle.isle_ast_names.specs.Erased.{erase_name, erase_names}
use Rattle.isle_ast_names.specs.Tree.{Name}
use Rattle.isle_printer_layout.specs.NameShapes.{name_shape, name_shapes, names_shape, headed_shape}
use Rattle.isle_printer_layout.specs.Sexp.{Sexp, list_of}

-- the shapes of a list, where they are those of the erased elements
pub shapes-erased : {A : Type 0} → (shape : A → Sexp) (erased : A → A) → ((x : A) → shape (erased x) ≡ shape x) → (xs : List A) → map shape (map erased xs) ≡ map shape xs
shapes-erased shape erased same [] = refl
shapes-erased shape erased same (x ∷ xs) =
    ap (λ s. s ∷ map shape (map erased xs)) (same x) ∙ ap (λ ss. shape x ∷ ss) (shapes-erased shape erased same xs)

pub names-erased : (ns : List Name) → name_shapes (erase_names ns) ≡ name_shapes ns
names-erased = shapes-erased name_shape erase_name (λ n. refl)

pub names_list-erased : (ns : List Name) → names_shape (erase_names ns) ≡ names_shape ns
names_list-erased ns = ap (λ ss. list_of ss) (names-erased ns)

pub headed-erased : (n : Name) (ns : List Name) → headed_shape (erase_name n) (erase_names ns) ≡ headed_shape n ns
headed-erased n ns = ap (λ ss. list_of (name_shape n ∷ ss)) (names-erased ns)
