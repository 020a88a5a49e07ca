-- Copies of lists, whose elements are copied one by one.
use Rattle.std.proofs.Common.{◌≡◌, List, [], ◌∷◌, map, Option, None, Some, string_bytes, refl, ap}
use Rattle.std.specs.Bool.{⊤}
use Rattle.std.specs.List.{AllZip}
use Rattle.isle_ast_names.specs.declared.Ident.{Ident}
use Rattle.isle_ast_names.specs.TreeView.{name_of, names_of, optional_name_of}

-- a list of copies, by what each element means
pub copied_list : {A B : Type 0} (meaning : A → B) (xs copies : List A) → AllZip (λ x copy. meaning copy ≡ meaning x) xs copies →
    map meaning copies ≡ map meaning xs
copied_list meaning [] [] h = refl
copied_list meaning [] (c ∷ cs) h = absurd h
copied_list meaning (x ∷ xs) [] h = absurd h
copied_list meaning (x ∷ xs) (c ∷ cs) h = λ i. h.0 i ∷ copied_list meaning xs cs h.1 i

-- the text and the position are the same
abbrev pub IsCopy : Ident → Ident → Type 0
IsCopy i copy = (string_bytes copy.0 ≡ string_bytes i.0) × (copy.1 ≡ i.1)

pub copied_name : (i copy : Ident) → IsCopy i copy → name_of copy ≡ name_of i
copied_name i copy h = λ k. record { text = h.0 k; pos = h.1 k }

pub copied_names : (is copies : List Ident) → AllZip IsCopy is copies → names_of copies ≡ names_of is
copied_names [] [] h = refl
copied_names [] (c ∷ cs) h = absurd h
copied_names (i ∷ is) [] h = absurd h
copied_names (i ∷ is) (c ∷ cs) h = λ k. copied_name i c h.0 k ∷ copied_names is cs h.1 k

abbrev pub IsOptionalCopy : Option Ident → Option Ident → Type 0
IsOptionalCopy None None = ⊤
IsOptionalCopy (Some i) (Some copy) = IsCopy i copy
IsOptionalCopy _ _ = ⊥

pub copied_option : (form copy : Option Ident) → IsOptionalCopy form copy → optional_name_of copy ≡ optional_name_of form
copied_option None None h = refl
copied_option None (Some c) h = absurd h
copied_option (Some i) None h = absurd h
copied_option (Some i) (Some c) h = ap Some (copied_name i c h)
