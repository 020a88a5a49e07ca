-- Variables are hidden one by one.
use Rattle.std.proofs.Common.{◌≡◌, ◌≤◌, ℕ, zero, suc, ◌+◌, ◌++◌, List, [], ◌∷◌, false, length, map, take, drop, slice_index_or, slice_set, refl, ap, sym, arith, ◌∙◌}
use Rattle.std.proofs.lemmas.List.{length-map}
use Rattle.isle_check_typing.specs.declared.progress.Variable.{Variable}
use Rattle.isle_check_typing.specs.Faults.{FaultNode}
use Rattle.isle_check_typing.specs.Progress.{ProgressNode, VariableNode, hidden, hide_since}
use Rattle.isle_check_typing.specs.Views.{variable_of, variables_of}

abbrev pub unseen : Variable → Variable
unseen v = record { name = v.name; ty = v.ty; is_visible = false }

abbrev pub hidden_from : ℕ → List VariableNode → List VariableNode
hidden_from n vs = take n vs ++ map hidden (drop n vs)

abbrev pub known : List FaultNode → List VariableNode → ProgressNode
known faults bound = record { bound = bound; faults = faults }

next : (vs : List Variable) (n : ℕ) (d : Variable) →
    hidden_from (suc n) (variables_of (slice_set vs n (unseen (slice_index_or vs n d)))) ≡ hidden_from n (variables_of vs)
next [] zero d = refl
next [] (suc n) d = refl
next (v ∷ vs) zero d = refl
next (v ∷ vs) (suc n) d = ap (λ rest. variable_of v ∷ rest) (next vs n d)

-- where a variable is hidden, hiding those behind it hides what hiding from it on did
pub next-hidden : (faults : List FaultNode) (vs : List Variable) (n : ℕ) (found : Variable) → found ≡ slice_index_or vs n found →
    hide_since (n + 1) (known faults (variables_of (slice_set vs n (unseen found)))) ≡ hide_since n (known faults (variables_of vs))
next-hidden faults vs n found here =
    let one : n + 1 ≡ suc n = omega arith in
    ap (λ k. hide_since k (known faults (variables_of (slice_set vs n (unseen found))))) one
    ∙ ap (known faults) (ap (λ v. hidden_from (suc n) (variables_of (slice_set vs n (unseen v)))) here ∙ next vs n found)

same-length : (n : ℕ) (vs : List VariableNode) → length (hidden_from n vs) ≡ length vs
same-length zero [] = refl
same-length zero (v ∷ vs) = length-map (v ∷ vs) hidden
same-length (suc n) [] = refl
same-length (suc n) (v ∷ vs) = ap suc (same-length n vs)

-- hiding changes no count of variables
pub hidden-length : (n m : ℕ) (s t : ProgressNode) → hide_since n s ≡ hide_since m t → length s.bound ≡ length t.bound
hidden-length n m s t e =
    sym (same-length n s.bound) ∙ (ap (λ r. length r.bound) e ∙ same-length m t.bound)

none : (vs : List VariableNode) (n : ℕ) → length vs ≤ n → hidden_from n vs ≡ vs
none [] zero le = refl
none [] (suc n) le = refl
none (v ∷ vs) zero le = absurd (omega arith)
none (v ∷ vs) (suc n) le = ap (λ rest. v ∷ rest) (none vs n (omega arith))

-- behind the last variable there is none to hide
pub hidden-none : (s : ProgressNode) (n : ℕ) → length s.bound ≤ n → hide_since n s ≡ s
hidden-none s n le = ap (known s.faults) (none s.bound n le)
