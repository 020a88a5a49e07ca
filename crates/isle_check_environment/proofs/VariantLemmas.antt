-- The names of variants, one step on.
use Rattle.std.proofs.Common.{◌≡◌, ℕ, List, [], ◌∷◌, ◌++◌, ◌<◌, ◌+◌, length, get_or, drop, map, sym, ap, ◌∙◌, append_assoc}
use Rattle.std.proofs.lemmas.List.{at_drop_more}
use Rattle.isle_ast_names.specs.Tree.{Name}
use Rattle.isle_ast_names.specs.TreeView.{name_of}
use Rattle.isle_ast.specs.Roots.{full_name}
use Rattle.isle_ast.specs.TreeView.{variant_of}
use Rattle.isle_ast.specs.declared.ast.Variant.{Variant}
use Rattle.isle_check_environment.specs.Terms.{full_names}

pub full_names-step : (enum : Name) (now : List Name) (xs : List Variant) (i : ℕ) (x : Variant) (name : Name) →
    i < length xs → x ≡ get_or xs i x → name ≡ full_name enum (name_of x.name) →
    (now ++ name ∷ []) ++ full_names enum (map variant_of (drop (i + 1) xs)) ≡ now ++ full_names enum (map variant_of (drop i xs))
full_names-step enum now xs i x name within is named =
    let rest : List Name = full_names enum (map variant_of (drop (i + 1) xs)) in
    append_assoc now (name ∷ []) rest
    ∙ ap (λ n. now ++ (n ∷ rest)) named
    ∙ ap (λ v. now ++ (full_name enum (name_of v.name) ∷ rest)) is
    ∙ sym (at_drop_more (λ vs. now ++ full_names enum (map variant_of vs)) xs i x within)
