-- One more definition, or variant, of those whose entries are added.
use Rattle.std.proofs.Common.{◌≡◌, ℕ, List, [], ◌∷◌, ◌++◌, ◌<◌, ◌+◌, length, get_or, take, map, refl, sym, ap, ◌∙◌, append_assoc}
use Rattle.std.specs.List.{flat_map}
use Rattle.std.proofs.lemmas.Grind.{flat_map-append}
use Rattle.std.proofs.lemmas.List.{append-nil, map-append, take_more}
use Rattle.isle_ast.specs.Tree.{Definition, EnumVariant}
use Rattle.isle_ast.specs.TreeView.{definition_of, definitions_of, variant_of}
use Rattle.isle_ast.specs.declared.ast.Def.{Def}
use Rattle.isle_ast.specs.declared.ast.Variant.{Variant}
use Rattle.isle_ast_names.specs.Tree.{Name}
use Rattle.isle_check_environment.specs.signatures.Entries.{Entry}
use Rattle.isle_check_environment.specs.signatures.Signatures.{TermNode, variant_entry, variants_entries}

flat-more : {Y : Type 0} (f : Definition → List Y) (xs : List Def) (i : ℕ) (x : Def) → i < length xs → x ≡ get_or xs i x →
    flat_map f (definitions_of (take (i + 1) xs)) ≡ flat_map f (definitions_of (take i xs)) ++ f (definition_of x)
flat-more f xs i x within is =
    ap (λ ds. flat_map f (definitions_of ds)) (take_more xs i x within ∙ ap (λ y. take i xs ++ y ∷ []) (sym is))
    ∙ ap (flat_map f) (map-append definition_of (take i xs) (x ∷ []))
    ∙ flat_map-append f (definitions_of (take i xs)) (definition_of x ∷ [])
    ∙ ap (λ ys. flat_map f (definitions_of (take i xs)) ++ ys) (append-nil (f (definition_of x)))

-- the entries of definitions, behind others
pub flat-step : {Y : Type 0} (f : Definition → List Y) (front : List Y) (xs : List Def) (i : ℕ) (x : Def) → i < length xs → x ≡ get_or xs i x →
    (front ++ flat_map f (definitions_of (take i xs))) ++ f (definition_of x) ≡ front ++ flat_map f (definitions_of (take (i + 1) xs))
flat-step f front xs i x within is =
    append_assoc front (flat_map f (definitions_of (take i xs))) (f (definition_of x))
    ∙ ap (λ ys. front ++ ys) (sym (flat-more f xs i x within is))

entries-append : (enum : Name) (us vs : List EnumVariant) → variants_entries enum (us ++ vs) ≡ variants_entries enum us ++ variants_entries enum vs
entries-append enum [] vs = refl
entries-append enum (u ∷ us) vs = ap (λ es. variant_entry enum u ∷ es) (entries-append enum us vs)

-- the entries of variants, behind others
pub variants-step : (enum : Name) (front : List (Entry TermNode)) (xs : List Variant) (i : ℕ) (x : Variant) → i < length xs → x ≡ get_or xs i x →
    (front ++ variants_entries enum (map variant_of (take i xs))) ++ variant_entry enum (variant_of x) ∷ []
    ≡ front ++ variants_entries enum (map variant_of (take (i + 1) xs))
variants-step enum front xs i x within is =
    append_assoc front (variants_entries enum (map variant_of (take i xs))) (variant_entry enum (variant_of x) ∷ [])
    ∙ ap (λ es. front ++ es) (sym (entries-append enum (map variant_of (take i xs)) (variant_of x ∷ [])))
    ∙ ap (λ vs. front ++ variants_entries enum vs) (sym (map-append variant_of (take i xs) (x ∷ [])))
    ∙ ap (λ vs. front ++ variants_entries enum (map variant_of vs)) (sym (take_more xs i x within ∙ ap (λ y. take i xs ++ y ∷ []) (sym is)))
