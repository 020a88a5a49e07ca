-- The terms and the errors of declarations and of variants, one step on.
use Rattle.std.proofs.Common.{◌≡◌, ℕ, List, [], ◌∷◌, ◌++◌, Bool, true, false, cond, ◌<◌, ◌+◌, length, get_or, drop, map, sym, ap, ◌∙◌, append_assoc}
use Rattle.std.specs.Borrow.{Bor}
use Rattle.std.proofs.lemmas.List.{at_drop_more, append-nil}
use Rattle.isle_ast_names.specs.Tree.{Name}
use Rattle.isle_ast_names.specs.TreeView.{name_of}
use Rattle.isle_ast.specs.Roots.{full_name}
use Rattle.isle_ast.specs.Tree.{TypeDefinition, Declaration, EnumVariant}
use Rattle.isle_ast.specs.TreeView.{declaration_of, type_definition_of, variant_of}
use Rattle.isle_ast.specs.declared.ast.Decl.{Decl}
use Rattle.isle_ast.specs.declared.ast.TypeDef.{TypeDef}
use Rattle.isle_ast.specs.declared.ast.Variant.{Variant}
use Rattle.isle_check_environment.specs.Names.{has}
use Rattle.isle_check_environment.specs.Views.{decls_at, types_at}
use Rattle.isle_check_declarations.specs.Faults.{FaultNode, fault, variant_taken}
use Rattle.isle_check_declarations.specs.TermFaults.{counted, declared, free_variants, taken_variant, taken_variants, variants_of, with_variants, wrong_decl, wrong_decls}

decls-next : {Y : Type 0} (f : List Declaration → Y) (xs : List (Bor Decl)) (i : ℕ) (x : Bor Decl) → i < length xs → x ≡ get_or xs i x →
    f (decls_at (drop i xs)) ≡ f (declaration_of x.now ∷ decls_at (drop (i + 1) xs))
decls-next f xs i x within is =
    at_drop_more (λ ds. f (decls_at ds)) xs i x within ∙ ap (λ y. f (declaration_of y.now ∷ decls_at (drop (i + 1) xs))) (sym is)

types-next : {Y : Type 0} (f : List TypeDefinition → Y) (xs : List (Bor TypeDef)) (i : ℕ) (x : Bor TypeDef) → i < length xs → x ≡ get_or xs i x →
    f (types_at (drop i xs)) ≡ f (type_definition_of x.now ∷ types_at (drop (i + 1) xs))
types-next f xs i x within is =
    at_drop_more (λ ts. f (types_at ts)) xs i x within ∙ ap (λ y. f (type_definition_of y.now ∷ types_at (drop (i + 1) xs))) (sym is)

variants-next : {Y : Type 0} (f : List EnumVariant → Y) (xs : List Variant) (i : ℕ) (x : Variant) → i < length xs → x ≡ get_or xs i x →
    f (map variant_of (drop i xs)) ≡ f (variant_of x ∷ map variant_of (drop (i + 1) xs))
variants-next f xs i x within is =
    at_drop_more (λ vs. f (map variant_of vs)) xs i x within ∙ ap (λ y. f (variant_of y ∷ map variant_of (drop (i + 1) xs))) (sym is)

-- a list that nothing follows
pub nothing-more : {X Y : Type 0} (front : List Y) (f : List X → List Y) (rest : List X) → rest ≡ [] → f [] ≡ [] → front ++ f rest ≡ front
nothing-more front f rest none empty = ap (λ xs. front ++ f xs) none ∙ ap (λ ys. front ++ ys) empty ∙ append-nil front

pub declared-step : (known : List ℕ → Bool) (now : List Name) (xs : List (Bor Decl)) (i : ℕ) (x : Bor Decl) → i < length xs → x ≡ get_or xs i x →
    (now ++ counted known (declaration_of x.now)) ++ declared known (decls_at (drop (i + 1) xs)) ≡ now ++ declared known (decls_at (drop i xs))
declared-step known now xs i x within is =
    append_assoc now (counted known (declaration_of x.now)) (declared known (decls_at (drop (i + 1) xs)))
    ∙ sym (decls-next (λ ds. now ++ declared known ds) xs i x within is)

pub wrong_decls-step : (known : List ℕ → Bool) (now : List Name) (before after : List FaultNode) (xs : List (Bor Decl)) (i : ℕ) (x : Bor Decl) →
    i < length xs → x ≡ get_or xs i x → after ≡ before ++ wrong_decl known now (declaration_of x.now) →
    after ++ wrong_decls known (now ++ counted known (declaration_of x.now)) (decls_at (drop (i + 1) xs)) ≡ before ++ wrong_decls known now (decls_at (drop i xs))
wrong_decls-step known now before after xs i x within is adds =
    let rest : List FaultNode = wrong_decls known (now ++ counted known (declaration_of x.now)) (decls_at (drop (i + 1) xs)) in
    ap (λ fs. fs ++ rest) adds
    ∙ append_assoc before (wrong_decl known now (declaration_of x.now)) rest
    ∙ sym (decls-next (λ ds. before ++ wrong_decls known now ds) xs i x within is)

pub taken_variants-step : (now : List Name) (before after : List FaultNode) (xs : List (Bor TypeDef)) (i : ℕ) (x : Bor TypeDef) (vs : List EnumVariant) →
    i < length xs → x ≡ get_or xs i x → vs ≡ variants_of (type_definition_of x.now).ty →
    after ≡ before ++ taken_variant (type_definition_of x.now) now vs →
    after ++ taken_variants (now ++ free_variants (type_definition_of x.now).name now vs) (types_at (drop (i + 1) xs)) ≡ before ++ taken_variants now (types_at (drop i xs))
taken_variants-step now before after xs i x vs within is its adds =
    let t : TypeDefinition = type_definition_of x.now in
    let rest : List TypeDefinition = types_at (drop (i + 1) xs) in
    ap (λ fs. fs ++ taken_variants (now ++ free_variants t.name now vs) rest) adds
    ∙ append_assoc before (taken_variant t now vs) (taken_variants (now ++ free_variants t.name now vs) rest)
    ∙ ap (λ us. before ++ (taken_variant t now us ++ taken_variants (now ++ free_variants t.name now us) rest)) its
    ∙ sym (types-next (λ ts. before ++ taken_variants now ts) xs i x within is)

pub with_variants-step : (now : List Name) (xs : List (Bor TypeDef)) (i : ℕ) (x : Bor TypeDef) (vs : List EnumVariant) →
    i < length xs → x ≡ get_or xs i x → vs ≡ variants_of (type_definition_of x.now).ty →
    with_variants (now ++ free_variants (type_definition_of x.now).name now vs) (types_at (drop (i + 1) xs)) ≡ with_variants now (types_at (drop i xs))
with_variants-step now xs i x vs within is its =
    ap (λ us. with_variants (now ++ free_variants (type_definition_of x.now).name now us) (types_at (drop (i + 1) xs))) its
    ∙ sym (types-next (λ ts. with_variants now ts) xs i x within is)

-- a variant whose name is free
pub free-step : (enum : Name) (now : List Name) (xs : List Variant) (i : ℕ) (x : Variant) (name : Name) →
    i < length xs → x ≡ get_or xs i x → name ≡ full_name enum (name_of x.name) → false ≡ has now name.text →
    (now ++ name ∷ []) ++ free_variants enum (now ++ name ∷ []) (map variant_of (drop (i + 1) xs)) ≡ now ++ free_variants enum now (map variant_of (drop i xs))
free-step enum now xs i x name within is named free =
    let rest : List EnumVariant = map variant_of (drop (i + 1) xs) in
    append_assoc now (name ∷ []) (free_variants enum (now ++ name ∷ []) rest)
    ∙ ap (λ b. now ++ cond b [] (name ∷ free_variants enum (now ++ name ∷ []) rest)) free
    ∙ ap (λ n. now ++ cond (has now n.text) [] (n ∷ free_variants enum (now ++ n ∷ []) rest)) named
    ∙ sym (variants-next (λ vs. now ++ free_variants enum now vs) xs i x within is)

pub free-taken : (t : TypeDefinition) (now : List Name) (xs : List Variant) (i : ℕ) (x : Variant) (name : Name) →
    i < length xs → x ≡ get_or xs i x → name ≡ full_name t.name (name_of x.name) → false ≡ has now name.text →
    taken_variant t (now ++ name ∷ []) (map variant_of (drop (i + 1) xs)) ≡ taken_variant t now (map variant_of (drop i xs))
free-taken t now xs i x name within is named free =
    let rest : List EnumVariant = map variant_of (drop (i + 1) xs) in
    let taken : List FaultNode = fault (variant_taken t.name (name_of x.name)) t.pos ∷ [] in
    ap (λ b. cond b taken (taken_variant t (now ++ name ∷ []) rest)) free
    ∙ ap (λ n. cond (has now n.text) taken (taken_variant t (now ++ n ∷ []) rest)) named
    ∙ sym (variants-next (λ vs. taken_variant t now vs) xs i x within is)

-- a variant whose name is taken ends those of its type
pub taken-ends : (enum : Name) (now : List Name) (xs : List Variant) (i : ℕ) (x : Variant) (name : Name) →
    i < length xs → x ≡ get_or xs i x → name ≡ full_name enum (name_of x.name) → true ≡ has now name.text →
    now ≡ now ++ free_variants enum now (map variant_of (drop i xs))
taken-ends enum now xs i x name within is named taken =
    let rest : List EnumVariant = map variant_of (drop (i + 1) xs) in
    sym (append-nil now)
    ∙ ap (λ b. now ++ cond b [] (name ∷ free_variants enum (now ++ name ∷ []) rest)) taken
    ∙ ap (λ n. now ++ cond (has now n.text) [] (n ∷ free_variants enum (now ++ n ∷ []) rest)) named
    ∙ sym (variants-next (λ vs. now ++ free_variants enum now vs) xs i x within is)

pub taken-fault : (t : TypeDefinition) (now : List Name) (xs : List Variant) (i : ℕ) (x : Variant) (name : Name) →
    i < length xs → x ≡ get_or xs i x → name ≡ full_name t.name (name_of x.name) → true ≡ has now name.text →
    fault (variant_taken t.name (name_of x.name)) t.pos ∷ [] ≡ taken_variant t now (map variant_of (drop i xs))
taken-fault t now xs i x name within is named taken =
    let rest : List EnumVariant = map variant_of (drop (i + 1) xs) in
    let told : List FaultNode = fault (variant_taken t.name (name_of x.name)) t.pos ∷ [] in
    ap (λ b. cond b told (taken_variant t (now ++ name ∷ []) rest)) taken
    ∙ ap (λ n. cond (has now n.text) told (taken_variant t (now ++ n ∷ []) rest)) named
    ∙ sym (variants-next (λ vs. taken_variant t now vs) xs i x within is)
