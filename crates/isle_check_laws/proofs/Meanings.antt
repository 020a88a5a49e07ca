-- What a text means as the name of a term, in a program whose terms are right.
use Rattle.std.proofs.Common.{◌≡◌, ◌⊎◌, inl, inr, ℕ, List, [], ◌∷◌, ◌++◌, Bool, true, false, Option, None, Some, Contains, refl, ap, sym, ◌∙◌, subst, bytes_eq, if◌then◌else◌}
use Rattle.std.proofs.lemmas.List.Elements.{Contains-append_cases, Contains-append_left, Contains-append_right}
use Rattle.std.proofs.lemmas.Option.{none-some}
use Rattle.isle_ast_names.specs.Tree.{Name}
use Rattle.isle_ast.specs.Roots.{full_name}
use Rattle.isle_ast.specs.Tree.{Declaration, Definition, EnumVariant, TypeDefinition}
use Rattle.isle_check_declarations.specs.Faults as kinds
use Rattle.isle_check_declarations.specs.Faults.{FaultNode, fault, optional}
use Rattle.isle_check_declarations.specs.TermFaults.{counted, declared, doubled_decl, free_variants, signature_fault, taken_variant, taken_variants, term_faults, term_names, variants_of, with_variants, wrong_decl, wrong_decls, wrong_flags}
use Rattle.isle_check_declarations.specs.Terms.{TermNode, counted_by, counted_decls, decl_of, declared_term, is_unknown, term_by, terms, unknown_term, variant_term}
use Rattle.isle_check_environment.specs.Names.{has, or_else, place_of}
use Rattle.isle_check_environment.specs.Parts.{decls_in, type_names, types_in}
use Rattle.isle_check_environment.specs.Types.{is_type}
use Rattle.isle_check_laws.specs.Named.{HasDeclaration, HasVariant, HasVariantOf, IsDeclared, IsNameOf, IsOnlyVariant, IsUnknownTerm}
use Rattle.isle_check_laws.proofs.Lists.{both_empty, either, first_or_later, here, later, no_element}
use Rattle.isle_check_laws.proofs.Names.{has_name, has_no_name, other_text, same_text}
use Rattle.isle_check_laws.proofs.TermErrors.{declared_is, free_is}

-- the declaration of a text

abbrev IsDeclarationOf : List Declaration → List ℕ → Declaration → Type 0
IsDeclarationOf ds text d = Contains ds d × (d.term.text ≡ text)

same_decl : (d e : Declaration) → ◌≡◌ {A = Option Declaration} (Some d) (Some e) → d ≡ e
same_decl d e h = cc

found_first : (d : Declaration) (ds : List Declaration) (text : List ℕ) (e : Declaration) (b : Bool) → bytes_eq d.term.text text ≡ b →
    (if b then Some d else None) ≡ Some e → IsDeclarationOf (d ∷ ds) text e
found_first d ds text e true is h = subst (λ x. IsDeclarationOf (d ∷ ds) text x) (same_decl d e h) (here d ds, same_text d.term.text text is)
found_first d ds text e false is h = cc

found_by : (d : Declaration) (ds : List Declaration) (text : List ℕ) (e : Declaration) (o : Option Declaration) → decl_of ds text ≡ o →
    (decl_of ds text ≡ Some e → IsDeclarationOf ds text e) → or_else o (if bytes_eq d.term.text text then Some d else None) ≡ Some e →
    IsDeclarationOf (d ∷ ds) text e
found_by d ds text e None is more h = found_first d ds text e (bytes_eq d.term.text text) refl h
found_by d ds text e (Some x) is more h = let at = more (is ∙ h) in (later d ds e at.0, at.1)

found : (ds : List Declaration) (text : List ℕ) (e : Declaration) → decl_of ds text ≡ Some e → IsDeclarationOf ds text e
found [] text e h = cc
found (d ∷ ds) text e h = found_by d ds text e (decl_of ds text) refl (found ds text e) h

not_first : (d : Declaration) (ds : List Declaration) (text : List ℕ) (b : Bool) → bytes_eq d.term.text text ≡ b → (HasDeclaration ds text → ⊥) →
    ◌≡◌ {A = Option Declaration} (if b then Some d else None) None → HasDeclaration (d ∷ ds) text → ⊥
not_first d ds text true is more h one = absurd (none-some d (sym h))
not_first d ds text false is more h one =
    either (λ same. other_text d.term.text text is (ap (λ (x : Declaration). x.term.text) same ∙ one.2)) (λ among. more (one.0, among, one.2))
    (first_or_later d ds one.0 one.1)

not_found_by : (d : Declaration) (ds : List Declaration) (text : List ℕ) (o : Option Declaration) → decl_of ds text ≡ o →
    (decl_of ds text ≡ None → HasDeclaration ds text → ⊥) → or_else o (if bytes_eq d.term.text text then Some d else None) ≡ None →
    HasDeclaration (d ∷ ds) text → ⊥
not_found_by d ds text None is more h has = not_first d ds text (bytes_eq d.term.text text) refl (more is) h has
not_found_by d ds text (Some x) is more h has = absurd (none-some x (sym h))

not_found : (ds : List Declaration) (text : List ℕ) → decl_of ds text ≡ None → HasDeclaration ds text → ⊥
not_found [] text h has = no_element has.0 has.1
not_found (d ∷ ds) text h has = not_found_by d ds text (decl_of ds text) refl (not_found ds text) h has

-- each declaration counts where there is no error

counts : (o : Option FaultNode) (d : Declaration) → optional o ≡ [] → counted_by o d ≡ d ∷ []
counts None d h = refl
counts (Some f) d h = cc

all_count : (known : List ℕ → Bool) (earlier : List Name) (ds : List Declaration) → wrong_decls known earlier ds ≡ [] → counted_decls known ds ≡ ds
all_count known earlier [] h = refl
all_count known earlier (d ∷ ds) h =
    let rest = both_empty (wrong_decl known earlier d) (wrong_decls known (earlier ++ counted known d) ds) h in
    let own = both_empty (doubled_decl (place_of earlier d.term.text) d) (wrong_flags d ++ optional (signature_fault known d)) rest.0 in
    let last = both_empty (wrong_flags d) (optional (signature_fault known d)) own.1 in
    ap (λ xs. xs ++ counted_decls known ds) (counts (signature_fault known d) d last.1)
    ∙ ap (λ xs. d ∷ xs) (all_count known (earlier ++ counted known d) ds rest.1)

-- the names of variants where there is no error

free_by : (t : TypeDefinition) (terms : List Name) (v : EnumVariant) (vs : List EnumVariant) (text : List ℕ) (b : Bool) →
    (taken_variant t (terms ++ full_name t.name v.name ∷ []) vs ≡ [] → HasVariant t.name vs text →
    IsNameOf (free_variants t.name (terms ++ full_name t.name v.name ∷ []) vs) text) →
    (if b then fault (kinds.variant_taken t.name v.name) t.pos ∷ [] else taken_variant t (terms ++ full_name t.name v.name ∷ []) vs) ≡ [] →
    HasVariant t.name (v ∷ vs) text →
    IsNameOf (if b then [] else full_name t.name v.name ∷ free_variants t.name (terms ++ full_name t.name v.name ∷ []) vs) text
free_by t terms v vs text true more h has = cc
free_by t terms v vs text false more h has =
    let free : List Name = free_variants t.name (terms ++ full_name t.name v.name ∷ []) vs in
    either (λ same. (full_name t.name v.name, here (full_name t.name v.name) free, ap (λ (x : EnumVariant). (full_name t.name x.name).text) same ∙ has.2))
    (λ among. let n = more h (has.0, among, has.2) in (n.0, later (full_name t.name v.name) free n.0 n.1, n.2))
    (first_or_later v vs has.0 has.1)

is_free : (t : TypeDefinition) (terms : List Name) (vs : List EnumVariant) (text : List ℕ) → taken_variant t terms vs ≡ [] → HasVariant t.name vs text →
    IsNameOf (free_variants t.name terms vs) text
is_free t terms [] text h variant = absurd (no_element variant.0 variant.1)
is_free t terms (v ∷ vs) text h variant =
    free_by t terms v vs text (has terms (full_name t.name v.name).text) (is_free t (terms ++ full_name t.name v.name ∷ []) vs text) h variant

stays : (terms : List Name) (ts : List TypeDefinition) (n : Name) → Contains terms n → Contains (with_variants terms ts) n
stays terms [] n among = among
stays terms (t ∷ ts) n among =
    let free : List Name = free_variants t.name terms (variants_of t.ty) in stays (terms ++ free) ts n (Contains-append_left terms free n among)

is_named : (terms : List Name) (ts : List TypeDefinition) (text : List ℕ) → taken_variants terms ts ≡ [] → HasVariantOf ts text →
    IsNameOf (with_variants terms ts) text
is_named terms [] text h variant = absurd (no_element variant.0 variant.1)
is_named terms (t ∷ ts) text h variant =
    let free : List Name = free_variants t.name terms (variants_of t.ty) in
    let rest = both_empty (taken_variant t terms (variants_of t.ty)) (taken_variants (terms ++ free) ts) h in
    either
    (λ same.
    let n = is_free t terms (variants_of t.ty) text rest.0 (subst (λ (x : TypeDefinition). HasVariant x.name (variants_of x.ty) text) (sym same) variant.2) in
    (n.0, stays (terms ++ free) ts n.0 (Contains-append_right terms free n.0 n.1), n.2))
    (λ among. is_named (terms ++ free) ts text rest.1 (variant.0, among, variant.2))
    (first_or_later t ts variant.0 variant.1)

-- a name is one of the declared terms or that of a variant
named_is : (terms : List Name) (ts : List TypeDefinition) (n : Name) → Contains (with_variants terms ts) n → Contains terms n ⊎ HasVariantOf ts n.text
named_is terms [] n among = inl among
named_is terms (t ∷ ts) n among =
    let free : List Name = free_variants t.name terms (variants_of t.ty) in
    either
    (λ old. either inl (λ new. inr (t, here t ts, free_is t.name terms (variants_of t.ty) n new)) (Contains-append_cases terms free n old))
    (λ variant. inr (variant.0, later t ts variant.0 variant.1, variant.2))
    (named_is (terms ++ free) ts n among)

-- terms

-- a text is what the term says
abbrev pub Means : List Definition → List ℕ → TermNode → Type 0
Means ds text unknown_term = IsUnknownTerm ds text
Means ds text variant_term = IsOnlyVariant ds text
Means ds text (declared_term d) = Contains (decls_in ds) d × (d.term.text ≡ text)

module _ (ds : List Definition) (right : term_faults ds ≡ []) (text : List ℕ) where
  abbrev known : List ℕ → Bool
  known = is_type (type_names (types_in ds))

  abbrev parts : (wrong_decls known [] (decls_in ds) ≡ []) × (taken_variants (declared known (decls_in ds)) (types_in ds) ≡ [])
  parts = both_empty (wrong_decls known [] (decls_in ds)) (taken_variants (declared known (decls_in ds)) (types_in ds)) right

  not_declared : decl_of (counted_decls known (decls_in ds)) text ≡ None → IsDeclared ds text → ⊥
  not_declared h has = not_found (decls_in ds) text (subst (λ xs. decl_of xs text ≡ None) (all_count known [] (decls_in ds) parts.0) h) has

  variant_or_declared : IsNameOf (term_names known (decls_in ds) (types_in ds)) text → IsDeclared ds text ⊎ HasVariantOf (types_in ds) text
  variant_or_declared named =
      subst (λ w. IsDeclared ds w ⊎ HasVariantOf (types_in ds) w) named.2
      (either (λ old. inl (declared_is ds named.0 old)) inr (named_is (declared known (decls_in ds)) (types_in ds) named.0 named.1))

  by_parts : (o : Option Declaration) → decl_of (counted_decls known (decls_in ds)) text ≡ o →
      (b : Bool) → has (term_names known (decls_in ds) (types_in ds)) text ≡ b → Means ds text (term_by o b)
  by_parts (Some d) is b named = found (decls_in ds) text d (subst (λ xs. decl_of xs text ≡ Some d) (all_count known [] (decls_in ds) parts.0) is)
  by_parts None is true named = (
    either (λ declared. absurd (not_declared is declared)) (λ variant. variant)
        (variant_or_declared (has_name (term_names known (decls_in ds) (types_in ds)) text named)),
    not_declared is,
  )
  by_parts None is false named =
      either (not_declared is)
      (λ variant. has_no_name (term_names known (decls_in ds) (types_in ds)) text named
      (is_named (declared known (decls_in ds)) (types_in ds) text parts.1 variant))

-- each text means what its term says
pub meaning : (ds : List Definition) → term_faults ds ≡ [] → (text : List ℕ) → Means ds text (terms ds text)
meaning ds right text =
    let known : (List ℕ → Bool) = is_type (type_names (types_in ds)) in
    by_parts ds right text (decl_of (counted_decls known (decls_in ds)) text) refl (has (term_names known (decls_in ds) (types_in ds)) text) refl

pub means_unknown : (ds : List Definition) (text : List ℕ) (node : TermNode) → Means ds text node → is_unknown node ≡ true → IsUnknownTerm ds text
means_unknown ds text unknown_term h is = h
means_unknown ds text variant_term h is = cc
means_unknown ds text (declared_term d) h is = cc
