-- Each error of declared terms and of variants as terms is broken.
use Rattle.std.proofs.Common.{◌≡◌, ◌⊎◌, inl, inr, ℕ, List, [], ◌∷◌, ◌++◌, Bool, true, false, ◌&&◌, Option, None, Some, Contains, refl, ap, ◌∙◌, subst, if◌then◌else◌}
use Rattle.std.specs.List.{All}
use Rattle.std.proofs.lemmas.List.Elements.{All-append, All-nil, Contains-append_cases, Contains-append_left, Contains-push}
use Rattle.isle_base_source.specs.declared.pos.Pos.{Pos}
use Rattle.isle_ast_names.specs.Tree.{Name}
use Rattle.isle_ast.specs.Roots.{full_name}
use Rattle.isle_ast.specs.Tree.{Declaration, Definition, EnumVariant, TypeDefinition}
use Rattle.isle_check_declarations.specs.Faults as kinds
use Rattle.isle_check_declarations.specs.Faults.{FaultNode, fault, optional}
use Rattle.isle_check_declarations.specs.TermFaults.{arguments_fault, counted, counted_at, declared, doubled_decl, free_variants, result_fault, signature_fault, taken_variant, taken_variants, term_faults, variants_of, wrong_decl, wrong_decls, wrong_flags}
use Rattle.isle_check_environment.specs.Names.{has, place_of}
use Rattle.isle_check_environment.specs.Parts.{decls_in, type_names, types_in}
use Rattle.isle_check_environment.specs.Types.{is_type}
use Rattle.isle_check_laws.specs.BrokenTerms as broken
use Rattle.isle_check_laws.specs.BrokenTerms.{IsBrokenTerm}
use Rattle.isle_check_laws.specs.Named.{HasVariant, HasVariantOf, IsDeclared, StandsBehind}
use Rattle.isle_check_laws.proofs.Lists.{both_true, choice, either, first_or_later, here, in_part, later, no_element, one, only, optional_choice, optional_first, stands_in, step, two}
use Rattle.isle_check_laws.proofs.Names.{found, has_name, unknown_type}

-- the name of a declaration that counts
pub counted_is : (o : Option FaultNode) (d : Declaration) (n : Name) → Contains (counted_at o d) n → (d.term.text ≡ n.text) × (d.pos ≡ n.pos)
counted_is None d n among =
    let same = only (record { text = d.term.text; pos = d.pos }) n among in
    (ap (λ (m : Name). m.text) same, ap (λ (m : Name). m.pos) same)
counted_is (Some f) d n among = absurd (no_element n among)

free_by : (enum : Name) (terms : List Name) (v : EnumVariant) (vs : List EnumVariant) (n : Name) (b : Bool) →
    (Contains (free_variants enum (terms ++ full_name enum v.name ∷ []) vs) n → HasVariant enum vs n.text) →
    Contains (if b then [] else full_name enum v.name ∷ free_variants enum (terms ++ full_name enum v.name ∷ []) vs) n → HasVariant enum (v ∷ vs) n.text
free_by enum terms v vs n true more among = absurd (no_element n among)
free_by enum terms v vs n false more among =
    either (λ same. (v, here v vs, ap (λ (m : Name). m.text) same)) (λ behind. let at = more behind in (at.0, later v vs at.0 at.1, at.2))
    (first_or_later (full_name enum v.name) (free_variants enum (terms ++ full_name enum v.name ∷ []) vs) n among)

-- the name of a variant that is free
pub free_is : (enum : Name) (terms : List Name) (vs : List EnumVariant) (n : Name) → Contains (free_variants enum terms vs) n → HasVariant enum vs n.text
free_is enum terms [] n among = absurd (no_element n among)
free_is enum terms (v ∷ vs) n among =
    free_by enum terms v vs n (has terms (full_name enum v.name).text) (free_is enum (terms ++ full_name enum v.name ∷ []) vs n) among

-- each of these names is that of one of these declarations, at its position
abbrev AreOf : List Declaration → List Name → Type 0
AreOf before names = (n : Name) → Contains names n → (d : Declaration) × Contains before d × (d.term.text ≡ n.text) × (d.pos ≡ n.pos)

module _ (ds : List Definition) where
  abbrev Broken : FaultNode → Type 0
  Broken f = IsBrokenTerm ds f.kind f.pos

  abbrev known : List ℕ → Bool
  known = is_type (type_names (types_in ds))

  -- signatures

  arguments : (d : Declaration) → Contains (decls_in ds) d → (before more : List Name) → d.arg_tys ≡ before ++ more →
      All Broken (optional (arguments_fault known more))
  arguments d among before [] is = All-nil Broken
  arguments d among before (a ∷ more) is =
      optional_choice Broken (known a.text) (arguments_fault known more) (Some (fault (kinds.argument_type_unknown a) a.pos))
      (λ _. arguments d among (before ++ a ∷ []) more (step d.arg_tys before a more is))
      (λ unknown. one Broken (fault (kinds.argument_type_unknown a) a.pos)
      (broken.argument_type_unknown d a among (stands_in d.arg_tys before a (more, is)) (unknown_type (types_in ds) a.text unknown)))

  signature : (d : Declaration) → Contains (decls_in ds) d → All Broken (optional (signature_fault known d))
  signature d among =
      optional_first Broken (arguments_fault known d.arg_tys) (result_fault known d.ret_ty) (arguments d among [] d.arg_tys refl)
      (optional_choice Broken (known d.ret_ty.text) None (Some (fault (kinds.result_type_unknown d.ret_ty) d.ret_ty.pos)) (λ _. All-nil Broken)
      (λ unknown. one Broken (fault (kinds.result_type_unknown d.ret_ty) d.ret_ty.pos)
      (broken.result_type_unknown d among (unknown_type (types_in ds) d.ret_ty.text unknown))))

  flags : (d : Declaration) → Contains (decls_in ds) d → All Broken (wrong_flags d)
  flags d among =
      choice Broken (d.multi && d.partial) (fault (kinds.multi_and_partial d.term) d.pos ∷ []) []
      (λ is. let both = both_true d.multi d.partial is in
      one Broken (fault (kinds.multi_and_partial d.term) d.pos) (broken.multi_and_partial d among both.0 both.1))
      (λ _. All-nil Broken)

  -- declarations

  doubled : (before : List Declaration) (d : Declaration) → StandsBehind (decls_in ds) before d → (earlier : List Name) → AreOf before earlier →
      (o : Option Pos) → place_of earlier d.term.text ≡ o → All Broken (doubled_decl o d)
  doubled before d stands earlier of None is = All-nil Broken
  doubled before d stands earlier of (Some place) is =
      let at = found earlier d.term.text place is in
      let first = of at.0 at.1 in
      two Broken (fault (kinds.term_again d.term) d.pos) (fault (kinds.term_again d.term) place)
      (broken.term_again d before stands (first.0, first.1, first.2 ∙ at.2))
      (subst (λ p. IsBrokenTerm ds (kinds.term_again d.term) p) (first.3 ∙ at.3)
      (broken.term_before d first.0 before stands first.1 (first.2 ∙ at.2)))

  one_more : (before : List Declaration) (d : Declaration) (earlier : List Name) → AreOf before earlier → AreOf (before ++ d ∷ []) (earlier ++ counted known d)
  one_more before d earlier of n among =
      either (λ old. let first = of n old in (first.0, Contains-append_left before (d ∷ []) first.0 first.1, first.2, first.3))
      (λ new. let is = counted_is (signature_fault known d) d n new in (d, Contains-push before d, is.0, is.1))
      (Contains-append_cases earlier (counted known d) n among)

  all_decls : (before xs : List Declaration) → decls_in ds ≡ before ++ xs → (earlier : List Name) → AreOf before earlier → All Broken (wrong_decls known earlier xs)
  all_decls before [] is earlier of = All-nil Broken
  all_decls before (d ∷ xs) is earlier of =
      let among = stands_in (decls_in ds) before d (xs, is) in
      let own : List FaultNode = wrong_flags d ++ optional (signature_fault known d) in
      All-append Broken (wrong_decl known earlier d) (wrong_decls known (earlier ++ counted known d) xs)
      (All-append Broken (doubled_decl (place_of earlier d.term.text) d) own
      (doubled before d (xs, is) earlier of (place_of earlier d.term.text) refl)
      (All-append Broken (wrong_flags d) (optional (signature_fault known d)) (flags d among) (signature d among)))
      (all_decls (before ++ d ∷ []) xs (step (decls_in ds) before d xs is) (earlier ++ counted known d) (one_more before d earlier of))

  -- variants

  abbrev IsTaken : (before : List TypeDefinition) → (enum : Name) → (others : List EnumVariant) → List ℕ → Type 0
  IsTaken before enum others text = IsDeclared ds text ⊎ (HasVariantOf before text ⊎ HasVariant enum others text)

  still_taken : (before : List TypeDefinition) (enum : Name) (others : List EnumVariant) (v : EnumVariant) (text : List ℕ) →
      IsTaken before enum others text → IsTaken before enum (others ++ v ∷ []) text
  still_taken before enum others v text h =
      either inl (λ variant. inr (either inl (λ own. inr (own.0, Contains-append_left others (v ∷ []) own.0 own.1, own.2)) variant)) h

  variants : (t : TypeDefinition) (before : List TypeDefinition) → StandsBehind (types_in ds) before t →
      (others vs : List EnumVariant) → variants_of t.ty ≡ others ++ vs → (terms : List Name) →
      ((n : Name) → Contains terms n → IsTaken before t.name others n.text) → All Broken (taken_variant t terms vs)
  variants t before stands others [] is terms taken = All-nil Broken
  variants t before stands others (v ∷ vs) is terms taken =
      choice Broken (has terms (full_name t.name v.name).text) (fault (kinds.variant_taken t.name v.name) t.pos ∷ [])
      (taken_variant t (terms ++ full_name t.name v.name ∷ []) vs)
      (λ found. let n = has_name terms (full_name t.name v.name).text found in
      one Broken (fault (kinds.variant_taken t.name v.name) t.pos)
      (broken.variant_taken t before v others stands (vs, is) (subst (λ text. IsTaken before t.name others text) n.2 (taken n.0 n.1))))
      (λ _. variants t before stands (others ++ v ∷ []) vs (step (variants_of t.ty) others v vs is) (terms ++ full_name t.name v.name ∷ [])
      (λ n among.
      either (λ old. still_taken before t.name others v n.text (taken n old))
      (λ new. inr (inr (v, Contains-push others v, ap (λ (m : Name). m.text) (only (full_name t.name v.name) n new))))
      (Contains-append_cases terms (full_name t.name v.name ∷ []) n among)))

  -- a declared term, or a variant of a type before
  abbrev IsKnown : List TypeDefinition → List ℕ → Type 0
  IsKnown before text = IsDeclared ds text ⊎ HasVariantOf before text

  all_variants : (before ts : List TypeDefinition) → types_in ds ≡ before ++ ts → (terms : List Name) →
      ((n : Name) → Contains terms n → IsKnown before n.text) → All Broken (taken_variants terms ts)
  all_variants before [] is terms names = All-nil Broken
  all_variants before (t ∷ ts) is terms names =
      All-append Broken (taken_variant t terms (variants_of t.ty)) (taken_variants (terms ++ free_variants t.name terms (variants_of t.ty)) ts)
      (variants t before (ts, is) [] (variants_of t.ty) refl terms (λ n among. either inl (λ old. inr (inl old)) (names n among)))
      (all_variants (before ++ t ∷ []) ts (step (types_in ds) before t ts is) (terms ++ free_variants t.name terms (variants_of t.ty))
      (λ n among.
      either
      (λ old. either inl (λ variant. inr (variant.0, Contains-append_left before (t ∷ []) variant.0 variant.1, variant.2)) (names n old))
      (λ new. inr (t, Contains-push before t, free_is t.name terms (variants_of t.ty) n new))
      (Contains-append_cases terms (free_variants t.name terms (variants_of t.ty)) n among)))

  pub declared_is : (n : Name) → Contains (declared known (decls_in ds)) n → IsDeclared ds n.text
  declared_is n among =
      let at = in_part (counted known) (decls_in ds) n among in
      (at.0, at.1, (counted_is (signature_fault known at.0) at.0 n at.2).0)

pub terms_broken : (ds : List Definition) → All (λ f. IsBrokenTerm ds f.kind f.pos) (term_faults ds)
terms_broken ds =
    All-append (Broken ds) (wrong_decls (known ds) [] (decls_in ds)) (taken_variants (declared (known ds) (decls_in ds)) (types_in ds))
    (all_decls ds [] (decls_in ds) refl [] (λ n among. absurd (no_element n among)))
    (all_variants ds [] (types_in ds) refl (declared (known ds) (decls_in ds)) (λ n among. inl (declared_is ds n among)))
