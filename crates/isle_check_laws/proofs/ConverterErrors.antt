-- Each error of converters is broken, in a program whose terms are right.
use Rattle.std.proofs.Common.{◌≡◌, ℕ, List, [], ◌∷◌, ◌++◌, Bool, true, false, ◌&&◌, ◌||◌, Option, None, Some, Contains, refl, subst, bytes_eq, if◌then◌else◌}
use Rattle.std.specs.List.{All}
use Rattle.std.proofs.lemmas.List.Elements.{All-append, All-nil, Contains-append_cases, Contains-append_left, Contains-push}
use Rattle.isle_ast.specs.Tree.{Conversion, Definition}
use Rattle.isle_check_declarations.specs.Faults as kinds
use Rattle.isle_check_declarations.specs.Faults.{FaultNode, fault, optional}
use Rattle.isle_check_declarations.specs.TermFaults.{term_faults}
use Rattle.isle_check_declarations.specs.Terms.{is_unknown, terms}
use Rattle.isle_check_environment.specs.Parts.{converters_in, type_names, types_in}
use Rattle.isle_check_environment.specs.Types.{is_type}
use Rattle.isle_check_declarations.specs.naming.Converters.{converter_faults, counted, counted_by, doubled_converter, has_pair, unknown_name, wrong_converter, wrong_converter_by, wrong_converters}
use Rattle.isle_check_laws.specs.BrokenConverters as broken
use Rattle.isle_check_laws.specs.BrokenConverters.{IsBrokenConverter}
use Rattle.isle_check_laws.specs.Named.{StandsBehind}
use Rattle.isle_check_laws.proofs.Lists.{both_true, choice, either, here, later, no_element, one, only, optional_choice, stands_in, step}
use Rattle.isle_check_laws.proofs.Meanings.{meaning, means_unknown}
use Rattle.isle_check_laws.proofs.Names.{same_text, unknown_type}

-- a converter with these types
abbrev HasPair : List Conversion → (inner outer : List ℕ) → Type 0
HasPair cs inner outer = (c : Conversion) × Contains cs c × (c.inner_ty.text ≡ inner) × (c.outer_ty.text ≡ outer)

pair_by : (c : Conversion) (cs : List Conversion) (inner outer : List ℕ) (b : Bool) →
    (bytes_eq c.inner_ty.text inner && bytes_eq c.outer_ty.text outer) ≡ b → (has_pair cs inner outer ≡ true → HasPair cs inner outer) →
    (b || has_pair cs inner outer) ≡ true → HasPair (c ∷ cs) inner outer
pair_by c cs inner outer true is more h =
    let both = both_true (bytes_eq c.inner_ty.text inner) (bytes_eq c.outer_ty.text outer) is in
    (c, here c cs, same_text c.inner_ty.text inner both.0, same_text c.outer_ty.text outer both.1)
pair_by c cs inner outer false is more h = let at = more h in (at.0, later c cs at.0 at.1, at.2, at.3)

pair : (cs : List Conversion) (inner outer : List ℕ) → has_pair cs inner outer ≡ true → HasPair cs inner outer
pair [] inner outer h = cc
pair (c ∷ cs) inner outer h =
    pair_by c cs inner outer (bytes_eq c.inner_ty.text inner && bytes_eq c.outer_ty.text outer) refl (pair cs inner outer) h

-- a converter that counts
counted_is : (o : Option FaultNode) (c e : Conversion) → Contains (counted_by o c) e → c ≡ e
counted_is None c e among = only c e among
counted_is (Some f) c e among = absurd (no_element e among)

module _ (ds : List Definition) (right : term_faults ds ≡ []) where
  abbrev Broken : FaultNode → Type 0
  Broken f = IsBrokenConverter ds f.kind f.pos

  abbrev known : List ℕ → Bool
  known = is_type (type_names (types_in ds))

  names : (c : Conversion) → Contains (converters_in ds) c → All Broken (optional (unknown_name known (terms ds) c))
  names c among =
      optional_choice Broken (known c.inner_ty.text)
      (if known c.outer_ty.text then (if is_unknown (terms ds c.term.text) then Some (fault (kinds.converter_unknown c.term) c.term.pos) else None)
      else Some (fault (kinds.outer_type_unknown c.outer_ty) c.outer_ty.pos))
      (Some (fault (kinds.inner_type_unknown c.inner_ty) c.inner_ty.pos))
      (λ _. optional_choice Broken (known c.outer_ty.text)
      (if is_unknown (terms ds c.term.text) then Some (fault (kinds.converter_unknown c.term) c.term.pos) else None)
      (Some (fault (kinds.outer_type_unknown c.outer_ty) c.outer_ty.pos))
      (λ _. optional_choice Broken (is_unknown (terms ds c.term.text)) (Some (fault (kinds.converter_unknown c.term) c.term.pos)) None
      (λ unknown. one Broken (fault (kinds.converter_unknown c.term) c.term.pos)
      (broken.converter_unknown c among (means_unknown ds c.term.text (terms ds c.term.text) (meaning ds right c.term.text) unknown)))
      (λ _. All-nil Broken))
      (λ unknown. one Broken (fault (kinds.outer_type_unknown c.outer_ty) c.outer_ty.pos)
      (broken.outer_type_unknown c among (unknown_type (types_in ds) c.outer_ty.text unknown))))
      (λ unknown. one Broken (fault (kinds.inner_type_unknown c.inner_ty) c.inner_ty.pos)
      (broken.inner_type_unknown c among (unknown_type (types_in ds) c.inner_ty.text unknown)))

  -- each of these converters is one of those before
  abbrev AreOf : (before earlier : List Conversion) → Type 0
  AreOf before earlier = (e : Conversion) → Contains earlier e → Contains before e

  doubled : (before : List Conversion) (c : Conversion) → StandsBehind (converters_in ds) before c → (earlier : List Conversion) → AreOf before earlier →
      All Broken (doubled_converter earlier c)
  doubled before c stands earlier are =
      choice Broken (has_pair earlier c.inner_ty.text c.outer_ty.text) (fault (kinds.converter_again c.inner_ty c.outer_ty) c.pos ∷ []) []
      (λ is. let first = pair earlier c.inner_ty.text c.outer_ty.text is in
      one Broken (fault (kinds.converter_again c.inner_ty c.outer_ty) c.pos)
      (broken.converter_again c first.0 before stands (are first.0 first.1) first.2 first.3))
      (λ _. All-nil Broken)

  by_names : (o : Option FaultNode) (earlier : List Conversion) (c : Conversion) → All Broken (optional o) → All Broken (doubled_converter earlier c) →
      All Broken (wrong_converter_by o earlier c)
  by_names None earlier c unknown double = double
  by_names (Some f) earlier c unknown double = unknown

  all_converters : (before cs : List Conversion) → converters_in ds ≡ before ++ cs → (earlier : List Conversion) → AreOf before earlier →
      All Broken (wrong_converters known (terms ds) earlier cs)
  all_converters before [] is earlier are = All-nil Broken
  all_converters before (c ∷ cs) is earlier are =
      All-append Broken (wrong_converter known (terms ds) earlier c) (wrong_converters known (terms ds) (earlier ++ counted known (terms ds) c) cs)
      (by_names (unknown_name known (terms ds) c) earlier c (names c (stands_in (converters_in ds) before c (cs, is))) (doubled before c (cs, is) earlier are))
      (all_converters (before ++ c ∷ []) cs (step (converters_in ds) before c cs is) (earlier ++ counted known (terms ds) c)
      (λ e among.
      either (λ old. Contains-append_left before (c ∷ []) e (are e old))
      (λ new. subst (λ x. Contains (before ++ c ∷ []) x) (counted_is (unknown_name known (terms ds) c) c e new) (Contains-push before c))
      (Contains-append_cases earlier (counted known (terms ds) c) e among)))

pub converters_broken : (ds : List Definition) → term_faults ds ≡ [] → All (λ f. IsBrokenConverter ds f.kind f.pos) (converter_faults ds)
converters_broken ds right = all_converters ds right [] (converters_in ds) refl [] (λ e among. among)
