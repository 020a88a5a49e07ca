-- The arguments of a macro in a pattern have indices below a bound.
use Rattle.std.proofs.Common.{◌≡◌, ℕ, ◌+◌, ◌<◌, zero, suc, List, [], ◌∷◌, length, Bool, true, false, ◌||◌, nat_le, bytes_eq, Option, None, Some, is_none, option_map, slice_get, if◌then◌else◌, refl, sym, subst, ◌∙◌, arith}
use Rattle.std.specs.List.{AllByRecursion, list_any}
use Rattle.std.proofs.lemmas.Bool.{lt-leb}
use Rattle.std.proofs.lemmas.List.Folds.{list_any-append}
use Rattle.isle_base_source.specs.declared.pos.Pos.{Pos}
use Rattle.isle_ast_names.specs.Tree.{Name}
use Rattle.isle_ast_rules.specs.Tree.{PatternNode, var_pattern, bind_pattern, bool_pattern, int_pattern, constant_pattern, term_pattern, wildcard_pattern, and_pattern, macro_arg_pattern, PatternList, no_pattern, more_pattern}
use Rattle.isle_ast_rules.specs.MacroArgs.{has_macro_arg, have_macro_arg}
use Rattle.isle_ast_rules.specs.Templates.{bound_index, first_from, first_index, indices, is_wildcard, join, plug, plug_list, put, replace, replace_list, list_indices}
use Rattle.isle_ast_rules.proofs.Templates.{plug_lacks}
use Rattle.isle_expand_core.specs.Expansion.{list_list}

-- no index is as great as the bound
abbrev pub exceeds : ℕ → List ℕ → Bool
exceeds bound is = list_any (λ i. nat_le bound i) is

abbrev pub IsBounded : ℕ → PatternNode → Type 0
IsBounded bound p = exceeds bound (indices p) ≡ false

abbrev pub IsListBounded : ℕ → PatternList → Type 0
IsListBounded bound ps = exceeds bound (list_indices ps) ≡ false

neither : (a b : Bool) → a ≡ false → b ≡ false → (a || b) ≡ false
neither a b h k = (λ i. h i || k i)

first_not : (a b : Bool) → (a || b) ≡ false → a ≡ false
first_not true b h = absurd (cc)
first_not false b h = refl

second_not : (a b : Bool) → (a || b) ≡ false → b ≡ false
second_not true b h = absurd (cc)
second_not false b h = h

pub bounded_more : (bound : ℕ) (p : PatternNode) (ps : PatternList) → IsBounded bound p → IsListBounded bound ps → IsListBounded bound (more_pattern p ps)
bounded_more bound p ps h k =
    list_any-append (λ i. nat_le bound i) (indices p) (list_indices ps) ∙ neither (exceeds bound (indices p)) (exceeds bound (list_indices ps)) h k

pub bounded_parts : (bound : ℕ) (p : PatternNode) (ps : PatternList) → IsListBounded bound (more_pattern p ps) → IsBounded bound p × IsListBounded bound ps
bounded_parts bound p ps h =
    let both : (exceeds bound (indices p) || exceeds bound (list_indices ps)) ≡ false = sym (list_any-append (λ i. nat_le bound i) (indices p) (list_indices ps)) ∙ h in
    (first_not (exceeds bound (indices p)) (exceeds bound (list_indices ps)) both, second_not (exceeds bound (indices p)) (exceeds bound (list_indices ps)) both)

pub bounded_list : (bound : ℕ) (ps : PatternList) → IsListBounded bound ps → AllByRecursion (IsBounded bound) (list_list ps)
bounded_list bound no_pattern h = tt
bounded_list bound (more_pattern p ps) h = let parts = bounded_parts bound p ps h in (parts.0, bounded_list bound ps parts.1)

is_there : {A : Type 0} (o : Option A) → is_none o ≡ false → (x : A) × (o ≡ Some x)
is_there None h = absurd (cc)
is_there (Some x) h = (x, refl)

-- as many arguments as the bound can be put in
pub plugged : (t : PatternNode) (args : List PatternNode) → IsBounded (length args) t → (q : PatternNode) × (plug t args ≡ Some q)
plugged t args h = is_there (plug t args) (plug_lacks t args ∙ h)

-- what is put in stays below the bound of what was put in
arg_bounded : (bound : ℕ) (args : List PatternNode) (i : ℕ) (q : PatternNode) → AllByRecursion (IsBounded bound) args → slice_get args i ≡ Some q → IsBounded bound q
arg_bounded bound [] i q h e = absurd (cc)
arg_bounded bound (p ∷ args) zero q h e = let same : p ≡ q = cc in subst (IsBounded bound) same h.0
arg_bounded bound (p ∷ args) (suc i) q h e = arg_bounded bound args i q h.1 e

pub map_some : {A B : Type 0} (f : A → B) (o : Option A) (y : B) → option_map f o ≡ Some y → (x : A) × (o ≡ Some x) × (f x ≡ y)
map_some f None y h = absurd (cc)
map_some f (Some x) y h = (x, refl, cc)

pub join_some : (o : Option PatternNode) (os : Option PatternList) (r : PatternList) → join o os ≡ Some r → (p : PatternNode) × (ps : PatternList) × (o ≡ Some p) × (os ≡ Some ps) × (more_pattern p ps ≡ r)
join_some None os r h = absurd (cc)
join_some (Some p) None r h = absurd (cc)
join_some (Some p) (Some ps) r h = (p, ps, refl, refl, cc)

mutual
  pub plug_bounded : (bound : ℕ) (t : PatternNode) (args : List PatternNode) (q : PatternNode) → AllByRecursion (IsBounded bound) args → plug t args ≡ Some q → IsBounded bound q
  plug_bounded bound (var_pattern var place) args q h e = let same : var_pattern var place ≡ q = cc in subst (IsBounded bound) same refl
  plug_bounded bound (bind_pattern var subpat place) args q h e =
      let sub = map_some (λ p. bind_pattern var p place) (plug subpat args) q e in
      subst (IsBounded bound) sub.2 (plug_bounded bound subpat args sub.0 h sub.1)
  plug_bounded bound (bool_pattern val place) args q h e = let same : bool_pattern val place ≡ q = cc in subst (IsBounded bound) same refl
  plug_bounded bound (int_pattern val place) args q h e = let same : int_pattern val place ≡ q = cc in subst (IsBounded bound) same refl
  plug_bounded bound (constant_pattern val place) args q h e = let same : constant_pattern val place ≡ q = cc in subst (IsBounded bound) same refl
  plug_bounded bound (term_pattern term parts place) args q h e =
      let sub = map_some (λ ps. term_pattern term ps place) (plug_list parts args) q e in
      subst (IsBounded bound) sub.2 (plug_list_bounded bound parts args sub.0 h sub.1)
  plug_bounded bound (wildcard_pattern place) args q h e = let same : wildcard_pattern place ≡ q = cc in subst (IsBounded bound) same refl
  plug_bounded bound (and_pattern subpats place) args q h e =
      let sub = map_some (λ ps. and_pattern ps place) (plug_list subpats args) q e in
      subst (IsBounded bound) sub.2 (plug_list_bounded bound subpats args sub.0 h sub.1)
  plug_bounded bound (macro_arg_pattern index place) args q h e = arg_bounded bound args index q h e

  pub plug_list_bounded : (bound : ℕ) (ts : PatternList) (args : List PatternNode) (r : PatternList) → AllByRecursion (IsBounded bound) args → plug_list ts args ≡ Some r → IsListBounded bound r
  plug_list_bounded bound no_pattern args r h e = let same : no_pattern ≡ r = cc in subst (IsListBounded bound) same refl
  plug_list_bounded bound (more_pattern t ts) args r h e =
      let parts = join_some (plug t args) (plug_list ts args) r e in
      subst (IsListBounded bound) parts.4
      (bounded_more bound parts.0 parts.1 (plug_bounded bound t args parts.0 h parts.2) (plug_list_bounded bound ts args parts.1 h parts.3))

-- the template of an extractor is below the number of its parameters

index_if : (b : Bool) (k j n : ℕ) (o : Option ℕ) → (o ≡ Some j → j < (k + 1) + n) → (if b then Some k else o) ≡ Some j → j < k + suc n
index_if true k j n o f h = let same : k ≡ j = cc in omega (arith, same)
index_if false k j n o f h = omega (arith, f h)

index_below : (k j : ℕ) (text : List ℕ) (names : List Name) → first_from k text names ≡ Some j → j < k + length names
index_below k j text [] h = absurd (cc)
index_below k j text (name ∷ names) h =
    index_if (bytes_eq name.text text) k j (length names) (first_from (k + 1) text names) (index_below (k + 1) j text names) h

put_bounded : (n : ℕ) (o : Option ℕ) (place : Pos) (old : PatternNode) → ((j : ℕ) → o ≡ Some j → j < n) → IsBounded n old → IsBounded n (put o (λ i. macro_arg_pattern i place) old)
put_bounded n None place old f h = h
put_bounded n (Some i) place old f h = neither (nat_le n i) false (lt-leb n i (f i refl)) refl

bound_below : (names : List Name) (b : Bool) (text : List ℕ) (j : ℕ) → (if b then first_index text names else None) ≡ Some j → j < length names
bound_below names true text j h = let lt : j < 0 + length names = index_below 0 j text names h in omega (arith, lt)
bound_below names false text j h = absurd (cc)

mutual
  pub template_bounded : (p : PatternNode) (names : List Name) → has_macro_arg p ≡ false → IsBounded (length names) (replace p names macro_arg_pattern)
  template_bounded (var_pattern var place) names h =
      put_bounded (length names) (first_index var.text names) place (var_pattern var place)
      (λ j e. let lt : j < 0 + length names = index_below 0 j var.text names e in omega (arith, lt)) refl
  template_bounded (bind_pattern var subpat place) names h =
      put_bounded (length names) (bound_index var.text subpat names) place (bind_pattern var (replace subpat names macro_arg_pattern) place)
      (bound_below names (is_wildcard subpat) var.text) (template_bounded subpat names h)
  template_bounded (bool_pattern val place) names h = refl
  template_bounded (int_pattern val place) names h = refl
  template_bounded (constant_pattern val place) names h = refl
  template_bounded (term_pattern term parts place) names h = template_list_bounded parts names h
  template_bounded (wildcard_pattern place) names h = refl
  template_bounded (and_pattern subpats place) names h = template_list_bounded subpats names h
  template_bounded (macro_arg_pattern index place) names h = absurd (cc)

  pub template_list_bounded : (ps : PatternList) (names : List Name) → have_macro_arg ps ≡ false → IsListBounded (length names) (replace_list ps names macro_arg_pattern)
  template_list_bounded no_pattern names h = refl
  template_list_bounded (more_pattern p ps) names h =
      bounded_more (length names) (replace p names macro_arg_pattern) (replace_list ps names macro_arg_pattern)
      (template_bounded p names (first_not (has_macro_arg p) (have_macro_arg ps) h)) (template_list_bounded ps names (second_not (has_macro_arg p) (have_macro_arg ps) h))
