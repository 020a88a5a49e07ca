-- Each recursion that is told is one.
use Rattle.std.proofs.Common.{◌≡◌, ◌⊎◌, inl, inr, ℕ, zero, suc, ◌+◌, ◌<◌, List, [], ◌∷◌, ◌++◌, map, Bool, true, false, Option, None, Some, Contains, option_map, option_to_list, refl, ap, sym, ◌∙◌, subst, arith, length, get_or, slice_get, if◌then◌else◌}
use Rattle.std.specs.List.{All, flat_map}
use Rattle.std.proofs.lemmas.List.{length-map}
use Rattle.std.proofs.lemmas.List.Concat.{flat_map-append}
use Rattle.std.proofs.lemmas.List.Elements.{All-append, All-nil, Contains-push}
use Rattle.isle_ast_names.specs.Tree.{Name}
use Rattle.isle_ast_rules.specs.Roots.{pattern_pos}
use Rattle.isle_ast_rules.specs.TermHeads.{heads}
use Rattle.isle_ast_rules.specs.Tree.{ExtractorDefinition, PatternNode}
use Rattle.isle_ast.specs.Tree.{Declaration, Definition, attr, converter, decl, external, extractor, form, instantiation, model, rule, spec, spec_macro, state, type_def}
use Rattle.isle_check_recursion.specs.Walks.{ends_from}
use Rattle.isle_check_environment.specs.Parts.{decls_in, extractor_in}
use Rattle.isle_check_environment.specs.signatures.Entries.{Entry, entry, value_of}
use Rattle.isle_check_environment.specs.signatures.Environment.{environment}
use Rattle.isle_check_environment.specs.signatures.Signatures.{template_entry}
use Rattle.isle_check_recursion.specs.Recursion.{RecursionNode, endless_walk, last_template, name_of_number, names, number, numbered, recursion, recursion_to, recursions, recursions_from, used_at, uses, uses_of}
use Rattle.isle_check_laws.specs.BrokenRecursions.{AreLinked, HasTemplate, IsBrokenRecursion, UsesTerm, template_of}
use Rattle.isle_check_laws.proofs.Entries.{entry_of, same_some}
use Rattle.isle_check_laws.proofs.Cycles.{ComesAgain, Goes, comes_again}
use Rattle.isle_check_laws.proofs.Lists.{first_or_later, here, in_part, later, no_element, one, only, part_in}

-- templates

template_is : (d : Definition) (e : Entry PatternNode) → Contains (template_entry d) e →
    (x : ExtractorDefinition) × Contains (extractor_in d) x × (x.term.text ≡ e.text) × (template_of x ≡ e.value)
template_is (extractor x) e among =
    let same = only (entry x.term.text (template_of x)) e among in
    (x, here x [], ap (λ (w : Entry PatternNode). w.text) same, ap (λ (w : Entry PatternNode). w.value) same)
template_is (rule _) e among = absurd (no_element e among)
template_is (type_def _) e among = absurd (no_element e among)
template_is (decl _) e among = absurd (no_element e among)
template_is (attr _) e among = absurd (no_element e among)
template_is (spec _) e among = absurd (no_element e among)
template_is (spec_macro _) e among = absurd (no_element e among)
template_is (model _) e among = absurd (no_element e among)
template_is (state _) e among = absurd (no_element e among)
template_is (form _) e among = absurd (no_element e among)
template_is (instantiation _) e among = absurd (no_element e among)
template_is (external _) e among = absurd (no_element e among)
template_is (converter _) e among = absurd (no_element e among)

has_template : (ds : List Definition) (d : Declaration) (template : PatternNode) → Contains (decls_in ds) d →
    value_of (flat_map template_entry ds) d.term.text ≡ Some template → HasTemplate ds d.term template
has_template ds d template among is =
    let e = entry_of (flat_map template_entry ds) d.term.text template is in
    let at = in_part template_entry ds e.0 e.1 in
    let x = template_is at.0 e.0 at.2 in
    (d, x.0, among, refl, part_in extractor_in ds at.0 x.0 at.1 x.1, x.2 ∙ e.2, x.3 ∙ e.3)

-- numbers

-- the declaration of this number
abbrev IsNumbered : List Declaration → ℕ → Declaration → Type 0
IsNumbered ds i d = (slice_get ds i ≡ Some d) × Contains ds d × (i < length ds)

numbered_at : (k : ℕ) (ds : List Declaration) (e : Entry ℕ) → Contains (numbered k ds) e →
    (i : ℕ) × (d : Declaration) × (e.value ≡ k + i) × (d.term.text ≡ e.text) × IsNumbered ds i d
numbered_at k [] e among = absurd (no_element e among)
numbered_at k (d ∷ ds) e among = by (first_or_later (entry d.term.text k) (numbered (k + 1) ds) e among) (numbered_at (k + 1) ds e)
  where
    by : (entry d.term.text k ≡ e) ⊎ Contains (numbered (k + 1) ds) e →
        (Contains (numbered (k + 1) ds) e → (i : ℕ) × (x : Declaration) × (e.value ≡ (k + 1) + i) × (x.term.text ≡ e.text) × IsNumbered ds i x) →
        (i : ℕ) × (x : Declaration) × (e.value ≡ k + i) × (x.term.text ≡ e.text) × IsNumbered (d ∷ ds) i x
    by (inl same) more =
        let value : k ≡ e.value = ap (λ (w : Entry ℕ). w.value) same in
        (0, d, omega (arith, value), ap (λ (w : Entry ℕ). w.text) same, (refl, here d ds, omega arith))
    by (inr behind) more =
        let at = more behind in
        let value : e.value ≡ (k + 1) + at.0 = at.2 in
        let within : at.0 < length ds = at.4.2 in
        (suc at.0, at.1, omega (arith, value), at.3, (at.4.0, later d ds at.1 at.4.1, omega (arith, within)))

number_is : (ds : List Declaration) (text : List ℕ) (q : ℕ) → number ds text ≡ Some q → (d : Declaration) × (d.term.text ≡ text) × IsNumbered ds q d
number_is ds text q is =
    let e = entry_of (numbered 0 ds) text q is in
    let at = numbered_at 0 ds e.0 e.1 in
    let value : e.0.value ≡ 0 + at.0 = at.2 in
    let same : at.0 ≡ q = omega (arith, value, e.3) in
    (at.1, at.3 ∙ e.2, subst (λ i. IsNumbered ds i at.1) same at.4)

is_numbered : (ds : List Declaration) (i : ℕ) → i < length ds → (d : Declaration) × IsNumbered ds i d
is_numbered [] i within = absurd (omega (arith, within))
is_numbered (d ∷ ds) zero within = (d, (refl, here d ds, within))
is_numbered (d ∷ ds) (suc i) within =
    let at = is_numbered ds i (omega (arith, within)) in (at.0, (at.1.0, later d ds at.0 at.1.1, within))

one_number : (ds : List Declaration) (i : ℕ) (d e : Declaration) → IsNumbered ds i d → IsNumbered ds i e → d ≡ e
one_number ds i d e one two = same_some d e (sym one.0 ∙ two.0)

-- the list at a number

map_at : {X : Type 0} (f : X → List ℕ) (xs : List X) (i : ℕ) (x : X) → slice_get xs i ≡ Some x → get_or (map f xs) i [] ≡ f x
map_at f [] i x is = cc
map_at f (y ∷ ys) zero x is = ap f (same_some y x is)
map_at f (y ∷ ys) (suc i) x is = map_at f ys i x is

map_past : {X : Type 0} (f : X → List ℕ) (xs : List X) (i q : ℕ) → Contains (get_or (map f xs) i []) q → i < length xs
map_past f [] i q among = absurd (no_element q among)
map_past f (y ∷ ys) zero q among = omega arith
map_past f (y ∷ ys) (suc i) q among = let e : i < length ys = map_past f ys i q among in omega (arith, e)

option_is : (o : Option ℕ) (q : ℕ) → Contains (option_to_list o) q → o ≡ Some q
option_is None q among = absurd (no_element q among)
option_is (Some p) q among = ap (λ x. Some x) (only p q among)

module _ (ds : List Definition) where
  abbrev templates : List ℕ → Option PatternNode
  templates = (environment ds).templates

  abbrev next : List (List ℕ)
  next = uses_of templates (number (decls_in ds)) (decls_in ds)

  -- the term of a number uses that of another

  uses_by : (d : Declaration) → Contains (decls_in ds) d → (q : ℕ) → (o : Option PatternNode) → templates d.term.text ≡ o →
      Contains (uses (number (decls_in ds)) o) q → (e : Declaration) × IsNumbered (decls_in ds) q e × UsesTerm ds d.term e.term
  uses_by d inside q None is among = absurd (no_element q among)
  uses_by d inside q (Some template) is among =
      let head = in_part (used_at (number (decls_in ds))) (heads template) q among in
      let e = number_is (decls_in ds) head.0.1.text q (option_is (number (decls_in ds) head.0.1.text) q head.2) in
      (e.0, e.2, (template, head.0.0, head.0.1, has_template ds d template inside is, head.1, sym e.1))

  uses_at : (p : ℕ) (d : Declaration) → IsNumbered (decls_in ds) p d → (q : ℕ) → Contains (get_or next p []) q →
      (e : Declaration) × IsNumbered (decls_in ds) q e × UsesTerm ds d.term e.term
  uses_at p d is q among =
      uses_by d is.1 q (templates d.term.text) refl
      (subst (λ xs. Contains xs q) (map_at (λ x. uses (number (decls_in ds)) (templates x.term.text)) (decls_in ds) p d is.0) among)

  count : length next ≡ length (decls_in ds)
  count = length-map (decls_in ds) (λ x. uses (number (decls_in ds)) (templates x.term.text))

  in_range : (p q : ℕ) → Contains (get_or next p []) q → q < length next
  in_range p q among =
      let d = is_numbered (decls_in ds) p (map_past (λ x. uses (number (decls_in ds)) (templates x.term.text)) (decls_in ds) p q among) in
      let e = uses_at p d.0 d.1 q among in
      subst (λ n. q < n) (sym count) e.1.2

  -- names of places

  name_is : (p : ℕ) (d : Declaration) → IsNumbered (decls_in ds) p d → name_of_number (decls_in ds) p ≡ d.term ∷ []
  name_is p d is = ap (λ o. option_to_list (option_map (λ (x : Declaration). x.term) o)) is.0

  linked_names : (path : List ℕ) → ((p : ℕ) → Contains path p → p < length next) → AreLinked (Goes next in_range) path →
      AreLinked (UsesTerm ds) (names (decls_in ds) path)
  linked_names [] within linked = tt
  linked_names (p ∷ []) within linked =
      let d = is_numbered (decls_in ds) p (subst (λ n. p < n) count (within p (here p []))) in
      subst (λ ns. AreLinked (UsesTerm ds) (ns ++ [])) (sym (name_is p d.0 d.1)) tt
  linked_names (p ∷ q ∷ path) within linked =
      let d = is_numbered (decls_in ds) p (subst (λ n. p < n) count (within p (here p (q ∷ path)))) in
      let e = uses_at p d.0 d.1 q linked.0 in
      let rest : AreLinked (UsesTerm ds) (name_of_number (decls_in ds) q ++ names (decls_in ds) path) =
      linked_names (q ∷ path) (λ x among. within x (later p (q ∷ path) x among)) linked.1 in
      subst (λ ns. AreLinked (UsesTerm ds) (ns ++ names (decls_in ds) (q ∷ path))) (sym (name_is p d.0 d.1))
      (subst (λ ns. AreLinked (UsesTerm ds) (d.0.term ∷ (ns ++ names (decls_in ds) path))) (sym (name_is q e.0 e.1))
      (e.2, subst (λ ns. AreLinked (UsesTerm ds) (ns ++ names (decls_in ds) path)) (name_is q e.0 e.1) rest))

  last_is : (before : Option PatternNode) (ns : List Name) (n : Name) → last_template templates before (ns ++ n ∷ []) ≡ templates n.text
  last_is before [] n = refl
  last_is before (m ∷ ns) n = last_is (templates m.text) ns n

  -- errors

  abbrev Broken : RecursionNode → Type 0
  Broken r = IsBrokenRecursion ds r.path r.pos

  found : (path : List ℕ) → ComesAgain next in_range path → (o : Option PatternNode) → last_template templates None (names (decls_in ds) path) ≡ o →
      All Broken (recursion_to o (names (decls_in ds) path))
  found path again None is = All-nil Broken
  found path again (Some template) is =
      let front = again.0 in
      let last = again.1 in
      let d = is_numbered (decls_in ds) last (subst (λ n. last < n) count (again.5 last (subst (λ xs. Contains xs last) (sym again.2) (Contains-push front last)))) in
      let ends : names (decls_in ds) path ≡ names (decls_in ds) front ++ d.0.term ∷ [] =
      ap (names (decls_in ds)) again.2 ∙ flat_map-append (name_of_number (decls_in ds)) front (last ∷ [])
      ∙ ap (λ ns. names (decls_in ds) front ++ (ns ++ [])) (name_is last d.0 d.1) in
      one Broken (record { path = names (decls_in ds) path; pos = pattern_pos template })
      (record {
        front = names (decls_in ds) front;
        last = d.0.term;
        template = template;
        ends = ends;
        linked = linked_names path again.5 again.3;
        again = part_in (name_of_number (decls_in ds)) front last d.0.term again.4
            (subst (λ ns. Contains ns d.0.term) (sym (name_is last d.0 d.1)) (here d.0.term []));
        has_template = has_template ds d.0 template d.1.1
            (sym (last_is None (names (decls_in ds) front) d.0.term) ∙ ap (last_template templates None) (sym ends) ∙ is);
        at_template = refl;
      })

  recursion_at : (root : ℕ) → root < length next → (b : Bool) → ends_from next root ≡ b →
      All Broken (if b then [] else (let path = names (decls_in ds) (endless_walk next root) in recursion_to (last_template templates None path) path))
  recursion_at root within true is = All-nil Broken
  recursion_at root within false is =
      found (endless_walk next root) (comes_again next in_range root within is) (last_template templates None (names (decls_in ds) (endless_walk next root))) refl

  from : (n : ℕ) (more : List Declaration) → n + length more ≡ length next → All Broken (recursions_from templates (decls_in ds) next n more)
  from n [] is = All-nil Broken
  from n (d ∷ more) is =
      All-append Broken (recursion templates (decls_in ds) next n) (recursions_from templates (decls_in ds) next (n + 1) more)
      (recursion_at n (omega (arith, is)) (ends_from next n) refl) (from (n + 1) more (omega (arith, is)))

pub recursions_broken : (ds : List Definition) → All (λ r. IsBrokenRecursion ds r.path r.pos) (recursions ds)
recursions_broken ds = let c : length (next ds) ≡ length (decls_in ds) = count ds in from ds 0 (decls_in ds) (omega (arith, c))
