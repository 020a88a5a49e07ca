-- The environment of a program is true of it.
use Rattle.std.proofs.Common.{◌≡◌, ℕ, List, [], ◌∷◌, ◌++◌, Bool, true, false, ◌&&◌, ◌||◌, cond, Option, Some, Contains, option_map, refl, ◌∙◌, subst, bytes_eq, find}
use Rattle.std.specs.List.{flat_map}
use Rattle.std.proofs.lemmas.List.Elements.{Contains-append_left, Contains-append_right}
use Rattle.isle_ast.specs.Tree.{Conversion, Definition}
use Rattle.isle_check_environment.specs.Names.{has}
use Rattle.isle_check_environment.specs.Parts.{converters_in, types_in}
use Rattle.isle_check_environment.specs.Terms.{ruled_name, template_name, variant_names}
use Rattle.isle_check_environment.specs.signatures.Entries.{entry}
use Rattle.isle_check_environment.specs.signatures.Environment.{converting, environment}
use Rattle.isle_check_environment.specs.signatures.Signatures.{constant_entry, constructor_name, declared_entry, declared_term, extractor_name, template_entry, variant_entries, variant_entry}
use Rattle.isle_check_laws.specs.BrokenRecursions.{template_of}
use Rattle.isle_check_laws.specs.Environments.{IsTermOf, IsTrueOf}
use Rattle.isle_check_laws.proofs.Definitions.{constant_from, constant_given, constructor_named, declared_given, external_named, extractor_named, rule_named, template_given, term_by, variant_given, variant_named}
use Rattle.isle_check_laws.proofs.Entries.{entry_of, no_entry}
use Rattle.isle_check_laws.proofs.Lists.{both_true, either, here, later}
use Rattle.isle_check_laws.proofs.Names.{has_no_name, same_text, unknown_type}
use Rattle.isle_check_laws.proofs.RuleSteps.{both_false}

-- the converter that is found

abbrev Converts : List Conversion → (inner outer term : List ℕ) → Type 0
Converts cs inner outer term =
    (c : Conversion) × Contains cs c × (c.inner_ty.text ≡ inner) × (c.outer_ty.text ≡ outer) × (c.term.text ≡ term)

same_term : (a b : List ℕ) → ◌≡◌ {A = Option (List ℕ)} (Some a) (Some b) → a ≡ b
same_term a b h = cc

converter_by : (c : Conversion) (cs : List Conversion) (inner outer term : List ℕ) (b : Bool) →
    (bytes_eq c.inner_ty.text inner && bytes_eq c.outer_ty.text outer) ≡ b → (converting cs inner outer ≡ Some term → Converts cs inner outer term) →
    option_map (λ (x : Conversion). x.term.text) (cond b (Some c) (find (λ x. bytes_eq x.inner_ty.text inner && bytes_eq x.outer_ty.text outer) cs)) ≡ Some term →
    Converts (c ∷ cs) inner outer term
converter_by c cs inner outer term true is more h =
    let both = both_true (bytes_eq c.inner_ty.text inner) (bytes_eq c.outer_ty.text outer) is in
    (c, here c cs, same_text c.inner_ty.text inner both.0, same_text c.outer_ty.text outer both.1, same_term c.term.text term h)
converter_by c cs inner outer term false is more h = let at = more h in (at.0, later c cs at.0 at.1, at.2, at.3, at.4)

converter_of : (cs : List Conversion) (inner outer term : List ℕ) → converting cs inner outer ≡ Some term → Converts cs inner outer term
converter_of [] inner outer term h = cc
converter_of (c ∷ cs) inner outer term h =
    converter_by c cs inner outer term (bytes_eq c.inner_ty.text inner && bytes_eq c.outer_ty.text outer) refl (converter_of cs inner outer term) h

pub environment_true : (ds : List Definition) → IsTrueOf ds (environment ds)
environment_true ds =
    let variants = flat_map variant_entries ds in
    let declared = flat_map declared_entry ds in
    record {
      unknown_type = λ text no. unknown_type (types_in ds) text no;
      unknown_constant = λ text none c. no_entry (flat_map constant_entry ds) text none (entry c.0.name.text c.0.ty.text) (constant_given ds c.0 c.1) c.2;
      known_constant = λ text ty is.
          let e = entry_of (flat_map constant_entry ds) text ty is in
          let c = constant_from ds e.0 e.1 in
          (c.0, c.1, c.2 ∙ e.2, c.3 ∙ e.3);
      unknown_term = λ text none.
          either
          (λ d. no_entry (variants ++ declared) text none (entry d.0.term.text (declared_term d.0))
          (Contains-append_right variants declared (entry d.0.term.text (declared_term d.0)) (declared_given ds d.0 d.1)) d.2)
          (λ t. no_entry (variants ++ declared) text none (variant_entry t.0.name t.2.0)
          (Contains-append_left variants declared (variant_entry t.0.name t.2.0) (variant_given ds t.0 t.2.0 t.1 t.2.1)) t.2.2);
      known_term = λ text t is.
          let e = entry_of (variants ++ declared) text t is in
          subst (λ x. IsTermOf ds text x) e.3 (subst (λ x. IsTermOf ds x e.0.value) e.2 (term_by ds e.0 e.1));
      no_template = λ text none x. no_entry (flat_map template_entry ds) text none (entry x.0.term.text (template_of x.0)) (template_given ds x.0 x.1) x.2;
      no_constructor = λ text no can.
          let first = both_false (has (flat_map variant_names ds) text) (has (flat_map ruled_name ds) text || has (flat_map constructor_name ds) text) no in
          let last = both_false (has (flat_map ruled_name ds) text) (has (flat_map constructor_name ds) text) first.1 in
          either (λ variant. has_no_name (flat_map variant_names ds) text first.0 (variant_named ds text variant))
          (λ more. either (λ ruled. has_no_name (flat_map ruled_name ds) text last.0 (rule_named ds text ruled))
          (λ x. has_no_name (flat_map constructor_name ds) text last.1 (constructor_named ds text x)) more) can;
      no_extractor = λ text no can.
          let first = both_false (has (flat_map variant_names ds) text) (has (flat_map template_name ds) text || has (flat_map extractor_name ds) text) no in
          let last = both_false (has (flat_map template_name ds) text) (has (flat_map extractor_name ds) text) first.1 in
          either (λ variant. has_no_name (flat_map variant_names ds) text first.0 (variant_named ds text variant))
          (λ more. either (λ x. has_no_name (flat_map template_name ds) text last.0 (extractor_named ds text x))
          (λ x. has_no_name (flat_map extractor_name ds) text last.1 (external_named ds text x)) more) can;
      converter = λ inner outer term is. converter_of (converters_in ds) inner outer term is;
    }
