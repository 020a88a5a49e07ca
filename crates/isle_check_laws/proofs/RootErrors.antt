-- Each error of the left sides of rules is broken, in a program whose terms are right.
use Rattle.std.proofs.Common.{◌≡◌, List, [], Option, None, Some, Contains, refl}
use Rattle.std.specs.List.{All}
use Rattle.std.proofs.lemmas.List.Elements.{All-nil}
use Rattle.isle_ast_names.specs.Tree.{Name}
use Rattle.isle_ast_rules.specs.Roots.{root_term}
use Rattle.isle_ast_rules.specs.Tree.{RuleDefinition}
use Rattle.isle_ast.specs.Tree.{Definition}
use Rattle.isle_check_declarations.specs.Faults as kinds
use Rattle.isle_check_declarations.specs.Faults.{FaultNode, fault}
use Rattle.isle_check_declarations.specs.TermFaults.{term_faults}
use Rattle.isle_check_declarations.specs.Terms.{TermNode, declared_term, terms, unknown_term, variant_term}
use Rattle.isle_check_environment.specs.Parts.{rules_in}
use Rattle.isle_check_declarations.specs.naming.Roots.{root_faults, wrong_root, wrong_root_at, wrong_root_term}
use Rattle.isle_check_laws.specs.BrokenRoots as broken
use Rattle.isle_check_laws.specs.BrokenRoots.{IsBrokenRoot}
use Rattle.isle_check_laws.proofs.Lists.{all_parts, one}
use Rattle.isle_check_laws.proofs.Meanings.{Means, meaning}

module _ (ds : List Definition) where
  abbrev Broken : FaultNode → Type 0
  Broken f = IsBrokenRoot ds f.kind f.pos

  root_of : (r : RuleDefinition) → Contains (rules_in ds) r → (root : Name) → root_term r.pattern ≡ Some root →
      (node : TermNode) → Means ds root.text node → All Broken (wrong_root_term node root r.pos)
  root_of r among root is unknown_term h = one Broken (fault (kinds.root_unknown root) r.pos) (broken.root_unknown r root among is h)
  root_of r among root is variant_term h = one Broken (fault (kinds.root_variant root) r.pos) (broken.root_variant r root among is h)
  root_of r among root is (declared_term d) h = All-nil Broken

  root_at : term_faults ds ≡ [] → (r : RuleDefinition) → Contains (rules_in ds) r → (o : Option Name) → root_term r.pattern ≡ o →
      All Broken (wrong_root_at (terms ds) o r.pos)
  root_at right r among None is = one Broken (fault kinds.root_no_term r.pos) (broken.root_no_term r among is)
  root_at right r among (Some root) is = root_of r among root is (terms ds root.text) (meaning ds right root.text)

pub roots_broken : (ds : List Definition) → term_faults ds ≡ [] → All (λ f. IsBrokenRoot ds f.kind f.pos) (root_faults ds)
roots_broken ds right =
    all_parts (Broken ds) (wrong_root (terms ds)) (rules_in ds) (λ r among. root_at ds right r among (root_term r.pattern) refl)
