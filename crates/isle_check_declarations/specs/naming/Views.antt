-- What code knows, as pure values.
use Rattle.std.specs.Prelude.{◌≡◌, ℕ, List, is_some}
use Rattle.std.specs.Borrow.{Bor}
use Rattle.std.specs.HashMap.{get_by_text}
use Rattle.std.specs.BTreeSet.{BTreeSet, contains}
use Rattle.std.specs.Cmp.Lexicographic.{slice_cmp}
use Rattle.std.specs.Ordering.{nat_cmp, ordering_then}
use Rattle.std.specs.declared.cmp.Ordering.{Ordering}
use Rattle.isle_ast.specs.Tree.{Conversion}
use Rattle.isle_check_declarations.specs.Views.{term_in}
use Rattle.isle_check_declarations.specs.declared.naming.externs.Known.{Known}
use Rattle.isle_check_declarations.specs.naming.Converters.{has_pair}
use Rattle.isle_check_declarations.specs.naming.Externs.{KnownNode}

abbrev pub known_of : Known → KnownNode
known_of k =
    record {
      terms = term_in k.terms.now;
      ruled = λ text. is_some (get_by_text k.ruled text);
      templates = get_by_text k.templates;
    }

-- the order of pairs of texts
abbrev pub pair_cmp : Bor (List ℕ) × Bor (List ℕ) → Bor (List ℕ) × Bor (List ℕ) → Ordering
pair_cmp p q = ordering_then (slice_cmp nat_cmp p.0.now q.0.now) (slice_cmp nat_cmp p.1.now q.1.now)

-- the set has the types of these converters and no others
abbrev pub KnowsPairs : BTreeSet (Bor (List ℕ) × Bor (List ℕ)) → List Conversion → Type 0
KnowsPairs pairs cs = (p : Bor (List ℕ) × Bor (List ℕ)) → contains pair_cmp pairs p ≡ has_pair cs p.0.now p.1.now
