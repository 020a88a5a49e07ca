-- A rule that is hidden runs only where the rule runs that hides it.
use Rattle.std.proofs.Common.{◌≡◌, ℕ, List, ◌==◌, length, true, not, ◌&&◌, sym, ◌∙◌, subst, bytes_eq, int_lt}
use Rattle.std.proofs.lemmas.Bool.Decides.{Decides-eqb}
use Rattle.std.proofs.lemmas.List.{nil_from_length}
use Rattle.std.proofs.lemmas.Slice.Eq.{bytes_eq-Decides}
use Rattle.isle_check_rules.specs.TypedRules.{TypedRuleNode}
use Rattle.isle_check_places.specs.Comparing.{within}
use Rattle.isle_check_places.specs.Following.{all_follow}
use Rattle.isle_check_places.specs.Settling.{EqualityNode, settled, most_sweeps}
use Rattle.isle_check_overlaps.specs.Candidates.{CandidateNode, hides, hides_with_equals}
use Rattle.isle_check_matchings.specs.Asks.{TermsNode}
use Rattle.isle_check_matchings.specs.Matchings.{constraints_of, equalities_of}
use Rattle.isle_check_matchings.specs.RuleAsks.{rule_asks}
use Rattle.isle_check_laws.specs.Closed.{IsClosed}
use Rattle.isle_check_laws.specs.Compared.{IsCompared}
use Rattle.isle_check_laws.specs.Extensional.{IsExtensional}
use Rattle.isle_check_laws.specs.PlaceValues.{valuation, AreEqual}
use Rattle.isle_check_laws.specs.Runs.{Runs}
use Rattle.isle_check_laws.specs.Worlds.{World}
use Rattle.isle_check_overlaps.proofs.Booleans.{and_first, and_second}
use Rattle.isle_check_laws.proofs.ComparisonLaws.{within_satisfies}
use Rattle.isle_check_laws.proofs.FollowingLaws.{following_law}
use Rattle.isle_check_laws.proofs.RuleLaws.{comes, compared_equal, compared_holds}
use Rattle.isle_check_laws.proofs.RuleValues.{runs_law}
use Rattle.isle_check_laws.proofs.UnsettlingLaws.{IsWhole, settle_back}

none_left : {V : Type 0} (w : World V) (input : ℕ → V) (es : List EqualityNode) → (length es == 0) ≡ true → AreEqual w input es
none_left w input es h = subst (AreEqual w input) (sym (nil_from_length es ((Decides-eqb (length es) 0).0 h))) tt

pub hiding_law : {V : Type 0} (k : TermsNode) (w : World V) (input : ℕ → V) (high low : TypedRuleNode) (a b : CandidateNode) → IsExtensional w → IsClosed k high →
    IsCompared k high a → IsCompared k low b → hides a b ≡ true → Runs k w low input →
    Runs k w high input × ((high.term ≡ low.term) × (int_lt low.prio high.prio ≡ true))
hiding_law k w input high low a b looks closed is_a is_b h runs =
    let inside = within a.constraints b.constraints in
    let low_plain = b.is_plain && inside in
    let plain = a.is_plain && low_plain in
    let term = bytes_eq a.term b.term && plain in
    let higher = and_first (int_lt b.prio a.prio) term h in
    let of_term = and_second (int_lt b.prio a.prio) term h in
    let is_plain = and_second (bytes_eq a.term b.term) plain of_term in
    let is_inside = and_second b.is_plain inside (and_second a.is_plain low_plain is_plain) in
    let c = comes k high a is_a in
    let d = comes k low b is_b in
    let same = (bytes_eq-Decides a.term b.term).0 (and_first (bytes_eq a.term b.term) plain of_term) in
    let holds = within_satisfies (valuation w input) a.constraints b.constraints is_inside (compared_holds k w input low b is_b runs) in
    let whole : IsWhole w input looks (settled a.constraints c.equal) = (holds, none_left w input c.equal (sym c.is_plain ∙ and_first a.is_plain low_plain is_plain)) in
    let back = settle_back w input looks most_sweeps (constraints_of (rule_asks k high)) (equalities_of (rule_asks k high)) (subst (IsWhole w input looks) (sym c.is_settled) whole) in (
      runs_law w input k high closed back.0 back.1,
      (
        sym c.term ∙ (same ∙ d.term),
        subst (λ p. int_lt p high.prio ≡ true) d.prio (subst (λ p. int_lt b.prio p ≡ true) c.prio higher),
      ),
    )

-- and so a rule does that is hidden by one with equal places that follow from its own
pub equal_hiding_law : {V : Type 0} (k : TermsNode) (w : World V) (input : ℕ → V) (high low : TypedRuleNode) (a b : CandidateNode) → IsExtensional w → IsClosed k high →
    IsCompared k high a → IsCompared k low b → hides_with_equals a b ≡ true → Runs k w low input →
    Runs k w high input × ((high.term ≡ low.term) × (int_lt low.prio high.prio ≡ true))
equal_hiding_law k w input high low a b looks closed is_a is_b h runs =
    let inside = within a.constraints b.constraints in
    let following = all_follow a.equal b.equal in
    let one_answer = not a.has_several && (inside && following) in
    let with_equals = not b.is_plain && one_answer in
    let term = bytes_eq a.term b.term && with_equals in
    let higher = and_first (int_lt b.prio a.prio) term h in
    let of_term = and_second (int_lt b.prio a.prio) term h in
    let asks_no_more = and_second (not a.has_several) (inside && following) (and_second (not b.is_plain) one_answer (and_second (bytes_eq a.term b.term) with_equals of_term)) in
    let c = comes k high a is_a in
    let d = comes k low b is_b in
    let same = (bytes_eq-Decides a.term b.term).0 (and_first (bytes_eq a.term b.term) with_equals of_term) in
    let holds = within_satisfies (valuation w input) a.constraints b.constraints (and_first inside following asks_no_more) (compared_holds k w input low b is_b runs) in
    let equal = following_law w input a.equal b.equal (and_second inside following asks_no_more) (compared_equal k w input low b is_b runs) in
    let whole : IsWhole w input looks (settled a.constraints c.equal) = (holds, subst (AreEqual w input) c.is_equal equal) in
    let back = settle_back w input looks most_sweeps (constraints_of (rule_asks k high)) (equalities_of (rule_asks k high)) (subst (IsWhole w input looks) (sym c.is_settled) whole) in (
      runs_law w input k high closed back.0 back.1,
      (
        sym c.term ∙ (same ∙ d.term),
        subst (λ p. int_lt p high.prio ≡ true) d.prio (subst (λ p. int_lt b.prio p ≡ true) c.prio higher),
      ),
    )
