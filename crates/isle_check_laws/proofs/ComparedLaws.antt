-- What it means, by valuations, that rules overlap, and that one hides another.
use Rattle.std.proofs.Common.{◌≡◌, ◌↔◌, [], true, not, ◌&&◌, bytes_eq, int_eq, int_lt}
use Rattle.std.proofs.lemmas.Bool.Decides.{Decides-int_eq}
use Rattle.std.proofs.lemmas.Slice.Eq.{bytes_eq-Decides}
use Rattle.isle_check_rules.specs.TypedRules.{TypedRuleNode}
use Rattle.isle_check_places.specs.Clashes.{clashes_after}
use Rattle.isle_check_places.specs.Comparing.{apart, within}
use Rattle.isle_check_places.specs.Settling.{most_sweeps}
use Rattle.isle_check_overlaps.specs.Candidates.{CandidateNode, overlap, hides}
use Rattle.isle_check_matchings.specs.Asks.{TermsNode}
use Rattle.isle_check_matchings.specs.Matchings.{constraints_of, equalities_of}
use Rattle.isle_check_matchings.specs.RuleAsks.{rule_asks}
use Rattle.isle_check_laws.specs.Compared.{IsCompared, Meet, Covers}
use Rattle.isle_check_overlaps.proofs.Booleans.{and_first, and_second, and_true, not_true, not_false, false_of}
use Rattle.isle_check_laws.proofs.ComparisonLaws.{apart_excludes, common, within_law}
use Rattle.isle_check_laws.proofs.RuleLaws.{comes}
use Rattle.isle_check_laws.proofs.SettledClashes.{settled_clear}

pub clear_law : (k : TermsNode) (r : TypedRuleNode) (c : CandidateNode) → IsCompared k r c → clashes_after [] c.constraints ≡ []
clear_law k r c is =
    let from = comes k r c is in
    settled_clear most_sweeps (constraints_of (rule_asks k r)) (equalities_of (rule_asks k r)) c.constraints from.equal from.no_clash from.is_settled

pub overlap_meaning : (k : TermsNode) (r s : TypedRuleNode) (a b : CandidateNode) → IsCompared k r a → IsCompared k s b → (overlap a b ≡ true) ↔ Meet a b
overlap_meaning k r s a b is_a is_b =
    let term = bytes_eq a.term b.term in
    let other = not (apart a.constraints b.constraints) in (
      λ h.
          let of_term = and_second (int_eq a.prio b.prio) (term && other) h in
          record {
            prio = (Decides-int_eq a.prio b.prio).0 (and_first (int_eq a.prio b.prio) (term && other) h);
            term = (bytes_eq-Decides a.term b.term).0 (and_first term other of_term);
            common = common a.constraints b.constraints (clear_law k r a is_a) (clear_law k s b is_b)
                (not_true (apart a.constraints b.constraints) (and_second term other of_term));
          },
      λ m.
          let meet = not_false (apart a.constraints b.constraints)
          (false_of (apart a.constraints b.constraints) (λ h. apart_excludes m.common.0 a.constraints b.constraints h m.common.1.0 m.common.1.1)) in
          and_true (int_eq a.prio b.prio) (term && other) ((Decides-int_eq a.prio b.prio).1 m.prio) (and_true term other ((bytes_eq-Decides a.term b.term).1 m.term) meet),
    )

pub hiding_meaning : (k : TermsNode) (high low : TypedRuleNode) (a b : CandidateNode) → IsCompared k high a → IsCompared k low b → (hides a b ≡ true) ↔ Covers a b
hiding_meaning k high low a b is_a is_b =
    let inside = within a.constraints b.constraints in
    let low_plain = b.is_plain && inside in
    let plain = a.is_plain && low_plain in
    let term = bytes_eq a.term b.term in
    let means = within_law a.constraints b.constraints (clear_law k low b is_b) in (
      λ h.
          let of_term = and_second (int_lt b.prio a.prio) (term && plain) h in
          let is_plain = and_second term plain of_term in
          let of_low = and_second a.is_plain low_plain is_plain in
          record {
            prio = and_first (int_lt b.prio a.prio) (term && plain) h;
            term = (bytes_eq-Decides a.term b.term).0 (and_first term plain of_term);
            high_plain = and_first a.is_plain low_plain is_plain;
            low_plain = and_first b.is_plain inside of_low;
            all = means.0 (and_second b.is_plain inside of_low);
          },
      λ c.
          and_true (int_lt b.prio a.prio) (term && plain) c.prio
          (and_true term plain ((bytes_eq-Decides a.term b.term).1 c.term)
          (and_true a.is_plain low_plain c.high_plain (and_true b.is_plain inside c.low_plain (means.1 c.all)))),
    )
