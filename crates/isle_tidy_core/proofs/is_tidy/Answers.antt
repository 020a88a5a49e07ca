use Rattle.std.proofs.Common.{◌≡◌, true, false, eqb, length, string_bytes, Ok, ap, sym, subst}
use Rattle.std.proofs.lemmas.Bool.{both_ways, eq-eqb, eqb-true}
use Rattle.isle_tidy_core.specs.Streams.{PutsMore, PutsLast}
use Rattle.isle_tidy_core.proofs.Comparing.{compared_more, compared_other, compared_smaller, compared_all, compared_short, compared_past}
use Rattle.isle_tidy_core.proofs.is_tidy.Goals as goal

pub returns-in-None-clause-untidy : goal.returns-in-None-clause-untidy
returns-in-None-clause-untidy c = λ _.
    let more = subst (PutsMore c.loop-part.tidying c.put_some.new.self (string_bytes c.loop-part.part)) (sym c.as_str.ensures.value) (c.put_some.ensures.more (cc)) in
    compared_other c.args.text.now c.loop-part.at c.loop-part.tidying c.put_some.new.self (string_bytes c.loop-part.part) c.as_str.result.now
    c.loop-part.invariant.0 c.loop-part.invariant.1 more (c.in-None.ensures.none (cc))

pub loop-part-smaller : goal.loop-part-smaller
loop-part-smaller c =
    compared_smaller c.args.text.now c.loop-part.at c.loop-part.tidying c.put_some.new.self (string_bytes c.loop-part.part) (string_bytes c.put_some.new.out)
    c.loop-part.invariant.0 (c.put_some.ensures.more (cc)) (c.put_some.ensures.moves (cc))

pub returns-in-Some-goes_on-clause-tidy : goal.returns-in-Some-goes_on-clause-tidy
returns-in-Some-goes_on-clause-tidy c = λ h.
    let last = subst (PutsLast c.loop-part.tidying (string_bytes c.loop-part.part)) (sym c.as_str-2.ensures.value) (c.in_ok-put_some.ensures.last (ap Ok c.if-branch.false)) in
    let whole : eqb c.in-Some-goes_on.end (length c.args.text.now) ≡ true = cc in
    compared_all c.args.text.now c.loop-part.at c.in-Some-goes_on.end c.loop-part.tidying (string_bytes c.loop-part.part) c.as_str-2.result.now
    c.loop-part.invariant.0 c.loop-part.invariant.1 last c.in-Some-goes_on.ensures.some.1 (eqb-true c.in-Some-goes_on.end (length c.args.text.now) whole)

pub returns-in-Some-goes_on-clause-untidy : goal.returns-in-Some-goes_on-clause-untidy
returns-in-Some-goes_on-clause-untidy c = λ h.
    let last = subst (PutsLast c.loop-part.tidying (string_bytes c.loop-part.part)) (sym c.as_str-2.ensures.value) (c.in_ok-put_some.ensures.last (ap Ok c.if-branch.false)) in
    let less : eqb c.in-Some-goes_on.end (length c.args.text.now) ≡ false = cc in
    compared_short c.args.text.now c.loop-part.at c.in-Some-goes_on.end c.loop-part.tidying (string_bytes c.loop-part.part) c.as_str-2.result.now
    c.loop-part.invariant.0 c.loop-part.invariant.1 last c.in-Some-goes_on.ensures.some.0 c.in-Some-goes_on.ensures.some.1
    (λ e. both_ways (eqb c.in-Some-goes_on.end (length c.args.text.now)) less (eq-eqb c.in-Some-goes_on.end (length c.args.text.now) e))

pub returns-clause-untidy : goal.returns-clause-untidy
returns-clause-untidy c = λ _.
    let last = subst (PutsLast c.loop-part.tidying (string_bytes c.loop-part.part)) (sym c.as_str-2.ensures.value) (c.in_ok-put_some.ensures.last (ap Ok c.if-branch.false)) in
    compared_past c.args.text.now c.loop-part.at c.loop-part.tidying (string_bytes c.loop-part.part) c.as_str-2.result.now
    c.loop-part.invariant.0 c.loop-part.invariant.1 last (c.in-None-goes_on.ensures.none (cc))

pub loop-part-preserved : goal.loop-part-preserved
loop-part-preserved c =
    let more = subst (PutsMore c.loop-part.tidying c.put_some.new.self (string_bytes c.loop-part.part)) (sym c.as_str.ensures.value) (c.put_some.ensures.more (cc)) in (
      compared_more c.args.text.now c.loop-part.at c.in-Some.next c.loop-part.tidying c.put_some.new.self (string_bytes c.loop-part.part) c.as_str.result.now
          c.loop-part.invariant.0 c.loop-part.invariant.1 more c.in-Some.ensures.some.0 c.in-Some.ensures.some.1,
      c.clear.ensures.bytes,
    )
