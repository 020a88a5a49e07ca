use Rattle.std.proofs.Common.{rules, tests}
use Rattle.std.proofs.Common.{◌∙◌, sym}
use Rattle.isle_c.proofs.StatusLemmas.{refused_refusal}
use Rattle.isle_c.proofs.isle_c_check.Goals as goal
use Rattle.isle_c.proofs.isle_c_check.Goals.{in-Ok, in-Err}

pub returns-clause-refused : goal.returns-clause-refused
returns-clause-refused c =
    elim c.match-refused.branch [
      | in-Ok w ↦ λ is. w.in-Ok.ensures.ok.1
      | in-Err w ↦ λ is. refused_refusal c.args.text.now w.in-Err.why w.in-Err.ensures.err (sym w.status.ensures ∙ sym w.result-is ∙ is)
    ]

pub returns-clause-accepted : goal.returns-clause-accepted
returns-clause-accepted c = search (tests, rules)
