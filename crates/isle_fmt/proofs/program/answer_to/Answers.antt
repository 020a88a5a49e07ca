use Rattle.std.proofs.Common.{rules, tests}
use Rattle.isle_fmt.proofs.program.answer_to.Goals as goal

pub returns-in_ok-diagnostic-in-Err-Error-clause-err :
    goal.returns-in_ok-diagnostic-in-Err-Error-clause-err
returns-in_ok-diagnostic-in-Err-Error-clause-err c =
    let said = rw c.in-Err-Error.field-0-is at c.in-Err-Error.ensures.refused in
    (said.0, (c.in-Err-Error.error, said.1, c.in_ok-diagnostic-in-Err-Error.ensures))

pub returns-in-Ok-clause-ok : goal.returns-in-Ok-clause-ok
returns-in-Ok-clause-ok c =
    let of = c.in-Ok.ensures in
    let tree = of.spelt.0 in
    let spelt = of.spelt.1 in
    record {
      tree = tree;
      spelt = spelt;
      only = of.only tree spelt;
      printed = of.printed tree spelt;
      read_back = of.read_back tree spelt;
      equal_prints = of.equal_prints tree spelt;
      short_lines = of.short_lines;
      fewer_lines = of.fewer_lines tree spelt;
      other_widths = of.other_widths tree spelt;
    }

pub returns-in-Err-Memory-clause-err : goal.returns-in-Err-Memory-clause-err
returns-in-Err-Memory-clause-err c = search (tests, rules)
