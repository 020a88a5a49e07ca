use Rattle.std.proofs.Common.{List, ap, map, subst, ◌∙◌, rules, tests}
use Rattle.std.specs.List.Sorted.{IsPermutation}
use Rattle.std.proofs.lemmas.List.Sorted.{IsPermutation-map}
use Rattle.std.proofs.lemmas.Result.{IfOk-weaker}
use Rattle.isle_cli.specs.Arguments.{given_of}
use Rattle.isle_cli.specs.Sources.{source_of}
use Rattle.isle_lint_core.specs.Finding.{Found, finding_of}
use Rattle.isle_lint.specs.Linted.{linted_of}
use Rattle.isle_lint.specs.Report.{report_in}
use Rattle.isle_lint.proofs.programs.report_on_linted.Goals as goal

pub returns : goal.returns
returns c =
    let P : List Found → Type 0 = λ fs. IsPermutation fs (map finding_of c.sort.new.self.items) in
    IfOk-weaker c.report_in.result _ _
    (λ report is. record {
      found = c.sort.new.self.items;
      exact = subst P c.in_ok-found.ensures (IsPermutation-map finding_of c.in_ok-found.found.items c.sort.new.self.items c.in_ok-sort.ensures.permutation);
      in_order = search (tests, rules);
      is = is ∙ ap (λ fs. report_in (map given_of c.args.arguments.now) (map linted_of c.args.linted.now) (map source_of c.args.sources.now) c.args.refusals.now (map finding_of fs)) c.deref.ensures.value;
    })
    c.report_in.ensures
