use Rattle.std.proofs.Common.{List, ap, map, subst, ◌∙◌}
use Rattle.std.proofs.lemmas.List.{map-append}
use Rattle.isle_base_source.specs.Source.{Source}
use Rattle.isle_cli.specs.Arguments.{given_of}
use Rattle.isle_cli.specs.Sources.{source_of}
use Rattle.isle_check.specs.Programs.{IsToldIn, checked_of}
use Rattle.isle_check.specs.ReportView.{told_node}
use Rattle.isle_program_findings.specs.Programs.{own}
use Rattle.isle_check.proofs.programs.add_checked.Goals as goal

pub returns-clause-ok : goal.returns-clause-ok
returns-clause-ok c =
    let sources = map source_of c.args.sources.now in
    let told = map told_node c.in_ok-told.told.items in
    let P : List Source → Type 0 = λ ss. IsToldIn (map given_of c.args.arguments.now) ss told in
    let texts = ap (map source_of) c.deref-2.ensures.value ∙ (c.in_ok-own.ensures ∙ ap (λ h. own h 0 sources) c.deref.ensures.value) in
    record {
      told = told;
      is_told = subst P texts c.in_ok-told.ensures.ok;
      grown = ap (map checked_of) c.in_ok-push.ensures.items ∙ map-append checked_of c.args.checked.now.items _;
    }
