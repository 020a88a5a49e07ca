use Rattle.std.proofs.Common.{List, ap, map, subst, sym, ◌∙◌, ◌∷◌, []}
use Rattle.std.proofs.lemmas.List.{map-append}
use Rattle.isle_base_source.specs.Source.{Source}
use Rattle.isle_cli.specs.Sources.{source_of}
use Rattle.isle_lint.specs.Linted.{found_of, linted_of}
use Rattle.isle_lint.specs.Programs.{IsToldIn}
use Rattle.isle_program_findings.specs.Programs.{own}
use Rattle.isle_lint.proofs.programs.add_linted.Goals as goal

pub returns-clause-ok : goal.returns-clause-ok
returns-clause-ok c =
    let sources = map source_of c.args.sources.now in
    let told = map found_of c.in_ok-told.told.items in
    let P : List Source → Type 0 = λ ss. IsToldIn c.args.lints.now ss told in
    let texts = ap (map source_of) c.deref-2.ensures.value ∙ (c.in_ok-own.ensures ∙ ap (λ h. own h 0 sources) c.deref.ensures.value) in
    record {
      told = told;
      is_told = subst P texts c.in_ok-told.ensures.ok;
      grown = ap (map linted_of) c.in_ok-push.ensures.items ∙ map-append linted_of c.args.linted.now.items _;
    }
