use Rattle.std.proofs.Common.{[], sym, ap, ◌∙◌, map}
use Rattle.std.specs.Option.{option_map}
use Rattle.toml.specs.View.{table_view}
use Rattle.isle_program_manifest.specs.Manifest.{name_twice, program_of}
use Rattle.isle_program_manifest.specs.Mistakes.{mistake_of}
use Rattle.isle_program_manifest.proofs.ManifestLemmas.{first_in_names, first_in_value, refused_for}
use Rattle.isle_program_manifest.proofs.manifest.manifest_of.Goals as goal

pub returns-in-Some-clause-err : goal.returns-in-Some-clause-err
returns-in-Some-clause-err c =
    let value = table_view c.in-Ok.table in
    let first = mistake_of c.in-Some.mistake in
    let found = first_in_value value first (sym c.mistake_in.ensures ∙ ap (option_map mistake_of) c.in-Some.is) in
    refused_for c.args.text.now value first c.fault_of.result c.in-Ok.ensures.ok found c.fault_of.ensures

pub returns-in-Some-name_twice-clause-err : goal.returns-in-Some-name_twice-clause-err
returns-in-Some-name_twice-clause-err c =
    let value = table_view c.in-Ok.table in
    let first = mistake_of c.in-Some-name_twice.mistake in
    let right = sym c.mistake_in.ensures ∙ ap (option_map mistake_of) c.in_default.is in
    let names = ap (λ xs. name_twice [] (map program_of xs)) c.deref.ensures.value ∙ ap (name_twice []) c.in_ok-programs.ensures in
    let found = first_in_names value first right (sym names ∙ (sym c.name_twice.ensures ∙ ap (option_map mistake_of) c.in-Some-name_twice.is)) in
    refused_for c.args.text.now value first c.fault_of-in-Some-name_twice.result c.in-Ok.ensures.ok found c.fault_of-in-Some-name_twice.ensures
