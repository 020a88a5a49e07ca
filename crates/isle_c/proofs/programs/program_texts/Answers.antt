use Rattle.std.proofs.Common.{◌≡◌, length, sym, ◌∙◌}
use Rattle.std.specs.List.{sum}
use Rattle.std.proofs.lemmas.Bool.{eqb-true}
use Rattle.std.proofs.lemmas.Result.{IfErr-weaker, on_ok_weaker}
use Rattle.isle_c.specs.Programs.{IsProgramFailure, IsTextsFailure, parts}
use Rattle.isle_c.proofs.StatusLemmas.{texts_failure}
use Rattle.isle_c.proofs.programs.program_texts.Goals as goal

pub texts_of-requires : goal.texts_of-requires
texts_of-requires c = eqb-true (sum c.args.lengths.now) (length c.args.bytes.now) (sym c.add_up.ensures ∙ c.if-not-add_up.false)

pub returns-clause-add_up : goal.returns-clause-add_up
returns-clause-add_up c =
    let same : sum c.args.lengths.now ≡ length c.args.bytes.now = eqb-true (sum c.args.lengths.now) (length c.args.bytes.now) (sym c.add_up.ensures ∙ c.if-not-add_up.false) in
    on_ok_weaker c.texts_of.result (λ _. same) c.texts_of.ensures.utf8

pub returns-clause-err : goal.returns-clause-err
returns-clause-err c =
    let lengths = c.args.lengths.now in
    let bytes = c.args.bytes.now in
    let same : sum lengths ≡ length bytes = eqb-true (sum lengths) (length bytes) (sym c.add_up.ensures ∙ c.if-not-add_up.false) in
    IfErr-weaker c.texts_of.result (IsTextsFailure (parts lengths bytes)) (IsProgramFailure lengths bytes) (λ why said. texts_failure lengths bytes why same said) c.texts_of.ensures.err
