-- What is shown of a reading, from what its parts say.
use Rattle.std.proofs.Common.{◌≡◌, ℕ, ◌+◌, ◌<◌, ◌≤◌, List, [], ◌∷◌, ◌++◌, Bool, true, false, cond, Option, length, get_or, drop, map, refl, sym, ap, subst, ◌∙◌, append_assoc}
use Rattle.std.proofs.lemmas.List.{append-nil, at_drop_more, drop_all, drop_more}
use Rattle.std.specs.List.Sorted.{IsPermutation}
use Rattle.isle_base_source.specs.Source.{Source}
use Rattle.isle_base_source.specs.declared.error.Error.{Error}
use Rattle.isle_ast.specs.TreeView.{definitions_of}
use Rattle.isle_ast.specs.declared.ast.Def.{Def}
use Rattle.isle_lint_core.specs.Finding.{Found, finding_of}
use Rattle.isle_lint_core.specs.Findings.{findings_in}
use Rattle.isle_lint_core.specs.declared.finding.Finding.{Finding}
use Rattle.isle_lint_core.specs.declared.lint.Lint.{Lint}
use Rattle.isle_cli.specs.Arguments.{Given}
use Rattle.isle_cli.specs.Sources.{source_of}
use Rattle.isle_cli.specs.declared.sources.Source as source_code
use Rattle.isle_lint.specs.Report.{AddsTold, AreTold, is_told, kept_if, report_in, told_in}
use Rattle.isle_program.specs.Allowances.{Allowance, AreAllowances}
use Rattle.isle_program_findings.specs.ReportView.{ReportNode}

-- the report on refusals and findings, in other words
pub reported-as : (given : List Given) (sources : List Source) (refused refusals : List (Option Error)) (found all : List Found) (report : ReportNode) →
    refused ≡ refusals → found ≡ all → report ≡ report_in given [] sources refused found → report ≡ report_in given [] sources refusals all
reported-as given sources refused refusals found all report same told is =
    is ∙ ap (λ r. report_in given [] sources r found) same ∙ ap (λ fs. report_in given [] sources refusals fs) told

pub found-as : (lints : List Lint) (defs own : List Def) (found : List Found) → defs ≡ own →
    IsPermutation (findings_in lints (definitions_of defs)) found → IsPermutation (findings_in lints (definitions_of own)) found
found-as lints defs own found mine exact =
    let In : List Def → Type 0 = λ ds. IsPermutation (findings_in lints (definitions_of ds)) found in
    subst In mine exact

kept-cond : (b : Bool) (f : Found) (fs : List Found) → kept_if b f ++ fs ≡ cond b (f ∷ fs) fs
kept-cond true f fs = refl
kept-cond false f fs = refl

-- what is told of the findings to come, one finding on
pub told-step : (file : ℕ) (allowances : List Allowance) (old new found : List Finding) (i : ℕ) (d : Finding) (tells : Bool) →
    i < length found → tells ≡ is_told file allowances (finding_of (get_or found i d)) →
    map finding_of new ≡ map finding_of old ++ kept_if tells (finding_of (get_or found i d)) →
    map finding_of new ++ told_in file allowances (map finding_of (drop (i + 1) found)) ≡ map finding_of old ++ told_in file allowances (map finding_of (drop i found))
told-step file allowances old new found i d tells within judged adds =
    let x : Finding = get_or found i d in
    let rest : List Found = told_in file allowances (map finding_of (drop (i + 1) found)) in
    let before : List Found = map finding_of old in
    ap (λ fs. fs ++ rest) adds
    ∙ append_assoc before (kept_if tells (finding_of x)) rest
    ∙ ap (λ b. before ++ (kept_if b (finding_of x) ++ rest)) judged
    ∙ ap (λ fs. before ++ fs) (kept-cond (is_told file allowances (finding_of x)) (finding_of x) rest)
    ∙ sym (at_drop_more (λ xs. before ++ told_in file allowances (map finding_of xs)) found i d within)

-- what is told of the files up to one, and of those to come
abbrev pub Goes-on : (file : ℕ) → List source_code.Source → List Found → (told : List Found) → Type 0
Goes-on file sources found told =
    (more : List Found) → AreTold file (map source_of (drop file sources)) found more → AreTold 0 (map source_of sources) found (told ++ more)

-- one file on
pub told-file : (file : ℕ) (sources : List source_code.Source) (x : source_code.Source) (found old new : List Found) →
    file < length sources → x ≡ get_or sources file x → AddsTold file (source_of x) found old new →
    Goes-on file sources found old → Goes-on (file + 1) sources found new
told-file file sources x found old new within is adds so_far more rest =
    let here : List Found = told_in file adds.0 found in
    let begins : AreTold file (map source_of (drop file sources)) found (here ++ more) =
    subst (λ ss. AreTold file (map source_of ss) found (here ++ more)) (sym (drop_more sources file x within)) (adds.0, more, subst (λ y. AreAllowances (source_of y).text adds.0) is adds.1, rest, refl) in
    subst (AreTold 0 (map source_of sources) found) (sym (append_assoc old here more) ∙ ap (λ fs. fs ++ more) (sym adds.2)) (so_far (here ++ more) begins)

-- after the last file
pub told-all : (file : ℕ) (sources : List source_code.Source) (found told : List Found) → length sources ≤ file → Goes-on file sources found told →
    AreTold 0 (map source_of sources) found told
told-all file sources found told past so_far =
    let none : AreTold file (map source_of (drop file sources)) found [] =
    subst (λ ss. AreTold file (map source_of ss) found []) (sym (drop_all file sources past)) refl in
    subst (AreTold 0 (map source_of sources) found) (append-nil told) (so_far [] none)
