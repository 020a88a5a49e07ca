-- Each error among the findings of a program is broken.
use Rattle.std.proofs.Common.{◌≡◌, List, [], ◌++◌, true, false, Result, Ok, Err, map, refl, sym, ◌∙◌, subst}
use Rattle.std.specs.List.{All}
use Rattle.std.proofs.lemmas.List.Elements.{All-append, All-cons, All-map, All-weaker}
use Rattle.isle_base_source.specs.declared.pos.Pos.{Pos}
use Rattle.isle_ast.specs.Tree.{Definition}
use Rattle.isle_check_declarations.specs.Faults as declarations
use Rattle.isle_check_declarations.specs.TermFaults.{term_faults}
use Rattle.isle_check_declarations.specs.TypeFaults.{type_faults}
use Rattle.isle_check_declarations.specs.naming.Converters.{converter_faults}
use Rattle.isle_check_declarations.specs.naming.Externs.{extern_faults}
use Rattle.isle_check_declarations.specs.naming.Extractors.{extractor_faults}
use Rattle.isle_check_declarations.specs.naming.Roots.{root_faults}
use Rattle.isle_check_recursion.specs.Recursion.{RecursionNode, recursions}
use Rattle.isle_check_environment.specs.signatures.Environment.{environment}
use Rattle.isle_check_typing.specs.Faults as typing
use Rattle.isle_check_rules.specs.RuleFaults.{rule_faults}
use Rattle.isle_check_rules.specs.RuleTypes.{RulesTyping}
use Rattle.isle_check_overlaps.specs.Faults as overlapping
use Rattle.isle_check_matchings.specs.Matchings.{rule_overlaps}
use Rattle.isle_check_core.specs.Findings as kinds
use Rattle.isle_check_core.specs.Findings.{FindingNode, after_rules, endless_converters, finding, findings, is_error, later_findings, of_fault, of_faults, of_overlap, of_recursion, of_rule_fault, of_rules, root_errors, root_findings, rule_depth, rule_findings, warnings}
use Rattle.isle_check_laws.specs.BrokenConverters.{IsBrokenConverter}
use Rattle.isle_check_laws.specs.BrokenExterns.{IsBrokenExtern}
use Rattle.isle_check_laws.specs.BrokenExtractors.{IsBrokenExtractor}
use Rattle.isle_check_laws.specs.BrokenRecursions.{IsBrokenRecursion}
use Rattle.isle_check_laws.specs.BrokenRoots.{IsBrokenRoot}
use Rattle.isle_check_laws.specs.BrokenRules.{IsBrokenRule}
use Rattle.isle_check_laws.specs.BrokenTerms.{IsBrokenTerm}
use Rattle.isle_check_laws.specs.BrokenTypes.{IsBrokenType}
use Rattle.isle_check_laws.proofs.ConverterErrors.{converters_broken}
use Rattle.isle_check_laws.proofs.ExternErrors.{externs_broken}
use Rattle.isle_check_laws.proofs.ExtractorErrors.{extractors_broken}
use Rattle.isle_check_laws.proofs.RecursionErrors.{recursions_broken}
use Rattle.isle_check_laws.proofs.RootErrors.{roots_broken}
use Rattle.isle_check_laws.proofs.RuleErrors.{rules_broken}
use Rattle.isle_check_laws.proofs.TermErrors.{terms_broken}
use Rattle.isle_check_laws.proofs.TypeErrors.{types_broken}
use Rattle.isle_check_laws.specs.Broken as broken
use Rattle.isle_check_laws.specs.Broken.{IsBroken, terms_of}
use Rattle.isle_check_laws.specs.BrokenOverlaps.{IsBrokenOverlap}
use Rattle.isle_check_laws.proofs.Elements.{none_mapped}
use Rattle.isle_check_laws.proofs.Groups.{AreNoErrors, both_groups, first_group}
use Rattle.isle_check_laws.proofs.OverlapErrors.{at_rule, overlaps_broken}
use Rattle.isle_check_laws.proofs.TypedRules.{deep_rule_at, typed_rules_at}
use Rattle.isle_check_laws.proofs.Warnings.{converters_quiet, overlap_warnings_quiet, warnings_quiet}

module _ (ds : List Definition) where
  -- an error is broken
  abbrev IsRight : FindingNode → Type 0
  IsRight f = is_error f.kind ≡ true → IsBroken ds f.kind f.pos

  -- a warning is no error
  quiet : (fs : List FindingNode) → AreNoErrors fs → All IsRight fs
  quiet fs are = All-weaker (λ (f : FindingNode). is_error f.kind ≡ false) IsRight (λ f is_none is_one. absurd (let e : true ≡ false = sym is_one ∙ is_none in cc)) fs are

  declared : (Means : declarations.KindNode → Pos → Type 0) → ((kind : declarations.KindNode) (place : Pos) → Means kind place → IsBroken ds (kinds.declaration kind) place) →
      (fs : List declarations.FaultNode) → All (λ f. Means f.kind f.pos) fs → All IsRight (of_faults fs)
  declared Means says fs are =
      All-map IsRight of_fault fs
      (All-weaker (λ (f : declarations.FaultNode). Means f.kind f.pos) (λ f. IsRight (of_fault f)) (λ f means is_one. says f.kind f.pos means) fs are)

  overlap_right : (made : RulesTyping) → rule_faults rule_depth (environment ds) ds ≡ Ok made → (f : overlapping.FaultNode) →
      IsBrokenOverlap (terms_of ds) made.typed f.kind f.pos → IsRight (of_overlap f)
  overlap_right made is f means is_one =
      let typed = at_rule (terms_of ds) made.typed f.kind f.pos means in
      let rule = typed_rules_at rule_depth (environment ds) ds made is typed.0 typed.1 in
      let same : f.pos ≡ rule.0.pos = sym typed.2 ∙ rule.2 in
      subst (IsBroken ds (kinds.overlap f.kind)) (sym same)
      (broken.of_overlaps f.kind rule.0 made.typed rule.1 (made, is, refl)
      (subst (IsBrokenOverlap (terms_of ds) made.typed f.kind) same means))

  beside : (made : RulesTyping) → rule_faults rule_depth (environment ds) ds ≡ Ok made → All IsRight (after_rules (environment ds) made.typed ds)
  beside made is =
      let compared = rule_overlaps (terms_of ds) made.typed in
      let warned = warnings (environment ds) made.typed ds in
      first_group IsRight (map of_overlap compared.faults) (warned ++ map of_overlap compared.warnings)
      (All-map IsRight of_overlap compared.faults
      (All-weaker (λ (f : overlapping.FaultNode). IsBrokenOverlap (terms_of ds) made.typed f.kind f.pos) (λ f. IsRight (of_overlap f)) (overlap_right made is) compared.faults
      (overlaps_broken (terms_of ds) made.typed)))
      (λ none. All-append IsRight warned (map of_overlap compared.warnings) (quiet warned (warnings_quiet (environment ds) made.typed ds))
      (quiet (map of_overlap compared.warnings) (overlap_warnings_quiet (terms_of ds) made.typed)))

  of_result : (o : Result RulesTyping Pos) → rule_faults rule_depth (environment ds) ds ≡ o → All IsRight (of_rules (environment ds) ds o)
  of_result (Ok made) is =
      both_groups IsRight (map of_rule_fault made.faults) (after_rules (environment ds) made.typed ds)
      (All-map IsRight of_rule_fault made.faults
      (All-weaker (λ (f : typing.FaultNode). IsBrokenRule (environment ds) ds f.kind f.pos) (λ f. IsRight (of_rule_fault f))
      (λ f means is_one. broken.of_rules f.kind f.pos means) made.faults (rules_broken (environment ds) ds rule_depth made is)))
      (beside made is)
  of_result (Err place) is =
      let deep = deep_rule_at rule_depth (environment ds) ds place is in
      All-cons IsRight (finding kinds.deep_rule place) (endless_converters (environment ds) ds)
      (λ is_one. subst (IsBroken ds kinds.deep_rule) deep.3 (broken.of_depth deep.0 deep.1 deep.2))
      (quiet (endless_converters (environment ds) ds) (converters_quiet (environment ds) ds))

  module _ (right : term_faults ds ≡ []) where
    later_right : All IsRight (later_findings ds)
    later_right =
        first_group IsRight (of_faults (converter_faults ds)) _
        (declared (IsBrokenConverter ds) broken.of_converters (converter_faults ds) (converters_broken ds right))
        (λ none. first_group IsRight (of_faults (extern_faults ds)) (rule_findings ds)
        (declared (IsBrokenExtern ds) broken.of_externs (extern_faults ds) (externs_broken ds right))
        (λ none. of_result (rule_faults rule_depth (environment ds) ds) refl))

    roots_right : All IsRight (root_errors ds)
    roots_right =
        All-append IsRight (of_faults (root_faults ds)) _ (declared (IsBrokenRoot ds) broken.of_roots (root_faults ds) (roots_broken ds right))
        (All-append IsRight (of_faults (extractor_faults ds)) (map of_recursion (recursions ds))
        (declared (IsBrokenExtractor ds) broken.of_extractors (extractor_faults ds) (extractors_broken ds right))
        (All-map IsRight of_recursion (recursions ds)
        (All-weaker (λ (r : RecursionNode). IsBrokenRecursion ds r.path r.pos) (λ r. IsRight (of_recursion r))
        (λ r means is_one. broken.of_recursions r.path r.pos means) (recursions ds) (recursions_broken ds))))

    root_right : All IsRight (root_findings ds)
    root_right = first_group IsRight (root_errors ds) (later_findings ds) roots_right (λ none. later_right)

  pub errors_broken : All IsRight (findings ds)
  errors_broken =
      first_group IsRight (of_faults (type_faults ds)) _ (declared (IsBrokenType ds) broken.of_types (type_faults ds) (types_broken ds))
      (λ none. first_group IsRight (of_faults (term_faults ds)) (root_findings ds)
      (declared (IsBrokenTerm ds) broken.of_terms (term_faults ds) (terms_broken ds))
      (λ empty. root_right (none_mapped of_fault (term_faults ds) empty)))
