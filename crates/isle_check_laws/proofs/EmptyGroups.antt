-- Where none of the findings is an error, no group has one, and the other way round.
use Rattle.std.proofs.Common.{◌≡◌, List, [], ◌++◌, true, false, Result, Ok, Err, map, refl, ap, sym, ◌∙◌, subst}
use Rattle.std.proofs.lemmas.List.Elements.{All-append, All-contains, All-map, All-weaker}
use Rattle.isle_base_source.specs.declared.pos.Pos.{Pos}
use Rattle.isle_ast.specs.Tree.{Definition}
use Rattle.isle_check_declarations.specs.TermFaults.{term_faults}
use Rattle.isle_check_declarations.specs.TypeFaults.{type_faults}
use Rattle.isle_check_declarations.specs.naming.Converters.{converter_faults}
use Rattle.isle_check_declarations.specs.naming.Externs.{extern_faults}
use Rattle.isle_check_declarations.specs.naming.Extractors.{extractor_faults}
use Rattle.isle_check_declarations.specs.naming.Roots.{root_faults}
use Rattle.isle_check_recursion.specs.Recursion.{recursions}
use Rattle.isle_check_environment.specs.signatures.Environment.{environment}
use Rattle.isle_check_rules.specs.RuleFaults.{rule_faults}
use Rattle.isle_check_rules.specs.RuleTypes.{RulesTyping}
use Rattle.isle_check_rules.specs.TypedRules.{TypedRuleNode}
use Rattle.isle_check_overlaps.specs.Faults as overlapping
use Rattle.isle_check_matchings.specs.Asks.{TermsNode}
use Rattle.isle_check_matchings.specs.Matchings.{rule_overlaps}
use Rattle.isle_check_core.specs.Findings.{FindingNode, after_rules, findings, has_error, is_error, is_overlap_error, is_rule_error, later_findings, of_fault, of_faults, of_overlap, of_recursion, of_rule_fault, of_rules, or_next, root_errors, root_findings, rule_depth, rule_findings, warnings, with_later}
use Rattle.isle_check_laws.proofs.Lists.{both_empty, mapped}
use Rattle.isle_check_laws.specs.Broken.{terms_of}
use Rattle.isle_check_laws.specs.BrokenOverlaps as broken
use Rattle.isle_check_laws.specs.BrokenOverlaps.{IsBrokenOverlap}
use Rattle.isle_check_laws.specs.NoErrors.{AreRulesRight, HasNoError}
use Rattle.isle_check_laws.proofs.Elements.{everyone, none_mapped}
use Rattle.isle_check_laws.proofs.Groups.{AreErrors, AreNoErrors, are_no_errors, faults_are_errors, group_empty, later_passed, no_later_error}
use Rattle.isle_check_laws.proofs.OverlapErrors.{overlaps_broken}
use Rattle.isle_check_laws.proofs.Warnings.{overlap_warnings_quiet, warnings_quiet}

abbrev IsError : FindingNode → Type 0
IsError f = is_error f.kind ≡ true

abbrev IsNone : FindingNode → Type 0
IsNone f = is_error f.kind ≡ false

kind_is_error : (k : TermsNode) (rs : List TypedRuleNode) (kind : overlapping.KindNode) (place : Pos) → IsBrokenOverlap k rs kind place → is_overlap_error kind ≡ true
kind_is_error k rs _ _ (broken.two_constraints _ _ _ _ _ _ _ _) = refl
kind_is_error k rs _ _ (broken.unequal_constraints _ _ _) = refl
kind_is_error k rs _ _ (broken.overlaps _ _ _ _ _ _) = refl
kind_is_error k rs _ _ (broken.shadows _ _ _ _ _ _) = refl

overlaps_are_errors : (k : TermsNode) (rs : List TypedRuleNode) → AreErrors (map of_overlap (rule_overlaps k rs).faults)
overlaps_are_errors k rs =
    All-map IsError of_overlap (rule_overlaps k rs).faults
    (All-weaker (λ (f : overlapping.FaultNode). IsBrokenOverlap k rs f.kind f.pos) (λ f. IsError (of_overlap f)) (λ f means. kind_is_error k rs f.kind f.pos means)
    (rule_overlaps k rs).faults (overlaps_broken k rs))

roots_are_errors : (ds : List Definition) → AreErrors (root_errors ds)
roots_are_errors ds =
    All-append IsError (of_faults (root_faults ds)) _ (faults_are_errors (root_faults ds))
    (All-append IsError (of_faults (extractor_faults ds)) (map of_recursion (recursions ds)) (faults_are_errors (extractor_faults ds))
    (All-map IsError of_recursion (recursions ds) (everyone (λ r. IsError (of_recursion r)) (recursions ds) (λ r in_rs. refl))))

module _ (ds : List Definition) where
  right_by : (o : Result RulesTyping Pos) → rule_faults rule_depth (environment ds) ds ≡ o → has_error (of_rules (environment ds) ds o) ≡ false → AreRulesRight ds
  right_by (Err place) is none = cc
  right_by (Ok made) is none =
      let parts = no_later_error (map of_rule_fault made.faults) (after_rules (environment ds) made.typed ds) none in
      let compared = rule_overlaps (terms_of ds) made.typed in
      let beside = group_empty (map of_overlap compared.faults) (warnings (environment ds) made.typed ds ++ map of_overlap compared.warnings)
      (overlaps_are_errors (terms_of ds) made.typed) parts.1 in
      record {
        made = made;
        not_deep = is;
        no_error = everyone (λ f. is_rule_error f.kind ≡ false) made.faults
            (λ f in_fs. All-contains IsNone (map of_rule_fault made.faults) (of_rule_fault f) (are_no_errors (map of_rule_fault made.faults) parts.0)
            (mapped of_rule_fault made.faults f in_fs));
        no_overlap = none_mapped of_overlap compared.faults beside.0;
      }

  pub every_group_empty : has_error (findings ds) ≡ false → HasNoError ds
  every_group_empty none =
      let types = group_empty (of_faults (type_faults ds)) (or_next (of_faults (term_faults ds)) (root_findings ds)) (faults_are_errors (type_faults ds)) none in
      let terms = group_empty (of_faults (term_faults ds)) (root_findings ds) (faults_are_errors (term_faults ds)) types.1 in
      let roots = group_empty (root_errors ds) (later_findings ds) (roots_are_errors ds) terms.1 in
      let own = both_empty (of_faults (root_faults ds)) (of_faults (extractor_faults ds) ++ map of_recursion (recursions ds)) roots.0 in
      let extractors = both_empty (of_faults (extractor_faults ds)) (map of_recursion (recursions ds)) own.1 in
      let converters = group_empty (of_faults (converter_faults ds)) (or_next (of_faults (extern_faults ds)) (rule_findings ds)) (faults_are_errors (converter_faults ds)) roots.1 in
      let externs = group_empty (of_faults (extern_faults ds)) (rule_findings ds) (faults_are_errors (extern_faults ds)) converters.1 in
      record {
        types = none_mapped of_fault (type_faults ds) types.0;
        terms = none_mapped of_fault (term_faults ds) terms.0;
        roots = none_mapped of_fault (root_faults ds) own.0;
        extractors = none_mapped of_fault (extractor_faults ds) extractors.0;
        no_recursion = none_mapped of_recursion (recursions ds) extractors.1;
        converters = none_mapped of_fault (converter_faults ds) converters.0;
        externs = none_mapped of_fault (extern_faults ds) externs.0;
        rules = right_by (rule_faults rule_depth (environment ds) ds) refl externs.1;
      }

  roots_empty : HasNoError ds → root_errors ds ≡ []
  roots_empty h =
      ap (λ fs. of_faults fs ++ (of_faults (extractor_faults ds) ++ map of_recursion (recursions ds))) h.roots
      ∙ (ap (λ fs. of_faults fs ++ map of_recursion (recursions ds)) h.extractors ∙ ap (λ rs. map of_recursion rs) h.no_recursion)

  -- then what is found is what is found of rules
  pub rules_alone : (h : HasNoError ds) → findings ds ≡ with_later (map of_rule_fault h.rules.made.faults) (after_rules (environment ds) h.rules.made.typed ds)
  rules_alone h =
      ap (λ fs. or_next (of_faults fs) (or_next (of_faults (term_faults ds)) (root_findings ds))) h.types
      ∙ (ap (λ fs. or_next (of_faults fs) (root_findings ds)) h.terms
      ∙ (ap (λ g. or_next g (later_findings ds)) (roots_empty h)
      ∙ (ap (λ fs. or_next (of_faults fs) (or_next (of_faults (extern_faults ds)) (rule_findings ds))) h.converters
      ∙ (ap (λ fs. or_next (of_faults fs) (rule_findings ds)) h.externs ∙ ap (λ o. of_rules (environment ds) ds o) h.rules.not_deep))))

  pub no_error_told : HasNoError ds → has_error (findings ds) ≡ false
  no_error_told h =
      let made = h.rules.made in
      let compared = rule_overlaps (terms_of ds) made.typed in
      let warned = warnings (environment ds) made.typed ds ++ map of_overlap compared.warnings in
      let none_beside : after_rules (environment ds) made.typed ds ≡ warned = ap (λ fs. or_next (map of_overlap fs) warned) h.rules.no_overlap in
      ap has_error (rules_alone h)
      ∙ later_passed (map of_rule_fault made.faults) (after_rules (environment ds) made.typed ds) (All-map IsNone of_rule_fault made.faults h.rules.no_error)
      (subst AreNoErrors (sym none_beside)
      (All-append IsNone (warnings (environment ds) made.typed ds) (map of_overlap compared.warnings) (warnings_quiet (environment ds) made.typed ds)
      (overlap_warnings_quiet (terms_of ds) made.typed)))
