use Rattle.std.proofs.Common.{◌≡◌, ◌++◌, drop}
use Rattle.isle_ast_names.specs.TreeView.{name_of}
use Rattle.isle_ast_rules.specs.TermHeads.{list_heads}
use Rattle.isle_ast_rules.specs.TreeView.{pattern_list_of, patterns_of}
use Rattle.isle_check_declarations.specs.Views.{faults_of, term_in}
use Rattle.isle_check_declarations.specs.naming.Extractors.{unknown_terms}
use Rattle.isle_check_declarations.proofs.naming.templates.+unknown_terms.Given as goal

abbrev pub invariant-add_unknown_terms_of-loop-pattern : goal.invariant-add_unknown_terms_of-loop-pattern
invariant-add_unknown_terms_of-loop-pattern l =
    faults_of l.found.items
    ++ unknown_terms (term_in l.terms) (name_of l.extractor) (list_heads (pattern_list_of (patterns_of (drop l.pattern-index l.pattern-items))))
    ≡ faults_of l.fn.found.items
    ++ unknown_terms (term_in l.terms) (name_of l.extractor) (list_heads (pattern_list_of (patterns_of l.pattern-items)))
