-- An extractor whose term is known.
use Rattle.std.proofs.Common.{◌≡◌, ℕ, List, [], ◌∷◌, ◌++◌, false, cond, ap, ◌∙◌, append_assoc}
use Rattle.isle_ast_names.specs.Tree.{Name}
use Rattle.isle_ast_rules.specs.TermHeads.{heads}
use Rattle.isle_ast_rules.specs.Tree.{ExtractorDefinition}
use Rattle.isle_check_declarations.specs.Faults.{FaultNode, extractor_unknown, fault}
use Rattle.isle_check_declarations.specs.Terms.{TermNode, is_unknown}
use Rattle.isle_check_declarations.specs.naming.Extractors.{unknown_terms, with_template, with_template_of, wrong_extractor, wrong_term}

pub known-template : (terms : List ℕ → TermNode) (earlier : List Name) (x : ExtractorDefinition) (t : TermNode) →
    false ≡ is_unknown (terms x.term.text) → t ≡ terms x.term.text → with_template_of t earlier x ≡ with_template terms earlier x
known-template terms earlier x t known its =
    ap (λ u. with_template_of u earlier x) its
    ∙ ap (λ b. cond b earlier (with_template_of (terms x.term.text) earlier x)) known

pub known-faults : (terms : List ℕ → TermNode) (earlier : List Name) (x : ExtractorDefinition) (t : TermNode) (found later all : List FaultNode) →
    false ≡ is_unknown (terms x.term.text) → t ≡ terms x.term.text → later ≡ found ++ unknown_terms terms x.term (heads x.template) →
    all ≡ later ++ wrong_term t earlier x → all ≡ found ++ wrong_extractor terms earlier x
known-faults terms earlier x t found later all known its uses adds =
    let unknown : List FaultNode = unknown_terms terms x.term (heads x.template) in
    let wrong : List FaultNode = wrong_term (terms x.term.text) earlier x in
    adds
    ∙ ap (λ u. later ++ wrong_term u earlier x) its
    ∙ ap (λ fs. fs ++ wrong) uses
    ∙ append_assoc found unknown wrong
    ∙ ap (λ b. found ++ cond b (fault (extractor_unknown x.term) x.pos ∷ []) (unknown ++ wrong)) known
