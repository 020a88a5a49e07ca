-- What is collected of a pattern are its terms.
use Rattle.std.proofs.Common.{◌≡◌, ◌<◌, ℕ, ◌+◌, List, [], ◌∷◌, ◌++◌, length, get_or, drop, ap, sym, ◌∙◌, append_assoc}
use Rattle.std.proofs.lemmas.List.{append-nil, map-append}
use Rattle.isle_ast_names.specs.TreeView.{name_of}
use Rattle.isle_ast_rules.specs.declared.Pattern.{Pattern}
use Rattle.isle_ast_rules.specs.Tree.{PatternNode, var_pattern, bind_pattern, bool_pattern, int_pattern, constant_pattern, term_pattern, wildcard_pattern, and_pattern, macro_arg_pattern, PatternList, no_pattern, more_pattern}
use Rattle.isle_ast_rules.specs.TreeView.{pattern_of, pattern_list_of, patterns_of}
use Rattle.isle_expand_core.specs.declared.mentions.TermUse.{TermUse as CodeUse}
use Rattle.isle_expand_core.specs.Collected.{collected, root_collected, list_collected, with_term}
use Rattle.isle_expand_core.specs.Expansion.{list_list}
use Rattle.isle_expand_core.specs.Mentions.{TermUse, root_uses, list_uses, uses}
use Rattle.isle_expand_core.specs.Views.{use_of, uses_of}
use Rattle.isle_expand_core.proofs.Lists.{list_listed}
use Rattle.isle_expand_core.proofs.Steps.{view_more}

mutual
  pub collected_uses : (p : PatternNode) (us : List TermUse) → collected p us ≡ us ++ uses p
  collected_uses (var_pattern _ _) us = sym (append-nil us)
  collected_uses (bind_pattern _ subpat _) us = collected_uses subpat us
  collected_uses (bool_pattern _ _) us = sym (append-nil us)
  collected_uses (int_pattern _ _) us = sym (append-nil us)
  collected_uses (constant_pattern _ _) us = sym (append-nil us)
  collected_uses (term_pattern term args place) us =
      list_collected_uses args (with_term us term args place)
      ∙ append_assoc us (record { term = term; given = length (list_list args); pos = place } ∷ []) (list_uses args)
  collected_uses (wildcard_pattern _) us = sym (append-nil us)
  collected_uses (and_pattern subpats _) us = list_collected_uses subpats us
  collected_uses (macro_arg_pattern _ _) us = sym (append-nil us)

  pub list_collected_uses : (ps : PatternList) (us : List TermUse) → list_collected ps us ≡ us ++ list_uses ps
  list_collected_uses no_pattern us = sym (append-nil us)
  list_collected_uses (more_pattern p ps) us =
      list_collected_uses ps (collected p us) ∙ ap (λ vs. vs ++ list_uses ps) (collected_uses p us) ∙ append_assoc us (uses p) (list_uses ps)

pub root_collected_uses : (p : PatternNode) (us : List TermUse) → root_collected p us ≡ us ++ root_uses p
root_collected_uses (term_pattern term args place) us = list_collected_uses args us
root_collected_uses _ us = sym (append-nil us)

-- a term more
pub term_pushed : (found later : List CodeUse) (u : CodeUse) (ps : List PatternNode) → later ≡ found ++ (u ∷ []) → u.given ≡ length ps →
    uses_of later ≡ with_term (uses_of found) (name_of u.term.now) (pattern_list_of ps) u.pos
term_pushed found later u ps grown count =
    ap uses_of grown ∙ map-append use_of found (u ∷ [])
    ∙ ap (λ n. uses_of found ++ (record { term = name_of u.term.now; given = n; pos = u.pos } ∷ [])) (count ∙ ap length (sym (list_listed ps)))

-- a pattern of a list more
pub list_more : (ps : List Pattern) (i : ℕ) (p : Pattern) (us : List TermUse) → i < length ps → p ≡ get_or ps i p →
    list_collected (pattern_list_of (patterns_of (drop i ps))) us ≡ list_collected (pattern_list_of (patterns_of (drop (i + 1) ps))) (collected (pattern_of p) us)
list_more ps i p us within here = ap (λ qs. list_collected (pattern_list_of qs) us) (view_more pattern_of ps i p within here)
