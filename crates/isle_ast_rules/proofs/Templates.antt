-- Templates of lists, patterns put into lists, and the law that joins both: a template with its
-- arguments put in is the pattern with its places replaced.
use Rattle.std.proofs.Common.{◌≡◌, ℕ, ◌+◌, ◌<◌, ◌≤◌, List, [], ◌∷◌, ◌++◌, length, get_or, take, drop, map, Bool, true, false, ◌||◌, nat_le, Option, None, Some, option_map, is_none, slice_get, inl, inr, refl, ap, sym, ◌∙◌, rules}
use Rattle.std.proofs.lemmas.List.{drop_all, drop_more, take_all, map-append}
use Rattle.std.proofs.lemmas.Bool.{le-leb, lt-leb}
use Rattle.std.proofs.lemmas.List.Folds.{list_any-append}
use Rattle.std.proofs.lemmas.Option.{slice_get_cases}
use Rattle.isle_base_source.specs.declared.pos.Pos.{Pos}
use Rattle.isle_ast_names.specs.Tree.{Name}
use Rattle.isle_ast_rules.specs.Tree.{PatternNode, var_pattern, bind_pattern, bool_pattern, int_pattern, constant_pattern, term_pattern, wildcard_pattern, and_pattern, macro_arg_pattern, PatternList, no_pattern, more_pattern}
use Rattle.isle_ast_rules.specs.declared.Pattern.{Pattern}
use Rattle.isle_ast_rules.specs.MacroArgs.{has_macro_arg, have_macro_arg}
use Rattle.isle_ast_rules.specs.Templates.{bound_index, first_index, indices, join, lacks, plug, plug_list, put, replace, replace_by, replace_list, replace_list_by, list_indices}
use Rattle.isle_ast_rules.specs.TreeView.{pattern_of, pattern_list_of, patterns_of}

-- the templates of patterns are the template of their list
pub template_list : (names : List Name) (ps : List Pattern) → pattern_list_of (map (λ p. replace (pattern_of p) names macro_arg_pattern) ps)
    ≡ replace_list (pattern_list_of (patterns_of ps)) names macro_arg_pattern
template_list names [] = refl
template_list names (p ∷ ps) = ap (more_pattern (replace (pattern_of p) names macro_arg_pattern)) (template_list names ps)

-- patterns before what may be a list
abbrev pub join_all : List PatternNode → Option PatternList → Option PatternList
join_all [] list = list
join_all (p ∷ ps) list = join (Some p) (join_all ps list)

pub join_none : (ps : List PatternNode) → join_all ps None ≡ None
join_none [] = refl
join_none (p ∷ ps) = ap (join (Some p)) (join_none ps)

pub join_push : (ps : List PatternNode) (p : PatternNode) (list : Option PatternList) → join_all (ps ++ (p ∷ [])) list ≡ join_all ps (join (Some p) list)
join_push [] p list = refl
join_push (q ∷ qs) p list = ap (join (Some q)) (join_push qs p list)

pub join_end : (ps : List PatternNode) → join_all ps (Some no_pattern) ≡ Some (pattern_list_of ps)
join_end [] = refl
join_end (p ∷ ps) = ap (join (Some p)) (join_end ps)

-- past the last pattern of a list the templates are all made
pub template_end : (names : List Name) (made ps : List Pattern) (i : ℕ) → length ps ≤ i →
    patterns_of made ≡ map (λ p. replace (pattern_of p) names macro_arg_pattern) (take i ps) →
    pattern_list_of (patterns_of made) ≡ replace_list (pattern_list_of (patterns_of ps)) names macro_arg_pattern
template_end names made ps i past h =
    ap pattern_list_of h ∙ ap (λ qs. pattern_list_of (map (λ p. replace (pattern_of p) names macro_arg_pattern) qs)) (take_all i ps past)
    ∙ template_list names ps

-- the next pattern of a list, and the rest
join_more : (ps : List Pattern) (i : ℕ) (p : Pattern) (args : List PatternNode) → i < length ps → p ≡ get_or ps i p →
    plug_list (pattern_list_of (patterns_of (drop i ps))) args ≡ join (plug (pattern_of p) args) (plug_list (pattern_list_of (patterns_of (drop (i + 1) ps))) args)
join_more ps i p args within here =
    ap (λ qs. plug_list (pattern_list_of (patterns_of qs)) args) (drop_more ps i p within ∙ ap (λ q. q ∷ drop (i + 1) ps) (sym here))

-- where nothing can be put into a pattern, nothing can be put into the list
pub list_lacks : (made ps : List Pattern) (i : ℕ) (p : Pattern) (args : List PatternNode) → i < length ps → p ≡ get_or ps i p →
    None ≡ plug (pattern_of p) args →
    join_all (patterns_of made) (plug_list (pattern_list_of (patterns_of (drop i ps))) args) ≡ plug_list (pattern_list_of (patterns_of ps)) args →
    None ≡ plug_list (pattern_list_of (patterns_of ps)) args
list_lacks made ps i p args within here lacks h =
    sym (join_none (patterns_of made))
    ∙ ap (λ o. join_all (patterns_of made) (join o (plug_list (pattern_list_of (patterns_of (drop (i + 1) ps))) args))) lacks
    ∙ sym (ap (join_all (patterns_of made)) (join_more ps i p args within here)) ∙ h

-- a pattern into which all could be put is one more of the list
pub list_grows : (made later ps : List Pattern) (i : ℕ) (p q : Pattern) (args : List PatternNode) → i < length ps → p ≡ get_or ps i p →
    Some (pattern_of q) ≡ plug (pattern_of p) args → later ≡ made ++ (q ∷ []) →
    join_all (patterns_of made) (plug_list (pattern_list_of (patterns_of (drop i ps))) args) ≡ plug_list (pattern_list_of (patterns_of ps)) args →
    join_all (patterns_of later) (plug_list (pattern_list_of (patterns_of (drop (i + 1) ps))) args) ≡ plug_list (pattern_list_of (patterns_of ps)) args
list_grows made later ps i p q args within here put_in grown h =
    let rest = plug_list (pattern_list_of (patterns_of (drop (i + 1) ps))) args in
    ap (λ qs. join_all qs rest) (ap patterns_of grown ∙ map-append pattern_of made (q ∷ []))
    ∙ join_push (patterns_of made) (pattern_of q) rest
    ∙ ap (λ o. join_all (patterns_of made) (join o rest)) put_in
    ∙ sym (ap (join_all (patterns_of made)) (join_more ps i p args within here)) ∙ h

-- past the last pattern of a list all is put in
pub list_ends : (made ps : List Pattern) (i : ℕ) (args : List PatternNode) → length ps ≤ i →
    join_all (patterns_of made) (plug_list (pattern_list_of (patterns_of (drop i ps))) args) ≡ plug_list (pattern_list_of (patterns_of ps)) args →
    Some (pattern_list_of (patterns_of made)) ≡ plug_list (pattern_list_of (patterns_of ps)) args
list_ends made ps i args past h =
    sym (join_end (patterns_of made))
    ∙ sym (ap (λ qs. join_all (patterns_of made) (plug_list (pattern_list_of (patterns_of qs)) args)) (drop_all i ps past)) ∙ h

-- what is put in at a place of a template
filled : (o : Option ℕ) (place : Pos) (old : PatternNode) (args : List PatternNode) → plug (put o (λ i. macro_arg_pattern i place) old) args
    ≡ put o (λ i. slice_get args i) (plug old args)
filled None place old args = refl
filled (Some i) place old args = refl

first_lacks : (a b : Bool) → (a || b) ≡ false → a ≡ false
first_lacks a b h = search rules

second_lacks : (a b : Bool) → (a || b) ≡ false → b ≡ false
second_lacks a b h = search rules

-- a template with its arguments put in is the pattern with its places replaced
mutual
  pub template_filled : (p : PatternNode) (names : List Name) (args : List PatternNode) → has_macro_arg p ≡ false →
      plug (replace p names macro_arg_pattern) args ≡ replace_by p names (λ i _. slice_get args i)
  template_filled (var_pattern var place) names args h = filled (first_index var.text names) place (var_pattern var place) args
  template_filled (bind_pattern var subpat place) names args h =
      filled (bound_index var.text subpat names) place (bind_pattern var (replace subpat names macro_arg_pattern) place) args
      ∙ ap (λ o. put (bound_index var.text subpat names) (λ i. slice_get args i) (option_map (λ p. bind_pattern var p place) o)) (template_filled subpat names args h)
  template_filled (bool_pattern val place) names args h = refl
  template_filled (int_pattern val place) names args h = refl
  template_filled (constant_pattern val place) names args h = refl
  template_filled (term_pattern term parts place) names args h = ap (option_map (λ ps. term_pattern term ps place)) (template_list_filled parts names args h)
  template_filled (wildcard_pattern place) names args h = refl
  template_filled (and_pattern subpats place) names args h = ap (option_map (λ ps. and_pattern ps place)) (template_list_filled subpats names args h)
  template_filled (macro_arg_pattern index place) names args h = absurd (cc)

  pub template_list_filled : (ps : PatternList) (names : List Name) (args : List PatternNode) → have_macro_arg ps ≡ false →
      plug_list (replace_list ps names macro_arg_pattern) args ≡ replace_list_by ps names (λ i _. slice_get args i)
  template_list_filled no_pattern names args h = refl
  template_list_filled (more_pattern p ps) names args h =
      λ i. join (template_filled p names args (first_lacks (has_macro_arg p) (have_macro_arg ps) h) i) (template_list_filled ps names args (second_lacks (has_macro_arg p) (have_macro_arg ps) h) i)

pub mapped_none : {A B : Type 0} (f : A → B) (o : Option A) → is_none (option_map f o) ≡ is_none o
mapped_none f None = refl
mapped_none f (Some x) = refl

joined_none : (o : Option PatternNode) (list : Option PatternList) → is_none (join o list) ≡ (is_none o || is_none list)
joined_none None list = refl
joined_none (Some p) None = refl
joined_none (Some p) (Some ps) = refl

or_false : (b : Bool) → (b || false) ≡ b
or_false true = refl
or_false false = refl

none_past : (args : List PatternNode) (i : ℕ) → is_none (slice_get args i) ≡ nat_le (length args) i
none_past args i =
    elim (slice_get_cases args i).1 [
      | inl found ↦ ap is_none found.2 ∙ sym (lt-leb (length args) i found.1)
      | inr past ↦ ap is_none past.1 ∙ sym (le-leb (length args) i past.0)
    ]

-- patterns can't be put in exactly where one of the indices has none
mutual
  pub plug_lacks : (p : PatternNode) (args : List PatternNode) → is_none (plug p args) ≡ lacks args (indices p)
  plug_lacks (var_pattern var place) args = refl
  plug_lacks (bind_pattern var subpat place) args = mapped_none (λ p. bind_pattern var p place) (plug subpat args) ∙ plug_lacks subpat args
  plug_lacks (bool_pattern val place) args = refl
  plug_lacks (int_pattern val place) args = refl
  plug_lacks (constant_pattern val place) args = refl
  plug_lacks (term_pattern term parts place) args = mapped_none (λ ps. term_pattern term ps place) (plug_list parts args) ∙ plug_list_lacks parts args
  plug_lacks (wildcard_pattern place) args = refl
  plug_lacks (and_pattern subpats place) args = mapped_none (λ ps. and_pattern ps place) (plug_list subpats args) ∙ plug_list_lacks subpats args
  plug_lacks (macro_arg_pattern index place) args = none_past args index ∙ sym (or_false (nat_le (length args) index))

  pub plug_list_lacks : (ps : PatternList) (args : List PatternNode) → is_none (plug_list ps args) ≡ lacks args (list_indices ps)
  plug_list_lacks no_pattern args = refl
  plug_list_lacks (more_pattern p ps) args =
      joined_none (plug p args) (plug_list ps args) ∙ (λ i. plug_lacks p args i || plug_list_lacks ps args i)
      ∙ sym (list_any-append (λ i. nat_le (length args) i) (indices p) (list_indices ps))
