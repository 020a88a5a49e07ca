-- No use of a macro is left in what is expanded.
use Rattle.std.proofs.Common.{◌≡◌, ◌==◌, ℕ, zero, suc, List, [], ◌∷◌, ◌++◌, length, map, Bool, true, false, bytes_eq, Option, None, Some, option_map, option_and_then, IfSome, slice_get, if◌then◌else◌, refl, sym, subst}
use Rattle.std.specs.List.{AllByRecursion}
use Rattle.isle_base_source.specs.declared.pos.Pos.{Pos}
use Rattle.isle_ast_names.specs.Tree.{Name}
use Rattle.isle_ast_rules.specs.Tree.{PatternNode, var_pattern, bind_pattern, bool_pattern, int_pattern, constant_pattern, term_pattern, wildcard_pattern, and_pattern, macro_arg_pattern, PatternList, no_pattern, more_pattern, Condition, RuleDefinition}
use Rattle.isle_ast_rules.specs.Templates.{join, plug, plug_list}
use Rattle.isle_ast_rules.specs.TermHeads.{heads, list_heads}
use Rattle.isle_ast.specs.Tree.{Declaration, Definition, rule, extractor, decl}
use Rattle.isle_expand_core.specs.Macros.{MacroNode, macros_in, meant, template_of}
use Rattle.isle_expand_core.specs.Expansion.{Expands, expand, expand_list, expand_use, expanded_by, known, list_list}
use Rattle.isle_expand_core.specs.Definitions.{AreExpanded, AreFree, DefinitionIsFree, IsFree, RootIsFree, RuleIsFree, both, expand_condition, expand_conditions, expand_definition, expand_definitions, expand_root, expand_rule, is_only_extracted, with_patterns}
use Rattle.isle_expand_core.proofs.Options.{if_some_if, if_some_map, if_some_then}
use Rattle.isle_expand_core.proofs.Growth.{Begun, Grows, GrowsTo, deeper_grows, deeper_zero, macros_begun, meant_grows}

pub all_append : {A : Type 0} (P : A → Type 0) (xs ys : List A) → AllByRecursion P xs → AllByRecursion P ys → AllByRecursion P (xs ++ ys)
all_append P [] ys h k = k
all_append P (x ∷ xs) ys h k = (h.0, all_append P xs ys h.1 k)

-- of a list
abbrev pub ListIsFree : List MacroNode → PatternList → Type 0
ListIsFree ms ps = AllByRecursion (λ head. meant head.1.text ms ≡ None) (list_heads ps)

join_free : (ms : List MacroNode) (p : Option PatternNode) (ps : Option PatternList) → IfSome p (IsFree ms) → IfSome ps (ListIsFree ms) → IfSome (join p ps) (ListIsFree ms)
join_free ms None ps h k = tt
join_free ms (Some p) None h k = tt
join_free ms (Some p) (Some ps) h k = all_append (λ head. meant head.1.text ms ≡ None) (heads p) (list_heads ps) h k

append_parts : {A : Type 0} (P : A → Type 0) (xs ys : List A) → AllByRecursion P (xs ++ ys) → AllByRecursion P xs × AllByRecursion P ys
append_parts P [] ys h = (tt, h)
append_parts P (x ∷ xs) ys h = let rest = append_parts P xs ys h.1 in ((h.0, rest.0), rest.1)

list_free : (ms : List MacroNode) (ps : PatternList) → ListIsFree ms ps → AllByRecursion (IsFree ms) (list_list ps)
list_free ms no_pattern h = tt
list_free ms (more_pattern p ps) h =
    let parts = append_parts (λ head. meant head.1.text ms ≡ None) (heads p) (list_heads ps) h in (parts.0, list_free ms ps parts.1)

arg_free : (ms : List MacroNode) (args : List PatternNode) (i : ℕ) → AllByRecursion (IsFree ms) args → IfSome (slice_get args i) (IsFree ms)
arg_free ms [] i h = tt
arg_free ms (p ∷ args) zero h = h.0
arg_free ms (p ∷ args) (suc i) h = arg_free ms args i h.1

-- arguments put into a template
mutual
  plug_free : (ms : List MacroNode) (t : PatternNode) (args : List PatternNode) → IsFree ms t → AllByRecursion (IsFree ms) args → IfSome (plug t args) (IsFree ms)
  plug_free ms (var_pattern var place) args h k = tt
  plug_free ms (bind_pattern var subpat place) args h k =
      if_some_map (λ p. bind_pattern var p place) (IsFree ms) (IsFree ms) (plug subpat args) (λ p free. free) (plug_free ms subpat args h k)
  plug_free ms (bool_pattern val place) args h k = tt
  plug_free ms (int_pattern val place) args h k = tt
  plug_free ms (constant_pattern val place) args h k = tt
  plug_free ms (term_pattern term parts place) args h k =
      if_some_map (λ ps. term_pattern term ps place) (ListIsFree ms) (IsFree ms) (plug_list parts args) (λ ps free. (h.0, free)) (plug_list_free ms parts args h.1 k)
  plug_free ms (wildcard_pattern place) args h k = tt
  plug_free ms (and_pattern subpats place) args h k =
      if_some_map (λ ps. and_pattern ps place) (ListIsFree ms) (IsFree ms) (plug_list subpats args) (λ ps free. free) (plug_list_free ms subpats args h k)
  plug_free ms (macro_arg_pattern index place) args h k = arg_free ms args index k

  plug_list_free : (ms : List MacroNode) (ts : PatternList) (args : List PatternNode) → ListIsFree ms ts → AllByRecursion (IsFree ms) args → IfSome (plug_list ts args) (ListIsFree ms)
  plug_list_free ms no_pattern args h k = tt
  plug_list_free ms (more_pattern t ts) args h k =
      let parts = append_parts (λ head. meant head.1.text ms ≡ None) (heads t) (list_heads ts) h in
      join_free ms (plug t args) (plug_list ts args) (plug_free ms t args parts.0 k) (plug_list_free ms ts args parts.1 k)

-- what is known of macros has no use of the first ones
abbrev pub ExpansionsAreFree : List MacroNode → List MacroNode → Type 0
ExpansionsAreFree base ms = AllByRecursion (λ m. IfSome m.expansion (IsFree base)) ms

abbrev pub MeaningIsFree : List MacroNode → Option MacroNode → Option MacroNode → Type 0
MeaningIsFree base first None = first ≡ None
MeaningIsFree base first (Some m) = IfSome m.expansion (IsFree base)

none_first : (base : List MacroNode) (o p : Option MacroNode) → GrowsTo o p → IfSome p (λ m. IfSome m.expansion (IsFree base)) → MeaningIsFree base o p
none_first base None None g h = refl
none_first base (Some m) (Some n) g h = h
none_first base None (Some n) g h = absurd g
none_first base (Some m) None g h = absurd g

if_meant : (base : List MacroNode) (b : Bool) (m : MacroNode) (o : Option MacroNode) → IfSome m.expansion (IsFree base) → IfSome o (λ n. IfSome n.expansion (IsFree base)) →
    IfSome (if b then Some m else o) (λ n. IfSome n.expansion (IsFree base))
if_meant base true m o h k = h
if_meant base false m o h k = k

meant_free : (base : List MacroNode) (text : List ℕ) (ms : List MacroNode) → ExpansionsAreFree base ms → IfSome (meant text ms) (λ m. IfSome m.expansion (IsFree base))
meant_free base text [] h = tt
meant_free base text (m ∷ ms) h = if_meant base (bytes_eq m.term.text text) m (meant text ms) h.0 (meant_free base text ms h.1)

meaning_free : (base ms : List MacroNode) (text : List ℕ) → Grows base ms → ExpansionsAreFree base ms → MeaningIsFree base (meant text base) (meant text ms)
meaning_free base ms text g h = none_first base (meant text base) (meant text ms) (meant_grows text base ms g) (meant_free base text ms h)

use_free : (base : List MacroNode) (term : Name) (place : Pos) (o : Option MacroNode) (args : PatternList) → MeaningIsFree base (meant term.text base) o → ListIsFree base args →
    IfSome (expand_use term place o args) (IsFree base)
use_free base term place None args m h = (m, h)
use_free base term place (Some n) args m h =
    if_some_if (length (list_list args) == n.arity) (IsFree base) (option_and_then (λ t. plug t (list_list args)) n.expansion)
    (if_some_then (λ t. plug t (list_list args)) (IsFree base) (IsFree base) n.expansion (λ t free. plug_free base t (list_list args) free (list_free base args h)) m)

mutual
  pub expand_free : (base ms : List MacroNode) → Grows base ms → ExpansionsAreFree base ms → (p : PatternNode) → IfSome (expand p ms) (IsFree base)
  expand_free base ms g h (var_pattern var place) = tt
  expand_free base ms g h (bind_pattern var subpat place) =
      if_some_map (λ p. bind_pattern var p place) (IsFree base) (IsFree base) (expand subpat ms) (λ p free. free) (expand_free base ms g h subpat)
  expand_free base ms g h (bool_pattern val place) = tt
  expand_free base ms g h (int_pattern val place) = tt
  expand_free base ms g h (constant_pattern val place) = tt
  expand_free base ms g h (term_pattern term args place) =
      if_some_then (expand_use term place (meant term.text ms)) (ListIsFree base) (IsFree base) (expand_list args ms)
      (λ made free. use_free base term place (meant term.text ms) made (meaning_free base ms term.text g h) free) (expand_list_free base ms g h args)
  expand_free base ms g h (wildcard_pattern place) = tt
  expand_free base ms g h (and_pattern subpats place) =
      if_some_map (λ ps. and_pattern ps place) (ListIsFree base) (IsFree base) (expand_list subpats ms) (λ ps free. free) (expand_list_free base ms g h subpats)
  expand_free base ms g h (macro_arg_pattern index place) = tt

  pub expand_list_free : (base ms : List MacroNode) → Grows base ms → ExpansionsAreFree base ms → (ps : PatternList) → IfSome (expand_list ps ms) (ListIsFree base)
  expand_list_free base ms g h no_pattern = tt
  expand_list_free base ms g h (more_pattern p ps) = join_free base (expand p ms) (expand_list ps ms) (expand_free base ms g h p) (expand_list_free base ms g h ps)

begun_free : (base ms : List MacroNode) → Begun ms → ExpansionsAreFree base ms
begun_free base [] b = tt
begun_free base (m ∷ ms) b = (subst (λ o. IfSome o (IsFree base)) (sym b.0) tt, begun_free base ms b.1)

map_free : (base ms : List MacroNode) (ns : List MacroNode) → Grows base ms → ExpansionsAreFree base ms → ExpansionsAreFree base (map (expanded_by ms) ns)
map_free base ms [] g h = tt
map_free base ms (n ∷ ns) g h = (expand_free base ms g h n.template, map_free base ms ns g h)

pub base_grows : (base : List MacroNode) (d : ℕ) → Begun base → Grows base (known d base)
base_grows base d b = subst (λ n. Grows base (known n base)) (deeper_zero d) (deeper_grows base d zero b)

known_free : (base : List MacroNode) (d : ℕ) → Begun base → ExpansionsAreFree base (known d base)
known_free base zero b = begun_free base base b
known_free base (suc d) b = map_free base (known d base) base (base_grows base d b) (known_free base d b)

both_free : {A : Type 0} (P : A → Type 0) (o os : Option (List A)) → IfSome o (AllByRecursion P) → IfSome os (AllByRecursion P) → IfSome (both o os) (AllByRecursion P)
both_free P None os h k = tt
both_free P (Some xs) None h k = tt
both_free P (Some xs) (Some ys) h k = all_append P xs ys h k

there : (o : Option PatternNode) → IfSome o (λ _. Unit {0})
there None = tt
there (Some p) = tt

module _ (base ms : List MacroNode) (g : Grows base ms) (h : ExpansionsAreFree base ms) where
  conditions_free : (cs : List Condition) → IfSome (expand_conditions cs ms) (AllByRecursion (λ c. IsFree base c.pattern))
  conditions_free [] = tt
  conditions_free (c ∷ cs) =
      both_free (λ d. IsFree base d.pattern) (expand_condition c ms) (expand_conditions cs ms)
      (if_some_map (λ p. record { pattern = p; expr = c.expr; pos = c.pos } ∷ []) (IsFree base) (AllByRecursion (λ d. IsFree base d.pattern)) (expand c.pattern ms) (λ p free. (free, tt)) (expand_free base ms g h c.pattern))
      (conditions_free cs)

  root_free : (p : PatternNode) → IfSome (expand_root p ms) (RootIsFree base)
  root_free (term_pattern term args place) =
      if_some_map (λ made. term_pattern term made place) (ListIsFree base) (RootIsFree base) (expand_list args ms) (λ made free. free) (expand_list_free base ms g h args)
  root_free _ = tt

  rule_free : (r : RuleDefinition) → IfSome (expand_rule r ms) (RuleIsFree base)
  rule_free r =
      if_some_then (λ p. option_map (with_patterns r p) (expand_conditions r.iflets ms)) (RootIsFree base) (RuleIsFree base) (expand_root r.pattern ms)
      (λ p free. if_some_map (with_patterns r p) (AllByRecursion (λ c. IsFree base c.pattern)) (RuleIsFree base) (expand_conditions r.iflets ms) (λ cs all. (free, all)) (conditions_free r.iflets))
      (root_free r.pattern)

  kept_free : (b : Bool) (d : Declaration) → AreFree base (if b then [] else decl d ∷ [])
  kept_free true d = tt
  kept_free false d = (tt, tt)

  definition_free : (all : List Definition) (d : Definition) → IfSome (expand_definition all d ms) (AreFree base)
  definition_free all (rule r) = if_some_map (λ s. rule s ∷ []) (RuleIsFree base) (AreFree base) (expand_rule r ms) (λ s free. (free, tt)) (rule_free r)
  definition_free all (extractor e) = if_some_map (λ _. []) (λ _. Unit {0}) (AreFree base) (expand (template_of e) ms) (λ _ _. tt) (there (expand (template_of e) ms))
  definition_free all (decl d) = kept_free (is_only_extracted all ms d) d
  definition_free all _ = (tt, tt)

  definitions_free : (all ds : List Definition) → IfSome (expand_definitions all ds ms) (AreFree base)
  definitions_free all [] = tt
  definitions_free all (d ∷ ds) = both_free (DefinitionIsFree base) (expand_definition all d ms) (expand_definitions all ds ms) (definition_free all d) (definitions_free all ds)

-- no use is left in definitions that are expanded
pub expanded_free : (ds es : List Definition) → AreExpanded ds es → AreFree (macros_in ds) es
expanded_free ds es a =
    subst (λ o. IfSome o (AreFree (macros_in ds))) a.made
    (definitions_free (macros_in ds) (known a.depth (macros_in ds)) (base_grows (macros_in ds) a.depth (macros_begun ds)) (known_free (macros_in ds) a.depth (macros_begun ds)) ds ds)

-- nor in a pattern
pub pattern_free : (ds : List Definition) (p q : PatternNode) → Expands ds p q → IsFree (macros_in ds) q
pattern_free ds p q a =
    subst (λ o. IfSome o (IsFree (macros_in ds))) a.1
    (expand_free (macros_in ds) (known a.0 (macros_in ds)) (base_grows (macros_in ds) a.0 (macros_begun ds)) (known_free (macros_in ds) a.0 (macros_begun ds)) p)
