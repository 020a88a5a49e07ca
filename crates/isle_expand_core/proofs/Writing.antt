-- The expansion of writable definitions is writable.
use Rattle.std.proofs.Common.{◌≡◌, ◌==◌, ℕ, zero, suc, List, [], ◌∷◌, ◌++◌, length, map, Bool, true, false, Option, None, Some, IfSome, option_map, option_and_then, slice_get, bytes_eq, if◌then◌else◌, refl, sym, subst}
use Rattle.std.specs.List.{AllByRecursion}
use Rattle.std.specs.Prelude.{ℤ, codes}
use Rattle.isle_base_source.specs.declared.pos.Pos.{Pos}
use Rattle.isle_ast_names.specs.Numbers.{IsSigned}
use Rattle.isle_ast_names.specs.Tree.{Name}
use Rattle.isle_ast_names.specs.Writable.{IsName, Each, IsNot}
use Rattle.isle_ast_rules.specs.RuleGrammar.{pattern_is_no_head}
use Rattle.isle_ast_rules.specs.Templates.{bound_index, first_index, join, plug, plug_list, put, replace, replace_list}
use Rattle.isle_ast_rules.specs.Tree.{PatternNode, var_pattern, bind_pattern, bool_pattern, int_pattern, constant_pattern, term_pattern, wildcard_pattern, and_pattern, macro_arg_pattern, PatternList, no_pattern, more_pattern, Condition, RuleDefinition}
use Rattle.isle_ast_rules.specs.Writable.{AreWritablePatterns, IsConstantName, IsPatternVariable, IsWritableCondition, IsWritablePattern, IsWritableRule}
use Rattle.isle_ast.specs.Tree.{Declaration, Definition, rule, extractor, decl}
use Rattle.isle_ast.specs.Writable.{AreWritable, IsWritable}
use Rattle.isle_expand_core.specs.Macros.{MacroNode, macros_in, meant, template_of}
use Rattle.isle_expand_core.specs.Expansion.{expand, expand_list, expand_use, expanded_by, known, list_list}
use Rattle.isle_expand_core.specs.Definitions.{AreExpanded, both, expand_condition, expand_conditions, expand_definition, expand_definitions, expand_root, expand_rule, is_only_extracted, with_patterns}
use Rattle.isle_expand_core.proofs.Options.{if_some_if, if_some_map, if_some_then}
use Rattle.isle_expand_core.proofs.Growth.{Begun, macros_begun}

-- as a writable pattern, but that arguments of a macro may stand in it, if they may
abbrev mutual
  pub IsFillable : Bool → PatternNode → Type 0
  IsFillable b (var_pattern var _) = IsPatternVariable var
  IsFillable b (bind_pattern var subpat _) = IsPatternVariable var × IsFillable b subpat
  IsFillable b (bool_pattern _ _) = Unit {0}
  IsFillable b (int_pattern val _) = IsSigned 127 val
  IsFillable b (constant_pattern val _) = IsConstantName val
  IsFillable b (term_pattern sym args _) = IsName sym × IsNot sym (codes "and") × AreFillable b args
  IsFillable b (wildcard_pattern _) = Unit {0}
  IsFillable b (and_pattern subpats _) = AreFillable b subpats
  IsFillable b (macro_arg_pattern _ _) = b ≡ true

  pub AreFillable : Bool → PatternList → Type 0
  AreFillable b no_pattern = Unit {0}
  AreFillable b (more_pattern p ps) = IsFillable b p × AreFillable b ps

mutual
  from_writable : (p : PatternNode) → IsWritablePattern p → IsFillable false p
  from_writable (var_pattern var place) w = w
  from_writable (bind_pattern var subpat place) w = (w.0, from_writable subpat w.1)
  from_writable (bool_pattern val place) w = w
  from_writable (int_pattern val place) w = w
  from_writable (constant_pattern val place) w = w
  from_writable (term_pattern sym args place) w = (w.0, w.1, list_from_writable args w.2)
  from_writable (wildcard_pattern place) w = w
  from_writable (and_pattern subpats place) w = list_from_writable subpats w
  from_writable (macro_arg_pattern index place) w = absurd w

  list_from_writable : (ps : PatternList) → AreWritablePatterns ps → AreFillable false ps
  list_from_writable no_pattern w = tt
  list_from_writable (more_pattern p ps) w = (from_writable p w.0, list_from_writable ps w.1)

mutual
  to_writable : (p : PatternNode) → IsFillable false p → IsWritablePattern p
  to_writable (var_pattern var place) w = w
  to_writable (bind_pattern var subpat place) w = (w.0, to_writable subpat w.1)
  to_writable (bool_pattern val place) w = w
  to_writable (int_pattern val place) w = w
  to_writable (constant_pattern val place) w = w
  to_writable (term_pattern sym args place) w = (w.0, w.1, list_to_writable args w.2)
  to_writable (wildcard_pattern place) w = w
  to_writable (and_pattern subpats place) w = list_to_writable subpats w
  to_writable (macro_arg_pattern index place) w = absurd (cc)

  list_to_writable : (ps : PatternList) → AreFillable false ps → AreWritablePatterns ps
  list_to_writable no_pattern w = tt
  list_to_writable (more_pattern p ps) w = (to_writable p w.0, list_to_writable ps w.1)

put_fillable : (o : Option ℕ) (place : Pos) (old : PatternNode) → IsFillable true old → IsFillable true (put o (λ i. macro_arg_pattern i place) old)
put_fillable None place old w = w
put_fillable (Some i) place old w = refl

-- the template of a writable pattern
mutual
  template_fillable : (p : PatternNode) (names : List Name) → IsWritablePattern p → IsFillable true (replace p names macro_arg_pattern)
  template_fillable (var_pattern var place) names w = put_fillable (first_index var.text names) place (var_pattern var place) w
  template_fillable (bind_pattern var subpat place) names w =
      put_fillable (bound_index var.text subpat names) place (bind_pattern var (replace subpat names macro_arg_pattern) place) (w.0, template_fillable subpat names w.1)
  template_fillable (bool_pattern val place) names w = w
  template_fillable (int_pattern val place) names w = w
  template_fillable (constant_pattern val place) names w = w
  template_fillable (term_pattern sym args place) names w = (w.0, w.1, template_list_fillable args names w.2)
  template_fillable (wildcard_pattern place) names w = w
  template_fillable (and_pattern subpats place) names w = template_list_fillable subpats names w
  template_fillable (macro_arg_pattern index place) names w = absurd w

  template_list_fillable : (ps : PatternList) (names : List Name) → AreWritablePatterns ps → AreFillable true (replace_list ps names macro_arg_pattern)
  template_list_fillable no_pattern names w = tt
  template_list_fillable (more_pattern p ps) names w = (template_fillable p names w.0, template_list_fillable ps names w.1)

join_fillable : (b : Bool) (o : Option PatternNode) (os : Option PatternList) → IfSome o (IsFillable b) → IfSome os (AreFillable b) → IfSome (join o os) (AreFillable b)
join_fillable b None os w v = tt
join_fillable b (Some p) None w v = tt
join_fillable b (Some p) (Some ps) w v = (w, v)

arg_fillable : (b : Bool) (args : List PatternNode) (i : ℕ) → AllByRecursion (IsFillable b) args → IfSome (slice_get args i) (IsFillable b)
arg_fillable b [] i w = tt
arg_fillable b (p ∷ args) zero w = w.0
arg_fillable b (p ∷ args) (suc i) w = arg_fillable b args i w.1

-- what is put into a template takes the place of all arguments of the macro
mutual
  plug_fillable : (b : Bool) (t : PatternNode) (args : List PatternNode) → IsFillable true t → AllByRecursion (IsFillable b) args → IfSome (plug t args) (IsFillable b)
  plug_fillable b (var_pattern var place) args w v = w
  plug_fillable b (bind_pattern var subpat place) args w v =
      if_some_map (λ p. bind_pattern var p place) (IsFillable b) (IsFillable b) (plug subpat args) (λ p x. (w.0, x)) (plug_fillable b subpat args w.1 v)
  plug_fillable b (bool_pattern val place) args w v = w
  plug_fillable b (int_pattern val place) args w v = w
  plug_fillable b (constant_pattern val place) args w v = w
  plug_fillable b (term_pattern sym parts place) args w v =
      if_some_map (λ ps. term_pattern sym ps place) (AreFillable b) (IsFillable b) (plug_list parts args) (λ ps x. (w.0, w.1, x)) (plug_list_fillable b parts args w.2 v)
  plug_fillable b (wildcard_pattern place) args w v = w
  plug_fillable b (and_pattern subpats place) args w v =
      if_some_map (λ ps. and_pattern ps place) (AreFillable b) (IsFillable b) (plug_list subpats args) (λ ps x. x) (plug_list_fillable b subpats args w v)
  plug_fillable b (macro_arg_pattern index place) args w v = arg_fillable b args index v

  plug_list_fillable : (b : Bool) (ts : PatternList) (args : List PatternNode) → AreFillable true ts → AllByRecursion (IsFillable b) args → IfSome (plug_list ts args) (AreFillable b)
  plug_list_fillable b no_pattern args w v = tt
  plug_list_fillable b (more_pattern t ts) args w v =
      join_fillable b (plug t args) (plug_list ts args) (plug_fillable b t args w.0 v) (plug_list_fillable b ts args w.1 v)

if_some_same : {A : Type 0} (P Q : A → Type 0) (o : Option A) → ((x : A) → P x → Q x) → IfSome o P → IfSome o Q
if_some_same P Q None k h = tt
if_some_same P Q (Some x) k h = k x h

there : {A : Type 0} (o : Option A) → IfSome o (λ _. Unit {0})
there None = tt
there (Some p) = tt

append_all : {A : Type 0} (P : A → Type 0) (xs ys : List A) → AllByRecursion P xs → AllByRecursion P ys → AllByRecursion P (xs ++ ys)
append_all P [] ys h k = k
append_all P (x ∷ xs) ys h k = (h.0, append_all P xs ys h.1 k)

both_writable : {A : Type 0} (P : A → Type 0) (o os : Option (List A)) → IfSome o (AllByRecursion P) → IfSome os (AllByRecursion P) → IfSome (both o os) (AllByRecursion P)
both_writable P None os h k = tt
both_writable P (Some xs) None h k = tt
both_writable P (Some xs) (Some ys) h k = append_all P xs ys h k

-- what is known of macros can be written but for its arguments
abbrev ExpansionsAreFillable : List MacroNode → Type 0
ExpansionsAreFillable ms = AllByRecursion (λ m. IfSome m.expansion (IsFillable true)) ms

abbrev MeantIsFillable : Option MacroNode → Type 0
MeantIsFillable None = Unit {0}
MeantIsFillable (Some m) = IfSome m.expansion (IsFillable true)

meant_if : (b : Bool) (m : MacroNode) (o : Option MacroNode) → IfSome m.expansion (IsFillable true) → MeantIsFillable o → MeantIsFillable (if b then Some m else o)
meant_if true m o w v = w
meant_if false m o w v = v

meant_fillable : (text : List ℕ) (ms : List MacroNode) → ExpansionsAreFillable ms → MeantIsFillable (meant text ms)
meant_fillable text [] w = tt
meant_fillable text (m ∷ ms) w = meant_if (bytes_eq m.term.text text) m (meant text ms) w.0 (meant_fillable text ms w.1)

list_fillable : (b : Bool) (ps : PatternList) → AreFillable b ps → AllByRecursion (IsFillable b) (list_list ps)
list_fillable b no_pattern w = tt
list_fillable b (more_pattern p ps) w = (w.0, list_fillable b ps w.1)

use_fillable : (b : Bool) (term : Name) (place : Pos) (o : Option MacroNode) (args : PatternList) → IsName term → IsNot term (codes "and") → MeantIsFillable o → AreFillable b args →
    IfSome (expand_use term place o args) (IsFillable b)
use_fillable b term place None args n a w v = (n, a, v)
use_fillable b term place (Some m) args n a w v =
    if_some_if (length (list_list args) == m.arity) (IsFillable b) (option_and_then (λ t. plug t (list_list args)) m.expansion)
    (if_some_then (λ t. plug t (list_list args)) (IsFillable true) (IsFillable b) m.expansion (λ t x. plug_fillable b t (list_list args) x (list_fillable b args v)) w)

module _ (ms : List MacroNode) (h : ExpansionsAreFillable ms) where
  mutual
    expand_fillable : (b : Bool) (p : PatternNode) → IsFillable b p → IfSome (expand p ms) (IsFillable b)
    expand_fillable b (var_pattern var place) w = w
    expand_fillable b (bind_pattern var subpat place) w =
        if_some_map (λ p. bind_pattern var p place) (IsFillable b) (IsFillable b) (expand subpat ms) (λ p x. (w.0, x)) (expand_fillable b subpat w.1)
    expand_fillable b (bool_pattern val place) w = w
    expand_fillable b (int_pattern val place) w = w
    expand_fillable b (constant_pattern val place) w = w
    expand_fillable b (term_pattern sym args place) w =
        if_some_then (expand_use sym place (meant sym.text ms)) (AreFillable b) (IsFillable b) (expand_list args ms)
        (λ made x. use_fillable b sym place (meant sym.text ms) made w.0 w.1 (meant_fillable sym.text ms h) x) (expand_list_fillable b args w.2)
    expand_fillable b (wildcard_pattern place) w = w
    expand_fillable b (and_pattern subpats place) w =
        if_some_map (λ ps. and_pattern ps place) (AreFillable b) (IsFillable b) (expand_list subpats ms) (λ ps x. x) (expand_list_fillable b subpats w)
    expand_fillable b (macro_arg_pattern index place) w = w

    expand_list_fillable : (b : Bool) (ps : PatternList) → AreFillable b ps → IfSome (expand_list ps ms) (AreFillable b)
    expand_list_fillable b no_pattern w = tt
    expand_list_fillable b (more_pattern p ps) w =
        join_fillable b (expand p ms) (expand_list ps ms) (expand_fillable b p w.0) (expand_list_fillable b ps w.1)

  expand_writable : (p : PatternNode) → IsWritablePattern p → IfSome (expand p ms) IsWritablePattern
  expand_writable p w = if_some_same (IsFillable false) IsWritablePattern (expand p ms) to_writable (expand_fillable false p (from_writable p w))

  conditions_writable : (cs : List Condition) → Each IsWritableCondition cs → IfSome (expand_conditions cs ms) (Each IsWritableCondition)
  conditions_writable [] w = tt
  conditions_writable (c ∷ cs) w =
      both_writable IsWritableCondition (expand_condition c ms) (expand_conditions cs ms)
      (if_some_map (λ p. record { pattern = p; expr = c.expr; pos = c.pos } ∷ []) IsWritablePattern (Each IsWritableCondition) (expand c.pattern ms) (λ p x. ((x, w.0.1), tt)) (expand_writable c.pattern w.0.0))
      (conditions_writable cs w.1)

  -- the root stays what it is
  abbrev IsRoot : Option Name → Option ℤ → PatternNode → Type 0
  IsRoot name prio p = IsWritablePattern p × (pattern_is_no_head name prio p ≡ true)

  list_root : (name : Option Name) (prio : Option ℤ) (term : Name) (args made : PatternList) (place : Pos) → pattern_is_no_head name prio (term_pattern term args place) ≡ true →
      pattern_is_no_head name prio (term_pattern term made place) ≡ true
  list_root None None term args made place h = h
  list_root (Some n) None term args made place h = h
  list_root None (Some z) term args made place h = h
  list_root (Some n) (Some z) term args made place h = h

  root_writable : (name : Option Name) (prio : Option ℤ) (p : PatternNode) → IsRoot name prio p → IfSome (expand_root p ms) (IsRoot name prio)
  root_writable name prio (term_pattern term args place) w =
      if_some_map (λ made. term_pattern term made place) (AreFillable false) (IsRoot name prio) (expand_list args ms)
      (λ made x. ((w.0.0, w.0.1, list_to_writable made x), list_root name prio term args made place w.1)) (expand_list_fillable false args (list_from_writable args w.0.2))
  root_writable name prio p w = w

  rule_writable : (r : RuleDefinition) → IsWritableRule r → IfSome (expand_rule r ms) IsWritableRule
  rule_writable r w =
      if_some_then (λ p. option_map (with_patterns r p) (expand_conditions r.iflets ms)) (IsRoot r.name r.prio) IsWritableRule (expand_root r.pattern ms)
      (λ p x. if_some_map (with_patterns r p) (Each IsWritableCondition) IsWritableRule (expand_conditions r.iflets ms)
      (λ cs all. record { name = w.name; prio = w.prio; pattern = x.0; iflets = all; expr = w.expr; pattern_is_no_head = x.1; expr_is_no_condition = w.expr_is_no_condition })
      (conditions_writable r.iflets w.iflets))
      (root_writable r.name r.prio r.pattern (w.pattern, w.pattern_is_no_head))

  kept_writable : (b : Bool) (d : Declaration) → IsWritable (decl d) → AreWritable (if b then [] else decl d ∷ [])
  kept_writable true d w = tt
  kept_writable false d w = (w, tt)

  definition_writable : (all : List Definition) (d : Definition) → IsWritable d → IfSome (expand_definition all d ms) AreWritable
  definition_writable all (rule r) w = if_some_map (λ s. rule s ∷ []) IsWritableRule AreWritable (expand_rule r ms) (λ s x. (x, tt)) (rule_writable r w)
  definition_writable all (extractor e) w = if_some_map (λ _. []) (λ _. Unit {0}) AreWritable (expand (template_of e) ms) (λ _ _. tt) (there (expand (template_of e) ms))
  definition_writable all (decl d) w = kept_writable (is_only_extracted all ms d) d w
  definition_writable all d w = (w, tt)

  definitions_writable : (all ds : List Definition) → AreWritable ds → IfSome (expand_definitions all ds ms) AreWritable
  definitions_writable all [] w = tt
  definitions_writable all (d ∷ ds) w =
      both_writable IsWritable (expand_definition all d ms) (expand_definitions all ds ms) (definition_writable all d w.0) (definitions_writable all ds w.1)

-- the templates of writable definitions
templates_fillable : (ds : List Definition) → AreWritable ds → AllByRecursion (λ m. IsFillable true m.template) (macros_in ds)
templates_fillable [] w = tt
templates_fillable (extractor e ∷ ds) w = (template_fillable e.template e.args w.0.2, templates_fillable ds w.1)
templates_fillable (_ ∷ ds) w = templates_fillable ds w.1

begun_fillable : (ms : List MacroNode) → Begun ms → ExpansionsAreFillable ms
begun_fillable [] b = tt
begun_fillable (m ∷ ms) b = (subst (λ o. IfSome o (IsFillable true)) (sym b.0) tt, begun_fillable ms b.1)

map_fillable : (ks : List MacroNode) → ExpansionsAreFillable ks → (ms : List MacroNode) → AllByRecursion (λ m. IsFillable true m.template) ms → ExpansionsAreFillable (map (expanded_by ks) ms)
map_fillable ks h [] w = tt
map_fillable ks h (m ∷ ms) w = (expand_fillable ks h true m.template w.0, map_fillable ks h ms w.1)

known_fillable : (d : ℕ) (ms : List MacroNode) → Begun ms → AllByRecursion (λ m. IsFillable true m.template) ms → ExpansionsAreFillable (known d ms)
known_fillable zero ms b w = begun_fillable ms b
known_fillable (suc d) ms b w = map_fillable (known d ms) (known_fillable d ms b w) ms w

pub expanded_writable : (ds es : List Definition) → AreExpanded ds es → AreWritable ds → AreWritable es
expanded_writable ds es a w =
    let base = macros_in ds in
    subst (λ o. IfSome o AreWritable) a.made
    (definitions_writable (known a.depth base) (known_fillable a.depth base (macros_begun ds) (templates_fillable ds w)) ds ds w)
