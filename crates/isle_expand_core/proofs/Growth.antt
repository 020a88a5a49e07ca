-- What is known of macros grows with the depth, and what is expanded stays so.
use Rattle.std.proofs.Common.{◌≡◌, ◌==◌, ℕ, zero, suc, List, [], ◌∷◌, length, map, Bool, true, false, ◌&&◌, not, is_some, Option, None, Some, option_map, option_and_then, if◌then◌else◌, refl, ap, sym, subst, ◌∙◌, bytes_eq}
use Rattle.std.specs.List.{AllByRecursion, list_any}
use Rattle.isle_base_source.specs.declared.pos.Pos.{Pos}
use Rattle.isle_ast_names.specs.Tree.{Name}
use Rattle.isle_ast_rules.specs.Tree.{PatternNode, var_pattern, bind_pattern, bool_pattern, int_pattern, constant_pattern, term_pattern, wildcard_pattern, and_pattern, macro_arg_pattern, PatternList, no_pattern, more_pattern, Condition, RuleDefinition}
use Rattle.isle_ast_rules.specs.Templates.{plug}
use Rattle.isle_ast.specs.Tree.{Definition, rule, extractor, decl}
use Rattle.isle_expand_core.specs.Macros.{MacroNode, macros_in, meant, template_of}
use Rattle.isle_expand_core.specs.Expansion.{Expands, expand, expand_list, expand_use, expanded_by, filled, known, list_list}
use Rattle.isle_expand_core.specs.Definitions.{AreExpanded, defines, expand_condition, expand_conditions, expand_definition, expand_definitions, expand_root, expand_rule, with_patterns}
use Rattle.isle_expand_core.proofs.Options.{Within, within_at, within_both, within_if, within_join, within_map, within_self, within_then, within_trans}

-- a macro of which more may be known
pub record SameMacro (m n : MacroNode) : Type 0 where
  pub term : n.term ≡ m.term
  pub arity : n.arity ≡ m.arity
  pub template : n.template ≡ m.template
  pub within : Within m.expansion n.expansion

abbrev pub Grows : List MacroNode → List MacroNode → Type 0
Grows [] [] = Unit {0}
Grows (m ∷ ms) (n ∷ ns) = SameMacro m n × Grows ms ns
Grows [] (n ∷ ns) = ⊥
Grows (m ∷ ms) [] = ⊥

abbrev pub GrowsTo : Option MacroNode → Option MacroNode → Type 0
GrowsTo None None = Unit {0}
GrowsTo (Some m) (Some n) = SameMacro m n
GrowsTo None (Some n) = ⊥
GrowsTo (Some m) None = ⊥

if_grows : (b : Bool) (m n : MacroNode) (o p : Option MacroNode) → SameMacro m n → GrowsTo o p → GrowsTo (if b then Some m else o) (if b then Some n else p)
if_grows true m n o p s g = s
if_grows false m n o p s g = g

pub meant_grows : (text : List ℕ) (ms ns : List MacroNode) → Grows ms ns → GrowsTo (meant text ms) (meant text ns)
meant_grows text [] [] g = tt
meant_grows text (m ∷ ms) (n ∷ ns) g =
    subst (λ (name : Name). GrowsTo (meant text (m ∷ ms)) (if bytes_eq name.text text then Some n else meant text ns)) (sym g.0.term)
    (if_grows (bytes_eq m.term.text text) m n (meant text ms) (meant text ns) g.0 (meant_grows text ms ns g.1))
meant_grows text [] (n ∷ ns) g = absurd g
meant_grows text (m ∷ ms) [] g = absurd g

filled_grows : (m n : MacroNode) (args : List PatternNode) → SameMacro m n → Within (filled m args) (filled n args)
filled_grows m n args s =
    subst (λ a. Within (filled m args) (if length args == a then option_and_then (λ t. plug t args) n.expansion else None)) (sym s.arity)
    (within_if (length args == m.arity) (option_and_then (λ t. plug t args) m.expansion) (option_and_then (λ t. plug t args) n.expansion)
    (within_then (λ t. plug t args) (λ t. plug t args) m.expansion n.expansion (λ t. within_self (plug t args)) s.within))

use_grows : (term : Name) (place : Pos) (o p : Option MacroNode) (args : PatternList) → GrowsTo o p → Within (expand_use term place o args) (expand_use term place p args)
use_grows term place None None args g = refl
use_grows term place (Some m) (Some n) args g = filled_grows m n (list_list args) g
use_grows term place None (Some n) args g = absurd g
use_grows term place (Some m) None args g = absurd g

mutual
  pub expand_grows : (p : PatternNode) (ms ns : List MacroNode) → Grows ms ns → Within (expand p ms) (expand p ns)
  expand_grows (var_pattern var place) ms ns g = refl
  expand_grows (bind_pattern var subpat place) ms ns g = within_map (λ p. bind_pattern var p place) (expand subpat ms) (expand subpat ns) (expand_grows subpat ms ns g)
  expand_grows (bool_pattern val place) ms ns g = refl
  expand_grows (int_pattern val place) ms ns g = refl
  expand_grows (constant_pattern val place) ms ns g = refl
  expand_grows (term_pattern term args place) ms ns g =
      within_then (expand_use term place (meant term.text ms)) (expand_use term place (meant term.text ns)) (expand_list args ms) (expand_list args ns)
      (λ made. use_grows term place (meant term.text ms) (meant term.text ns) made (meant_grows term.text ms ns g)) (expand_list_grows args ms ns g)
  expand_grows (wildcard_pattern place) ms ns g = refl
  expand_grows (and_pattern subpats place) ms ns g = within_map (λ ps. and_pattern ps place) (expand_list subpats ms) (expand_list subpats ns) (expand_list_grows subpats ms ns g)
  expand_grows (macro_arg_pattern index place) ms ns g = refl

  pub expand_list_grows : (ps : PatternList) (ms ns : List MacroNode) → Grows ms ns → Within (expand_list ps ms) (expand_list ps ns)
  expand_list_grows no_pattern ms ns g = refl
  expand_list_grows (more_pattern p ps) ms ns g =
      within_join (expand p ms) (expand p ns) (expand_list ps ms) (expand_list ps ns) (expand_grows p ms ns g) (expand_list_grows ps ms ns g)

conditions_grow : (cs : List Condition) (ms ns : List MacroNode) → Grows ms ns → Within (expand_conditions cs ms) (expand_conditions cs ns)
conditions_grow [] ms ns g = refl
conditions_grow (c ∷ cs) ms ns g =
    within_both (expand_condition c ms) (expand_condition c ns) (expand_conditions cs ms) (expand_conditions cs ns)
    (within_map (λ p. record { pattern = p; expr = c.expr; pos = c.pos } ∷ []) (expand c.pattern ms) (expand c.pattern ns) (expand_grows c.pattern ms ns g)) (conditions_grow cs ms ns g)

root_grows : (p : PatternNode) (ms ns : List MacroNode) → Grows ms ns → Within (expand_root p ms) (expand_root p ns)
root_grows (term_pattern term args place) ms ns g =
    within_map (λ made. term_pattern term made place) (expand_list args ms) (expand_list args ns) (expand_list_grows args ms ns g)
root_grows _ ms ns g = refl

rule_grows : (r : RuleDefinition) (ms ns : List MacroNode) → Grows ms ns → Within (expand_rule r ms) (expand_rule r ns)
rule_grows r ms ns g =
    within_then (λ p. option_map (with_patterns r p) (expand_conditions r.iflets ms)) (λ p. option_map (with_patterns r p) (expand_conditions r.iflets ns))
    (expand_root r.pattern ms) (expand_root r.pattern ns)
    (λ p. within_map (with_patterns r p) (expand_conditions r.iflets ms) (expand_conditions r.iflets ns) (conditions_grow r.iflets ms ns g)) (root_grows r.pattern ms ns g)

meant_both : (o p : Option MacroNode) → GrowsTo o p → is_some o ≡ is_some p
meant_both None None g = refl
meant_both (Some m) (Some n) g = refl
meant_both None (Some n) g = absurd g
meant_both (Some m) None g = absurd g

definition_grows : (all : List Definition) (d : Definition) (ms ns : List MacroNode) → Grows ms ns → Within (expand_definition all d ms) (expand_definition all d ns)
definition_grows all (rule r) ms ns g = within_map (λ s. rule s ∷ []) (expand_rule r ms) (expand_rule r ns) (rule_grows r ms ns g)
definition_grows all (extractor e) ms ns g = within_map (λ _. []) (expand (template_of e) ms) (expand (template_of e) ns) (expand_grows (template_of e) ms ns g)
definition_grows all (decl d) ms ns g =
    ap (λ b. Some (if b && not (list_any (defines d.term.text) all) then [] else decl d ∷ [])) (sym (meant_both (meant d.term.text ms) (meant d.term.text ns) (meant_grows d.term.text ms ns g)))
definition_grows all _ ms ns g = refl

pub definitions_grow : (all ds : List Definition) (ms ns : List MacroNode) → Grows ms ns → Within (expand_definitions all ds ms) (expand_definitions all ds ns)
definitions_grow all [] ms ns g = refl
definitions_grow all (d ∷ ds) ms ns g =
    within_both (expand_definition all d ms) (expand_definition all d ns) (expand_definitions all ds ms) (expand_definitions all ds ns) (definition_grows all d ms ns g) (definitions_grow all ds ms ns g)

pub grows_self : (ms : List MacroNode) → Grows ms ms
grows_self [] = tt
grows_self (m ∷ ms) = (record { term = refl; arity = refl; template = refl; within = within_self m.expansion }, grows_self ms)

pub grows_trans : (ms ns os : List MacroNode) → Grows ms ns → Grows ns os → Grows ms os
grows_trans [] [] [] g h = tt
grows_trans (m ∷ ms) (n ∷ ns) (o ∷ os) g h =
    (record { term = h.0.term ∙ g.0.term; arity = h.0.arity ∙ g.0.arity; template = h.0.template ∙ g.0.template; within = within_trans m.expansion n.expansion o.expansion g.0.within h.0.within }, grows_trans ms ns os g.1 h.1)
grows_trans [] (n ∷ ns) os g h = absurd g
grows_trans (m ∷ ms) [] os g h = absurd g
grows_trans [] [] (o ∷ os) g h = absurd h
grows_trans (m ∷ ms) (n ∷ ns) [] g h = absurd h

-- no expansion is known
abbrev pub Begun : List MacroNode → Type 0
Begun ms = AllByRecursion (λ m. m.expansion ≡ None) ms

pub macros_begun : (ds : List Definition) → Begun (macros_in ds)
macros_begun [] = tt
macros_begun (extractor e ∷ ds) = (refl, macros_begun ds)
macros_begun (_ ∷ ds) = macros_begun ds

pub begun_grows : (base ms : List MacroNode) → Begun base → Grows base (map (expanded_by ms) base)
begun_grows [] ms b = tt
begun_grows (m ∷ base) ms b =
    (record { term = refl; arity = refl; template = refl; within = subst (λ o. Within o (expand m.template ms)) (sym b.0) tt }, begun_grows base ms b.1)

pub map_grows : (base ms ns : List MacroNode) → Grows ms ns → Grows (map (expanded_by ms) base) (map (expanded_by ns) base)
map_grows [] ms ns g = tt
map_grows (m ∷ base) ms ns g = (record { term = refl; arity = refl; template = refl; within = expand_grows m.template ms ns g }, map_grows base ms ns g)

-- one depth more
pub known_grows : (base : List MacroNode) (d : ℕ) → Begun base → Grows (known d base) (known (suc d) base)
known_grows base zero b = begun_grows base base b
known_grows base (suc d) b = map_grows base (known d base) (known (suc d) base) (known_grows base d b)

-- n more
abbrev pub deeper : ℕ → ℕ → ℕ
deeper zero d = d
deeper (suc n) d = suc (deeper n d)

pub deeper_zero : (n : ℕ) → deeper n zero ≡ n
deeper_zero zero = refl
deeper_zero (suc n) = ap suc (deeper_zero n)

deeper_suc : (n d : ℕ) → deeper n (suc d) ≡ suc (deeper n d)
deeper_suc zero d = refl
deeper_suc (suc n) d = ap suc (deeper_suc n d)

pub deeper_comm : (n d : ℕ) → deeper n d ≡ deeper d n
deeper_comm zero d = sym (deeper_zero d)
deeper_comm (suc n) d = ap suc (deeper_comm n d) ∙ sym (deeper_suc d n)

pub deeper_grows : (base : List MacroNode) (n d : ℕ) → Begun base → Grows (known d base) (known (deeper n d) base)
deeper_grows base zero d b = grows_self (known d base)
deeper_grows base (suc n) d b =
    grows_trans (known d base) (known (deeper n d) base) (known (suc (deeper n d)) base) (deeper_grows base n d b) (known_grows base (deeper n d) b)

-- what two depths give is one, where what is given grows
one_of : {A : Type 0} (made : List MacroNode → Option A) (base : List MacroNode) → Begun base →
    ((ms ns : List MacroNode) → Grows ms ns → Within (made ms) (made ns)) →
    (d e : ℕ) (x y : A) → made (known d base) ≡ Some x → made (known e base) ≡ Some y → x ≡ y
one_of made base b grows d e x y hx hy =
    let first : made (known (deeper e d) base) ≡ Some x = within_at (made (known d base)) (made (known (deeper e d) base)) x (grows (known d base) (known (deeper e d) base) (deeper_grows base e d b)) hx in
    let second : made (known (deeper d e) base) ≡ Some y = within_at (made (known e base)) (made (known (deeper d e) base)) y (grows (known e base) (known (deeper d e) base) (deeper_grows base d e b)) hy in
    let same : made (known (deeper e d) base) ≡ made (known (deeper d e) base) = ap (λ n. made (known n base)) (deeper_comm e d) in
    cc

-- a pattern has one expansion at most
pub expands_one : (ds : List Definition) (p q r : PatternNode) → Expands ds p q → Expands ds p r → q ≡ r
expands_one ds p q r h k = one_of (expand p) (macros_in ds) (macros_begun ds) (expand_grows p) h.0 k.0 q r h.1 k.1

-- and so have definitions
pub expanded_one : (ds es fs : List Definition) → AreExpanded ds es → AreExpanded ds fs → es ≡ fs
expanded_one ds es fs h k = one_of (expand_definitions ds ds) (macros_in ds) (macros_begun ds) (definitions_grow ds ds) h.depth k.depth es fs h.made k.made
