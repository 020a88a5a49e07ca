-- The expansion of definitions: the rules, with the patterns expanded that are uses, and all else but
-- the extractors and the declarations that only they define.
use Rattle.std.specs.Prelude.{◌≡◌, ℕ, List, [], ◌∷◌, ◌++◌, Bool, false, ◌&&◌, not, is_some, Option, None, Some, option_map, option_and_then, slice_get, if◌then◌else◌}
use Rattle.std.specs.List.{AllByRecursion, list_any}
use Rattle.std.specs.Str.{bytes_eq}
use Rattle.isle_ast_rules.specs.Tree.{PatternNode, term_pattern, Condition, RuleDefinition}
use Rattle.isle_ast_rules.specs.TermHeads.{heads, list_heads}
use Rattle.isle_ast.specs.Tree.{ExternDefinition, extern_extractor, extern_constructor, Declaration, Definition, type_def, rule, extractor, decl, external}
use Rattle.isle_expand_warnings.specs.Variants.{has_variant}
use Rattle.isle_expand_core.specs.Macros.{MacroNode, macros_in, meant, place_of, template_of}
use Rattle.isle_expand_core.specs.Expansion.{expand, expand_list, known}

-- a value before a list, and a list before another, where both are given
abbrev pub both : {A : Type 0} → Option (List A) → Option (List A) → Option (List A)
both None ys = None
both (Some xs) None = None
both (Some xs) (Some ys) = Some (xs ++ ys)

-- the root of a rule with its arguments expanded. The root itself is no use: it names the term that
-- the rule defines. A root that is no term stays as it is
abbrev pub expand_root : PatternNode → List MacroNode → Option PatternNode
expand_root (term_pattern term args place) ms =
    option_map (λ made. term_pattern term made place) (expand_list args ms)
expand_root p ms = Some p

-- a condition and a rule with their patterns expanded by what is known of macros; none if one can't
-- be
abbrev pub expand_condition : Condition → List MacroNode → Option (List Condition)
expand_condition c ms =
    option_map (λ p. record { pattern = p; expr = c.expr; pos = c.pos } ∷ []) (expand c.pattern ms)

abbrev pub expand_conditions : List Condition → List MacroNode → Option (List Condition)
expand_conditions [] ms = Some []
expand_conditions (c ∷ cs) ms = both (expand_condition c ms) (expand_conditions cs ms)

abbrev pub with_patterns : RuleDefinition → PatternNode → List Condition → RuleDefinition
with_patterns r p cs =
    record { pattern = p; iflets = cs; expr = r.expr; pos = r.pos; prio = r.prio; name = r.name }

abbrev pub expand_rule : RuleDefinition → List MacroNode → Option RuleDefinition
expand_rule r ms =
    option_and_then
    (λ p. option_map (with_patterns r p) (expand_conditions r.iflets ms))
    (expand_root r.pattern ms)

-- whether a pattern is a term of this symbol
abbrev pub has_root : List ℕ → PatternNode → Bool
has_root text (term_pattern term args place) = bytes_eq term.text text
has_root text p = false

abbrev pub is_outside : List ℕ → ExternDefinition → Bool
is_outside text (extern_extractor term func place infallible) = bytes_eq term.text text
is_outside text (extern_constructor term func place) = bytes_eq term.text text
is_outside text e = false

-- whether a definition defines the term of this symbol in another way than as an extractor: a rule,
-- an outside definition, or a type
abbrev pub defines : List ℕ → Definition → Bool
defines text (rule r) = has_root text r.pattern
defines text (external e) = is_outside text e
defines text (type_def t) = has_variant text t t.ty
defines text d = false

-- whether only an extractor defines what is declared, among these definitions with these macros
abbrev pub is_only_extracted : List Definition → List MacroNode → Declaration → Bool
is_only_extracted ds ms d = is_some (meant d.term.text ms) && not (list_any (defines d.term.text) ds)

-- what is left of one of the definitions ds: a rule with its patterns expanded, nothing of an
-- extractor, whose template has to have an expansion too, nothing of the declaration of a term that
-- only an extractor defines, and any other definition as it is
abbrev pub expand_definition : List Definition → Definition → List MacroNode → Option (List Definition)
expand_definition ds (rule r) ms = option_map (λ s. rule s ∷ []) (expand_rule r ms)
expand_definition ds (extractor e) ms = option_map (λ _. []) (expand (template_of e) ms)
expand_definition ds (decl d) ms = Some (if is_only_extracted ds ms d then [] else decl d ∷ [])
expand_definition ds d ms = Some (d ∷ [])

abbrev pub expand_definitions : List Definition → List Definition → List MacroNode → Option (List Definition)
expand_definitions all [] ms = Some []
expand_definitions all (d ∷ ds) ms = both (expand_definition all d ms) (expand_definitions all ds ms)

-- each extractor is the first one of its term
abbrev pub AreGivenOnce : List MacroNode → Type 0
AreGivenOnce ms = (i : ℕ) (m : MacroNode) → slice_get ms i ≡ Some m → place_of m.term.text ms ≡ Some i

-- es are the definitions ds, expanded by the extractors among them
pub record AreExpanded (ds es : List Definition) : Type 0 where
  pub once : AreGivenOnce (macros_in ds)
  pub depth : ℕ
  pub made : expand_definitions ds ds (known depth (macros_in ds)) ≡ Some es

-- no term of the pattern is a use of a macro
abbrev pub IsFree : List MacroNode → PatternNode → Type 0
IsFree ms p = AllByRecursion (λ head. meant head.1.text ms ≡ None) (heads p)

-- nor one beneath the root of a rule, if that is a term
abbrev pub RootIsFree : List MacroNode → PatternNode → Type 0
RootIsFree ms (term_pattern term args place) = AllByRecursion (λ head. meant head.1.text ms ≡ None) (list_heads args)
RootIsFree ms p = Unit {0}

-- nor one of the conditions of a rule, nor of the rules among definitions, none of which is an
-- extractor
abbrev pub RuleIsFree : List MacroNode → RuleDefinition → Type 0
RuleIsFree ms r = RootIsFree ms r.pattern × AllByRecursion (λ c. IsFree ms c.pattern) r.iflets

abbrev pub DefinitionIsFree : List MacroNode → Definition → Type 0
DefinitionIsFree ms (rule r) = RuleIsFree ms r
DefinitionIsFree ms (extractor e) = ⊥
DefinitionIsFree ms d = Unit {0}

abbrev pub AreFree : List MacroNode → List Definition → Type 0
AreFree ms ds = AllByRecursion (DefinitionIsFree ms) ds
