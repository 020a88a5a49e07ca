-- Lists, conditions and definitions that are expanded one after another.
use Rattle.std.proofs.Common.{◌≡◌, ℕ, ◌+◌, ◌<◌, ◌≤◌, List, [], ◌∷◌, ◌++◌, length, get_or, drop, Option, None, Some, refl, ap, sym, ◌∙◌, append_assoc}
use Rattle.std.proofs.lemmas.List.{drop_all, drop_more, map-append}
use Rattle.isle_base_source.specs.declared.pos.Pos.{Pos}
use Rattle.isle_ast_names.specs.Tree.{Name}
use Rattle.isle_ast_rules.specs.Tree.{PatternNode, PatternList, term_pattern}
use Rattle.isle_ast_rules.specs.declared.Pattern.{Pattern}
use Rattle.isle_ast_rules.specs.Templates.{join}
use Rattle.isle_ast_rules.specs.TreeView.{pattern_of, pattern_list_of, patterns_of}
use Rattle.isle_ast_rules.proofs.Templates.{join_all, join_end, join_none, join_push}
use Rattle.isle_expand_core.specs.Macros.{MacroNode}
use Rattle.isle_expand_core.specs.Expansion.{expand, expand_list, expand_use, filled, list_list}
use Rattle.isle_expand_core.specs.Definitions.{both}
use Rattle.isle_expand_core.specs.Views.{Refuses}
use Rattle.isle_expand_core.specs.declared.patterns.Refusal.{Refusal}
use Rattle.isle_expand_core.specs.declared.patterns.Refusal.TheVariants as refusals

-- where the one has no expansion, neither has the other
pub refuses : {X Y : Type 0} (r : Refusal) (o : Option X) (n : Option Y) → (o ≡ None → n ≡ None) → Refuses r o → Refuses r n
refuses refusals.Use o n f h = f h
refuses refusals.Memory o n f h = tt

pub list_listed : (ps : List PatternNode) → list_list (pattern_list_of ps) ≡ ps
list_listed [] = refl
list_listed (p ∷ ps) = ap (λ rest. p ∷ rest) (list_listed ps)

-- the next pattern of a list, and the rest
list_more : (ps : List Pattern) (i : ℕ) (p : Pattern) (ms : List MacroNode) → i < length ps → p ≡ get_or ps i p →
    expand_list (pattern_list_of (patterns_of (drop i ps))) ms ≡ join (expand (pattern_of p) ms) (expand_list (pattern_list_of (patterns_of (drop (i + 1) ps))) ms)
list_more ps i p ms within here =
    ap (λ qs. expand_list (pattern_list_of (patterns_of qs)) ms) (drop_more ps i p within ∙ ap (λ q. q ∷ drop (i + 1) ps) (sym here))

-- where a pattern has no expansion, neither has the list
pub list_lacks : (made ps : List Pattern) (i : ℕ) (p : Pattern) (ms : List MacroNode) → i < length ps → p ≡ get_or ps i p →
    join_all (patterns_of made) (expand_list (pattern_list_of (patterns_of (drop i ps))) ms) ≡ expand_list (pattern_list_of (patterns_of ps)) ms →
    expand (pattern_of p) ms ≡ None → expand_list (pattern_list_of (patterns_of ps)) ms ≡ None
list_lacks made ps i p ms within here h lacks =
    let rest = expand_list (pattern_list_of (patterns_of (drop (i + 1) ps))) ms in
    sym h ∙ ap (join_all (patterns_of made)) (list_more ps i p ms within here ∙ ap (λ o. join o rest) lacks) ∙ join_none (patterns_of made)

-- a pattern that is expanded is one more of the list
pub list_grows : (made later ps : List Pattern) (i : ℕ) (p q : Pattern) (ms : List MacroNode) → i < length ps → p ≡ get_or ps i p →
    expand (pattern_of p) ms ≡ Some (pattern_of q) → later ≡ made ++ (q ∷ []) →
    join_all (patterns_of made) (expand_list (pattern_list_of (patterns_of (drop i ps))) ms) ≡ expand_list (pattern_list_of (patterns_of ps)) ms →
    join_all (patterns_of later) (expand_list (pattern_list_of (patterns_of (drop (i + 1) ps))) ms) ≡ expand_list (pattern_list_of (patterns_of ps)) ms
list_grows made later ps i p q ms within here is grown h =
    let rest = expand_list (pattern_list_of (patterns_of (drop (i + 1) ps))) ms in
    ap (λ qs. join_all qs rest) (ap patterns_of grown ∙ map-append pattern_of made (q ∷ []))
    ∙ join_push (patterns_of made) (pattern_of q) rest
    ∙ sym (ap (join_all (patterns_of made)) (list_more ps i p ms within here ∙ ap (λ o. join o rest) is)) ∙ h

-- past the last pattern of a list all is expanded
pub list_ends : (made ps : List Pattern) (i : ℕ) (ms : List MacroNode) → length ps ≤ i →
    join_all (patterns_of made) (expand_list (pattern_list_of (patterns_of (drop i ps))) ms) ≡ expand_list (pattern_list_of (patterns_of ps)) ms →
    expand_list (pattern_list_of (patterns_of ps)) ms ≡ Some (pattern_list_of (patterns_of made))
list_ends made ps i ms past h =
    sym h ∙ ap (λ qs. join_all (patterns_of made) (expand_list (pattern_list_of (patterns_of qs)) ms)) (drop_all i ps past) ∙ join_end (patterns_of made)

-- lists after one another
pub both_push : {A : Type 0} (xs ys : List A) (o : Option (List A)) → both (Some xs) (both (Some ys) o) ≡ both (Some (xs ++ ys)) o
both_push xs ys None = refl
both_push xs ys (Some zs) = ap (λ l. Some l) (sym (append_assoc xs ys zs))

pub both_begins : {A : Type 0} (o : Option (List A)) → both (Some []) o ≡ o
both_begins None = refl
both_begins (Some xs) = refl

-- a symbol that means no macro, and one that means this macro
pub no_use : (term : Name) (place : Pos) (o : Option MacroNode) (args : PatternList) → o ≡ None → expand_use term place o args ≡ Some (term_pattern term args place)
no_use term place o args h = ap (λ n. expand_use term place n args) h

pub use_of : (term : Name) (place : Pos) (o : Option MacroNode) (m : MacroNode) (args : List PatternNode) → o ≡ Some m →
    expand_use term place o (pattern_list_of args) ≡ filled m args
use_of term place o m args h = ap (λ n. expand_use term place n (pattern_list_of args)) h ∙ ap (filled m) (list_listed args)
