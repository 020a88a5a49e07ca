-- Steps of the loops of the code.
use Rattle.std.proofs.Common.{◌≡◌, ◌≢◌, ◌-◌, ◌&&◌, Result, Ok, Err, IfOk, MatchOption, Bor, bytes_eq, eq-eqb, length-drop, ◌<◌, ◌≤◌, ℕ, ◌+◌, zero, suc, List, [], ◌∷◌, ◌++◌, length, get_or, set, drop, map, Bool, true, false, Option, None, Some, option_map, slice_get, if◌then◌else◌, refl, ap, sym, subst, ◌∙◌, arith, append_assoc}
use Rattle.std.specs.List.{cons_option}
use Rattle.std.proofs.lemmas.List.{drop_all, drop_more, drop-drop, map-append}
use Rattle.std.proofs.lemmas.Slice.Eq.{bytes_eq-Decides}
use Rattle.isle_base_source.specs.declared.pos.Pos.{Pos}
use Rattle.isle_ast_names.specs.Tree.{Name}
use Rattle.isle_ast_names.specs.TreeView.{name_of}
use Rattle.isle_ast_rules.specs.declared.Pattern.{Pattern}
use Rattle.isle_ast_rules.specs.Tree.{PatternNode, PatternList}
use Rattle.isle_ast_rules.specs.TreeView.{pattern_of, pattern_list_of}
use Rattle.isle_ast.specs.Tree.{Definition, extractor}
use Rattle.isle_expand_core.specs.declared.mentions.TermUse.{TermUse as CodeUse}
use Rattle.isle_expand_core.specs.declared.macros.Macro.{Macro}
use Rattle.isle_expand_core.specs.Macros.{MacroNode, macro_in, macros_in, place_of, template_of}
use Rattle.isle_expand_core.specs.Expansion.{expand, expanded_by, list_list}
use Rattle.isle_expand_core.specs.Mentions.{Mention, given_mention, use_mention, TermUse, definition_mentions, mentions, place_after, list_uses, uses}
use Rattle.isle_expand_core.specs.Misuses.{MisuseNode, again}
use Rattle.isle_expand_core.specs.Order.{callee_places, expand_place, with_place}
use Rattle.isle_expand_warnings.specs.First.{first, or_first}
use Rattle.isle_expand_core.specs.Search.{given_misuse, mention_misuse, use_misuse}
use Rattle.isle_expand_core.specs.Views.{macro_of, macros_of, use_of, uses_of}
use Rattle.isle_expand_core.proofs.Lists.{list_listed}
use Rattle.isle_expand_core.proofs.Searching.{first_append, first_map}

-- the next element of a list, and the rest; and nothing past its end
pub view_more : {A B : Type 0} (f : A → B) (xs : List A) (i : ℕ) (x : A) → i < length xs → x ≡ get_or xs i x → map f (drop i xs) ≡ f x ∷ map f (drop (i + 1) xs)
view_more f xs i x within here = ap (map f) (drop_more xs i x within ∙ ap (λ y. y ∷ drop (i + 1) xs) (sym here))

pub view_end : {A B : Type 0} (f : A → B) (xs : List A) (i : ℕ) → length xs ≤ i → map f (drop i xs) ≡ []
view_end f xs i past = ap (map f) (drop_all i xs past)

-- what is at a place of a list that is mapped
pub mapped_at : {A B : Type 0} (f : A → B) (xs : List A) (i : ℕ) (x : A) (d : B) → i < length xs → x ≡ get_or xs i x → get_or (map f xs) i d ≡ f x
mapped_at f [] i x d within here = absurd (omega (arith, within))
mapped_at f (y ∷ xs) zero x d within here = ap f (sym here)
mapped_at f (y ∷ xs) (suc i) x d within here = mapped_at f xs i x d (omega (arith, within)) here

pub mapped_get : {A B : Type 0} (f : A → B) (xs : List A) (i : ℕ) (x : A) → i < length xs → x ≡ get_or xs i x → slice_get (map f xs) i ≡ Some (f x)
mapped_get f [] i x within here = absurd (omega (arith, within))
mapped_get f (y ∷ xs) zero x within here = ap (λ z. Some (f z)) (sym here)
mapped_get f (y ∷ xs) (suc i) x within here = mapped_get f xs i x (omega (arith, within)) here

-- an element more that is mapped
pub push_map : {A B C : Type 0} (f : A → B) (g : C → B) (made later : List A) (xs : List C) (i : ℕ) (a : A) (x : C) (all : List B) → i < length xs → x ≡ get_or xs i x →
    f a ≡ g x → later ≡ made ++ (a ∷ []) → map f made ++ map g (drop i xs) ≡ all → map f later ++ map g (drop (i + 1) xs) ≡ all
push_map f g made later xs i a x all within here same grown h =
    ap (λ ys. map f ys ++ map g (drop (i + 1) xs)) grown ∙ ap (λ ys. ys ++ map g (drop (i + 1) xs)) (map-append f made (a ∷ []))
    ∙ append_assoc (map f made) (f a ∷ []) (map g (drop (i + 1) xs)) ∙ ap (λ b. map f made ++ (b ∷ map g (drop (i + 1) xs))) same
    ∙ sym (ap (λ ys. map f made ++ ys) (view_more g xs i x within here)) ∙ h

-- the template at a place is expanded
pub placed : (ms : List Macro) (place : ℕ) (m n : Macro) (made : Option Pattern) (ks : List MacroNode) → place < length ms → m ≡ get_or ms place m → n ≡ get_or ms place n →
    option_map pattern_of made ≡ expand (pattern_of n.template.now) ks → macros_of (set ms place (record m { expansion = made })) ≡ expand_place place ks (macros_of ms)
placed [] place m n made ks within here there is = absurd (omega (arith, within))
placed (x ∷ ms) zero m n made ks within here there is =
    ap (λ e. record { term = (macro_of m).term; arity = m.arity; template = pattern_of m.template.now; expansion = e } ∷ macros_of ms)
    (is ∙ ap (λ (y : Macro). expand (pattern_of y.template.now) ks) (there ∙ sym here))
    ∙ ap (λ (y : Macro). expanded_by ks (macro_of y) ∷ macros_of ms) here
placed (x ∷ ms) (suc place) m n made ks within here there is = ap (λ rest. macro_of x ∷ rest) (placed ms place m n made ks (omega (arith, within)) here there is)

pub unplaced : (place : ℕ) (ks ms : List MacroNode) → length ms ≤ place → expand_place place ks ms ≡ ms
unplaced place ks [] past = refl
unplaced zero ks (m ∷ ms) past = absurd (omega (arith, past))
unplaced (suc place) ks (m ∷ ms) past = ap (λ rest. m ∷ rest) (unplaced place ks ms (omega (arith, past)))

-- the callees of one use more
pub callee_push : (ms : List MacroNode) (places later : List ℕ) (u : TermUse) (us : List TermUse) (p : ℕ) (all : List ℕ) → place_of u.term.text ms ≡ Some p → later ≡ places ++ (p ∷ []) →
    places ++ callee_places ms (u ∷ us) ≡ all → later ++ callee_places ms us ≡ all
callee_push ms places later u us p all is grown h =
    ap (λ ps. ps ++ callee_places ms us) grown ∙ append_assoc places (p ∷ []) (callee_places ms us)
    ∙ sym (ap (λ o. places ++ with_place o (callee_places ms us)) is) ∙ h

pub callee_none : (ms : List MacroNode) (places : List ℕ) (u : TermUse) (us : List TermUse) (all : List ℕ) → place_of u.term.text ms ≡ None →
    places ++ callee_places ms (u ∷ us) ≡ all → places ++ callee_places ms us ≡ all
callee_none ms places u us all is h = sym (ap (λ o. places ++ with_place o (callee_places ms us)) is) ∙ h

-- the search goes on, or ends
pub first_next : {A B : Type 0} (f : A → Option B) (x : A) (xs : List A) (all : Option B) → f x ≡ None → first f (x ∷ xs) ≡ all → first f xs ≡ all
first_next f x xs all is h = sym (ap (λ o. or_first o (first f xs)) is) ∙ h

pub first_here : {A B : Type 0} (f : A → Option B) (x : A) (xs : List A) (all : Option B) (n : B) → f x ≡ Some n → first f (x ∷ xs) ≡ all → all ≡ Some n
first_here f x xs all n is h = sym h ∙ ap (λ o. or_first o (first f xs)) is

pub mentions_next : (f : Mention → Option MisuseNode) (place : ℕ) (d : Definition) (ds : List Definition) (all : Option MisuseNode) → first f (definition_mentions place d) ≡ None →
    first f (mentions place (d ∷ ds)) ≡ all → first f (mentions (place_after place d) ds) ≡ all
mentions_next f place d ds all is h =
    sym (first_append f (definition_mentions place d) (mentions (place_after place d) ds) ∙ ap (λ o. or_first o (first f (mentions (place_after place d) ds))) is) ∙ h

pub mentions_here : (f : Mention → Option MisuseNode) (place : ℕ) (d : Definition) (ds : List Definition) (all : Option MisuseNode) (n : MisuseNode) → first f (definition_mentions place d) ≡ Some n →
    first f (mentions place (d ∷ ds)) ≡ all → all ≡ Some n
mentions_here f place d ds all n is h =
    sym h ∙ first_append f (definition_mentions place d) (mentions (place_after place d) ds) ∙ ap (λ o. or_first o (first f (mentions (place_after place d) ds))) is

-- the terms of one pattern of a list more
pub uses_more : (found later start : List TermUse) (p : PatternNode) (ps : PatternList) (all : List TermUse) → later ≡ found ++ uses p →
    found ++ (uses p ++ list_uses ps) ≡ all → later ++ list_uses ps ≡ all
uses_more found later start p ps all is h = ap (λ us. us ++ list_uses ps) is ∙ append_assoc found (uses p) (list_uses ps) ∙ h

-- what holds of an answer, where something holds of it from which that follows
pub ok_from : {A E : Type 0} (r : Result A E) (P Q : A → Type 0) → ((a : A) → P a → Q a) → IfOk r P → IfOk r Q
ok_from (Ok a) P Q f p = f a p
ok_from (Err e) P Q f p = tt

-- a term, before those of its arguments
pub term_added : (found later : List CodeUse) (u : CodeUse) (ps : List PatternNode) → later ≡ found ++ (u ∷ []) → u.given ≡ length ps →
    uses_of later ++ list_uses (pattern_list_of ps)
    ≡ uses_of found ++ (record { term = name_of u.term.now; given = length (list_list (pattern_list_of ps)); pos = u.pos } ∷ list_uses (pattern_list_of ps))
term_added found later u ps grown count =
    ap (λ us. uses_of us ++ list_uses (pattern_list_of ps)) grown ∙ ap (λ us. us ++ list_uses (pattern_list_of ps)) (map-append use_of found (u ∷ []))
    ∙ append_assoc (uses_of found) (use_of u ∷ []) (list_uses (pattern_list_of ps))
    ∙ ap (λ n. uses_of found ++ (record { term = name_of u.term.now; given = n; pos = u.pos } ∷ list_uses (pattern_list_of ps))) (count ∙ ap length (sym (list_listed ps)))

-- the macros of the definitions to come
pub rest_macros : (ms : List MacroNode) (place : ℕ) (d : Definition) (ds : List Definition) (m : MacroNode) → drop place ms ≡ macros_in (d ∷ ds) → macro_in d ≡ Some m → slice_get ms place ≡ Some m
rest_macros ms place d ds m rest is =
    sym (get_drop place ms) ∙ ap (λ xs. slice_get xs 0) rest ∙ ap (λ o. slice_get (cons_option o (macros_in ds)) 0) is
  where
    get_drop : (place : ℕ) (ms : List MacroNode) → slice_get (drop place ms) 0 ≡ slice_get ms place
    get_drop zero ms = refl
    get_drop (suc place) [] = refl
    get_drop (suc place) (m ∷ ms) = get_drop place ms

drop_next : (place : ℕ) (ms : List MacroNode) (m : MacroNode) (rest : List MacroNode) → drop place ms ≡ m ∷ rest → drop (place + 1) ms ≡ rest
drop_next place ms m rest h = sym (drop-drop 1 place ms) ∙ ap (drop 1) h

drop_within : (place : ℕ) (ms : List MacroNode) (m : MacroNode) (rest : List MacroNode) → drop place ms ≡ m ∷ rest → place + 1 ≤ length ms
drop_within place ms m rest h =
    let count : length ms - place ≡ suc (length rest) = sym (length-drop place ms) ∙ ap length h in
    omega (arith, count)

pub record PlaceAfter (ms : List MacroNode) (place : ℕ) (ds : List Definition) : Type 0 where
  pub rest : drop place ms ≡ macros_in ds
  pub within : place ≤ length ms

pub place_next : (ms : List MacroNode) (place : ℕ) (d : Definition) (ds : List Definition) → drop place ms ≡ macros_in (d ∷ ds) → place ≤ length ms → PlaceAfter ms (place_after place d) ds
place_next ms place (extractor e) ds rest within =
    let m : MacroNode = record { term = e.term; arity = length e.args; template = template_of e; expansion = None } in
    record { rest = drop_next place ms m (macros_in ds) rest; within = drop_within place ms m (macros_in ds) rest }
place_next ms place d ds rest within = record { rest = rest; within = within }

-- an extractor that is the first one of its term, and the uses in its template
pub given_next : (ms : List MacroNode) (flags : List Bool) (term : Name) (place : ℕ) (pos : Pos) (us : List TermUse) → place_of term.text ms ≡ Some place →
    first (mention_misuse ms flags) (given_mention term place pos ∷ map use_mention us) ≡ first (use_misuse ms flags) us
given_next ms flags term place pos us is =
    let rest = first (mention_misuse ms flags) (map use_mention us) in
    ap (λ o. or_first (given_misuse term place pos o) rest) is ∙ ap (λ b. or_first (if b then None else Some (again term pos)) rest) (eq-eqb place place refl)
    ∙ first_map (mention_misuse ms flags) use_mention us

pub template_same : (m n : MacroNode) → Some m ≡ Some n → m.template ≡ n.template
template_same m n e = let same : m ≡ n = cc in ap (λ (k : MacroNode). k.template) same
