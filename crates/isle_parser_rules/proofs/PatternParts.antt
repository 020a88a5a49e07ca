-- Patterns, as the code reads them.
use Rattle.std.proofs.Common.{◌≡◌, ◌≤◌, ◌<◌, Bool, true, false, List, [], ◌∷◌, ◌++◌, length, Option, Some, None, refl, sym, subst, ◌∙◌, arith, rules}
use Rattle.std.specs.Prelude.{ℕ, ℤ, ◌||◌, if◌then◌else◌, codes}
use Rattle.isle_base_source.specs.declared.pos.Pos.{Pos}
use Rattle.isle_base.specs.Place.{Placed}
use Rattle.isle_base.specs.Token.{Tok, lparen, rparen, symbol, integer, at_sign}
use Rattle.isle_ast_names.specs.Tree.{Name}
use Rattle.isle_ast_rules.specs.Tree.{PatternNode, and_pattern, int_pattern, term_pattern}
use Rattle.isle_ast_rules.specs.declared.Pattern.{the_lemmas}
use Rattle.isle_ast_rules.specs.declared.Pattern.TheVariants.{ConstInt}
use Rattle.isle_ast_rules.specs.TreeView.{pattern_of, pattern_list_of}
use Rattle.isle_parser_cursor.specs.declared.cursor.Stop.{Stop}
use Rattle.isle_parser_cursor.specs.Outcomes.{CursorSource, Stops}
use Rattle.isle_parser_cursor.specs.Reading.{Reader, ◌>>=◌, at_rparen, expect, flag, in_parentheses, is_ahead, is_const, is_lparen, is_rparen, is_symbol_of, many, pos_ahead}
use Rattle.isle_parser_cursor.specs.NameReaders.{name}
use Rattle.isle_parser_cursor.specs.NumberReaders.{integer_within}
use Rattle.isle_parser_rules.specs.Appended.{appended}
use Rattle.isle_parser_rules.specs.PatternReaders.{false_pattern, group_node, integer_pattern, is_fixed, pattern, pattern_group, pattern_head, pattern_inside, pattern_layer, symbol_pattern, true_pattern, variable_pattern, word_pattern}
use Rattle.isle_parser_cursor.proofs.Lengths.{expect_shorter, flag_shorter}
use Rattle.isle_parser_cursor.proofs.Names.{name_shrinks}
use Rattle.isle_parser_cursor.proofs.Readers.{bind_some, done_is}
use Rattle.isle_parser_rules.proofs.Reading.Patterns.{pattern-unfolds}
use Rattle.isle_parser_cursor.specs.declared.cursor.Stop.TheVariants as stops

-- a pattern is its own step
pub pattern_is : (all : List Placed) → pattern all ≡ pattern_layer pattern all
pattern_is all = pattern-unfolds all

int_seen : (val : ℤ) (place : Pos) → pattern_of (ConstInt val place) ≡ int_pattern val place
int_seen val place = search (rules, the_lemmas)

-- an integer that was taken
pub int_taken : (all rest : List Placed) (val held : ℤ) (place : Pos) → held ≡ val → integer_within 127 all ≡ Some (val, rest) → integer_pattern place all ≡ Some (pattern_of (ConstInt held place), rest)
unfolding integer_pattern
int_taken all rest val held place same e = rw (int_seen held place, same, e) refl

-- none of four tests is passed
none_of : (a b c d : Bool) → false ≡ (a || b || c || d) → (a ≡ false) × (b ≡ false) × (c ≡ false) × (d ≡ false)
none_of false false false false e = (refl, refl, refl, refl)
none_of true b c d e = absurd cc
none_of false true c d e = absurd cc
none_of false false true d e = absurd cc
none_of false false false true e = absurd cc

not_ahead : (word : List ℕ) (all : List Placed) → is_ahead (is_symbol_of word) all ≡ false → flag word all ≡ Some (false, all)
unfolding flag
not_ahead word all e = rw e refl

-- a symbol that is neither a constant nor one of the words is a variable
pub variable_is : (place : Pos) (all : List Placed) → false ≡ is_fixed all → symbol_pattern place pattern all ≡ variable_pattern place pattern all
unfolding symbol_pattern word_pattern true_pattern false_pattern
variable_is place all e =
    let h = none_of (is_ahead is_const all) (is_ahead (is_symbol_of (codes "_")) all) (is_ahead (is_symbol_of (codes "true")) all) (is_ahead (is_symbol_of (codes "false")) all) e in
    rw (h.0, not_ahead (codes "_") all h.1, not_ahead (codes "true") all h.2, not_ahead (codes "false") all h.3) refl

-- ---- a pattern in parentheses

-- what is read, and `)`
abbrev closing : Option (PatternNode × List Placed) → Option (PatternNode × List Placed)
closing read = read >>= λ x. expect is_rparen x.1 >>= λ rest. Some (x.0, rest.1)

-- the patterns after a head, and `)`
abbrev grouped : Pos → Option (Option Name × List Placed) → Option (PatternNode × List Placed)
grouped place head = head >>= λ h. many at_rparen pattern h.1 >>= λ ps. expect is_rparen ps.1 >>= λ rest. Some (group_node place h.0 ps.0, rest.1)

after_patterns : (make : List PatternNode → PatternNode) (read : Option (List PatternNode × List Placed)) → closing (read >>= λ ps. Some (make ps.0, ps.1)) ≡ (read >>= λ ps. expect is_rparen ps.1 >>= λ rest. Some (make ps.0, rest.1))
after_patterns make None = refl
after_patterns make (Some ps) = refl

after_name : (place : Pos) (read : Option (Name × List Placed)) → closing (read >>= λ n. many at_rparen pattern n.1 >>= λ ps. Some (term_pattern n.0 (pattern_list_of ps.0) place, ps.1)) ≡ grouped place (read >>= λ n. Some (Some n.0, n.1))
after_name place None = refl
after_name place (Some n) = after_patterns (λ ps. term_pattern n.0 (pattern_list_of ps) place) (many at_rparen pattern n.1)

after_word : (place : Pos) (read : Option (Bool × List Placed))
    → closing (read >>= λ word. if word.0 then (many at_rparen pattern word.1 >>= λ ps. Some (and_pattern (pattern_list_of ps.0) place, ps.1)) else
    (name word.1 >>= λ n. many at_rparen pattern n.1 >>= λ ps. Some (term_pattern n.0 (pattern_list_of ps.0) place, ps.1))) ≡ grouped place
    (read >>= λ word. if word.0 then Some (None, word.1) else (name word.1 >>= λ n. Some (Some n.0, n.1)))
after_word place None = refl
after_word place (Some (true, rest)) = after_patterns (λ ps. and_pattern (pattern_list_of ps) place) (many at_rparen pattern rest)
after_word place (Some (false, rest)) = after_name place (name rest)

after_lparen : (place : Pos) (read : Option (Tok × List Placed))
    → (read >>= λ inside. closing (pattern_inside place pattern inside.1)) ≡ grouped place
    (read >>= λ inside. flag (codes "and") inside.1 >>= λ word. if word.0 then Some (None, word.1) else (name word.1 >>= λ n. Some (Some n.0, n.1)))
unfolding pattern_inside
after_lparen place None = refl
after_lparen place (Some inside) = after_word place (flag (codes "and") inside.1)

-- a pattern in parentheses is read head first
pub group_is : (place : Pos) (all : List Placed) → in_parentheses (pattern_inside place pattern) all ≡ pattern_group place pattern all
unfolding in_parentheses pattern_group pattern_head
group_is place all = after_lparen place (expect is_lparen all)

stepped : (place : Pos) (t : Tok) (xs : List Placed) → true ≡ is_lparen t → pattern_layer pattern (record { pos = place; token = t } ∷ xs) ≡ in_parentheses (pattern_inside place pattern) (record { pos = place; token = t } ∷ xs)
unfolding pattern_layer
stepped place lparen xs e = refl
stepped place rparen xs e = absurd cc
stepped place (symbol text) xs e = absurd cc
stepped place (integer value) xs e = absurd cc
stepped place at_sign xs e = absurd cc

-- a pattern that begins with `(` is in parentheses
pub group_ahead : (all : List Placed) → true ≡ is_ahead is_lparen all → pattern all ≡ pattern_group (pos_ahead all) pattern all
group_ahead [] e = absurd cc
group_ahead (x ∷ xs) e = pattern_is (x ∷ xs) ∙ (stepped x.pos x.token xs e ∙ group_is x.pos (x ∷ xs))

-- the head after `(`, where this flag says whether `and` stood there
abbrev behind_flag : Bool × List Placed → Option (Option Name × List Placed)
behind_flag word = if word.0 then Some (None, word.1) else (name word.1 >>= λ n. Some (Some n.0, n.1))

head_behind : (word : Bool) (all rest : List Placed) (head : Option Name) → behind_flag (word, all) ≡ Some (head, rest) → length rest ≤ length all
head_behind true all rest head e = rw (sym (done_is None head all rest e).1) (omega arith)
head_behind false all rest head e =
    let n = bind_some (name all) (λ n. Some (Some n.0, n.1)) (head, rest) e in
    let behind : n.0.1 ≡ rest = (done_is (Some n.0.0) head n.0.1 rest n.2).1 in
    let less = name_shrinks all n.0.1 n.0.0 n.1 in
    rw (sym behind) (omega (arith, less))

-- a head leaves fewer tokens
pub head_shorter : (all rest : List Placed) (head : Option Name) → pattern_head all ≡ Some (head, rest) → length rest < length all
unfolding pattern_head
head_shorter all rest head e =
    let i = bind_some (expect is_lparen all) (λ inside. flag (codes "and") inside.1 >>= behind_flag) (head, rest) e in
    let w = bind_some (flag (codes "and") i.0.1) behind_flag (head, rest) i.2 in
    let behind = head_behind w.0.0 w.0.1 rest head w.2 in
    omega (arith, expect_shorter is_lparen all i.0.1 i.0.0 i.1, flag_shorter (codes "and") i.0.1 w.0.1 w.0.0 w.1, behind)

-- ---- a pattern after others

-- what is appended is one node that was read
pub appended_some : {A : Type 0} (read : Reader A) (front list : List A) (all rest : List Placed) → appended read front all ≡ Some (list, rest) → (x : A) × (read all ≡ Some (x, rest)) × (front ++ x ∷ [] ≡ list)
unfolding appended
appended_some {A} read front list all rest e =
    let a = bind_some (read all) (λ x. Some (front ++ x.0 ∷ [], x.1)) (list, rest) e in
    let same = done_is (front ++ a.0.0 ∷ []) list a.0.1 rest a.2 in
    (a.0.0, subst (λ (r : List Placed). read all ≡ Some (a.0.0, r)) same.1 a.1, same.0)

none_behind : {A B : Type 0} (read : Option A) (make : A → B) → (read >>= λ x. Some (make x)) ≡ None → read ≡ None
none_behind None make e = refl
none_behind (Some x) make e = absurd cc

none_appended : {A : Type 0} (read : Reader A) (front : List A) (all : List Placed) → appended read front all ≡ None → read all ≡ None
unfolding appended
none_appended read front all e = none_behind (read all) (λ x. (front ++ x.0 ∷ [], x.1)) e

-- where nothing is appended, nothing is read
pub appended_none : {A : Type 0} (read : Reader A) (front : List A) (all : List Placed) (s : CursorSource) (e : Stop) → Stops (appended read front all) s e → Stops (read all) s e
appended_none read front all s (stops.Parser e) h = (none_appended read front all h.0, h.1)
appended_none read front all s stops.Memory h = tt
