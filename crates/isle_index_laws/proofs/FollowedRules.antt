-- Tokens with other names spell the patterns, expressions and rules with these names.
use Rattle.std.proofs.Common.{[], ◌≡◌, ℕ, ℤ, List, ◌∷◌, ◌++◌, map, Bool, true, false, not, ◌&&◌, ◌||◌, Option, None, Some, bytes_eq, codes, refl, sym, ap, ◌∙◌, inl, inr, ⊎_elim, arith}
use Rattle.std.proofs.lemmas.Bool.{and_from, and_parts}
use Rattle.std.specs.List.{flat_map}
use Rattle.isle_base.specs.Place.{Placed}
use Rattle.isle_base.specs.Token.{at_sign, integer}
use Rattle.isle_base_source.specs.declared.pos.Pos.{Pos}
use Rattle.isle_ast_names.specs.Identifier.{is_identifier}
use Rattle.isle_ast_names.specs.Tree.{Name}
use Rattle.isle_ast_names.specs.Words.{BeginsAt, BehindWord, InParentheses, SpellsAll, SpellsName, SpellsOptional, SpellsToken, is_bool_word, is_constant, SpellsConstant}
use Rattle.isle_ast_names.specs.Numbers.{IsSigned, SpellsPriority}
use Rattle.isle_ast_names.proofs.Lawful.{Begins, Plain, SpellsTested, Then, nothing_plain, parentheses_begin, then_begins, token_begins, token_plain, where_plain}
use Rattle.isle_ast_names.proofs.LawfulWords.{optional_name_lawful}
use Rattle.isle_ast_rules.specs.ExpressionGrammar.{SpellsExpression, SpellsExpressions, SpellsLets, SpellsExpressionVariable, is_variable_of_expressions}
use Rattle.isle_ast_rules.specs.PatternGrammar.{SpellsPattern, SpellsPatterns, SpellsVariable, is_variable_of_patterns}
use Rattle.isle_ast_rules.specs.RuleGrammar.{SpellsCondition, SpellsExtractor, SpellsMatch, SpellsRule, SpellsTest}
use Rattle.isle_ast_rules.specs.Tree.{PatternNode, var_pattern, bind_pattern, bool_pattern, int_pattern, constant_pattern, term_pattern, wildcard_pattern, and_pattern, macro_arg_pattern, PatternList, no_pattern, more_pattern, Expression, term_expression, var_expression, bool_expression, int_expression, constant_expression, let_expression, ExpressionList, no_expression, more_expression, LetList, no_let, more_let, Condition, RuleDefinition, ExtractorDefinition}
use Rattle.isle_ast_rules.proofs.Lawful.Patterns.{constant_begins, pattern_begins, pattern_lawful}
use Rattle.isle_ast_rules.proofs.Lawful.Expressions.{expression_begins, expression_lawful}
use Rattle.isle_resolve.specs.declared.event.Kind.TheVariants as kinds
use Rattle.isle_resolve.specs.declared.event.Role.{Role}
use Rattle.isle_resolve.specs.declared.event.Role.TheVariants as roles
use Rattle.isle_resolve.specs.Event.{EventNode, binds, ends, occurs, reads, uses}
use Rattle.isle_resolve.specs.Events.{condition_events, expression_events, expression_list_events, extractor_events, let_ends, let_events, named, pattern_events, pattern_list_events, rule_events}
use Rattle.isle_resolve.specs.Mapped.{map_condition, map_expression, map_expression_list, map_extractor, map_lets, map_pattern, map_pattern_list, map_rule}
use Rattle.isle_index.specs.Renaming.{is_reserved}
use Rattle.isle_resolve.proofs.Texts.{bytes-false}
use Rattle.isle_index_laws.specs.Kept.{AreKept, CanReplace, IsKeptName}
use Rattle.isle_index_laws.proofs.Marks.{SameEvents, events_at, events_in_turn, exchanged, wanted}
use Rattle.isle_index_laws.proofs.Follows.{Follow, KeepsPlaces, at, behind_word, chain, each_follows, each_one_follows, in_parentheses, one_constant, one_name, remade, split, still}
use Rattle.isle_index_laws.proofs.KeptNames.{clash, no_sign, not_word}
use Rattle.isle_index_laws.proofs.NewNames.{not-false}
use Rattle.isle_index_laws.proofs.KeptTrees.{no_condition, same_head}

-- texts of variables

free : (new word : List ℕ) → is_reserved new ≡ false → is_reserved word ≡ true → bytes_eq new word ≡ false
free new word other reserved = bytes-false new word (λ e. clash (is_reserved new) (ap is_reserved e ∙ reserved) other)

no_bool : (new : List ℕ) → is_reserved new ≡ false → is_bool_word new ≡ false
no_bool new other = ap (λ b. b || bytes_eq new (codes "false")) (free new (codes "true") other refl) ∙ free new (codes "false") other refl

pattern_text : (old new : List ℕ) → CanReplace old new → is_variable_of_patterns old ≡ true → is_variable_of_patterns new ≡ true
pattern_text old new k h =
    let third = and_parts (is_identifier old && not (is_constant old) && not (bytes_eq old (codes "_"))) (not (is_bool_word old)) h in
    let second = and_parts (is_identifier old && not (is_constant old)) (not (bytes_eq old (codes "_"))) third.0 in
    let first = and_parts (is_identifier old) (not (is_constant old)) second.0 in
    ⊎_elim
    (λ same. ap is_variable_of_patterns same ∙ h)
    (λ p. and_from (is_identifier new && not (is_constant new) && not (bytes_eq new (codes "_"))) (not (is_bool_word new))
    (and_from (is_identifier new && not (is_constant new)) (not (bytes_eq new (codes "_")))
    (and_from (is_identifier new) (not (is_constant new)) (k.name first.0) (ap not (no_sign (is_constant old) (is_constant new) p.1 (not-false (is_constant old) first.1)))) (ap not (free new (codes "_") p.0 refl)))
    (ap not (no_bool new p.0)))
    k.plain

expression_text : (old new : List ℕ) → CanReplace old new → is_variable_of_expressions old ≡ true → is_variable_of_expressions new ≡ true
expression_text old new k h =
    let second = and_parts (is_identifier old && not (is_constant old)) (not (is_bool_word old)) h in
    let first = and_parts (is_identifier old) (not (is_constant old)) second.0 in
    ⊎_elim
    (λ same. ap is_variable_of_expressions same ∙ h)
    (λ p. and_from (is_identifier new && not (is_constant new)) (not (is_bool_word new))
    (and_from (is_identifier new) (not (is_constant new)) (k.name first.0) (ap not (no_sign (is_constant old) (is_constant new) p.1 (not-false (is_constant old) first.1)))) (ap not (no_bool new p.0)))
    k.plain

tested_begins : (test : List ℕ → Bool) (n : Name) → Begins (SpellsTested test n)
tested_begins test n all rest h e = let g = h.1 in cc

-- a name that is an identifier
pub name_follows : (f : Name → Name) → KeepsPlaces f → (n : Name) (e : EventNode) (all rest : List Placed) → wanted e ≡ Some (false, n.pos) →
    IsKeptName f n → SpellsName n all rest → Follow f (SpellsName (f n)) (e ∷ []) all rest
name_follows f keeps n e all rest want k h = one_name f keeps is_identifier n e all rest want k.name h

pub nothing : (f : Name → Name) (all rest : List Placed) → all ≡ rest → Follow f (λ xs ys. xs ≡ ys) [] all rest
nothing f all rest h = record { marks = []; is = h; marked = λ c p. refl; spelt = λ after. refl }

-- patterns

mutual
  pub pattern_follows : (f : Name → Name) → KeepsPlaces f → (role : Role) (p : PatternNode) (all rest : List Placed) → AreKept f (pattern_events role p) →
      SpellsPattern p all rest → Follow f (SpellsPattern (map_pattern f p)) (pattern_events role p) all rest
  pattern_follows f keeps role (var_pattern var pos) all rest k h =
      at f pos (SpellsVariable (f var)) (occurs role var ∷ []) all rest (tested_begins is_variable_of_patterns (f var)) h.0
      (one_name f keeps is_variable_of_patterns var (occurs role var) all rest refl (pattern_text var.text (f var).text k.0) h.1)
  pattern_follows f keeps role (bind_pattern var subpat pos) all rest k h =
      let bound = Then (SpellsToken at_sign) (SpellsPattern (map_pattern f subpat)) in
      let inner = pattern_events role subpat in
      remade f (λ xs ys. BeginsAt pos xs × Then (SpellsVariable (f var)) bound xs ys) (SpellsPattern (bind_pattern (f var) (map_pattern f subpat) pos))
      (occurs (named role) var ∷ inner) (occurs (named role) var ∷ inner) all rest
      (λ xs ys g. (g.0, g.1.0, g.1.2.0, g.1.1, g.1.2.1, g.1.2.2)) (λ c p. refl)
      (at f pos (Then (SpellsVariable (f var)) bound) (occurs (named role) var ∷ inner) all rest
      (then_begins (SpellsVariable (f var)) bound (tested_begins is_variable_of_patterns (f var))) h.0
      (chain f (SpellsVariable (f var)) bound (occurs (named role) var ∷ []) inner all h.1 rest
      (one_name f keeps is_variable_of_patterns var (occurs (named role) var) all h.1 refl (pattern_text var.text (f var).text k.0) h.3)
      (chain f (SpellsToken at_sign) (SpellsPattern (map_pattern f subpat)) [] inner h.1 h.2 rest
      (still f (SpellsToken at_sign) h.1 h.2 (token_plain at_sign).cuts h.4)
      (pattern_follows f keeps role subpat h.2 rest k.1 h.5))))
  pattern_follows f keeps role (bool_pattern val pos) all rest k h = still f (SpellsPattern (bool_pattern val pos)) all rest (pattern_lawful (bool_pattern val pos)).cuts h
  pattern_follows f keeps role (int_pattern val pos) all rest k h = still f (SpellsPattern (int_pattern val pos)) all rest (pattern_lawful (int_pattern val pos)).cuts h
  pattern_follows f keeps role (constant_pattern val pos) all rest k h =
      at f pos (SpellsConstant (f val)) (uses kinds.Constant val ∷ []) all rest (constant_begins (f val)) h.0
      (one_constant f keeps val (uses kinds.Constant val) all rest refl k.0 h.1)
  pattern_follows f keeps role (term_pattern sym args pos) all rest k h =
      let one = Then (SpellsName sym) (SpellsPatterns args) in
      let other = Then (SpellsName (f sym)) (SpellsPatterns (map_pattern_list f args)) in
      let es = uses kinds.Term sym ∷ pattern_list_events role args in
      remade f (λ xs ys. BeginsAt pos xs × InParentheses other xs ys) (SpellsPattern (term_pattern (f sym) (map_pattern_list f args) pos)) es es all rest
      (λ xs ys g. (not_word sym.text (f sym).text (codes "and") k.0 refl h.0, g.0, g.1)) (λ c p. refl)
      (at f pos (InParentheses other) es all rest (parentheses_begin other) h.1
      (in_parentheses f one other es all rest
      (λ inner close g. chain f (SpellsName (f sym)) (SpellsPatterns (map_pattern_list f args)) (uses kinds.Term sym ∷ []) (pattern_list_events role args) inner g.0 close
      (name_follows f keeps sym (uses kinds.Term sym) inner g.0 refl k.0 g.1) (pattern_list_follows f keeps role args g.0 close k.1 g.2))
      h.2))
  pattern_follows f keeps role (wildcard_pattern pos) all rest k h = still f (SpellsPattern (wildcard_pattern pos)) all rest (pattern_lawful (wildcard_pattern pos)).cuts h
  pattern_follows f keeps role (and_pattern subpats pos) all rest k h =
      let one = BehindWord (codes "and") (SpellsPatterns subpats) in
      let other = BehindWord (codes "and") (SpellsPatterns (map_pattern_list f subpats)) in
      let es = pattern_list_events role subpats in
      at f pos (InParentheses other) es all rest (parentheses_begin other) h.0
      (in_parentheses f one other es all rest
      (λ inner close g. behind_word f (codes "and") (SpellsPatterns subpats) (SpellsPatterns (map_pattern_list f subpats)) es inner close
      (λ mid m. pattern_list_follows f keeps role subpats mid close k m) g)
      h.1)
  pattern_follows f keeps role (macro_arg_pattern index pos) all rest k h = absurd h

  pub pattern_list_follows : (f : Name → Name) → KeepsPlaces f → (role : Role) (ps : PatternList) (all rest : List Placed) → AreKept f (pattern_list_events role ps) →
      SpellsPatterns ps all rest → Follow f (SpellsPatterns (map_pattern_list f ps)) (pattern_list_events role ps) all rest
  pattern_list_follows f keeps role no_pattern all rest k h = nothing f all rest h
  pattern_list_follows f keeps role (more_pattern p ps) all rest k h =
      let both = split f (pattern_events role p) (pattern_list_events role ps) k in
      chain f (SpellsPattern (map_pattern f p)) (SpellsPatterns (map_pattern_list f ps)) (pattern_events role p) (pattern_list_events role ps) all h.0 rest
      (pattern_follows f keeps role p all h.0 both.0 h.1) (pattern_list_follows f keeps role ps h.0 rest both.1 h.2)

-- expressions

no_ends : (c : Bool) (p : Pos) (ds : LetList) → events_at c p (let_ends ds) ≡ 0
no_ends c p no_let = refl
no_ends c p (more_let var ty val pos ds) = let more = no_ends c p ds in omega arith

-- with the ends of a `let`, or of a scope
with_ends : (es : List EventNode) (ds : LetList) → SameEvents es (es ++ let_ends ds)
with_ends es ds c p =
    let turn = events_in_turn c p es (let_ends ds) in
    let none = no_ends c p ds in
    omega arith

with_end : (es : List EventNode) → SameEvents es (es ++ (ends ∷ []))
with_end es c p = let turn = events_in_turn c p es (ends ∷ []) in omega arith

let_order : (values : List EventNode) (ty var : Name) → SameEvents (binds var ∷ uses kinds.Type ty ∷ values) (values ++ (uses kinds.Type ty ∷ binds var ∷ []))
let_order values ty var c p = let turn = events_in_turn c p values (uses kinds.Type ty ∷ binds var ∷ []) in omega arith

rule_order : (patterns conditions values : List EventNode) → SameEvents (patterns ++ (conditions ++ values)) (patterns ++ conditions ++ values ++ ends ∷ [])
rule_order patterns conditions values c p =
    let first = events_in_turn c p patterns (conditions ++ values) in
    let second = events_in_turn c p conditions values in
    let third = events_in_turn c p (patterns ++ conditions ++ values) (ends ∷ []) in
    let fourth = events_in_turn c p (patterns ++ conditions) values in
    let fifth = events_in_turn c p patterns conditions in
    omega arith

test_events : (values : List EventNode) (q : PatternNode) (pos : Pos) → q ≡ wildcard_pattern pos → SameEvents values (values ++ pattern_events roles.Plain q)
test_events values q pos is c p =
    let turn = events_in_turn c p values (pattern_events roles.Plain q) in
    let none : events_at c p (pattern_events roles.Plain q) ≡ 0 = ap (λ r. events_at c p (pattern_events roles.Plain r)) is in
    omega arith

-- a variable of a `let`, its type and its value
abbrev Defined : Name → Name → Expression → List Placed → List Placed → Type 0
Defined var ty val inner close =
    (behind_var behind_ty : List Placed) × SpellsName var inner behind_var × SpellsName ty behind_var behind_ty × SpellsExpression val behind_ty close

mutual
  pub expression_follows : (f : Name → Name) → KeepsPlaces f → (x : Expression) (all rest : List Placed) → AreKept f (expression_events x) →
      SpellsExpression x all rest → Follow f (SpellsExpression (map_expression f x)) (expression_events x) all rest
  expression_follows f keeps (term_expression sym args pos) all rest k h =
      let one = Then (SpellsName sym) (SpellsExpressions args) in
      let other = Then (SpellsName (f sym)) (SpellsExpressions (map_expression_list f args)) in
      let es = uses kinds.Term sym ∷ expression_list_events args in
      remade f (λ xs ys. BeginsAt pos xs × InParentheses other xs ys) (SpellsExpression (term_expression (f sym) (map_expression_list f args) pos)) es es all rest
      (λ xs ys g. (not_word sym.text (f sym).text (codes "let") k.0 refl h.0, g.0, g.1)) (λ c p. refl)
      (at f pos (InParentheses other) es all rest (parentheses_begin other) h.1
      (in_parentheses f one other es all rest
      (λ inner close g. chain f (SpellsName (f sym)) (SpellsExpressions (map_expression_list f args)) (uses kinds.Term sym ∷ []) (expression_list_events args) inner g.0 close
      (name_follows f keeps sym (uses kinds.Term sym) inner g.0 refl k.0 g.1) (expression_list_follows f keeps args g.0 close k.1 g.2))
      h.2))
  expression_follows f keeps (var_expression name pos) all rest k h =
      at f pos (SpellsExpressionVariable (f name)) (reads name ∷ []) all rest (tested_begins is_variable_of_expressions (f name)) h.0
      (one_name f keeps is_variable_of_expressions name (reads name) all rest refl (expression_text name.text (f name).text k.0) h.1)
  expression_follows f keeps (bool_expression val pos) all rest k h = still f (SpellsExpression (bool_expression val pos)) all rest (expression_lawful (bool_expression val pos)).cuts h
  expression_follows f keeps (int_expression val pos) all rest k h = still f (SpellsExpression (int_expression val pos)) all rest (expression_lawful (int_expression val pos)).cuts h
  expression_follows f keeps (constant_expression val pos) all rest k h =
      at f pos (SpellsConstant (f val)) (uses kinds.Constant val ∷ []) all rest (constant_begins (f val)) h.0
      (one_constant f keeps val (uses kinds.Constant val) all rest refl k.0 h.1)
  expression_follows f keeps (let_expression defs body pos) all rest k h =
      let one = Then (InParentheses (SpellsLets defs)) (SpellsExpression body) in
      let other = Then (InParentheses (SpellsLets (map_lets f defs))) (SpellsExpression (map_expression f body)) in
      let es = let_events defs ++ expression_events body in
      let both = split f (let_events defs) (expression_events body) (split f es (let_ends defs) k).0 in
      at f pos (InParentheses (BehindWord (codes "let") other)) (es ++ let_ends defs) all rest (parentheses_begin (BehindWord (codes "let") other)) h.0
      (remade f (InParentheses (BehindWord (codes "let") other)) (InParentheses (BehindWord (codes "let") other)) es (es ++ let_ends defs) all rest
      (λ xs ys g. g) (with_ends es defs)
      (in_parentheses f (BehindWord (codes "let") one) (BehindWord (codes "let") other) es all rest
      (λ inner close g. behind_word f (codes "let") one other es inner close
      (λ mid m. chain f (InParentheses (SpellsLets (map_lets f defs))) (SpellsExpression (map_expression f body)) (let_events defs) (expression_events body) mid m.0 close
      (in_parentheses f (SpellsLets defs) (SpellsLets (map_lets f defs)) (let_events defs) mid m.0 (λ xs ys l. lets_follow f keeps defs xs ys both.0 l) m.1)
      (expression_follows f keeps body m.0 close both.1 m.2))
      g)
      h.1))

  pub expression_list_follows : (f : Name → Name) → KeepsPlaces f → (xs : ExpressionList) (all rest : List Placed) → AreKept f (expression_list_events xs) →
      SpellsExpressions xs all rest → Follow f (SpellsExpressions (map_expression_list f xs)) (expression_list_events xs) all rest
  expression_list_follows f keeps no_expression all rest k h = nothing f all rest h
  expression_list_follows f keeps (more_expression x xs) all rest k h =
      let both = split f (expression_events x) (expression_list_events xs) k in
      chain f (SpellsExpression (map_expression f x)) (SpellsExpressions (map_expression_list f xs)) (expression_events x) (expression_list_events xs) all h.0 rest
      (expression_follows f keeps x all h.0 both.0 h.1) (expression_list_follows f keeps xs h.0 rest both.1 h.2)

  pub lets_follow : (f : Name → Name) → KeepsPlaces f → (ds : LetList) (all rest : List Placed) → AreKept f (let_events ds) →
      SpellsLets ds all rest → Follow f (SpellsLets (map_lets f ds)) (let_events ds) all rest
  lets_follow f keeps no_let all rest k h = nothing f all rest h
  lets_follow f keeps (more_let var ty val pos ds) all rest k h =
      let values = expression_events val in
      let names = uses kinds.Type ty ∷ binds var ∷ [] in
      let both = split f (values ++ names) (let_events ds) k in
      let first = split f values names both.0 in
      let one = Defined var ty val in
      let other = Defined (f var) (f ty) (map_expression f val) in
      let front = λ (xs ys : List Placed). BeginsAt pos xs × InParentheses other xs ys in
      chain f front (SpellsLets (map_lets f ds)) (values ++ names) (let_events ds) all h.0 rest
      (at f pos (InParentheses other) (values ++ names) all h.0 (parentheses_begin other) h.1.0
      (in_parentheses f one other (values ++ names) all h.0
      (λ inner close g. remade f (Then (SpellsName (f var)) (Then (SpellsName (f ty)) (SpellsExpression (map_expression f val)))) other
      (binds var ∷ uses kinds.Type ty ∷ values) (values ++ names) inner close
      (λ xs ys l. (l.0, l.2.0, l.1, l.2.1, l.2.2)) (let_order values ty var)
      (chain f (SpellsName (f var)) (Then (SpellsName (f ty)) (SpellsExpression (map_expression f val))) (binds var ∷ []) (uses kinds.Type ty ∷ values) inner g.0 close
      (name_follows f keeps var (binds var) inner g.0 refl first.1.1.0 g.2)
      (chain f (SpellsName (f ty)) (SpellsExpression (map_expression f val)) (uses kinds.Type ty ∷ []) values g.0 g.1 close
      (name_follows f keeps ty (uses kinds.Type ty) g.0 g.1 refl first.1.0 g.3)
      (expression_follows f keeps val g.1 close first.0 g.4))))
      h.1.1))
      (lets_follow f keeps ds h.0 rest both.1 h.2)

-- conditions

abbrev Matching : Condition → List Placed → List Placed → Type 0
Matching c inner close = BeginsAt c.pos inner × SpellsMatch c inner close

abbrev Testing : Condition → List Placed → List Placed → Type 0
Testing c inner close = BeginsAt c.pos inner × SpellsTest c inner close

matching_follows : (f : Name → Name) → KeepsPlaces f → (c : Condition) (all rest : List Placed) → AreKept f (condition_events c) → Matching c all rest →
    Follow f (Matching (map_condition f c)) (condition_events c) all rest
matching_follows f keeps c all rest k h =
    let patterns = pattern_events roles.Plain c.pattern in
    let values = expression_events c.expr in
    let both = split f values patterns k in
    let other = SpellsMatch (map_condition f c) in
    at f c.pos other (values ++ patterns) all rest (then_begins (SpellsPattern (map_pattern f c.pattern)) (SpellsExpression (map_expression f c.expr)) (pattern_begins (map_pattern f c.pattern))) h.0
    (remade f other other (patterns ++ values) (values ++ patterns) all rest (λ xs ys g. g) (exchanged patterns values)
    (chain f (SpellsPattern (map_pattern f c.pattern)) (SpellsExpression (map_expression f c.expr)) patterns values all h.1.0 rest
    (pattern_follows f keeps roles.Plain c.pattern all h.1.0 both.1 h.1.1) (expression_follows f keeps c.expr h.1.0 rest both.0 h.1.2)))

testing_follows : (f : Name → Name) → KeepsPlaces f → (c : Condition) (all rest : List Placed) → AreKept f (condition_events c) → Testing c all rest →
    Follow f (Testing (map_condition f c)) (condition_events c) all rest
testing_follows f keeps c all rest k h =
    let patterns = pattern_events roles.Plain c.pattern in
    let values = expression_events c.expr in
    let both = split f values patterns k in
    let other = SpellsExpression (map_expression f c.expr) in
    remade f (λ xs ys. BeginsAt c.pos xs × other xs ys) (Testing (map_condition f c)) values (values ++ patterns) all rest
    (λ xs ys g. (g.0, (ap (map_pattern f) h.1.0, g.1)))
    (test_events values c.pattern c.pos h.1.0)
    (at f c.pos other values all rest (expression_begins (map_expression f c.expr)) h.0 (expression_follows f keeps c.expr all rest both.0 h.1.1))

condition_follows : (f : Name → Name) → KeepsPlaces f → (c : Condition) (all rest : List Placed) → AreKept f (condition_events c) → SpellsCondition c all rest →
    Follow f (SpellsCondition (map_condition f c)) (condition_events c) all rest
condition_follows f keeps c all rest k (inl h) =
    let es = condition_events c in
    remade f (InParentheses (BehindWord (codes "if-let") (Matching (map_condition f c)))) (SpellsCondition (map_condition f c)) es es all rest (λ xs ys g. inl g) (λ c p. refl)
    (in_parentheses f (BehindWord (codes "if-let") (Matching c)) (BehindWord (codes "if-let") (Matching (map_condition f c))) es all rest
    (λ inner close g. behind_word f (codes "if-let") (Matching c) (Matching (map_condition f c)) es inner close (λ mid m. matching_follows f keeps c mid close k m) g)
    h)
condition_follows f keeps c all rest k (inr h) =
    let es = condition_events c in
    remade f (InParentheses (BehindWord (codes "if") (Testing (map_condition f c)))) (SpellsCondition (map_condition f c)) es es all rest (λ xs ys g. inr g) (λ c p. refl)
    (in_parentheses f (BehindWord (codes "if") (Testing c)) (BehindWord (codes "if") (Testing (map_condition f c))) es all rest
    (λ inner close g. behind_word f (codes "if") (Testing c) (Testing (map_condition f c)) es inner close (λ mid m. testing_follows f keeps c mid close k m) g)
    h)

-- rules

priority_plain : (o : Option ℤ) → Plain (SpellsOptional SpellsPriority o)
priority_plain None = nothing_plain
priority_plain (Some n) = where_plain (IsSigned 63 n) _ (token_plain (integer n))

name_ends : (o : Option Name) (all rest : List Placed) → SpellsOptional SpellsName o all rest → all ≡ [] → rest ≡ []
name_ends None all rest h e = sym h ∙ e
name_ends (Some n) all rest h e = absurd (tested_begins is_identifier n all rest h e)

priority_ends : (o : Option ℤ) (all rest : List Placed) → SpellsOptional SpellsPriority o all rest → all ≡ [] → rest ≡ []
priority_ends None all rest h e = sym h ∙ e
priority_ends (Some n) all rest h e = absurd (token_begins (integer n) all rest h.1 e)

-- the conditions and the expression; before them the pattern, the priority and the name
abbrev Body : RuleDefinition → List Placed → List Placed → Type 0
Body r = Then (SpellsPattern r.pattern) (Then (SpellsAll SpellsCondition r.iflets) (SpellsExpression r.expr))

abbrev Ruled : RuleDefinition → List Placed → List Placed → Type 0
Ruled r = Then (SpellsOptional SpellsName r.name) (Then (SpellsOptional SpellsPriority r.prio) (Body r))

ruled_begins : (r : RuleDefinition) → Begins (Ruled r)
ruled_begins r all rest h e =
    pattern_begins r.pattern h.2.0 h.2.2.0 h.2.2.1 (priority_ends r.prio h.0 h.2.0 h.2.1 (name_ends r.name all h.0 h.1 e))

pub rule_follows : (f : Name → Name) → KeepsPlaces f → (r : RuleDefinition) (all rest : List Placed) → AreKept f (rule_events r) → SpellsRule r all rest →
    Follow f (SpellsRule (map_rule f r)) (rule_events r) all rest
rule_follows f keeps r all rest k h =
    let q = map_rule f r in
    let patterns = pattern_events roles.Plain r.pattern in
    let conditions = flat_map condition_events r.iflets in
    let values = expression_events r.expr in
    let last = split f (patterns ++ conditions) values (split f (patterns ++ conditions ++ values) (ends ∷ []) k).0 in
    let first = split f patterns conditions last.0 in
    let behind = Then (SpellsAll SpellsCondition q.iflets) (SpellsExpression q.expr) in
    remade f (λ xs ys. BeginsAt r.pos xs × Ruled q xs ys) (SpellsRule q) (patterns ++ (conditions ++ values)) (rule_events r) all rest
    (λ xs ys g. record {
      pattern_is_no_head = same_head f r.name r.prio r.pattern ∙ h.pattern_is_no_head;
      expr_is_no_condition = no_condition f r.expr last.1 h.expr_is_no_condition;
      position = g.0;
      behind_name = g.1.0;
      name = g.1.1;
      behind_prio = g.1.2.0;
      prio = g.1.2.1;
      behind_pattern = g.1.2.2.0;
      pattern = g.1.2.2.1;
      behind_iflets = g.1.2.2.2.0;
      iflets = g.1.2.2.2.1;
      expr = g.1.2.2.2.2;
    })
    (rule_order patterns conditions values)
    (at f r.pos (Ruled q) (patterns ++ (conditions ++ values)) all rest (ruled_begins q) h.position
    (chain f (SpellsOptional SpellsName r.name) (Then (SpellsOptional SpellsPriority r.prio) (Body q)) [] (patterns ++ (conditions ++ values)) all h.behind_name rest
    (still f (SpellsOptional SpellsName r.name) all h.behind_name (optional_name_lawful r.name).cuts h.name)
    (chain f (SpellsOptional SpellsPriority r.prio) (Body q) [] (patterns ++ (conditions ++ values)) h.behind_name h.behind_prio rest
    (still f (SpellsOptional SpellsPriority r.prio) h.behind_name h.behind_prio (priority_plain r.prio).cuts h.prio)
    (chain f (SpellsPattern q.pattern) behind patterns (conditions ++ values) h.behind_prio h.behind_pattern rest
    (pattern_follows f keeps roles.Plain r.pattern h.behind_prio h.behind_pattern first.0 h.pattern)
    (chain f (SpellsAll SpellsCondition q.iflets) (SpellsExpression q.expr) conditions values h.behind_pattern h.behind_iflets rest
    (each_follows f SpellsCondition (map_condition f) condition_events (condition_follows f keeps) r.iflets h.behind_pattern h.behind_iflets first.1 h.iflets)
    (expression_follows f keeps r.expr h.behind_iflets rest last.1 h.expr))))))

-- extractors

abbrev Head : ExtractorDefinition → List Placed → List Placed → Type 0
Head e = Then (SpellsName e.term) (SpellsAll SpellsName e.args)

pub extractor_follows : (f : Name → Name) → KeepsPlaces f → (e : ExtractorDefinition) (all rest : List Placed) → AreKept f (extractor_events e) → SpellsExtractor e all rest →
    Follow f (SpellsExtractor (map_extractor f e)) (extractor_events e) all rest
extractor_follows f keeps e all rest k h =
    let d = map_extractor f e in
    let heads = uses kinds.Term e.term ∷ map (occurs roles.Parameter) e.args in
    let template = pattern_events roles.Template e.template in
    let both = split f heads template (split f (heads ++ template) (ends ∷ []) k).0 in
    remade f (λ xs ys. BeginsAt e.pos xs × Then (InParentheses (Head d)) (SpellsPattern d.template) xs ys) (SpellsExtractor d) (heads ++ template) (extractor_events e) all rest
    (λ xs ys g. record { position = g.0; behind_head = g.1.0; head = g.1.1; template = g.1.2 })
    (with_end (heads ++ template))
    (at f e.pos (Then (InParentheses (Head d)) (SpellsPattern d.template)) (heads ++ template) all rest
    (then_begins (InParentheses (Head d)) (SpellsPattern d.template) (parentheses_begin (Head d))) h.position
    (chain f (InParentheses (Head d)) (SpellsPattern d.template) heads template all h.behind_head rest
    (in_parentheses f (Head e) (Head d) heads all h.behind_head
    (λ inner close g. chain f (SpellsName d.term) (SpellsAll SpellsName d.args) (uses kinds.Term e.term ∷ []) (map (occurs roles.Parameter) e.args) inner g.0 close
    (name_follows f keeps e.term (uses kinds.Term e.term) inner g.0 refl both.0.0 g.1)
    (each_one_follows f SpellsName f (occurs roles.Parameter) (λ n xs ys l s. name_follows f keeps n (occurs roles.Parameter n) xs ys refl l s) e.args g.0 close both.0.1 g.2))
    h.head)
    (pattern_follows f keeps roles.Template e.template h.behind_head rest both.1 h.template)))
