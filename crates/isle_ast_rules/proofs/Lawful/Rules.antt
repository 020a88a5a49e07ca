-- The relations of rules and extractors, and of the conditions of rules, keep the laws.
use Rattle.std.proofs.Common.{[], ◌≡◌, ℤ, List, true, false, not, codes, map, Option, None, Some, refl, sym, ◌∙◌}
use Rattle.isle_base_source.specs.declared.pos.Pos.{Pos}
use Rattle.isle_base.specs.Place.{Placed, unknown}
use Rattle.isle_base.specs.Token.{integer}
use Rattle.isle_ast_names.specs.Numbers.{IsSigned, SpellsPriority}
use Rattle.isle_ast_names.specs.Tree.{Name}
use Rattle.isle_ast_rules.specs.Tree.{PatternNode, var_pattern, bind_pattern, bool_pattern, int_pattern, constant_pattern, term_pattern, wildcard_pattern, and_pattern, macro_arg_pattern, Expression, term_expression, var_expression, bool_expression, int_expression, constant_expression, let_expression, Condition, RuleDefinition, ExtractorDefinition}
use Rattle.isle_ast_names.specs.Words.{BeginsAt, SpellsAll, InParentheses, BehindWord, SpellsName, SpellsOptional}
use Rattle.isle_ast_names.specs.Erased.{erase_name, erase_names, erase_optional}
use Rattle.isle_ast_rules.specs.Erased.{erase_pattern, erase_expression, erase_condition, erase_rule, erase_extractor}
use Rattle.isle_ast_rules.specs.ExpressionGrammar.{SpellsExpression}
use Rattle.isle_ast_rules.specs.PatternGrammar.{SpellsPattern}
use Rattle.isle_ast_rules.specs.RuleGrammar.{SpellsMatch, SpellsTest, SpellsCondition, is_list_pattern, is_int_pattern, is_if_expression, pattern_is_no_head, SpellsRule, SpellsExtractor}
use Rattle.isle_ast_names.proofs.Lawful.{Plain, Lawful, Begins, Then, At, token_plain, nothing_plain, where_plain, value_lawful, name_lawful, pair_lawful, all_lawful, at_lawful, where_lawful, settled_lawful, either_lawful, made_lawful, parentheses_lawful, word_lawful, token_begins, name_begins, parentheses_begin}
use Rattle.isle_ast_rules.proofs.Lawful.Expressions.{expression_lawful, expression_begins}
use Rattle.isle_ast_rules.proofs.Lawful.Patterns.{pattern_lawful, pattern_begins}
use Rattle.isle_ast_names.proofs.LawfulWords.{words_apart, optional_name_lawful}

-- conditions

abbrev Matching : Condition → List Placed → List Placed → Type 0
Matching c inner close = BeginsAt c.pos inner × SpellsMatch c inner close

abbrev MatchNode : Type 0
MatchNode = PatternNode × Expression

abbrev erase_match : MatchNode → MatchNode
erase_match p = (erase_pattern p.0, erase_expression p.1)

abbrev Match : MatchNode → List Placed → List Placed → Type 0
Match p = Then (SpellsPattern p.0) (SpellsExpression p.1)

matching_lawful : (c : Condition) → Lawful Matching erase_condition c
matching_lawful c =
    made_lawful Matching erase_condition (λ (p : Pos × MatchNode). At p.0 (Match p.1)) (λ p. (unknown, erase_match p.1))
    (λ p. record { pattern = p.1.0; expr = p.1.1; pos = p.0 })
    (λ y all rest h. h) (λ y all rest h. h) (λ y. refl) (c.pos, (c.pattern, c.expr))
    (λ y same. ((y.pos, (y.pattern, y.expr)), refl, λ i. (unknown, ((same i).pattern, (same i).expr))))
    (at_lawful Match erase_match c.pos (c.pattern, c.expr) (λ all rest h. pattern_begins c.pattern all h.0 h.1)
    (pair_lawful SpellsPattern erase_pattern SpellsExpression erase_expression c.pattern c.expr (pattern_lawful c.pattern) (expression_lawful c.expr)))

abbrev Testing : Condition → List Placed → List Placed → Type 0
Testing c inner close = BeginsAt c.pos inner × SpellsTest c inner close

abbrev TestNode : Type 0
TestNode = PatternNode × (Pos × Expression)

abbrev erase_tested : Pos × Expression → Pos × Expression
erase_tested p = (unknown, erase_expression p.1)

abbrev Test : TestNode → List Placed → List Placed → Type 0
Test p all rest = (p.0 ≡ wildcard_pattern p.1.0) × At p.1.0 (SpellsExpression p.1.1) all rest

testing_lawful : (c : Condition) → Lawful Testing erase_condition c
testing_lawful c =
    made_lawful Testing erase_condition Test (λ p. (erase_pattern p.0, erase_tested p.1))
    (λ p. record { pattern = p.0; expr = p.1.1; pos = p.1.0 })
    (λ y all rest h. (h.1.0, (h.0, h.1.1))) (λ y all rest h. (h.1.0, (h.0, h.1.1))) (λ y. refl) (c.pattern, (c.pos, c.expr))
    (λ y same. ((y.pattern, (y.pos, y.expr)), refl, λ i. ((same i).pattern, (unknown, (same i).expr))))
    (settled_lawful (λ p. wildcard_pattern p.0) erase_pattern (λ p. At p.0 (SpellsExpression p.1)) erase_tested c.pattern (c.pos, c.expr) (λ y. refl)
    (at_lawful SpellsExpression erase_expression c.pos c.expr (expression_begins c.expr) (expression_lawful c.expr)))

pub condition_lawful : (c : Condition) → Lawful SpellsCondition erase_condition c
condition_lawful c =
    either_lawful (λ y. InParentheses (BehindWord (codes "if-let") (Matching y))) (λ y. InParentheses (BehindWord (codes "if") (Testing y))) erase_condition c
    (λ y z. words_apart (codes "if-let") (codes "if") refl refl (Matching y) (Testing z))
    (parentheses_lawful (λ y. BehindWord (codes "if-let") (Matching y)) erase_condition c
    (word_lawful (codes "if-let") Matching erase_condition c (matching_lawful c)))
    (parentheses_lawful (λ y. BehindWord (codes "if") (Testing y)) erase_condition c
    (word_lawful (codes "if") Testing erase_condition c (testing_lawful c)))

priority_plain : (o : Option ℤ) → Plain (SpellsOptional SpellsPriority o)
priority_plain None = nothing_plain
priority_plain (Some n) = where_plain (IsSigned 63 n) _ (token_plain (integer n))

optional_name_ends : (o : Option Name) (all rest : List Placed) → SpellsOptional SpellsName o all rest → all ≡ [] → rest ≡ []
optional_name_ends None all rest h e = sym h ∙ e
optional_name_ends (Some n) all rest h e = absurd (name_begins n all rest h e)

priority_ends : (o : Option ℤ) (all rest : List Placed) → SpellsOptional SpellsPriority o all rest → all ≡ [] → rest ≡ []
priority_ends None all rest h e = sym h ∙ e
priority_ends (Some n) all rest h e = absurd (token_begins (integer n) all rest h.1 e)

-- what is wanted of the pattern and the expression is kept by erasing

list_erased : (p : PatternNode) → is_list_pattern (erase_pattern p) ≡ is_list_pattern p
list_erased (var_pattern _ _) = refl
list_erased (bind_pattern _ _ _) = refl
list_erased (bool_pattern _ _) = refl
list_erased (int_pattern _ _) = refl
list_erased (constant_pattern _ _) = refl
list_erased (term_pattern _ _ _) = refl
list_erased (wildcard_pattern _) = refl
list_erased (and_pattern _ _) = refl
list_erased (macro_arg_pattern _ _) = refl

int_erased : (p : PatternNode) → is_int_pattern (erase_pattern p) ≡ is_int_pattern p
int_erased (var_pattern _ _) = refl
int_erased (bind_pattern _ _ _) = refl
int_erased (bool_pattern _ _) = refl
int_erased (int_pattern _ _) = refl
int_erased (constant_pattern _ _) = refl
int_erased (term_pattern _ _ _) = refl
int_erased (wildcard_pattern _) = refl
int_erased (and_pattern _ _) = refl
int_erased (macro_arg_pattern _ _) = refl

pub if_erased : (x : Expression) → is_if_expression (erase_expression x) ≡ is_if_expression x
if_erased (term_expression _ _ _) = refl
if_erased (var_expression _ _) = refl
if_erased (bool_expression _ _) = refl
if_erased (int_expression _ _) = refl
if_erased (constant_expression _ _) = refl
if_erased (let_expression _ _ _) = refl

pub no_head_erased : (name : Option Name) (prio : Option ℤ) (p : PatternNode) →
    pattern_is_no_head (erase_optional name) prio (erase_pattern p) ≡ pattern_is_no_head name prio p
no_head_erased None None p = list_erased p
no_head_erased (Some n) None p = λ i. not (int_erased p i)
no_head_erased None (Some o) p = refl
no_head_erased (Some n) (Some o) p = refl

-- rules

abbrev BodyNode : Type 0
BodyNode = PatternNode × (List Condition × Expression)

abbrev erase_body : BodyNode → BodyNode
erase_body p = (erase_pattern p.0, (map erase_condition p.1.0, erase_expression p.1.1))

abbrev Body : BodyNode → List Placed → List Placed → Type 0
Body p = Then (SpellsPattern p.0) (Then (SpellsAll SpellsCondition p.1.0) (SpellsExpression p.1.1))

body_lawful : (p : PatternNode) (cs : List Condition) (x : Expression) → Lawful Body erase_body (p, (cs, x))
body_lawful p cs x =
    pair_lawful SpellsPattern erase_pattern (λ q. Then (SpellsAll SpellsCondition q.0) (SpellsExpression q.1)) (λ q. (map erase_condition q.0, erase_expression q.1))
    p (cs, x) (pattern_lawful p)
    (pair_lawful (SpellsAll SpellsCondition) (map erase_condition) SpellsExpression erase_expression cs x
    (all_lawful SpellsCondition erase_condition condition_lawful cs) (expression_lawful x))

abbrev HeadNode : Type 0
HeadNode = Option Name × (Option ℤ × BodyNode)

abbrev erase_headed : HeadNode → HeadNode
erase_headed p = (erase_optional p.0, (p.1.0, erase_body p.1.1))

abbrev Headed : HeadNode → List Placed → List Placed → Type 0
Headed p = Then (SpellsOptional SpellsName p.0) (Then (SpellsOptional SpellsPriority p.1.0) (Body p.1.1))

headed_lawful : (name : Option Name) (prio : Option ℤ) (p : PatternNode) (cs : List Condition) (x : Expression) → Lawful Headed erase_headed (name, (prio, (p, (cs, x))))
headed_lawful name prio p cs x =
    pair_lawful (SpellsOptional SpellsName) erase_optional (λ q. Then (SpellsOptional SpellsPriority q.0) (Body q.1)) (λ q. (q.0, erase_body q.1))
    name (prio, (p, (cs, x))) (optional_name_lawful name)
    (pair_lawful (SpellsOptional SpellsPriority) (λ o. o) Body erase_body prio (p, (cs, x))
    (value_lawful (SpellsOptional SpellsPriority) prio priority_plain) (body_lawful p cs x))

headed_begins : (p : HeadNode) → Begins (Headed p)
headed_begins p all rest h e =
    let behind_name = optional_name_ends p.0 all h.0 h.1 e in
    let behind_prio = priority_ends p.1.0 h.0 h.2.0 h.2.1 behind_name in
    pattern_begins p.1.1.0 h.2.0 h.2.2.0 h.2.2.1 behind_prio

abbrev RuleNode : Type 0
RuleNode = Pos × HeadNode

abbrev erase_ruled : RuleNode → RuleNode
erase_ruled p = (unknown, erase_headed p.1)

abbrev rule_of : RuleNode → RuleDefinition
rule_of p = record {
  pattern = p.1.1.1.0;
  iflets = p.1.1.1.1.0;
  expr = p.1.1.1.1.1;
  pos = p.0;
  prio = p.1.1.0;
  name = p.1.0;
}

abbrev parts_of : RuleDefinition → HeadNode
parts_of r = (r.name, (r.prio, (r.pattern, (r.iflets, r.expr))))

abbrev IsWanted : RuleNode → Type 0
IsWanted p =
    (pattern_is_no_head p.1.0 p.1.1.0 p.1.1.1.0 ≡ true) × (is_if_expression p.1.1.1.1.1 ≡ false)

abbrev Ruled : RuleNode → List Placed → List Placed → Type 0
Ruled p all rest = IsWanted p × At p.0 (Headed p.1) all rest

pub rule_lawful : (r : RuleDefinition) → Lawful SpellsRule erase_rule r
rule_lawful r =
    made_lawful SpellsRule erase_rule Ruled erase_ruled rule_of
    (λ y all rest h. record {
      pattern_is_no_head = h.0.0;
      expr_is_no_condition = h.0.1;
      position = h.1.0;
      behind_name = h.1.1.0;
      name = h.1.1.1;
      behind_prio = h.1.1.2.0;
      prio = h.1.1.2.1;
      behind_pattern = h.1.1.2.2.0;
      pattern = h.1.1.2.2.1;
      behind_iflets = h.1.1.2.2.2.0;
      iflets = h.1.1.2.2.2.1;
      expr = h.1.1.2.2.2.2;
    })
    (λ y all rest h. (
      (h.pattern_is_no_head, h.expr_is_no_condition),
      (
        h.position,
        (h.behind_name, h.name, (h.behind_prio, h.prio, (h.behind_pattern, h.pattern, (h.behind_iflets, h.iflets, h.expr)))),
      ),
    ))
    (λ y. refl) (r.pos, parts_of r)
    (λ y same. ((y.pos, parts_of y), refl, λ i. (unknown, parts_of (same i))))
    (where_lawful IsWanted (λ p. At p.0 (Headed p.1)) erase_ruled (r.pos, parts_of r)
    (λ y h. (no_head_erased y.1.0 y.1.1.0 y.1.1.1.0 ∙ h.0, if_erased y.1.1.1.1.1 ∙ h.1))
    (λ y h. (sym (no_head_erased y.1.0 y.1.1.0 y.1.1.1.0) ∙ h.0, sym (if_erased y.1.1.1.1.1) ∙ h.1))
    (at_lawful Headed erase_headed r.pos (parts_of r) (headed_begins (parts_of r)) (headed_lawful r.name r.prio r.pattern r.iflets r.expr)))

-- extractors

abbrev SignatureNode : Type 0
SignatureNode = Name × List Name

abbrev erase_head : SignatureNode → SignatureNode
erase_head p = (erase_name p.0, erase_names p.1)

abbrev Head : SignatureNode → List Placed → List Placed → Type 0
Head p = Then (SpellsName p.0) (SpellsAll SpellsName p.1)

abbrev ExtractorNode : Type 0
ExtractorNode = SignatureNode × PatternNode

abbrev erase_extracting : ExtractorNode → ExtractorNode
erase_extracting p = (erase_head p.0, erase_pattern p.1)

abbrev Extracting : ExtractorNode → List Placed → List Placed → Type 0
Extracting p = Then (InParentheses (Head p.0)) (SpellsPattern p.1)

pub extractor_lawful : (e : ExtractorDefinition) → Lawful SpellsExtractor erase_extractor e
extractor_lawful e =
    made_lawful SpellsExtractor erase_extractor (λ (p : Pos × ExtractorNode). At p.0 (Extracting p.1)) (λ p. (unknown, erase_extracting p.1))
    (λ p. record { term = p.1.0.0; args = p.1.0.1; template = p.1.1; pos = p.0 })
    (λ y all rest h. record { position = h.0; behind_head = h.1.0; head = h.1.1; template = h.1.2 })
    (λ y all rest h. (h.position, (h.behind_head, h.head, h.template)))
    (λ y. refl) (e.pos, ((e.term, e.args), e.template))
    (λ y same. ((y.pos, ((y.term, y.args), y.template)), refl, λ i. (unknown, (((same i).term, (same i).args), (same i).template))))
    (at_lawful Extracting erase_extracting e.pos ((e.term, e.args), e.template)
    (λ all rest h. parentheses_begin (Head (e.term, e.args)) all h.0 h.1)
    (pair_lawful (λ p. InParentheses (Head p)) erase_head SpellsPattern erase_pattern (e.term, e.args) e.template
    (parentheses_lawful Head erase_head (e.term, e.args)
    (pair_lawful SpellsName erase_name (SpellsAll SpellsName) erase_names e.term e.args (name_lawful e.term) (all_lawful SpellsName erase_name name_lawful e.args)))
    (pattern_lawful e.template)))
