-- The relations of expressions keep the laws.
use Rattle.std.proofs.Common.{◌≡◌, ℤ, List, Bool, false, codes, refl}
use Rattle.std.specs.Str.{bytes_eq}
use Rattle.isle_base_source.specs.declared.pos.Pos.{Pos}
use Rattle.isle_base.specs.Place.{Placed, unknown}
use Rattle.isle_base.specs.Token.{symbol}
use Rattle.isle_ast_names.specs.Numbers.{SpellsInteger}
use Rattle.isle_ast_names.specs.Tree.{Name}
use Rattle.isle_ast_rules.specs.Tree.{Expression, term_expression, var_expression, bool_expression, int_expression, constant_expression, let_expression, ExpressionList, no_expression, more_expression, LetList, no_let, more_let}
use Rattle.isle_ast_names.specs.Words.{SpellsWord, InParentheses, BehindWord, SpellsName, bool_word, SpellsConstant}
use Rattle.isle_ast_names.specs.Erased.{erase_name}
use Rattle.isle_ast_rules.specs.Erased.{erase_expression, erase_expressions, erase_lets}
use Rattle.isle_ast_rules.specs.ExpressionGrammar.{is_variable_of_expressions, SpellsExpressionVariable, SpellsExpression, SpellsExpressions, SpellsLets}
use Rattle.isle_ast_names.proofs.Lawful.{Lawful, Begins, Then, At, word_plain, nothing_plain, plain_lawful, value_lawful, tested_lawful, name_lawful, constant_lawful, pair_lawful, at_lawful, where_lawful, made_lawful, made_at_lawful, parentheses_lawful, word_lawful, token_begins, parentheses_begin}
use Rattle.isle_ast_names.proofs.LawfulWords.{integer_plain, integer_begins}
use Rattle.isle_ast_rules.proofs.Lawful.Patterns.{constant_begins}

variable_lawful : (n : Name) → Lawful SpellsExpressionVariable erase_name n
variable_lawful n = tested_lawful is_variable_of_expressions n

variable_begins : (n : Name) → Begins (SpellsExpressionVariable n)
variable_begins n all rest h e = let f = h.1 in cc

-- which expressions erase to the same

abbrev TermNode : Type 0
TermNode = Name × ExpressionList

abbrev erase_term : TermNode → TermNode
erase_term p = (erase_name p.0, erase_expressions p.1)

abbrev Term : TermNode → List Placed → List Placed → Type 0
Term p = InParentheses (Then (SpellsName p.0) (SpellsExpressions p.1))

abbrev IsNoLet : TermNode → Type 0
IsNoLet p = bytes_eq p.0.text (codes "let") ≡ false

is_term : (x : TermNode) (y : Expression) → term_expression (erase_name x.0) (erase_expressions x.1) unknown ≡ erase_expression y →
    (z : Pos × TermNode) × (y ≡ term_expression z.1.0 z.1.1 z.0) × (erase_term x ≡ erase_term z.1)
is_term x (term_expression n xs p) same =
    let names : erase_name x.0 ≡ erase_name n = cc in
    let lists : erase_expressions x.1 ≡ erase_expressions xs = cc in
    ((p, (n, xs)), refl, λ i. (names i, lists i))
is_term x _ same = cc

is_var : (name : Name) (y : Expression) → var_expression (erase_name name) unknown ≡ erase_expression y →
    (z : Pos × Name) × (y ≡ var_expression z.1 z.0) × (erase_name name ≡ erase_name z.1)
is_var name (var_expression n p) same = ((p, n), refl, cc)
is_var name _ same = cc

is_bool : (val : Bool) (y : Expression) → bool_expression val unknown ≡ erase_expression y →
    (z : Pos × Bool) × (y ≡ bool_expression z.1 z.0) × (val ≡ z.1)
is_bool val (bool_expression b p) same = ((p, b), refl, cc)
is_bool val _ same = cc

is_int : (val : ℤ) (y : Expression) → int_expression val unknown ≡ erase_expression y →
    (z : Pos × ℤ) × (y ≡ int_expression z.1 z.0) × (val ≡ z.1)
is_int val (int_expression n p) same = ((p, n), refl, cc)
is_int val _ same = cc

is_a_constant : (val : Name) (y : Expression) → constant_expression (erase_name val) unknown ≡ erase_expression y →
    (z : Pos × Name) × (y ≡ constant_expression z.1 z.0) × (erase_name val ≡ erase_name z.1)
is_a_constant val (constant_expression n p) same = ((p, n), refl, cc)
is_a_constant val _ same = cc

abbrev LetNode : Type 0
LetNode = LetList × Expression

abbrev erase_let : LetNode → LetNode
erase_let p = (erase_lets p.0, erase_expression p.1)

abbrev LetParts : LetNode → List Placed → List Placed → Type 0
LetParts p = Then (InParentheses (SpellsLets p.0)) (SpellsExpression p.1)

is_let : (x : LetNode) (y : Expression) → let_expression (erase_lets x.0) (erase_expression x.1) unknown ≡ erase_expression y →
    (z : Pos × LetNode) × (y ≡ let_expression z.1.0 z.1.1 z.0) × (erase_let x ≡ erase_let z.1)
is_let x (let_expression ds b p) same =
    let lists : erase_lets x.0 ≡ erase_lets ds = cc in
    let bodies : erase_expression x.1 ≡ erase_expression b = cc in
    ((p, (ds, b)), refl, λ i. (lists i, bodies i))
is_let x _ same = cc

is_no_expression : (y : ExpressionList) → no_expression ≡ erase_expressions y → no_expression ≡ y
is_no_expression no_expression same = refl
is_no_expression _ same = cc

abbrev ListNode : Type 0
ListNode = Expression × ExpressionList

abbrev erase_list : ListNode → ListNode
erase_list p = (erase_expression p.0, erase_expressions p.1)

is_more : (x : ListNode) (y : ExpressionList) → more_expression (erase_expression x.0) (erase_expressions x.1) ≡ erase_expressions y →
    (z : ListNode) × (y ≡ more_expression z.0 z.1) × (erase_list x ≡ erase_list z)
is_more x (more_expression y ys) same =
    let firsts : erase_expression x.0 ≡ erase_expression y = cc in
    let lists : erase_expressions x.1 ≡ erase_expressions ys = cc in
    ((y, ys), refl, λ i. (firsts i, lists i))
is_more x _ same = cc

is_no_let : (y : LetList) → no_let ≡ erase_lets y → no_let ≡ y
is_no_let no_let same = refl
is_no_let _ same = cc

abbrev DefinitionNode : Type 0
DefinitionNode = Name × (Name × Expression)

abbrev erase_defined : DefinitionNode → DefinitionNode
erase_defined p = (erase_name p.0, (erase_name p.1.0, erase_expression p.1.1))

abbrev Defined : DefinitionNode → List Placed → List Placed → Type 0
Defined p = Then (SpellsName p.0) (Then (SpellsName p.1.0) (SpellsExpression p.1.1))

abbrev LetListNode : Type 0
LetListNode = (Pos × DefinitionNode) × LetList

abbrev erase_let_list : LetListNode → LetListNode
erase_let_list p = ((unknown, erase_defined p.0.1), erase_lets p.1)

abbrev let_list : LetListNode → LetList
let_list p = more_let p.0.1.0 p.0.1.1.0 p.0.1.1.1 p.0.0 p.1

abbrev Lets : LetListNode → List Placed → List Placed → Type 0
Lets p = Then (At p.0.0 (InParentheses (Defined p.0.1))) (SpellsLets p.1)

is_more_let : (x : LetListNode) (y : LetList) → let_list (erase_let_list x) ≡ erase_lets y →
    (z : LetListNode) × (y ≡ let_list z) × (erase_let_list x ≡ erase_let_list z)
is_more_let x (more_let v t e p ds) same =
    let vars : erase_name x.0.1.0 ≡ erase_name v = cc in
    let types : erase_name x.0.1.1.0 ≡ erase_name t = cc in
    let values : erase_expression x.0.1.1.1 ≡ erase_expression e = cc in
    let lists : erase_lets x.1 ≡ erase_lets ds = cc in
    (((p, (v, (t, e))), ds), refl, λ i. ((unknown, (vars i, (types i, values i))), lists i))
is_more_let x _ same = cc

-- the laws

mutual
  pub expression_lawful : (x : Expression) → Lawful SpellsExpression erase_expression x
  expression_lawful (term_expression sym args pos) =
      made_at_lawful SpellsExpression erase_expression (λ p all rest. IsNoLet p × Term p all rest) erase_term (λ p. term_expression p.0 p.1)
      (λ place y all rest h. (h.1.0, h.0, h.1.1)) (λ place y all rest h. (h.1, (h.0, h.2)))
      (λ place y. refl) pos (sym, args) (is_term (sym, args))
      (λ all rest h. parentheses_begin (Then (SpellsName sym) (SpellsExpressions args)) all rest h.1)
      (where_lawful IsNoLet Term erase_term (sym, args) (λ y h. h) (λ y h. h)
      (parentheses_lawful (λ p. Then (SpellsName p.0) (SpellsExpressions p.1)) erase_term (sym, args)
      (pair_lawful SpellsName erase_name SpellsExpressions erase_expressions sym args (name_lawful sym) (expressions_lawful args))))
  expression_lawful (var_expression name pos) =
      made_at_lawful SpellsExpression erase_expression SpellsExpressionVariable erase_name var_expression
      (λ place y all rest h. h) (λ place y all rest h. h) (λ place y. refl) pos name (is_var name)
      (variable_begins name) (variable_lawful name)
  expression_lawful (bool_expression val pos) =
      made_at_lawful SpellsExpression erase_expression (λ b. SpellsWord (bool_word b)) (λ b. b) bool_expression
      (λ place y all rest h. h) (λ place y all rest h. h) (λ place y. refl) pos val (is_bool val)
      (token_begins (symbol (bool_word val))) (value_lawful (λ b. SpellsWord (bool_word b)) val (λ b. word_plain (bool_word b)))
  expression_lawful (int_expression val pos) =
      made_at_lawful SpellsExpression erase_expression SpellsInteger (λ n. n) int_expression
      (λ place y all rest h. h) (λ place y all rest h. h) (λ place y. refl) pos val (is_int val)
      (integer_begins val) (value_lawful SpellsInteger val integer_plain)
  expression_lawful (constant_expression val pos) =
      made_at_lawful SpellsExpression erase_expression SpellsConstant erase_name constant_expression
      (λ place y all rest h. h) (λ place y all rest h. h) (λ place y. refl) pos val (is_a_constant val)
      (constant_begins val) (constant_lawful val)
  expression_lawful (let_expression defs body pos) =
      made_at_lawful SpellsExpression erase_expression (λ p. InParentheses (BehindWord (codes "let") (LetParts p))) erase_let (λ p. let_expression p.0 p.1)
      (λ place y all rest h. h) (λ place y all rest h. h) (λ place y. refl) pos (defs, body) (is_let (defs, body))
      (parentheses_begin (BehindWord (codes "let") (LetParts (defs, body))))
      (parentheses_lawful (λ p. BehindWord (codes "let") (LetParts p)) erase_let (defs, body)
      (word_lawful (codes "let") LetParts erase_let (defs, body)
      (pair_lawful (λ ds. InParentheses (SpellsLets ds)) erase_lets SpellsExpression erase_expression defs body
      (parentheses_lawful SpellsLets erase_lets defs (lets_lawful defs)) (expression_lawful body))))

  pub expressions_lawful : (xs : ExpressionList) → Lawful SpellsExpressions erase_expressions xs
  expressions_lawful no_expression = plain_lawful SpellsExpressions erase_expressions no_expression refl is_no_expression nothing_plain
  expressions_lawful (more_expression x xs) =
      made_lawful SpellsExpressions erase_expressions (λ (p : ListNode). Then (SpellsExpression p.0) (SpellsExpressions p.1)) erase_list (λ p. more_expression p.0 p.1)
      (λ y all rest h. h) (λ y all rest h. h) (λ y. refl) (x, xs) (is_more (x, xs))
      (pair_lawful SpellsExpression erase_expression SpellsExpressions erase_expressions x xs (expression_lawful x) (expressions_lawful xs))

  pub lets_lawful : (ds : LetList) → Lawful SpellsLets erase_lets ds
  lets_lawful no_let = plain_lawful SpellsLets erase_lets no_let refl is_no_let nothing_plain
  lets_lawful (more_let var ty val pos lets) =
      made_lawful SpellsLets erase_lets Lets erase_let_list let_list
      (λ y all rest h. (h.0, (h.1.0, (h.1.1.0, h.1.1.1, h.1.1.2, (h.1.1.3.0, h.1.1.3.2.0, h.1.1.3.1, h.1.1.3.2.1, h.1.1.3.2.2), h.1.1.4)), h.2))
      (λ y all rest h. (h.0, (h.1.0, (h.1.1.0, h.1.1.1, h.1.1.2, (h.1.1.3.0, h.1.1.3.2, (h.1.1.3.1, h.1.1.3.3, h.1.1.3.4)), h.1.1.4)), h.2))
      (λ y. refl) ((pos, (var, (ty, val))), lets) (is_more_let ((pos, (var, (ty, val))), lets))
      (pair_lawful (λ p. At p.0 (InParentheses (Defined p.1))) (λ p. (unknown, erase_defined p.1)) SpellsLets erase_lets (pos, (var, (ty, val))) lets
      (at_lawful (λ p. InParentheses (Defined p)) erase_defined pos (var, (ty, val)) (parentheses_begin (Defined (var, (ty, val))))
      (parentheses_lawful Defined erase_defined (var, (ty, val))
      (pair_lawful SpellsName erase_name (λ p. Then (SpellsName p.0) (SpellsExpression p.1)) (λ p. (erase_name p.0, erase_expression p.1)) var (ty, val) (name_lawful var)
      (pair_lawful SpellsName erase_name SpellsExpression erase_expression ty val (name_lawful ty) (expression_lawful val)))))
      (lets_lawful lets))

pub expression_begins : (x : Expression) → Begins (SpellsExpression x)
expression_begins (term_expression sym args _) all rest h e = parentheses_begin (Then (SpellsName sym) (SpellsExpressions args)) all rest h.2 e
expression_begins (var_expression name _) all rest h e = variable_begins name all rest h.1 e
expression_begins (bool_expression val _) all rest h e = token_begins (symbol (bool_word val)) all rest h.1 e
expression_begins (int_expression val _) all rest h e = integer_begins val all rest h.1 e
expression_begins (constant_expression val _) all rest h e = constant_begins val all rest h.1 e
expression_begins (let_expression defs body _) all rest h e = parentheses_begin (BehindWord (codes "let") (LetParts (defs, body))) all rest h.1 e
