-- The patterns and the expressions of a rule, with the types that are wanted of them: as they are written, in the templates
-- that stand for terms, and in the converters that are put around them.
use Rattle.std.specs.Prelude.{◌≡◌, ◌≢◌, ℕ, List, [], ◌∷◌, Option, None, Some, Contains, codes, zip}
use Rattle.isle_base_source.specs.declared.pos.Pos.{Pos}
use Rattle.isle_ast_names.specs.Tree.{Name}
use Rattle.isle_ast_rules.specs.Templates.{plug}
use Rattle.isle_ast_rules.specs.Tree.{Condition, Expression, ExpressionList, LetList, PatternList, PatternNode, RuleDefinition, and_pattern, bind_pattern, bool_expression, constant_expression, int_expression, let_expression, more_expression, more_let, more_pattern, no_expression, no_let, no_pattern, term_expression, term_pattern, var_expression, var_pattern}
use Rattle.isle_check_environment.specs.signatures.Environment.{EnvironmentNode}
use Rattle.isle_check_environment.specs.signatures.Signatures.{TermNode}
use Rattle.isle_check_typing.specs.PatternTypes.{list_list}
use Rattle.isle_check_typing.specs.declared.expressions.flags.Flags.{Flags}
use Rattle.isle_check_rules.specs.RuleTypes.{condition_flags, rule_flags}

-- expressions in a list
abbrev pub expressions : ExpressionList → List Expression
expressions no_expression = []
expressions (more_expression e es) = e ∷ expressions es

-- a variable of a `let`, its type and its value
pub record LetVariable : Type 0 where
  pub var : Name
  pub ty : Name
  pub val : Expression

abbrev pub let_variables : LetList → List LetVariable
let_variables no_let = []
let_variables (more_let var ty val _ ds) = record { var = var; ty = ty; val = val } ∷ let_variables ds

-- the term of a rule's left side, and its arguments
pub record HasRoot (env : EnvironmentNode) (r : RuleDefinition) (name : Name) (args : PatternList) (t : TermNode) : Type 0 where
  pub place : Pos
  pub is_term : r.pattern ≡ term_pattern name args place
  pub is_known : env.terms name.text ≡ Some t

-- an expression of which no type is wanted has this one; of a variable it is not said which
abbrev pub HasOwnType : EnvironmentNode → Expression → (ty : List ℕ) → Type 0
HasOwnType env (term_expression name _ _) ty = (t : TermNode) × (env.terms name.text ≡ Some t) × (t.ret ≡ ty)
HasOwnType env (var_expression _ _) ty = Unit {0}
HasOwnType env (bool_expression _ _) ty = codes "bool" ≡ ty
HasOwnType env (int_expression _ _) ty = ⊥
HasOwnType env (constant_expression name _) ty = env.constants name.text ≡ Some ty
HasOwnType env (let_expression _ body _) ty = HasOwnType env body ty

-- the rule has this pattern, where this type is wanted
pub data IsPattern (env : EnvironmentNode) (r : RuleDefinition) : PatternNode → (ty : List ℕ) → Type 0 where
  -- an argument of the left side, with the type that is declared
  of_root : {name : Name} {args : PatternList} {t : TermNode} {p : PatternNode} {ty : List ℕ} →
      HasRoot env r name args t → Contains (zip (list_list args) t.args) (p, ty) → IsPattern env r p ty
  -- the pattern of a condition, with a type of its expression
  of_condition : {c : Condition} {ty : List ℕ} → Contains r.iflets c → HasOwnType env c.expr ty → IsPattern env r c.pattern ty
  -- a pattern that is named
  of_name : {var : Name} {p : PatternNode} {place : Pos} {ty : List ℕ} → IsPattern env r (bind_pattern var p place) ty → IsPattern env r p ty
  -- one of several patterns of one value
  of_several : {ps : PatternList} {place : Pos} {p : PatternNode} {ty : List ℕ} →
      IsPattern env r (and_pattern ps place) ty → Contains (list_list ps) p → IsPattern env r p ty
  -- an argument of a term that is no template, with the type that is declared
  of_term : {name : Name} {args : PatternList} {place : Pos} {ty : List ℕ} {t : TermNode} {p : PatternNode} {wanted : List ℕ} →
      IsPattern env r (term_pattern name args place) ty → env.terms name.text ≡ Some t → env.templates name.text ≡ None →
      Contains (zip (list_list args) t.args) (p, wanted) → IsPattern env r p wanted
  -- what a template stands for
  of_template : {name : Name} {args : PatternList} {place : Pos} {ty : List ℕ} {template filled : PatternNode} →
      IsPattern env r (term_pattern name args place) ty → env.templates name.text ≡ Some template → plug template (list_list args) ≡ Some filled →
      IsPattern env r filled ty
  -- the converter around a term of another type
  of_converter : {name : Name} {args : PatternList} {place : Pos} {ty converter : List ℕ} {t : TermNode} →
      IsPattern env r (term_pattern name args place) ty → env.terms name.text ≡ Some t → t.ret ≢ ty → env.converters t.ret ty ≡ Some converter →
      IsPattern env r (term_pattern (record { text = converter; pos = place }) (more_pattern (term_pattern name args place) no_pattern) place) ty

-- the rule has this expression, where these terms may be used and this type is wanted, or any if none is
pub data IsExpression (env : EnvironmentNode) (r : RuleDefinition) : Flags → Expression → (wanted : Option (List ℕ)) → Type 0 where
  -- the right side, with the type of the left side's term
  of_right : {name : Name} {args : PatternList} {t : TermNode} → HasRoot env r name args t → IsExpression env r (rule_flags t) r.expr (Some t.ret)
  -- the expression of a condition
  of_condition : {name : Name} {args : PatternList} {t : TermNode} {c : Condition} → HasRoot env r name args t → Contains r.iflets c →
      IsExpression env r (condition_flags t) c.expr None
  -- an argument of a term, with the type that is declared
  of_term : {flags : Flags} {name : Name} {args : ExpressionList} {place : Pos} {wanted : Option (List ℕ)} {t : TermNode} {e : Expression} {ty : List ℕ} →
      IsExpression env r flags (term_expression name args place) wanted → env.terms name.text ≡ Some t →
      Contains (zip (expressions args) t.args) (e, ty) → IsExpression env r flags e (Some ty)
  -- the converter around a term of another type
  of_converted_term : {flags : Flags} {name : Name} {args : ExpressionList} {place : Pos} {ty converter : List ℕ} {t : TermNode} →
      IsExpression env r flags (term_expression name args place) (Some ty) → env.terms name.text ≡ Some t → t.ret ≢ ty →
      env.converters t.ret ty ≡ Some converter →
      IsExpression env r flags
      (term_expression (record { text = converter; pos = place }) (more_expression (term_expression name args place) no_expression) place) (Some ty)
  -- the converter around a variable of another type; it is not said which
  of_converted_variable : {flags : Flags} {name : Name} {place : Pos} {found ty converter : List ℕ} →
      IsExpression env r flags (var_expression name place) (Some ty) → found ≢ ty → env.converters found ty ≡ Some converter →
      IsExpression env r flags
      (term_expression (record { text = converter; pos = place }) (more_expression (var_expression name place) no_expression) place) (Some ty)
  -- the value of a variable of a `let`, with the variable's type
  of_let : {flags : Flags} {defs : LetList} {body : Expression} {place : Pos} {wanted : Option (List ℕ)} {d : LetVariable} →
      IsExpression env r flags (let_expression defs body place) wanted → Contains (let_variables defs) d →
      IsExpression env r flags d.val (Some d.ty.text)
  -- the body of a `let`
  of_body : {flags : Flags} {defs : LetList} {body : Expression} {place : Pos} {wanted : Option (List ℕ)} →
      IsExpression env r flags (let_expression defs body place) wanted → IsExpression env r flags body wanted

-- the rule binds a variable of this name, with this type
pub data BindsVariable (env : EnvironmentNode) (r : RuleDefinition) : (name ty : List ℕ) → Type 0 where
  by_mention : {var : Name} {place : Pos} {ty : List ℕ} → IsPattern env r (var_pattern var place) ty → BindsVariable env r var.text ty
  -- a pattern that is named; it is not said which type it has
  by_name : {var : Name} {p : PatternNode} {place : Pos} {ty : List ℕ} → IsPattern env r (bind_pattern var p place) ty → (found : List ℕ) →
      BindsVariable env r var.text found
  by_let : {flags : Flags} {defs : LetList} {body : Expression} {place : Pos} {wanted : Option (List ℕ)} {d : LetVariable} →
      IsExpression env r flags (let_expression defs body place) wanted → Contains (let_variables defs) d → BindsVariable env r d.var.text d.ty.text
