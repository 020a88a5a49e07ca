-- Where rules read variables, and which variables are in scope there, said of trees. Only expressions read: a variable of
-- a pattern binds itself where nothing has bound it before. Extractors read nothing, and they are not expanded, so what
-- their templates bind is in scope in no rule.
use Rattle.std.specs.Prelude.{◌≡◌, ℕ, List, [], ◌∷◌, ◌++◌, Option, None, Some, Contains, if◌then◌else◌}
use Rattle.std.specs.List.{flat_map}
use Rattle.std.specs.Str.{bytes_eq}
use Rattle.isle_base_source.specs.declared.pos.Pos.{Pos}
use Rattle.isle_ast_names.specs.Tree.{Name}
use Rattle.isle_ast_rules.specs.Tree.{PatternNode, var_pattern, bind_pattern, bool_pattern, int_pattern, constant_pattern, term_pattern, wildcard_pattern, and_pattern, macro_arg_pattern, PatternList, no_pattern, more_pattern, Expression, term_expression, var_expression, let_expression, ExpressionList, more_expression, LetList, no_let, more_let, Condition, RuleDefinition}
use Rattle.isle_ast.specs.Tree.{Definition, rule, extractor}

-- the variables of a pattern, in order, each as often as it occurs
abbrev mutual
  pub pattern_variables : PatternNode → List Name
  pattern_variables (var_pattern var _) = var ∷ []
  pattern_variables (bind_pattern var subpat _) = var ∷ pattern_variables subpat
  pattern_variables (bool_pattern _ _) = []
  pattern_variables (int_pattern _ _) = []
  pattern_variables (constant_pattern _ _) = []
  pattern_variables (term_pattern _ args _) = pattern_list_variables args
  pattern_variables (wildcard_pattern _) = []
  pattern_variables (and_pattern subpats _) = pattern_list_variables subpats
  pattern_variables (macro_arg_pattern _ _) = []

  pub pattern_list_variables : PatternList → List Name
  pattern_list_variables no_pattern = []
  pattern_list_variables (more_pattern p ps) = pattern_variables p ++ pattern_list_variables ps

-- A scope is a list of variables, the nearest first: those of `let`s, the last one in front, and then those of patterns,
-- in order. A name means the first variable of its text.

-- the scope behind the definitions of a `let`
abbrev pub with_lets : (scope : List Name) → LetList → List Name
with_lets scope no_let = scope
with_lets scope (more_let var _ _ _ ds) = with_lets (var ∷ scope) ds

-- what a text means in a scope, if it means anything
abbrev pub meant : (scope : List Name) → (text : List ℕ) → Option Name
meant [] text = None
meant (n ∷ ns) text = if bytes_eq n.text text then Some n else meant ns text

-- `Reads scope e name visible` says: an expression in this scope reads this variable, at a place with the scope `visible`
mutual
  pub data Reads : (scope : List Name) → Expression → (name : Name) → (visible : List Name) → Type 0 where
    -- a variable is read in the scope of the expression
    itself : {scope : List Name} {name : Name} {place : Pos} → Reads scope (var_expression name place) name scope
    -- the arguments of a term have the scope of the term
    in_argument : {scope visible : List Name} {term name : Name} {args : ExpressionList} {place : Pos} →
        AreRead scope args name visible → Reads scope (term_expression term args place) name visible
    -- the body of a `let` has all variables of the `let` in scope
    in_body : {scope visible : List Name} {defs : LetList} {body : Expression} {name : Name} {place : Pos} →
        Reads (with_lets scope defs) body name visible → Reads scope (let_expression defs body place) name visible
    -- or one of its values reads the variable
    in_value : {scope visible : List Name} {defs : LetList} {body : Expression} {name : Name} {place : Pos} →
        ValuesRead scope defs name visible → Reads scope (let_expression defs body place) name visible

  -- one of these expressions reads the variable
  pub data AreRead : (scope : List Name) → ExpressionList → (name : Name) → (visible : List Name) → Type 0 where
    in_first : {scope visible : List Name} {x : Expression} {xs : ExpressionList} {name : Name} →
        Reads scope x name visible → AreRead scope (more_expression x xs) name visible
    in_later : {scope visible : List Name} {x : Expression} {xs : ExpressionList} {name : Name} →
        AreRead scope xs name visible → AreRead scope (more_expression x xs) name visible

  -- the value of one of these definitions reads the variable
  pub data ValuesRead : (scope : List Name) → LetList → (name : Name) → (visible : List Name) → Type 0 where
    -- the value of a definition does not have its variable in scope
    in_this : {scope visible : List Name} {var ty name : Name} {val : Expression} {place : Pos} {ds : LetList} →
        Reads scope val name visible → ValuesRead scope (more_let var ty val place ds) name visible
    -- the later definitions do
    in_next : {scope visible : List Name} {var ty name : Name} {val : Expression} {place : Pos} {ds : LetList} →
        ValuesRead (var ∷ scope) ds name visible → ValuesRead scope (more_let var ty val place ds) name visible

-- the variables of the patterns of conditions
abbrev pub condition_variables : List Condition → List Name
condition_variables cs = flat_map (λ c. pattern_variables c.pattern) cs

-- the expression of one of these conditions reads the variable
pub data ConditionsRead : (scope : List Name) → List Condition → (name : Name) → (visible : List Name) → Type 0 where
  -- the expression of a condition does not have the variables of its pattern in scope
  in_condition : {scope visible : List Name} {c : Condition} {cs : List Condition} {name : Name} →
      Reads scope c.expr name visible → ConditionsRead scope (c ∷ cs) name visible
  -- the later conditions do
  in_later_condition : {scope visible : List Name} {c : Condition} {cs : List Condition} {name : Name} →
      ConditionsRead (scope ++ pattern_variables c.pattern) cs name visible → ConditionsRead scope (c ∷ cs) name visible

-- the variables of a rule's patterns, in order
abbrev pub rule_variables : RuleDefinition → List Name
rule_variables r = pattern_variables r.pattern ++ condition_variables r.iflets

-- a rule reads the variable
pub data RuleReads : RuleDefinition → (name : Name) → (visible : List Name) → Type 0 where
  -- a condition has the variables of the rule's pattern in scope
  in_conditions : {r : RuleDefinition} {name : Name} {visible : List Name} →
      ConditionsRead (pattern_variables r.pattern) r.iflets name visible → RuleReads r name visible
  -- the right side has also those of all conditions
  in_right_side : {r : RuleDefinition} {name : Name} {visible : List Name} →
      Reads (rule_variables r) r.expr name visible → RuleReads r name visible

-- a rule of the program reads the variable
abbrev pub ProgramReads : List Definition → (name : Name) → (visible : List Name) → Type 0
ProgramReads ds name visible = (r : RuleDefinition) × Contains ds (rule r) × RuleReads r name visible

-- `IsReadAs ds name binder`: a rule of the program reads the variable, which means this one there, or nothing
abbrev pub IsReadAs : List Definition → (name : Name) → (binder : Option Name) → Type 0
IsReadAs ds name binder = (visible : List Name) × ProgramReads ds name visible × (meant visible name.text ≡ binder)

-- the variable is read where nothing in scope binds it
abbrev pub IsUnknown : List Definition → (name : Name) → Type 0
IsUnknown ds name = IsReadAs ds name None

-- the variables of the patterns of a definition, in order: those of a rule's patterns, or the parameters of an extractor
-- and the variables of its template. They are local to the definition
abbrev pub own_variables : Definition → List Name
own_variables (rule r) = rule_variables r
own_variables (extractor e) = e.args ++ pattern_variables e.template
own_variables _ = []

-- `OccursAs ds name binder`: a variable occurs in patterns of the program, and there it means this one, the first of its
-- text in the definition
abbrev pub OccursAs : List Definition → (name binder : Name) → Type 0
OccursAs ds name binder =
    (d : Definition) × Contains ds d × Contains (own_variables d) name × (meant (own_variables d) name.text ≡ Some binder)
