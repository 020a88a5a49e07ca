-- The types of expressions, by rules. `HasExpressionType env flags e wanted bound typed after` says: where these variables
-- are bound before it and these terms may be used, the expression has the type that is wanted, or any if none is; `typed`
-- is its typed expression, and those are the variables after it.
use Rattle.std.specs.Prelude.{◌≡◌, ◌≢◌, ℕ, ℤ, List, [], ◌∷◌, ◌++◌, length, map, take, drop, Bool, true, ◌||◌, Option, None, Some, codes}
use Rattle.isle_base_source.specs.declared.pos.Pos.{Pos}
use Rattle.isle_ast_names.specs.Tree.{Name}
use Rattle.isle_ast_rules.specs.Tree.{Expression, term_expression, var_expression, bool_expression, int_expression, constant_expression, let_expression, ExpressionList, no_expression, more_expression, LetList, no_let, more_let}
use Rattle.isle_check_environment.specs.signatures.Environment.{EnvironmentNode}
use Rattle.isle_check_environment.specs.signatures.Signatures.{TermNode}
use Rattle.isle_check_typing.specs.Progress.{FoundNode, VariableNode, find, hidden}
use Rattle.isle_check_typing.specs.declared.expressions.flags.Flags.{Flags}
use Rattle.isle_check_typing.specs.expressions.TypedExpressions.{TypedExpressionNode, typed_var_expression, typed_bool_expression, typed_int_expression, typed_const_expression, typed_term_expression, typed_let_expression, TypedLetNode, type_of_expression, typed_expression_list, typed_let_list}
use Rattle.isle_check_laws.specs.HasType.{bound_more}

-- a type is the one that is wanted, if one is
abbrev pub IsWanted : (ty : List ℕ) → (wanted : Option (List ℕ)) → Type 0
IsWanted ty None = Unit {0}
IsWanted ty (Some wanted) = ty ≡ wanted

-- flags allow a term: if they ask for pure ones it is pure or a variant, and a multi or partial term needs its flag
pub record IsAllowed (flags : Flags) (t : TermNode) : Type 0 where
  pub if_pure : flags.pure ≡ true → (t.pure || t.is_variant) ≡ true
  pub if_multi : t.multi ≡ true → flags.multi ≡ true
  pub if_partial : t.partial ≡ true → flags.partial ≡ true

-- behind a `let` its variables cannot be named
abbrev pub bound_behind : (bound inner : List VariableNode) → List VariableNode
bound_behind bound inner = take (length bound) inner ++ map hidden (drop (length bound) inner)

mutual
  pub data HasExpressionType (env : EnvironmentNode) (flags : Flags) : Expression → (wanted : Option (List ℕ)) → (bound : List VariableNode) → TypedExpressionNode → (after : List VariableNode) → Type 0 where
    -- an integer has the type that is wanted, and one must be
    gives_integer : {val : ℤ} {place : Pos} {ty : List ℕ} {bound : List VariableNode} →
        env.is_number ty ≡ true →
        HasExpressionType env flags (int_expression val place) (Some ty) bound (typed_int_expression val ty) bound
    gives_bool : {val : Bool} {place : Pos} {wanted : Option (List ℕ)} {bound : List VariableNode} →
        IsWanted (codes "bool") wanted →
        HasExpressionType env flags (bool_expression val place) wanted bound (typed_bool_expression val (codes "bool")) bound
    gives_constant : {val : Name} {place : Pos} {ty : List ℕ} {wanted : Option (List ℕ)} {bound : List VariableNode} →
        env.constants val.text ≡ Some ty → IsWanted ty wanted →
        HasExpressionType env flags (constant_expression val place) wanted bound (typed_const_expression val.text ty) bound
    gives_variable : {name : Name} {place : Pos} {wanted : Option (List ℕ)} {bound : List VariableNode} {known : FoundNode} →
        find bound name.text ≡ Some known → IsWanted known.ty wanted →
        HasExpressionType env flags (var_expression name place) wanted bound (typed_var_expression known.number known.ty) bound
    -- a term that the flags allow takes expressions of its arguments' types
    constructs : {name : Name} {args : ExpressionList} {place : Pos} {wanted : Option (List ℕ)} {bound after : List VariableNode} {typed : List TypedExpressionNode} {t : TermNode} →
        env.terms name.text ≡ Some t → IsWanted t.ret wanted → IsAllowed flags t →
        HaveExpressionTypes env flags args t.args bound typed after →
        HasExpressionType env flags (term_expression name args place) wanted bound (typed_term_expression name.text t.ret (typed_expression_list typed)) after
    -- a variable of another type stands for itself in the converter from its type to this one
    converts_variable : {name : Name} {place : Pos} {ty converter : List ℕ} {bound after : List VariableNode} {typed : TypedExpressionNode} {known : FoundNode} →
        find bound name.text ≡ Some known → known.ty ≢ ty → env.converters known.ty ty ≡ Some converter → env.has_constructor converter ≡ true →
        HasExpressionType env flags (term_expression (record { text = converter; pos = place }) (more_expression (var_expression name place) no_expression) place) (Some ty) bound typed after →
        HasExpressionType env flags (var_expression name place) (Some ty) bound typed after
    -- and so does a term
    converts_term : {name : Name} {args : ExpressionList} {place : Pos} {ty converter : List ℕ} {bound after : List VariableNode} {typed : TypedExpressionNode} {t : TermNode} →
        env.terms name.text ≡ Some t → t.ret ≢ ty → env.converters t.ret ty ≡ Some converter → env.has_constructor converter ≡ true →
        HasExpressionType env flags (term_expression (record { text = converter; pos = place }) (more_expression (term_expression name args place) no_expression) place) (Some ty) bound typed after →
        HasExpressionType env flags (term_expression name args place) (Some ty) bound typed after
    -- a `let` has the type of its body, in which its variables are bound
    lets : {defs : LetList} {body : Expression} {place : Pos} {wanted : Option (List ℕ)} {bound middle after : List VariableNode} {vars : List TypedLetNode} {typed : TypedExpressionNode} →
        AreDefined env flags defs bound vars middle → HasExpressionType env flags body wanted middle typed after →
        HasExpressionType env flags (let_expression defs body place) wanted bound (typed_let_expression (type_of_expression typed) (typed_let_list vars) typed) (bound_behind bound after)

  -- expressions, each of its type, as many as there are types
  pub data HaveExpressionTypes (env : EnvironmentNode) (flags : Flags) : ExpressionList → (types : List (List ℕ)) → (bound : List VariableNode) → List TypedExpressionNode → (after : List VariableNode) → Type 0 where
    no_value : {bound : List VariableNode} → HaveExpressionTypes env flags no_expression [] bound [] bound
    one_value : {e : Expression} {es : ExpressionList} {ty : List ℕ} {types : List (List ℕ)} {bound middle after : List VariableNode} {typed : TypedExpressionNode} {rest : List TypedExpressionNode} →
        HasExpressionType env flags e (Some ty) bound typed middle → HaveExpressionTypes env flags es types middle rest after →
        HaveExpressionTypes env flags (more_expression e es) (ty ∷ types) bound (typed ∷ rest) after

  -- the variables of a `let`: each has a known type and a value of this type, in which those before it may be named
  pub data AreDefined (env : EnvironmentNode) (flags : Flags) : LetList → (bound : List VariableNode) → List TypedLetNode → (after : List VariableNode) → Type 0 where
    no_variable : {bound : List VariableNode} → AreDefined env flags no_let bound [] bound
    one_variable : {var ty : Name} {val : Expression} {place : Pos} {defs : LetList} {bound middle after : List VariableNode} {typed : TypedExpressionNode} {rest : List TypedLetNode} →
        env.is_type ty.text ≡ true → HasExpressionType env flags val (Some ty.text) bound typed middle →
        AreDefined env flags defs (bound_more middle var.text ty.text) rest after →
        AreDefined env flags (more_let var ty val place defs) bound (record { variable = length middle; val = typed } ∷ rest) after
