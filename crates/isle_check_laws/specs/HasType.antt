-- The types of patterns, by rules. `HasType env p ty bound typed after` says: where these variables are bound before it,
-- the pattern has the type, `typed` is its typed pattern, and those are the variables after it.
use Rattle.std.specs.Prelude.{◌≡◌, ◌≢◌, ℕ, ℤ, List, [], ◌∷◌, ◌++◌, length, Bool, true, None, Some, codes}
use Rattle.isle_base_source.specs.declared.pos.Pos.{Pos}
use Rattle.isle_ast_names.specs.Tree.{Name}
use Rattle.isle_ast_rules.specs.Templates.{plug}
use Rattle.isle_ast_rules.specs.Tree.{PatternNode, var_pattern, bind_pattern, bool_pattern, int_pattern, constant_pattern, term_pattern, wildcard_pattern, and_pattern, PatternList, no_pattern, more_pattern}
use Rattle.isle_check_environment.specs.signatures.Environment.{EnvironmentNode}
use Rattle.isle_check_environment.specs.signatures.Signatures.{TermNode}
use Rattle.isle_check_typing.specs.PatternTypes.{count_patterns, list_list}
use Rattle.isle_check_typing.specs.Progress.{FoundNode, VariableNode, find}
use Rattle.isle_check_typing.specs.Typed.{TypedNode, typed_bind, typed_var, typed_bool, typed_int, typed_const, typed_term, typed_wildcard, typed_and}
use Rattle.isle_check_typing.specs.TypedView.{typed_list_of}

-- one more variable
abbrev pub bound_more : List VariableNode → (name ty : List ℕ) → List VariableNode
bound_more bound name ty = bound ++ record { name = name; ty = ty; is_visible = true } ∷ []

mutual
  pub data HasType (env : EnvironmentNode) : PatternNode → (ty : List ℕ) → (bound : List VariableNode) → TypedNode → (after : List VariableNode) → Type 0 where
    -- the first mention of a variable binds it
    binds : {var : Name} {place : Pos} {ty : List ℕ} {bound : List VariableNode} →
        find bound var.text ≡ None →
        HasType env (var_pattern var place) ty bound (typed_bind (length bound) ty (typed_wildcard ty)) (bound_more bound var.text ty)
    -- a later mention is compared, and has the same type
    compares : {var : Name} {place : Pos} {bound : List VariableNode} {known : FoundNode} →
        find bound var.text ≡ Some known →
        HasType env (var_pattern var place) known.ty bound (typed_var known.number known.ty) bound
    -- a pattern is named, after the variables in it are bound
    names : {var : Name} {subpat : PatternNode} {place : Pos} {ty : List ℕ} {bound after : List VariableNode} {typed : TypedNode} →
        HasType env subpat ty bound typed after → find after var.text ≡ None →
        HasType env (bind_pattern var subpat place) ty bound (typed_bind (length after) ty typed) (bound_more after var.text ty)
    is_bool : {val : Bool} {place : Pos} {bound : List VariableNode} →
        HasType env (bool_pattern val place) (codes "bool") bound (typed_bool val (codes "bool")) bound
    is_integer : {val : ℤ} {place : Pos} {ty : List ℕ} {bound : List VariableNode} →
        env.is_number ty ≡ true →
        HasType env (int_pattern val place) ty bound (typed_int val ty) bound
    is_constant : {val : Name} {place : Pos} {ty : List ℕ} {bound : List VariableNode} →
        env.constants val.text ≡ Some ty →
        HasType env (constant_pattern val place) ty bound (typed_const val.text ty) bound
    is_anything : {place : Pos} {ty : List ℕ} {bound : List VariableNode} →
        HasType env (wildcard_pattern place) ty bound (typed_wildcard ty) bound
    -- patterns that all match one value
    are_all : {subpats : PatternList} {place : Pos} {ty : List ℕ} {bound after : List VariableNode} {typed : List TypedNode} →
        HaveType env subpats ty bound typed after →
        HasType env (and_pattern subpats place) ty bound (typed_and ty (typed_list_of typed)) after
    -- a term that is no template, but has an extractor, takes patterns of its arguments' types
    extracts : {name : Name} {args : PatternList} {place : Pos} {bound after : List VariableNode} {typed : List TypedNode} {t : TermNode} →
        env.terms name.text ≡ Some t → env.templates name.text ≡ None → env.has_extractor name.text ≡ true →
        HaveTypes env args t.args bound typed after →
        HasType env (term_pattern name args place) t.ret bound (typed_term name.text t.ret (typed_list_of typed)) after
    -- a template stands for its pattern, with the arguments put in
    expands : {name : Name} {args : PatternList} {place : Pos} {bound after : List VariableNode} {typed : TypedNode} {t : TermNode} {template filled : PatternNode} →
        env.terms name.text ≡ Some t → env.templates name.text ≡ Some template → length t.args ≡ count_patterns args →
        plug template (list_list args) ≡ Some filled → HasType env filled t.ret bound typed after →
        HasType env (term_pattern name args place) t.ret bound typed after
    -- a term of another type stands for itself in the converter from its type to this one
    converts : {name : Name} {args : PatternList} {place : Pos} {ty converter : List ℕ} {bound after : List VariableNode} {typed : TypedNode} {t : TermNode} →
        env.terms name.text ≡ Some t → t.ret ≢ ty → env.converters t.ret ty ≡ Some converter → env.has_extractor converter ≡ true →
        HasType env (term_pattern (record { text = converter; pos = place }) (more_pattern (term_pattern name args place) no_pattern) place) ty bound typed after →
        HasType env (term_pattern name args place) ty bound typed after

  -- patterns, all of one type
  pub data HaveType (env : EnvironmentNode) : PatternList → (ty : List ℕ) → (bound : List VariableNode) → List TypedNode → (after : List VariableNode) → Type 0 where
    no_more : {ty : List ℕ} {bound : List VariableNode} → HaveType env no_pattern ty bound [] bound
    one_more : {p : PatternNode} {ps : PatternList} {ty : List ℕ} {bound middle after : List VariableNode} {typed : TypedNode} {rest : List TypedNode} →
        HasType env p ty bound typed middle → HaveType env ps ty middle rest after →
        HaveType env (more_pattern p ps) ty bound (typed ∷ rest) after

  -- patterns, each of its type, as many as there are types
  pub data HaveTypes (env : EnvironmentNode) : PatternList → (types : List (List ℕ)) → (bound : List VariableNode) → List TypedNode → (after : List VariableNode) → Type 0 where
    no_argument : {bound : List VariableNode} → HaveTypes env no_pattern [] bound [] bound
    one_argument : {p : PatternNode} {ps : PatternList} {ty : List ℕ} {types : List (List ℕ)} {bound middle after : List VariableNode} {typed : TypedNode} {rest : List TypedNode} →
        HasType env p ty bound typed middle → HaveTypes env ps types middle rest after →
        HaveTypes env (more_pattern p ps) (ty ∷ types) bound (typed ∷ rest) after
