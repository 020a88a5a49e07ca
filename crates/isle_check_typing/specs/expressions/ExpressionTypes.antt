-- The typed expression of an expression, and the progress behind it. An error ends nothing: what
-- follows is typed as if the error were not there. The type that is wanted is none where any type
-- may be.
use Rattle.std.specs.Prelude.{ℕ, ℤ, zero, suc, ◌+◌, ◌==◌, List, [], ◌∷◌, length, Bool, ◌||◌, not, Option, None, Some, is_some, option_map, codes, if◌then◌else◌}
use Rattle.std.specs.Str.{bytes_eq}
use Rattle.isle_base_source.specs.declared.pos.Pos.{Pos}
use Rattle.isle_ast_rules.specs.Tree.{Expression, term_expression, var_expression, bool_expression, int_expression, constant_expression, let_expression, ExpressionList, no_expression, more_expression, LetList, no_let, more_let}
use Rattle.isle_check_environment.specs.signatures.Environment.{EnvironmentNode}
use Rattle.isle_check_environment.specs.signatures.Signatures.{TermNode}
use Rattle.isle_check_typing.specs.Faults.{integer_type, bool_type, constant_unknown, argument_count, integer_without_type, expression_constant_type, variable_unknown, expression_variable_type, let_type_unknown, expression_term_unknown, expression_term_type, impure_term, multi_term, partial_term}
use Rattle.isle_check_typing.specs.Progress.{FoundNode, ProgressNode, bind, find, hide_since, tell, unless}
use Rattle.isle_check_typing.specs.Typings.{Typing, Typings, and_then, gives, gives_none, with_typed}
use Rattle.isle_check_typing.specs.declared.expressions.flags.Flags.{Flags}
use Rattle.isle_check_typing.specs.expressions.TypedExpressions.{TypedExpressionNode, typed_var_expression, typed_bool_expression, typed_int_expression, typed_const_expression, typed_term_expression, typed_let_expression, TypedLetNode, type_of_expression, typed_expression_list, typed_let_list}

-- how expressions are typed in an expression
abbrev pub Below : Type 0
Below = Expression → (wanted : Option (List ℕ)) → ProgressNode → Option (Typing TypedExpressionNode)

-- the type that is wanted, if it is another
abbrev pub other_than : (found : List ℕ) → (wanted : Option (List ℕ)) → Option (List ℕ)
other_than found None = None
other_than found (Some wanted) = if bytes_eq found wanted then None else Some wanted

-- an integer has the type that is wanted, an integer type or a primitive type
abbrev pub type_integer : EnvironmentNode → ℤ → Pos → (wanted : Option (List ℕ)) → ProgressNode → Typing TypedExpressionNode
type_integer env val place None s = gives_none (tell integer_without_type place s)
type_integer env val place (Some ty) s =
    gives (typed_int_expression val ty) (unless (env.is_number ty) (integer_type val ty) place s)

abbrev pub bool_by : (other : Option (List ℕ)) → Bool → Pos → ProgressNode → ProgressNode
bool_by None val place s = s
bool_by (Some ty) val place s = tell (bool_type val ty) place s

abbrev pub type_bool : Bool → Pos → (wanted : Option (List ℕ)) → ProgressNode → Typing TypedExpressionNode
type_bool val place wanted s =
    gives (typed_bool_expression val (codes "bool")) (bool_by (other_than (codes "bool") wanted) val place s)

abbrev pub constant_as : (known : List ℕ) → (other : Option (List ℕ)) → (name : List ℕ) → Pos → ProgressNode → Typing TypedExpressionNode
constant_as known None name place s = gives (typed_const_expression name known) s
constant_as known (Some ty) name place s = gives_none (tell (expression_constant_type name ty known) place s)

abbrev pub constant_by : Option (List ℕ) → (name : List ℕ) → Pos → (wanted : Option (List ℕ)) → ProgressNode → Typing TypedExpressionNode
constant_by None name place wanted s = gives_none (tell (constant_unknown name) place s)
constant_by (Some known) name place wanted s = constant_as known (other_than known wanted) name place s

-- a constant has its type, and is never converted
abbrev pub type_constant : EnvironmentNode → (name : List ℕ) → Pos → (wanted : Option (List ℕ)) → ProgressNode → Typing TypedExpressionNode
type_constant env name place wanted s = constant_by (env.constants name) name place wanted s

-- a converter, if it can be used in expressions
abbrev pub if_constructs : EnvironmentNode → Option (List ℕ) → Option (List ℕ)
if_constructs env None = None
if_constructs env (Some c) = if env.has_constructor c then Some c else None

-- the term that converts in expressions
abbrev pub converting : EnvironmentNode → (inner outer : List ℕ) → Option (List ℕ)
converting env inner outer = if_constructs env (env.converters inner outer)

-- an expression that is put into a converter
abbrev pub put_in : (converter : List ℕ) → Expression → Pos → Expression
put_in converter e place =
    term_expression (record { text = converter; pos = place }) (more_expression e no_expression) place

abbrev pub put_by : Below → (converter : List ℕ) → Expression → Pos → (ty : List ℕ) → ProgressNode → Option (Typing TypedExpressionNode)
put_by below converter e place ty s = below (put_in converter e place) (Some ty) s

-- a variable of another type
abbrev pub variable_converted : Below → (converter : Option (List ℕ)) → FoundNode → Expression → (name : List ℕ) → Pos → (ty : List ℕ) → ProgressNode → Option (Typing TypedExpressionNode)
variable_converted below None known e name place ty s =
    Some (gives (typed_var_expression known.number known.ty) (tell (expression_variable_type name ty known.ty) place s))
variable_converted below (Some converter) known e name place ty s = put_by below converter e place ty s

abbrev pub variable_as : Below → EnvironmentNode → FoundNode → (other : Option (List ℕ)) → Expression → (name : List ℕ) → Pos → ProgressNode → Option (Typing TypedExpressionNode)
variable_as below env known None e name place s = Some (gives (typed_var_expression known.number known.ty) s)
variable_as below env known (Some ty) e name place s =
    variable_converted below (converting env known.ty ty) known e name place ty s

-- a variable has its type, or is converted
abbrev pub variable_by : Below → EnvironmentNode → Option FoundNode → Expression → (name : List ℕ) → Pos → (wanted : Option (List ℕ)) → ProgressNode → Option (Typing TypedExpressionNode)
variable_by below env None e name place wanted s = Some (gives_none (tell (variable_unknown name) place s))
variable_by below env (Some known) e name place wanted s =
    variable_as below env known (other_than known.ty wanted) e name place s

abbrev pub count_expressions : ExpressionList → ℕ
count_expressions no_expression = 0
count_expressions (more_expression e es) = 1 + count_expressions es

-- expressions, each of its type, as many as there are types, behind those that are typed
abbrev pub arguments_by : Below → ExpressionList → (types : List (List ℕ)) → List TypedExpressionNode → ProgressNode → Option (Typings TypedExpressionNode)
arguments_by below no_expression types typed s = Some (record { typed = typed; after = s })
arguments_by below (more_expression e es) [] typed s = Some (record { typed = typed; after = s })
arguments_by below (more_expression e es) (ty ∷ types) typed s =
    and_then (below e (Some ty) s) (λ r. arguments_by below es types (with_typed typed r.typed) r.after)

abbrev pub tell_impure : Flags → TermNode → (term : List ℕ) → Pos → ProgressNode → ProgressNode
tell_impure flags t term place s = unless (not flags.pure || (t.pure || t.is_variant)) (impure_term term) place s

abbrev pub tell_multi : Flags → TermNode → (term : List ℕ) → Pos → ProgressNode → ProgressNode
tell_multi flags t term place s = unless (flags.multi || not t.multi) (multi_term term) place s

abbrev pub tell_partial : Flags → TermNode → (term : List ℕ) → Pos → ProgressNode → ProgressNode
tell_partial flags t term place s = unless (flags.partial || not t.partial) (partial_term term flags.multi) place s

-- a term is used where its flags allow it
abbrev pub use_term : Flags → TermNode → (term : List ℕ) → Pos → ProgressNode → ProgressNode
use_term flags t term place s =
    tell_partial flags t term place (tell_multi flags t term place (tell_impure flags t term place s))

-- a term has as many arguments as are declared
abbrev pub count_arguments : TermNode → (term : List ℕ) → (given : ℕ) → Pos → ProgressNode → ProgressNode
count_arguments t term given place s =
    unless (length t.args == given) (argument_count term given (length t.args)) place s

-- a term that isn't converted
abbrev pub own_by : Below → Flags → TermNode → (term : List ℕ) → ExpressionList → Pos → ProgressNode → Option (Typing TypedExpressionNode)
own_by below flags t term args place s =
    option_map
    (λ r. gives (typed_term_expression term t.ret (typed_expression_list r.typed)) r.after)
    (arguments_by below args t.args [] (count_arguments t term (count_expressions args) place (use_term flags t term place s)))

-- a term whose result has another type
abbrev pub term_converted : Below → (converter : Option (List ℕ)) → Flags → TermNode → Expression → (term : List ℕ) → ExpressionList → Pos → (ty : List ℕ) → ProgressNode → Option (Typing TypedExpressionNode)
term_converted below None flags t e term args place ty s =
    own_by below flags t term args place (tell (expression_term_type ty t.ret) place s)
term_converted below (Some converter) flags t e term args place ty s = put_by below converter e place ty s

abbrev pub term_as : Below → EnvironmentNode → Flags → TermNode → (other : Option (List ℕ)) → Expression → (term : List ℕ) → ExpressionList → Pos → ProgressNode → Option (Typing TypedExpressionNode)
term_as below env flags t None e term args place s = own_by below flags t term args place s
term_as below env flags t (Some ty) e term args place s =
    term_converted below (converting env t.ret ty) flags t e term args place ty s

-- a term has the type of its result, or is converted
abbrev pub term_by : Below → EnvironmentNode → Flags → Option TermNode → Expression → (term : List ℕ) → ExpressionList → Pos → (wanted : Option (List ℕ)) → ProgressNode → Option (Typing TypedExpressionNode)
term_by below env flags None e term args place wanted s =
    Some (gives_none (tell (expression_term_unknown term (is_some (find s.bound term))) place s))
term_by below env flags (Some t) e term args place wanted s =
    term_as below env flags t (other_than t.ret wanted) e term args place s

abbrev pub defined_by : Option TypedExpressionNode → (var ty : List ℕ) → ProgressNode → Typing TypedLetNode
defined_by None var ty s = gives_none s
defined_by (Some val) var ty s = gives (record { variable = length s.bound; val = val }) (bind var ty s)

-- a variable is bound to its value
abbrev pub define : (var ty : List ℕ) → Typing TypedExpressionNode → Typing TypedLetNode
define var ty val = defined_by val.typed var ty val.after

-- a variable of a `let` has a value of its type
abbrev pub let_by : Below → EnvironmentNode → Pos → (var ty : List ℕ) → (val : Expression) → ProgressNode → Option (Typing TypedLetNode)
let_by below env place var ty val s =
    if env.is_type ty then option_map (define var ty) (below val (Some ty) s)
    else Some (gives_none (tell (let_type_unknown var ty) place s))

-- the variables of a `let` at this place, behind those that are typed
abbrev pub lets_by : Below → EnvironmentNode → Pos → LetList → List TypedLetNode → ProgressNode → Option (Typings TypedLetNode)
lets_by below env place no_let typed s = Some (record { typed = typed; after = s })
lets_by below env place (more_let var ty val _ ds) typed s =
    and_then (let_by below env place var.text ty.text val s) (λ r. lets_by below env place ds (with_typed typed r.typed) r.after)

-- a `let` has the type of its body
abbrev pub closed : List TypedLetNode → (body : Option TypedExpressionNode) → Option TypedExpressionNode
closed defs body = option_map (λ e. typed_let_expression (type_of_expression e) (typed_let_list defs) e) body

-- behind a `let` the variables since there were `count` are hidden
abbrev pub close : (count : ℕ) → List TypedLetNode → Typing TypedExpressionNode → Typing TypedExpressionNode
close count defs body = record { typed = closed defs body.typed; after = hide_since count body.after }

abbrev pub type_let : Below → EnvironmentNode → LetList → Expression → Pos → (wanted : Option (List ℕ)) → ProgressNode → Option (Typing TypedExpressionNode)
type_let below env defs body place wanted s =
    and_then (lets_by below env place defs [] s) (λ ds. option_map (close (length s.bound) ds.typed) (below body wanted ds.after))

-- an expression of a type, where expressions are typed by `below` in it
abbrev pub step : Below → EnvironmentNode → Flags → Expression → (wanted : Option (List ℕ)) → ProgressNode → Option (Typing TypedExpressionNode)
step below env flags (term_expression sym args place) wanted s =
    term_by below env flags (env.terms sym.text) (term_expression sym args place) sym.text args place wanted s
step below env flags (var_expression name place) wanted s =
    variable_by below env (find s.bound name.text) (var_expression name place) name.text place wanted s
step below env flags (bool_expression val place) wanted s = Some (type_bool val place wanted s)
step below env flags (int_expression val place) wanted s = Some (type_integer env val place wanted s)
step below env flags (constant_expression name place) wanted s = Some (type_constant env name.text place wanted s)
step below env flags (let_expression defs body place) wanted s = type_let below env defs body place wanted s

-- an expression of a type, where no more than so many expressions lie in one another once
-- conversions are written out; none if more do
abbrev pub expression_at : ℕ → EnvironmentNode → Flags → Expression → (wanted : Option (List ℕ)) → ProgressNode → Option (Typing TypedExpressionNode)
expression_at zero env flags e wanted s = None
expression_at (suc depth) env flags e wanted s = step (expression_at depth env flags) env flags e wanted s
