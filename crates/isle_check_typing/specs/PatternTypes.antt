-- The typed pattern of a pattern, and the progress behind it: variables and errors. An error ends
-- nothing: what follows is typed as if the error were not there.
use Rattle.std.specs.Prelude.{ℕ, ℤ, zero, suc, ◌+◌, ◌==◌, List, [], ◌∷◌, length, Bool, Option, None, Some, is_none, option_map, codes, if◌then◌else◌}
use Rattle.std.specs.Str.{bytes_eq}
use Rattle.isle_base_source.specs.declared.pos.Pos.{Pos}
use Rattle.isle_ast_names.specs.Tree.{Name}
use Rattle.isle_ast_rules.specs.Templates.{plug}
use Rattle.isle_ast_rules.specs.Tree.{PatternNode, var_pattern, bind_pattern, bool_pattern, int_pattern, constant_pattern, term_pattern, wildcard_pattern, and_pattern, macro_arg_pattern, PatternList, no_pattern, more_pattern}
use Rattle.isle_check_environment.specs.signatures.Environment.{EnvironmentNode}
use Rattle.isle_check_environment.specs.signatures.Signatures.{TermNode}
use Rattle.isle_check_typing.specs.Faults.{integer_type, bool_type, constant_unknown, constant_type, variable_bound, variable_type, term_unknown, term_type, argument_count, no_extractor, parameter_without_argument, macro_argument}
use Rattle.isle_check_typing.specs.Progress.{FoundNode, ProgressNode, bind, find, tell, unless}
use Rattle.isle_check_typing.specs.Typed.{TypedNode, typed_bind, typed_var, typed_bool, typed_int, typed_const, typed_term, typed_wildcard, typed_and, type_of}
use Rattle.isle_check_typing.specs.TypedView.{typed_list_of}
use Rattle.isle_check_typing.specs.Typings.{Typing, Typings, and_then, gives, gives_none, with_typed}

-- how patterns are typed in a pattern
abbrev pub Below : Type 0
Below = PatternNode → (ty : List ℕ) → ProgressNode → Option (Typing TypedNode)

-- an integer stands for a value of an integer type or a primitive type
abbrev pub type_integer : EnvironmentNode → ℤ → Pos → (ty : List ℕ) → ProgressNode → Typing TypedNode
type_integer env val place ty s =
    gives (typed_int val ty) (unless (env.is_number ty) (integer_type val ty) place s)

abbrev pub type_bool : Bool → Pos → (ty : List ℕ) → ProgressNode → Typing TypedNode
type_bool val place ty s =
    gives (typed_bool val (codes "bool")) (unless (bytes_eq ty (codes "bool")) (bool_type val ty) place s)

abbrev pub constant_by : Option (List ℕ) → Name → Pos → (ty : List ℕ) → ProgressNode → Typing TypedNode
constant_by None name place ty s = gives_none (tell (constant_unknown name.text) place s)
constant_by (Some known) name place ty s =
    gives (typed_const name.text known) (unless (bytes_eq known ty) (constant_type ty known) place s)

-- a constant stands for a value of its type
abbrev pub type_constant : EnvironmentNode → Name → Pos → (ty : List ℕ) → ProgressNode → Typing TypedNode
type_constant env name place ty s = constant_by (env.constants name.text) name place ty s

abbrev pub new_variable : Name → (ty : List ℕ) → ProgressNode → Typing TypedNode
new_variable var ty s = gives (typed_bind (length s.bound) ty (typed_wildcard ty)) (bind var.text ty s)

abbrev pub variable_by : Option FoundNode → Name → Pos → (ty : List ℕ) → ProgressNode → Typing TypedNode
variable_by None var place ty s = new_variable var ty s
variable_by (Some known) var place ty s =
    gives
    (typed_var known.number known.ty)
    (unless (bytes_eq known.ty ty) (variable_type var.text ty known.ty) place s)

-- the first mention of a variable binds it; a later one stands for a value of its type
abbrev pub type_variable : Name → Pos → (ty : List ℕ) → ProgressNode → Typing TypedNode
type_variable var place ty s = variable_by (find s.bound var.text) var place ty s

-- a variable is bound to the value that a typed pattern matches. It isn't bound before
abbrev pub bind_to : TypedNode → Name → Pos → ProgressNode → Typing TypedNode
bind_to p var place s =
    gives
    (typed_bind (length s.bound) (type_of p) p)
    (bind var.text (type_of p) (unless (is_none (find s.bound var.text)) (variable_bound var.text) place s))

abbrev pub bound_by : Option TypedNode → Name → Pos → ProgressNode → Typing TypedNode
bound_by None var place s = gives_none s
bound_by (Some p) var place s = bind_to p var place s

abbrev pub type_bind : Name → Pos → Typing TypedNode → Typing TypedNode
type_bind var place inner = bound_by inner.typed var place inner.after

abbrev pub count_patterns : PatternList → ℕ
count_patterns no_pattern = 0
count_patterns (more_pattern p ps) = 1 + count_patterns ps

abbrev pub list_list : PatternList → List PatternNode
list_list no_pattern = []
list_list (more_pattern p ps) = p ∷ list_list ps

-- patterns of one type, behind those that are typed
abbrev pub each_by : Below → PatternList → (ty : List ℕ) → List TypedNode → ProgressNode → Option (Typings TypedNode)
each_by below no_pattern ty typed s = Some (record { typed = typed; after = s })
each_by below (more_pattern p ps) ty typed s =
    and_then (below p ty s) (λ r. each_by below ps ty (with_typed typed r.typed) r.after)

-- patterns, each of its type, as many as there are types, behind those that are typed
abbrev pub arguments_by : Below → PatternList → (types : List (List ℕ)) → List TypedNode → ProgressNode → Option (Typings TypedNode)
arguments_by below no_pattern types typed s = Some (record { typed = typed; after = s })
arguments_by below (more_pattern p ps) [] typed s = Some (record { typed = typed; after = s })
arguments_by below (more_pattern p ps) (ty ∷ types) typed s =
    and_then (below p ty s) (λ r. arguments_by below ps types (with_typed typed r.typed) r.after)

abbrev pub type_and : Below → PatternList → (ty : List ℕ) → ProgressNode → Option (Typing TypedNode)
type_and below ps ty s = option_map (λ r. gives (typed_and ty (typed_list_of r.typed)) r.after) (each_by below ps ty [] s)

-- what a template stands for. If the template has a parameter without an argument, it is an error
-- unless an error of the number of arguments was told
abbrev pub filled_by : Below → Option PatternNode → (counts : Bool) → (term : List ℕ) → Pos → (ty : List ℕ) → ProgressNode → Option (Typing TypedNode)
filled_by below None counts term place ty s =
    Some (gives_none (if counts then tell (parameter_without_argument term) place s else s))
filled_by below (Some q) counts term place ty s = below q ty s

-- a term that is no template
abbrev pub extracted_by : Below → EnvironmentNode → TermNode → (term : List ℕ) → PatternList → Pos → ProgressNode → Option (Typing TypedNode)
extracted_by below env t term args place s =
    option_map
    (λ r. gives (typed_term term t.ret (typed_list_of r.typed)) r.after)
    (arguments_by below args t.args [] (unless (env.has_extractor term) (no_extractor term) place s))

abbrev pub use_by : Below → EnvironmentNode → Option PatternNode → TermNode → (term : List ℕ) → PatternList → Pos → (ty : List ℕ) → ProgressNode → Option (Typing TypedNode)
use_by below env None t term args place ty s = extracted_by below env t term args place s
use_by below env (Some template) t term args place ty s =
    filled_by below (plug template (list_list args)) (length t.args == count_patterns args) term place ty s

-- a term that isn't converted: it has as many arguments as are declared
abbrev pub own_by : Below → EnvironmentNode → TermNode → (term : List ℕ) → PatternList → Pos → (ty : List ℕ) → ProgressNode → Option (Typing TypedNode)
own_by below env t term args place ty s =
    use_by
    below
    env
    (env.templates term)
    t
    term
    args
    place
    ty
    (unless
    (length t.args == count_patterns args)
    (argument_count term (count_patterns args) (length t.args))
    place
    s)

-- a converter, if it can be used in patterns
abbrev pub if_extracts : EnvironmentNode → Option (List ℕ) → Option (List ℕ)
if_extracts env None = None
if_extracts env (Some c) = if env.has_extractor c then Some c else None

-- the term that converts in patterns
abbrev pub converting : EnvironmentNode → (inner outer : List ℕ) → Option (List ℕ)
converting env inner outer = if_extracts env (env.converters inner outer)

-- a pattern that is put into a converter
abbrev pub put_in : (converter : List ℕ) → PatternNode → Pos → PatternNode
put_in converter p place = term_pattern (record { text = converter; pos = place }) (more_pattern p no_pattern) place

abbrev pub put_by : Below → (converter : List ℕ) → PatternNode → Pos → (ty : List ℕ) → ProgressNode → Option (Typing TypedNode)
put_by below converter p place ty s = below (put_in converter p place) ty s

-- a term whose result has another type
abbrev pub converted_by : Below → EnvironmentNode → Option (List ℕ) → PatternNode → TermNode → (term : List ℕ) → PatternList → Pos → (ty : List ℕ) → ProgressNode → Option (Typing TypedNode)
converted_by below env None p t term args place ty s =
    own_by below env t term args place ty (tell (term_type ty t.ret) place s)
converted_by below env (Some converter) p t term args place ty s = put_by below converter p place ty s

abbrev pub found_by : Below → EnvironmentNode → PatternNode → TermNode → (term : List ℕ) → PatternList → Pos → (ty : List ℕ) → ProgressNode → Option (Typing TypedNode)
found_by below env p t term args place ty s =
    if bytes_eq t.ret ty then own_by below env t term args place ty s
    else converted_by below env (converting env t.ret ty) p t term args place ty s

abbrev pub term_by : Below → EnvironmentNode → Option TermNode → PatternNode → (term : List ℕ) → PatternList → Pos → (ty : List ℕ) → ProgressNode → Option (Typing TypedNode)
term_by below env None p term args place ty s = Some (gives_none (tell (term_unknown term) place s))
term_by below env (Some t) p term args place ty s = found_by below env p t term args place ty s

-- a pattern of a type, where patterns are typed by `below` in it
abbrev pub step : Below → EnvironmentNode → PatternNode → (ty : List ℕ) → ProgressNode → Option (Typing TypedNode)
step below env (var_pattern var place) ty s = Some (type_variable var place ty s)
step below env (bind_pattern var subpat place) ty s = option_map (type_bind var place) (below subpat ty s)
step below env (bool_pattern val place) ty s = Some (type_bool val place ty s)
step below env (int_pattern val place) ty s = Some (type_integer env val place ty s)
step below env (constant_pattern name place) ty s = Some (type_constant env name place ty s)
step below env (term_pattern sym args place) ty s =
    term_by below env (env.terms sym.text) (term_pattern sym args place) sym.text args place ty s
step below env (wildcard_pattern place) ty s = Some (gives (typed_wildcard ty) s)
step below env (and_pattern subpats place) ty s = type_and below subpats ty s
step below env (macro_arg_pattern index place) ty s = Some (gives_none (tell macro_argument place s))

-- a pattern of a type, where no more than so many patterns lie in one another once templates are
-- filled and conversions are written out; none if more do
abbrev pub type_at : ℕ → EnvironmentNode → PatternNode → (ty : List ℕ) → ProgressNode → Option (Typing TypedNode)
type_at zero env p ty s = None
type_at (suc depth) env p ty s = step (type_at depth env) env p ty s
