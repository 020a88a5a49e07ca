-- Errors, variables and answers of code, as pure values.
use Rattle.std.specs.Prelude.{◌≡◌, List, Option, None, Some, Result, Ok, Err, map, option_map, string_bytes}
use Rattle.std.specs.declared.alloc.Global.{Global}
use Rattle.std.specs.declared.vec.Vec.{Vec}
use Rattle.isle_check_typing.specs.declared.fault.Fault.{Fault}
use Rattle.isle_check_typing.specs.declared.fault.Kind.{Kind}
use Rattle.isle_check_typing.specs.declared.fault.Kind.TheVariants as kinds
use Rattle.isle_check_typing.specs.declared.progress.Found.{Found}
use Rattle.isle_check_typing.specs.declared.progress.Progress.{Progress}
use Rattle.isle_check_typing.specs.declared.progress.Variable.{Variable}
use Rattle.isle_check_typing.specs.declared.refusal.Refusal.{Refusal}
use Rattle.isle_check_typing.specs.declared.refusal.Refusal.TheVariants as refusals
use Rattle.isle_check_typing.specs.Faults.{KindNode, FaultNode, integer_type, bool_type, constant_unknown, constant_type, variable_bound, variable_type, term_unknown, term_type, argument_count, no_extractor, parameter_without_argument, macro_argument, integer_without_type, expression_constant_type, variable_unknown, expression_variable_type, let_type_unknown, expression_term_unknown, expression_term_type, impure_term, multi_term, partial_term, priority_in_multi, term_undefined, no_constructor}
use Rattle.isle_check_typing.specs.Progress.{FoundNode, ProgressNode, VariableNode}
use Rattle.isle_check_typing.specs.Typings.{Typing, Typings}

abbrev pub kind_of : Kind → KindNode
kind_of (kinds.IntegerType val ty) = integer_type val (string_bytes ty)
kind_of (kinds.BoolType val ty) = bool_type val (string_bytes ty)
kind_of (kinds.ConstantUnknown name) = constant_unknown (string_bytes name)
kind_of (kinds.ConstantType expected found) = constant_type (string_bytes expected) (string_bytes found)
kind_of (kinds.VariableBound name) = variable_bound (string_bytes name)
kind_of (kinds.VariableType name expected found) = variable_type (string_bytes name) (string_bytes expected) (string_bytes found)
kind_of (kinds.TermUnknown term) = term_unknown (string_bytes term)
kind_of (kinds.TermType expected found) = term_type (string_bytes expected) (string_bytes found)
kind_of (kinds.ArgumentCount term given expected) = argument_count (string_bytes term) given expected
kind_of (kinds.NoExtractor term) = no_extractor (string_bytes term)
kind_of (kinds.ParameterWithoutArgument term) = parameter_without_argument (string_bytes term)
kind_of kinds.MacroArgument = macro_argument
kind_of kinds.IntegerWithoutType = integer_without_type
kind_of (kinds.ExpressionConstantType name expected found) = expression_constant_type (string_bytes name) (string_bytes expected) (string_bytes found)
kind_of (kinds.VariableUnknown name) = variable_unknown (string_bytes name)
kind_of (kinds.ExpressionVariableType name expected found) = expression_variable_type (string_bytes name) (string_bytes expected) (string_bytes found)
kind_of (kinds.LetTypeUnknown name ty) = let_type_unknown (string_bytes name) (string_bytes ty)
kind_of (kinds.ExpressionTermUnknown term is_variable) = expression_term_unknown (string_bytes term) is_variable
kind_of (kinds.ExpressionTermType expected found) = expression_term_type (string_bytes expected) (string_bytes found)
kind_of (kinds.ImpureTerm term) = impure_term (string_bytes term)
kind_of (kinds.MultiTerm term) = multi_term (string_bytes term)
kind_of (kinds.PartialTerm term is_multi) = partial_term (string_bytes term) is_multi
kind_of kinds.PriorityInMulti = priority_in_multi
kind_of (kinds.TermUndefined term) = term_undefined (string_bytes term)
kind_of (kinds.NoConstructor term) = no_constructor (string_bytes term)

abbrev pub fault_of : Fault → FaultNode
fault_of f = record { kind = kind_of f.kind; pos = f.pos }

abbrev pub faults_of : List Fault → List FaultNode
faults_of fs = map fault_of fs

abbrev pub variable_of : Variable → VariableNode
variable_of v = record { name = string_bytes v.name; ty = v.ty.now; is_visible = v.is_visible }

abbrev pub variables_of : List Variable → List VariableNode
variables_of vs = map variable_of vs

abbrev pub progress_of : Progress → ProgressNode
progress_of p = record { bound = variables_of p.bound.items; faults = faults_of p.faults.items }

abbrev pub found_of : Found → FoundNode
found_of f = record { number = f.number; ty = f.ty.now }

abbrev pub Refuses : {Y : Type 0} → Refusal → Option Y → Type 0
Refuses refusals.TooDeep made = made ≡ None
Refuses refusals.Memory made = Unit {0}

-- the answer, seen by view, is this one, and none if the depth is used up; want of memory aside
abbrev pub Gives : {X Y : Type 0} → (X → Y) → Result X Refusal → Option Y → Type 0
Gives view (Ok x) made = made ≡ Some (view x)
Gives view (Err r) made = Refuses r made

-- the answer is a typed part, if there is one, with the progress behind it; and none if the depth
-- is used up; want of memory aside
abbrev pub GivesTyping : {X T : Type 0} → (X → T) → Result (Option X) Refusal → (after : Progress) → Option (Typing T) → Type 0
GivesTyping view result after made =
    Gives (λ typed. record { typed = option_map view typed; after = progress_of after }) result made

-- the same of typed parts
abbrev pub GivesTypings : {X T : Type 0} → (X → T) → Result (Vec X Global) Refusal → (after : Progress) → Option (Typings T) → Type 0
GivesTypings view result after made =
    Gives (λ typed. record { typed = map view typed.items; after = progress_of after }) result made
