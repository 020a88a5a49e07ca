-- What the errors of rules say of a program. It does not say which variables can be named at a place: of a variable that is
-- unknown, or bound again, it says that the rule uses the name so at this place.
use Rattle.std.specs.Prelude.{◌≡◌, ◌≢◌, ℕ, ℤ, List, Bool, true, false, Option, None, Some, Contains, codes, length}
use Rattle.isle_base_source.specs.declared.pos.Pos.{Pos}
use Rattle.isle_ast_names.specs.Tree.{Name}
use Rattle.isle_ast_rules.specs.TermHeads.{expression_heads}
use Rattle.isle_ast_rules.specs.Templates.{plug}
use Rattle.isle_ast_rules.specs.Tree.{Expression, ExpressionList, LetList, PatternList, PatternNode, RuleDefinition, bind_pattern, bool_expression, bool_pattern, constant_expression, constant_pattern, int_expression, int_pattern, let_expression, macro_arg_pattern, term_expression, term_pattern, var_expression, var_pattern}
use Rattle.isle_ast.specs.Tree.{Declaration, Definition}
use Rattle.isle_check_environment.specs.Parts.{decls_in, rules_in}
use Rattle.isle_check_environment.specs.signatures.Environment.{EnvironmentNode}
use Rattle.isle_check_environment.specs.signatures.Signatures.{TermNode}
use Rattle.isle_check_typing.specs.Faults as kinds
use Rattle.isle_check_typing.specs.PatternTypes.{count_patterns, list_list}
use Rattle.isle_check_typing.specs.declared.expressions.flags.Flags.{Flags}
use Rattle.isle_check_typing.specs.expressions.ExpressionTypes.{count_expressions}
use Rattle.isle_check_laws.specs.RuleParts.{BindsVariable, HasRoot, IsExpression, IsPattern, LetVariable, let_variables}

-- a converter from the one type to the other cannot stand in a pattern
abbrev pub CannotExtract : EnvironmentNode → (inner outer : List ℕ) → Type 0
CannotExtract env inner outer = (converter : List ℕ) → env.converters inner outer ≡ Some converter → env.has_extractor converter ≡ false

-- a converter from the one type to the other cannot stand in an expression
abbrev pub CannotConstruct : EnvironmentNode → (inner outer : List ℕ) → Type 0
CannotConstruct env inner outer = (converter : List ℕ) → env.converters inner outer ≡ Some converter → env.has_constructor converter ≡ false

-- of a pattern, by the kind of an error and its position
pub data IsBrokenPattern (env : EnvironmentNode) (r : RuleDefinition) : kinds.KindNode → Pos → Type 0 where
  -- at an integer: the wanted type has no integers
  integer_type : (val : ℤ) (place : Pos) (ty : List ℕ) → IsPattern env r (int_pattern val place) ty → env.is_number ty ≡ false →
      IsBrokenPattern env r (kinds.integer_type val ty) place
  -- at `true` or `false`: another type is wanted
  bool_type : (val : Bool) (place : Pos) (ty : List ℕ) → IsPattern env r (bool_pattern val place) ty → ty ≢ codes "bool" →
      IsBrokenPattern env r (kinds.bool_type val ty) place
  -- at a constant: it is unknown
  constant_unknown : (name : Name) (place : Pos) (ty : List ℕ) → IsPattern env r (constant_pattern name place) ty → env.constants name.text ≡ None →
      IsBrokenPattern env r (kinds.constant_unknown name.text) place
  -- at a constant: another type is wanted
  constant_type : (name : Name) (place : Pos) (ty found : List ℕ) → IsPattern env r (constant_pattern name place) ty →
      env.constants name.text ≡ Some found → found ≢ ty → IsBrokenPattern env r (kinds.constant_type ty found) place
  -- at a pattern that is named
  variable_bound : (var : Name) (p : PatternNode) (place : Pos) (ty : List ℕ) → IsPattern env r (bind_pattern var p place) ty →
      IsBrokenPattern env r (kinds.variable_bound var.text) place
  -- at a variable: the rule binds it with another type than is wanted
  variable_type : (var : Name) (place : Pos) (ty found : List ℕ) → IsPattern env r (var_pattern var place) ty →
      BindsVariable env r var.text found → found ≢ ty →
      IsBrokenPattern env r (kinds.variable_type var.text ty found) place
  -- at a term: it is unknown
  term_unknown : (name : Name) (args : PatternList) (place : Pos) (ty : List ℕ) → IsPattern env r (term_pattern name args place) ty →
      env.terms name.text ≡ None → IsBrokenPattern env r (kinds.term_unknown name.text) place
  -- at a term: another type is wanted, and no converter can be used
  term_type : (name : Name) (args : PatternList) (place : Pos) (ty : List ℕ) (t : TermNode) → IsPattern env r (term_pattern name args place) ty →
      env.terms name.text ≡ Some t → t.ret ≢ ty → CannotExtract env t.ret ty → IsBrokenPattern env r (kinds.term_type ty t.ret) place
  -- at a term: it is declared with more or with fewer arguments
  argument_count : (name : Name) (args : PatternList) (place : Pos) (ty : List ℕ) (t : TermNode) → IsPattern env r (term_pattern name args place) ty →
      env.terms name.text ≡ Some t → length t.args ≢ count_patterns args →
      IsBrokenPattern env r (kinds.argument_count name.text (count_patterns args) (length t.args)) place
  -- at a term: it can stand in no pattern
  no_extractor : (name : Name) (args : PatternList) (place : Pos) (ty : List ℕ) → IsPattern env r (term_pattern name args place) ty →
      env.templates name.text ≡ None → env.has_extractor name.text ≡ false → IsBrokenPattern env r (kinds.no_extractor name.text) place
  -- at a term: its template has a parameter that gets no argument
  parameter_without_argument : (name : Name) (args : PatternList) (place : Pos) (ty : List ℕ) (template : PatternNode) →
      IsPattern env r (term_pattern name args place) ty → env.templates name.text ≡ Some template → plug template (list_list args) ≡ None →
      IsBrokenPattern env r (kinds.parameter_without_argument name.text) place
  -- at a parameter of a template
  macro_argument : (index : ℕ) (place : Pos) (ty : List ℕ) → IsPattern env r (macro_arg_pattern index place) ty →
      IsBrokenPattern env r kinds.macro_argument place

-- of an expression
pub data IsBrokenExpression (env : EnvironmentNode) (r : RuleDefinition) : kinds.KindNode → Pos → Type 0 where
  -- at an integer: the wanted type has no integers
  integer_type : (flags : Flags) (val : ℤ) (place : Pos) (ty : List ℕ) → IsExpression env r flags (int_expression val place) (Some ty) →
      env.is_number ty ≡ false → IsBrokenExpression env r (kinds.integer_type val ty) place
  -- at an integer: no type is wanted
  integer_without_type : (flags : Flags) (val : ℤ) (place : Pos) → IsExpression env r flags (int_expression val place) None →
      IsBrokenExpression env r kinds.integer_without_type place
  -- at `true` or `false`: another type is wanted
  bool_type : (flags : Flags) (val : Bool) (place : Pos) (ty : List ℕ) → IsExpression env r flags (bool_expression val place) (Some ty) →
      codes "bool" ≢ ty → IsBrokenExpression env r (kinds.bool_type val ty) place
  -- at a constant: it is unknown
  constant_unknown : (flags : Flags) (name : Name) (place : Pos) (wanted : Option (List ℕ)) →
      IsExpression env r flags (constant_expression name place) wanted → env.constants name.text ≡ None →
      IsBrokenExpression env r (kinds.constant_unknown name.text) place
  -- at a constant: another type is wanted
  constant_type : (flags : Flags) (name : Name) (place : Pos) (ty found : List ℕ) → IsExpression env r flags (constant_expression name place) (Some ty) →
      env.constants name.text ≡ Some found → found ≢ ty → IsBrokenExpression env r (kinds.expression_constant_type name.text ty found) place
  -- at a variable
  variable_unknown : (flags : Flags) (name : Name) (place : Pos) (wanted : Option (List ℕ)) →
      IsExpression env r flags (var_expression name place) wanted → IsBrokenExpression env r (kinds.variable_unknown name.text) place
  -- at a variable: the rule binds it with another type than is wanted, and no converter can be used
  variable_type : (flags : Flags) (name : Name) (place : Pos) (ty found : List ℕ) → IsExpression env r flags (var_expression name place) (Some ty) →
      BindsVariable env r name.text found → found ≢ ty → CannotConstruct env found ty → IsBrokenExpression env r (kinds.expression_variable_type name.text ty found) place
  -- at a `let`: the type of a variable is unknown
  let_type_unknown : (flags : Flags) (defs : LetList) (body : Expression) (place : Pos) (wanted : Option (List ℕ)) (d : LetVariable) →
      IsExpression env r flags (let_expression defs body place) wanted → Contains (let_variables defs) d → env.is_type d.ty.text ≡ false →
      IsBrokenExpression env r (kinds.let_type_unknown d.var.text d.ty.text) place
  -- at a term: it is unknown; and it is the name of a variable that the rule binds, if that is told
  term_unknown : (flags : Flags) (name : Name) (args : ExpressionList) (place : Pos) (wanted : Option (List ℕ)) (is_variable : Bool) →
      IsExpression env r flags (term_expression name args place) wanted → env.terms name.text ≡ None →
      (is_variable ≡ true → (ty : List ℕ) × BindsVariable env r name.text ty) →
      IsBrokenExpression env r (kinds.expression_term_unknown name.text is_variable) place
  -- at a term: another type is wanted, and no converter can be used
  term_type : (flags : Flags) (name : Name) (args : ExpressionList) (place : Pos) (ty : List ℕ) (t : TermNode) →
      IsExpression env r flags (term_expression name args place) (Some ty) → env.terms name.text ≡ Some t → t.ret ≢ ty → CannotConstruct env t.ret ty →
      IsBrokenExpression env r (kinds.expression_term_type ty t.ret) place
  -- at a term: it is declared with more or with fewer arguments
  argument_count : (flags : Flags) (name : Name) (args : ExpressionList) (place : Pos) (wanted : Option (List ℕ)) (t : TermNode) →
      IsExpression env r flags (term_expression name args place) wanted → env.terms name.text ≡ Some t → length t.args ≢ count_expressions args →
      IsBrokenExpression env r (kinds.argument_count name.text (count_expressions args) (length t.args)) place
  -- at a term: pure ones alone may be used, and it is neither pure nor a variant
  impure_term : (flags : Flags) (name : Name) (args : ExpressionList) (place : Pos) (wanted : Option (List ℕ)) (t : TermNode) →
      IsExpression env r flags (term_expression name args place) wanted → env.terms name.text ≡ Some t → flags.pure ≡ true → t.pure ≡ false →
      t.is_variant ≡ false → IsBrokenExpression env r (kinds.impure_term name.text) place
  -- at a term: no multi ones may be used, and it is multi
  multi_term : (flags : Flags) (name : Name) (args : ExpressionList) (place : Pos) (wanted : Option (List ℕ)) (t : TermNode) →
      IsExpression env r flags (term_expression name args place) wanted → env.terms name.text ≡ Some t → flags.multi ≡ false → t.multi ≡ true →
      IsBrokenExpression env r (kinds.multi_term name.text) place
  -- at a term: no partial ones may be used, and it is partial
  partial_term : (flags : Flags) (name : Name) (args : ExpressionList) (place : Pos) (wanted : Option (List ℕ)) (t : TermNode) →
      IsExpression env r flags (term_expression name args place) wanted → env.terms name.text ≡ Some t → flags.partial ≡ false → t.partial ≡ true →
      IsBrokenExpression env r (kinds.partial_term name.text flags.multi) place

-- of a program
pub data IsBrokenRule (env : EnvironmentNode) (ds : List Definition) : kinds.KindNode → Pos → Type 0 where
  -- of a pattern of one of its rules
  in_pattern : (r : RuleDefinition) (kind : kinds.KindNode) (place : Pos) → Contains (rules_in ds) r → IsBrokenPattern env r kind place →
      IsBrokenRule env ds kind place
  -- of an expression of one of its rules
  in_expression : (r : RuleDefinition) (kind : kinds.KindNode) (place : Pos) → Contains (rules_in ds) r → IsBrokenExpression env r kind place →
      IsBrokenRule env ds kind place
  -- at a rule: the term of its left side is declared with more or with fewer arguments
  argument_count : (r : RuleDefinition) (name : Name) (args : PatternList) (t : TermNode) → Contains (rules_in ds) r → HasRoot env r name args t →
      length t.args ≢ count_patterns args → IsBrokenRule env ds (kinds.argument_count name.text (count_patterns args) (length t.args)) r.pos
  -- at a rule: it has a priority, and the term of its left side is multi
  priority_in_multi : (r : RuleDefinition) (name : Name) (args : PatternList) (t : TermNode) → Contains (rules_in ds) r → HasRoot env r name args t →
      t.multi ≡ true → r.prio ≢ None → IsBrokenRule env ds kinds.priority_in_multi r.pos
  -- at a declaration: the term can stand neither in an expression nor in a pattern
  term_undefined : (d : Declaration) → Contains (decls_in ds) d → env.has_constructor d.term.text ≡ false → env.has_extractor d.term.text ≡ false →
      IsBrokenRule env ds (kinds.term_undefined d.term.text) d.pos
  -- at a term of a right side: it is known, and can stand in no expression
  no_constructor : (r : RuleDefinition) (place : Pos) (term : Name) → Contains (rules_in ds) r → Contains (expression_heads r.expr) (place, term) →
      env.terms term.text ≢ None → env.has_constructor term.text ≡ false → IsBrokenRule env ds (kinds.no_constructor term.text) place
