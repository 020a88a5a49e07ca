-- The S-expressions of models of types, of spec expressions and their operators, and of specs, their
-- macros and states.
use Rattle.std.specs.Prelude.{[], ℕ, List, ◌∷◌, Option, None, Some, codes, ◌-◌, ◌/◌, ◌%◌, ◌==◌, ◌++◌, length, replicate, if◌then◌else◌, map}
use Rattle.std.specs.Char.{digit_char}
use Rattle.std.specs.Int.Digits.{digits_of}
use Rattle.isle_ast_verification.specs.Tree.{TypeModel, unspecified_model, auto_model, int_model, bool_model, unit_model, bit_vector_model, struct_model, named_model, ModelFieldList, no_model_field}
use Rattle.isle_ast_verification.specs.Tree.{model_field, SpecNode, int_spec, bit_vector_spec, bool_spec, var_spec, as_spec, field_spec, discriminator_spec, op_spec, match_spec, let_spec, with_spec}
use Rattle.isle_ast_verification.specs.Tree.{macro_spec, expand_spec, pair_spec, enum_spec, struct_spec, SpecList, no_spec, more_spec, ArmList, no_arm, more_arm, SpecLetList, no_spec_let}
use Rattle.isle_ast_verification.specs.Tree.{more_spec_let, FieldInitList, no_field_init, more_field_init, ModifiedState, SpecDefinition, SpecMacroDefinition, StateDefinition}
use Rattle.isle_ast_verification.specs.TreeView.{SingleModelField, SingleArm, SingleFieldInit}
use Rattle.isle_printer_layout.specs.Sexp.{Sexp, atom, list_of}
use Rattle.isle_printer_layout.specs.NameShapes.{number_shape, name_shape, form_shape, integer_shape, names_shape, headed_shape}
use Rattle.isle_ast_verification.specs.declared.spec.SpecOp.{SpecOp}
use Rattle.isle_ast_verification.specs.Operators.{operator_text}
use Rattle.isle_ast_names.specs.Tree.{Name}
use Rattle.isle_ast_names.specs.Words.{bool_word}
use Rattle.isle_ast_verification.specs.SpecGrammar.{field_mark, discriminator_mark, expansion_mark, dotted}

-- the width in bits of a bit vector, if it is known
abbrev pub width_shape : Option ℕ → List Sexp
width_shape None = []
width_shape (Some n) = number_shape n ∷ []

-- `!`, `_`, `Int`, `Bool`, `Unit`, `(bv)` or `(bv N)`, `(struct (name model)..)`, `(named name)`
abbrev mutual
  pub model_shape : TypeModel → Sexp
  model_shape unspecified_model = atom (codes "!")
  model_shape auto_model = atom (codes "_")
  model_shape int_model = atom (codes "Int")
  model_shape bool_model = atom (codes "Bool")
  model_shape unit_model = atom (codes "Unit")
  model_shape (bit_vector_model width) = form_shape (codes "bv") (width_shape width)
  model_shape (struct_model fields) = form_shape (codes "struct") (model_field_shapes fields)
  model_shape (named_model name) = form_shape (codes "named") (name_shape name ∷ [])

  pub model_field_shapes : ModelFieldList → List Sexp
  model_field_shapes no_model_field = []
  model_field_shapes (model_field name ty fields) =
      list_of (name_shape name ∷ model_shape ty ∷ []) ∷ model_field_shapes fields

-- `(name model)`
abbrev pub model_field_shape : SingleModelField → Sexp
model_field_shape f = list_of (name_shape f.name ∷ model_shape f.ty ∷ [])

-- the word or the sign of an operator
abbrev pub operator_shape : SpecOp → Sexp
operator_shape operator = atom (operator_text operator)

-- a number in a radix, with lower-case letters: the highest digit first, and a single `0` for zero
abbrev pub radix_text : ℕ → ℕ → List ℕ
radix_text radix n = if n == 0 then codes "0" else map digit_char (digits_of radix n)

-- digits with leading zeros, at least this many in all
abbrev pub zero_padded : ℕ → List ℕ → List ℕ
zero_padded least digits = replicate (least - length digits) 48 ++ digits

-- If the width is a multiple of four, a bit vector is `#x` and hexadecimal digits, at least one for
-- four bits. Otherwise it is `#b` and binary digits, at least one for each bit.
abbrev pub bit_vector_text : ℕ → ℕ → List ℕ
bit_vector_text val width =
    if width % 4 == 0
    then codes "#x" ++ zero_padded (width / 4) (radix_text 16 val)
    else codes "#b" ++ zero_padded width (radix_text 2 val)

-- An integer, a bit vector, `true` or `false`, `x`, `(as X model)`, `(:field X)`, `(variant? X)`,
-- an operator and its arguments, `(match X arm..)`, `(let ((x X)..) X)`, `(with (x..) X)`,
-- `(macro (x..) X)`, `(name! X..)`, `(X X)`, `(name.variant X..)`, `(struct (name X)..)`.
abbrev mutual
  pub spec_shape : SpecNode → Sexp
  spec_shape (int_spec val _) = integer_shape val
  spec_shape (bit_vector_spec val width _) = atom (bit_vector_text val width)
  spec_shape (bool_spec val _) = atom (bool_word val)
  spec_shape (var_spec var _) = name_shape var
  spec_shape (as_spec x ty _) = form_shape (codes "as") (spec_shape x ∷ model_shape ty ∷ [])
  spec_shape (field_spec field x _) = form_shape (field_mark field.text) (spec_shape x ∷ [])
  spec_shape (discriminator_spec variant x _) = form_shape (discriminator_mark variant.text) (spec_shape x ∷ [])
  spec_shape (op_spec operator args _) = list_of (operator_shape operator ∷ spec_shapes args)
  spec_shape (match_spec x arms _) = form_shape (codes "match") (spec_shape x ∷ arm_shapes arms)
  spec_shape (let_spec defs body _) =
      form_shape (codes "let") (list_of (spec_let_shapes defs) ∷ spec_shape body ∷ [])
  spec_shape (with_spec decls body _) = form_shape (codes "with") (names_shape decls ∷ spec_shape body ∷ [])
  spec_shape (macro_spec params body _) = form_shape (codes "macro") (names_shape params ∷ spec_shape body ∷ [])
  spec_shape (expand_spec name args _) = form_shape (expansion_mark name.text) (spec_shapes args)
  spec_shape (pair_spec l r _) = list_of (spec_shape l ∷ spec_shape r ∷ [])
  spec_shape (enum_spec name variant args _) = form_shape (dotted name variant) (spec_shapes args)
  spec_shape (struct_spec fields _) = form_shape (codes "struct") (field_init_shapes fields)

  pub spec_shapes : SpecList → List Sexp
  spec_shapes no_spec = []
  spec_shapes (more_spec x xs) = spec_shape x ∷ spec_shapes xs

  -- `((variant args..) X)` for each
  pub arm_shapes : ArmList → List Sexp
  arm_shapes no_arm = []
  arm_shapes (more_arm variant args body _ arms) =
      list_of (headed_shape variant args ∷ spec_shape body ∷ []) ∷ arm_shapes arms

  -- `(x X)` for each
  pub spec_let_shapes : SpecLetList → List Sexp
  spec_let_shapes no_spec_let = []
  spec_let_shapes (more_spec_let name value lets) =
      list_of (name_shape name ∷ spec_shape value ∷ []) ∷ spec_let_shapes lets

  -- `(name X)` for each
  pub field_init_shapes : FieldInitList → List Sexp
  field_init_shapes no_field_init = []
  field_init_shapes (more_field_init name value _ fields) =
      list_of (name_shape name ∷ spec_shape value ∷ []) ∷ field_init_shapes fields

-- `((variant args..) X)`
abbrev pub arm_shape : SingleArm → Sexp
arm_shape a = list_of (headed_shape a.variant a.args ∷ spec_shape a.body ∷ [])

-- `(name X)`
abbrev pub field_init_shape : SingleFieldInit → Sexp
field_init_shape f = list_of (name_shape f.name ∷ spec_shape f.value ∷ [])

-- the name of the condition, if there is one
abbrev pub state_condition_shape : Option Name → List Sexp
state_condition_shape None = []
state_condition_shape (Some cond) = name_shape cond ∷ []

-- `(modifies state)` or `(modifies state cond)`
abbrev pub modifies_shape : ModifiedState → Sexp
modifies_shape m = form_shape (codes "modifies") (name_shape m.state ∷ state_condition_shape m.cond)

-- a word and the spec expressions after it, in parentheses; nothing if there are none
abbrev pub clause_shape : List ℕ → List SpecNode → List Sexp
clause_shape word [] = []
clause_shape word (e ∷ es) = form_shape word (map spec_shape (e ∷ es)) ∷ []

-- `(spec (term args..) (provide X..) (require X..) (match X..) (modifies ..)..)`
abbrev pub spec_definition_shape : SpecDefinition → Sexp
spec_definition_shape s =
    list_of
    (atom (codes "spec") ∷ []
    ++ headed_shape s.term s.args ∷ []
    ++ clause_shape (codes "provide") s.provides
    ++ clause_shape (codes "require") s.requires_
    ++ clause_shape (codes "match") s.matches
    ++ map modifies_shape s.modifies)

-- `(macro (name params..) X)`
abbrev pub spec_macro_shape : SpecMacroDefinition → Sexp
spec_macro_shape m =
    list_of (atom (codes "macro") ∷ [] ++ headed_shape m.name m.params ∷ [] ++ spec_shape m.body ∷ [])

-- `(state name (type model) (default X))`
abbrev pub state_shape : StateDefinition → Sexp
state_shape s =
    list_of
    (atom (codes "state") ∷ []
    ++ name_shape s.name ∷ []
    ++ form_shape (codes "type") (model_shape s.ty ∷ []) ∷ []
    ++ form_shape (codes "default") (spec_shape s.default ∷ []) ∷ [])
