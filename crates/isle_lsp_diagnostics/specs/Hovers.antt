-- The type of a variable, shown above what a hover shows of it.
use Rattle.std.specs.Prelude.{◌≡◌, ℕ, ◌+◌, List, [], ◌∷◌, ◌++◌, Bool, false, true, ◌&&◌, Option, None, Some, codes, length, nat_le, option_and_then, option_map, bytes_eq, if◌then◌else◌}
use Rattle.serde_json.specs.Data.{Data, object, put}
use Rattle.serde_json.specs.Find.{as_str, get}
use Rattle.isle_ast_names.specs.Tree.{Name}
use Rattle.isle_ast_rules.specs.Tree.{Expression, term_expression, var_expression, bool_expression, int_expression, constant_expression, let_expression, ExpressionList, no_expression, more_expression, LetList, no_let, more_let, Condition, RuleDefinition}
use Rattle.isle_ast.specs.Tree.{Definition}
use Rattle.isle_check_environment.specs.Names.{or_else}
use Rattle.isle_check_environment.specs.signatures.Environment.{EnvironmentNode, environment}
use Rattle.isle_check_typing.specs.Progress.{find}
use Rattle.isle_lint_core.specs.Variables.{rule_variables}
use Rattle.isle_lsp_context.specs.Offers.{names_of}
use Rattle.isle_lsp_context.specs.Places.{IsSlotAt}
use Rattle.isle_lsp_context.specs.declared.offers.Names.{Names}
use Rattle.isle_lsp_context.specs.declared.offers.Names.TheVariants.{All, Nothing, Types, Terms, Values}
use Rattle.isle_lsp_context.specs.declared.slot.Slot.{Slot}
use Rattle.isle_lsp_features.specs.Places.{File, file_from}
use Rattle.isle_lsp_features.specs.Programs.{Text}
use Rattle.isle_lsp_protocol.specs.Results.{markdown}
use Rattle.isle_lsp_text.specs.Positions.{offset_at}
use Rattle.isle_lsp_text.specs.declared.positions.Position.{Position}
use Rattle.isle_lsp_diagnostics.specs.Rules.{AreDefinitions, first_of, typed_rules, variables}

-- ---- mentions

-- whether an offset is at a byte of a name or right behind its last one
abbrev pub covers : (offset : ℕ) → Name → Bool
covers offset n = nat_le n.pos.offset offset && nat_le offset (n.pos.offset + length n.text)

abbrev pub name_if_at : (offset : ℕ) → Name → Option Name
name_if_at offset n = if covers offset n then Some n else None

-- the first of these names that covers an offset
abbrev pub name_at : (offset : ℕ) → List Name → Option Name
name_at offset [] = None
name_at offset (n ∷ ns) = or_else (name_if_at offset n) (name_at offset ns)

-- a variable of a `let` hides the others of its name
abbrev pub unless_hidden : (by : Name) → Option Name → Option Name
unless_hidden by None = None
unless_hidden by (Some n) = if bytes_eq by.text n.text then None else Some n

-- the variable at an offset that an expression uses and that none of its `let`s binds
abbrev mutual
  pub use_at : (offset : ℕ) → Expression → Option Name
  use_at offset (term_expression _ args _) = list_use_at offset args
  use_at offset (var_expression n _) = name_if_at offset n
  use_at offset (bool_expression _ _) = None
  use_at offset (int_expression _ _) = None
  use_at offset (constant_expression _ _) = None
  use_at offset (let_expression defs body _) = let_use_at offset defs (use_at offset body)

  pub list_use_at : (offset : ℕ) → ExpressionList → Option Name
  list_use_at offset no_expression = None
  list_use_at offset (more_expression x xs) = or_else (use_at offset x) (list_use_at offset xs)

  -- the last argument is that of the body
  pub let_use_at : (offset : ℕ) → LetList → Option Name → Option Name
  let_use_at offset no_let body = body
  let_use_at offset (more_let var _ val _ ds) body = or_else (use_at offset val) (unless_hidden var (let_use_at offset ds body))

-- that of the conditions' expressions, or of the right side
abbrev pub use_after : (offset : ℕ) → List Condition → Expression → Option Name
use_after offset [] expr = use_at offset expr
use_after offset (c ∷ cs) expr = or_else (use_at offset c.expr) (use_after offset cs expr)

-- the variable that a rule mentions at an offset, in a pattern or in an expression
unfoldable pub mention_at : (offset : ℕ) → RuleDefinition → Option Name
mention_at offset r = or_else (name_at offset (rule_variables r)) (use_after offset r.iflets r.expr)

-- ---- types

abbrev pub typed : Name → (ty : List ℕ) → List ℕ
typed n ty = n.text ++ codes " : " ++ ty

-- a name with the type that its variable has in a rule, if it has one
unfoldable pub typed_in : EnvironmentNode → RuleDefinition → Name → Option (List ℕ)
typed_in env r n = option_map (λ v. typed n v.ty) (find (variables env r) n.text)

abbrev pub typed_or : EnvironmentNode → RuleDefinition → Option Name → (rest : Option (List ℕ)) → Option (List ℕ)
typed_or env r None rest = rest
typed_or env r (Some n) rest = typed_in env r n

-- that of the first of these rules that mentions a variable at an offset
abbrev pub typed_at : EnvironmentNode → (offset : ℕ) → List RuleDefinition → Option (List ℕ)
typed_at env offset [] = None
typed_at env offset (r ∷ rs) = typed_or env r (mention_at offset r) (typed_at env offset rs)

-- that at an offset of a file, from the definitions of its program
abbrev pub type_in : File → (offset : ℕ) → List Definition → Option (List ℕ)
type_in f offset ds = typed_at (environment ds) offset (typed_rules f ds)

-- that at an offset of a file of a program
abbrev pub IsTypeOf : List Text → File → (offset : ℕ) → Option (List ℕ) → Type 0
IsTypeOf program f offset ty = (ds : List Definition) × AreDefinitions program ds × (ty ≡ type_in f offset ds)

-- whether a rule mentions variables where these kinds of names may stand
abbrev pub are_of_rules : Names → Bool
are_of_rules Values = true
are_of_rules All = false
are_of_rules Nothing = false
are_of_rules Types = false
are_of_rules Terms = false

abbrev pub IsTypeIf : (mentioned : Bool) → List Text → File → (offset : ℕ) → Option (List ℕ) → Type 0
IsTypeIf false program f offset ty = ty ≡ None
IsTypeIf true program f offset ty = IsTypeOf program f offset ty

-- the same, if what may stand there is mentioned by rules
abbrev pub IsTypeWhere : List Text → File → (offset : ℕ) → Option (List ℕ) → Type 0
IsTypeWhere program f offset ty =
    (slot : Slot) × IsSlotAt f.text offset slot × IsTypeIf (are_of_rules (names_of slot)) program f offset ty

-- that at a position in a file of a program; without the file there is none
abbrev pub IsTypeIn : List Text → Option File → Position → Option (List ℕ) → Type 0
IsTypeIn program None position ty = ty ≡ None
IsTypeIn program (Some f) position ty = IsTypeWhere program f (offset_at f.encoding position f.text) ty

-- that at a position in a file, from the first of the programs that have it
abbrev pub IsTypeAt : List (List Text) → (file : List ℕ) → Position → Option (List ℕ) → Type 0
IsTypeAt programs file position ty = IsTypeIn (first_of programs) (file_from 0 file (first_of programs)) position ty

-- ---- hovers

-- the Markdown of a hover, if it has any
abbrev pub shown_in : Data → Option (List ℕ)
shown_in hover = option_and_then as_str (option_and_then (get (codes "value")) (get (codes "contents") hover))

-- a type in a block of its own, above what else is shown
abbrev pub above : (ty shown : List ℕ) → List ℕ
above ty shown = codes "```isle\n" ++ ty ++ codes "\n```\n\n" ++ shown

-- a hover that shows this
abbrev pub showing : List ℕ → Data → Data
showing shown (object ms) = object (put (codes "contents") (markdown shown) ms)
showing shown d = d

abbrev pub with_type : (ty : Option (List ℕ)) → (shown : List ℕ) → Data → Data
with_type None shown hover = hover
with_type (Some ty) shown hover = showing (above ty shown) hover

-- a hover with the type of the variable at a position; unchanged if it shows nothing, or there is no type
abbrev pub IsTypedShown : List (List Text) → (file : List ℕ) → Position → (shown : Option (List ℕ)) → (hover d : Data) → Type 0
IsTypedShown programs file position None hover d = d ≡ hover
IsTypedShown programs file position (Some shown) hover d =
    (ty : Option (List ℕ)) × IsTypeAt programs file position ty × (d ≡ with_type ty shown hover)

-- the same where a position may be missing
abbrev pub IsTypedHover : List (List Text) → (file : List ℕ) → Option Position → (hover d : Data) → Type 0
IsTypedHover programs file None hover d = d ≡ hover
IsTypedHover programs file (Some position) hover d = IsTypedShown programs file position (shown_in hover) hover d
