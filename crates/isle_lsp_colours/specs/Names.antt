-- The classes of names, by what happens to them in definitions.
use Rattle.std.specs.Prelude.{◌≡◌, ℕ, List, [], ◌∷◌, ◌++◌, ◌==◌, Option, None, Some, option_map, slice_get, if◌then◌else◌}
use Rattle.std.specs.List.{list_any}
use Rattle.std.specs.Str.{bytes_eq}
use Rattle.isle_ast.specs.Tree.{Definition}
use Rattle.isle_ast_names.specs.Tree.{Name}
use Rattle.isle_ast_names.specs.WritableDeciders.{has_dot}
use Rattle.isle_resolve.specs.Event.{EventNode, defines, uses, defines_variant, occurs, binds, reads, closes, ends}
use Rattle.isle_resolve.specs.Events.{definition_events}
use Rattle.isle_resolve.specs.declared.event.Kind.{Kind}
use Rattle.isle_resolve.specs.declared.event.Kind.TheVariants as kinds
use Rattle.isle_resolve.specs.declared.event.Role.{Role}
use Rattle.isle_resolve.specs.declared.event.Role.TheVariants as roles
use Rattle.isle_lsp_colours.specs.Classes.{declared, first, used}
use Rattle.isle_lsp_colours.specs.declared.classes.Class.{Class}
use Rattle.isle_lsp_colours.specs.declared.classes.TokenKind.{TokenKind}
use Rattle.isle_lsp_colours.specs.declared.classes.TokenKind.TheVariants as tokens
use Rattle.isle_lsp_colours.specs.declared.names.NameAt.{NameAt}

-- what a name is that is visible in the whole program; only the name of a variant as a term has a dot
abbrev pub global_kind : Kind → List ℕ → TokenKind
global_kind kinds.Type text = tokens.Type
global_kind kinds.Constant text = tokens.Constant
global_kind kinds.Term text = if has_dot text then tokens.Variant else tokens.Term

-- what a variable of a template is, by the parameters of its extractor
abbrev pub template_kind : (parameters : List (List ℕ)) → List ℕ → TokenKind
template_kind parameters text = if list_any (bytes_eq text) parameters then tokens.Parameter else tokens.Variable

-- what a variable of a pattern is, or a parameter
abbrev pub variable_kind : Role → (parameters : List (List ℕ)) → List ℕ → TokenKind
variable_kind roles.Plain parameters text = tokens.Variable
variable_kind roles.Parameter parameters text = tokens.Parameter
variable_kind roles.Template parameters text = template_kind parameters text
variable_kind roles.Named parameters text = template_kind parameters text

-- a name where it stands, with its class
abbrev pub placed : Name → Class → NameAt
placed n c = record { offset = n.pos.offset; class = c }

-- the name of an event, where these are the parameters so far
abbrev pub name_of : (parameters : List (List ℕ)) → EventNode → Option NameAt
name_of parameters (defines kind n) = Some (placed n (declared (global_kind kind n.text)))
name_of parameters (uses kind n) = Some (placed n (used (global_kind kind n.text)))
name_of parameters (defines_variant owner member) = Some (placed member (declared tokens.Variant))
name_of parameters (occurs role n) = Some (placed n (used (variable_kind role parameters n.text)))
name_of parameters (binds n) = Some (placed n (declared tokens.Variable))
name_of parameters (reads n) = Some (placed n (used tokens.Variable))
name_of parameters closes = None
name_of parameters ends = None

-- the parameters after an event
abbrev pub parameters_after : EventNode → List (List ℕ) → List (List ℕ)
parameters_after (occurs roles.Parameter n) parameters = parameters ++ n.text ∷ []
parameters_after (occurs roles.Plain n) parameters = parameters
parameters_after (occurs roles.Template n) parameters = parameters
parameters_after (occurs roles.Named n) parameters = parameters
parameters_after (defines kind n) parameters = parameters
parameters_after (uses kind n) parameters = parameters
parameters_after (defines_variant owner member) parameters = parameters
parameters_after (binds n) parameters = parameters
parameters_after (reads n) parameters = parameters
parameters_after closes parameters = parameters
parameters_after ends parameters = parameters

-- the class of a name, if it is at an offset
abbrev pub class_if : ℕ → Option NameAt → Option Class
class_if offset None = None
class_if offset (Some n) = if n.offset == offset then Some n.class else None

-- the class of the first name of events that is at an offset, where these are the parameters before them
abbrev pub class_in : ℕ → (parameters : List (List ℕ)) → List EventNode → Option Class
class_in offset parameters [] = None
class_in offset parameters (e ∷ es) = first (class_if offset (name_of parameters e)) (class_in offset (parameters_after e parameters) es)

-- the class of the first name of definitions that is at an offset
abbrev pub class_at : ℕ → List Definition → Option Class
class_at offset [] = None
class_at offset (d ∷ ds) = first (class_in offset [] (definition_events d)) (class_at offset ds)

-- ---- classes by offset

-- where there is no class yet these come, as far as the list goes
abbrev pub Merges : (ℕ → Option Class) → (old new : List (Option Class)) → Type 0
Merges class old new = (offset : ℕ) → slice_get new offset ≡ option_map (λ c. first c (class offset)) (slice_get old offset)

abbrev pub Puts : Option NameAt → (old new : List (Option Class)) → Type 0
Puts name old new = Merges (λ offset. class_if offset name) old new

abbrev pub Adds : Definition → (old new : List (Option Class)) → Type 0
Adds d old new = Merges (λ offset. class_in offset [] (definition_events d)) old new
