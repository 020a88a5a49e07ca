-- The types of variables, each shown behind the variable's first mention.
use Rattle.std.specs.Prelude.{◌≡◌, ℕ, ◌+◌, List, [], ◌∷◌, ◌++◌, Bool, ◌&&◌, Option, None, Some, codes, filter, length, map, min, nat_le, if◌then◌else◌}
use Rattle.std.specs.List.{flat_map}
use Rattle.serde_json.specs.Data.{Data, array, no_items}
use Rattle.serde_json.specs.View.{items_of}
use Rattle.isle_ast_names.specs.Tree.{Name}
use Rattle.isle_ast_rules.specs.Tree.{RuleDefinition}
use Rattle.isle_ast.specs.Tree.{Definition}
use Rattle.isle_lint_core.specs.Variables as patterns
use Rattle.isle_check_environment.specs.Names.{has}
use Rattle.isle_check_environment.specs.signatures.Environment.{EnvironmentNode, environment}
use Rattle.isle_check_typing.specs.Progress.{FoundNode, VariableNode, find}
use Rattle.isle_lsp_features.specs.Places.{File, file_from}
use Rattle.isle_lsp_features.specs.Programs.{Text}
use Rattle.isle_lsp_protocol.specs.Results.{inlay_hint}
use Rattle.isle_lsp_text.specs.Positions.{offset_at, position_at}
use Rattle.isle_lsp_text.specs.declared.positions.Range.{Range}
use Rattle.isle_lsp_diagnostics.specs.Rules.{AreDefinitions, first_of, typed_rules, variables}
use Rattle.isle_lsp_diagnostics.specs.declared.hints.Hint.{Hint}
use Rattle.isle_lsp_text.specs.declared.positions.PositionEncoding.{PositionEncoding}

-- ---- mentions

-- a name, unless an earlier one has its text
abbrev pub unless_among : (earlier : List Name) → Name → List Name
unless_among earlier n = if has earlier n.text then [] else n ∷ []

-- of names after these earlier ones, those that are the first of their text
abbrev pub first_ones : (earlier names : List Name) → List Name
first_ones earlier [] = []
first_ones earlier (n ∷ ns) = unless_among earlier n ++ first_ones (earlier ++ n ∷ []) ns

-- the first mention of each variable in the patterns of a rule, in the order of the text
abbrev pub first_mentions : RuleDefinition → List Name
first_mentions r = first_ones [] (patterns.rule_variables r)

-- ---- hints

-- a type that is shown at an offset
pub record HintNode : Type 0 where
  pub offset : ℕ
  pub ty : List ℕ

abbrev pub hint_of : Hint → HintNode
hint_of h = record { offset = h.offset; ty = h.ty.now }

-- the end of a name in a text
abbrev pub end_of : List ℕ → Name → ℕ
end_of text n = min n.pos.offset (length text) + length n.text

abbrev pub hint_by : Option FoundNode → (offset : ℕ) → List HintNode
hint_by None offset = []
hint_by (Some v) offset = record { offset = offset; ty = v.ty } ∷ []

-- the type of the variable that has this name, behind the name; none if there is no such variable
abbrev pub hint : List ℕ → List VariableNode → Name → List HintNode
hint text vs n = hint_by (find vs n.text) (end_of text n)

-- the hints of a rule
unfoldable pub rule_hints : List ℕ → EnvironmentNode → RuleDefinition → List HintNode
rule_hints text env r = flat_map (hint text (variables env r)) (first_mentions r)

abbrev pub rules_hints : List ℕ → EnvironmentNode → List RuleDefinition → List HintNode
rules_hints text env rs = flat_map (rule_hints text env) rs

-- the hints of a file, from the definitions of its program
abbrev pub hints_in : File → List Definition → List HintNode
hints_in f ds = rules_hints f.text (environment ds) (typed_rules f ds)

-- ---- the answer

-- whether a hint lies between two offsets, or at one of them
abbrev pub is_between : (from to : ℕ) → HintNode → Bool
is_between from to h = nat_le from h.offset && nat_le h.offset to

abbrev pub are_within : PositionEncoding → List ℕ → Range → List HintNode → List HintNode
are_within enc text range hs = filter (is_between (offset_at enc range.start text) (offset_at enc range.end text)) hs

abbrev pub hint_data : PositionEncoding → List ℕ → HintNode → Data
hint_data enc text h = inlay_hint (position_at enc h.offset text) (codes ": " ++ h.ty)

-- the hints that lie within a range of a text
abbrev pub hints_data : PositionEncoding → List ℕ → Range → List HintNode → Data
hints_data enc text range hs = array (items_of (map (hint_data enc text) (are_within enc text range hs)))

-- the hints in a range of a file of a program; without the file there are none
abbrev pub AreHintsOf : List Text → Option File → Range → Data → Type 0
AreHintsOf program None range d = d ≡ array no_items
AreHintsOf program (Some f) range d =
    (ds : List Definition) × AreDefinitions program ds × (d ≡ hints_data f.encoding f.text range (hints_in f ds))

-- the hints in a range of a file, from the first of the programs that have it
abbrev pub AreHints : List (List Text) → (file : List ℕ) → Range → Data → Type 0
AreHints programs file range d = AreHintsOf (first_of programs) (file_from 0 file (first_of programs)) range d
