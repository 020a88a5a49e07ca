-- Actions, and those for the diagnostics of lints, which insert a text.
use Rattle.std.specs.Prelude.{ℕ, ◌+◌, List, [], ◌∷◌, ◌++◌, Bool, true, false, not, ◌&&◌, ◌==◌, Option, None, Some, codes, length, string_bytes, if◌then◌else◌}
use Rattle.serde_json.specs.Data.{Items, no_items, item}
use Rattle.isle_base.specs.Bytes.{underscore}
use Rattle.isle_base.specs.Skips.{begins_with}
use Rattle.isle_lint_core.specs.Lint.{name}
use Rattle.isle_lint_core.specs.declared.lint.Lint.{Lint}
use Rattle.isle_lint_core.specs.declared.lint.Lint.TheVariants as lints
use Rattle.isle_lsp_actions.specs.Insertions.{is_mark, line_end, line_of, stands_apart}
use Rattle.isle_lsp_actions.specs.Names.{Name, count_in, name_at}
use Rattle.isle_lsp_actions.specs.Told.{told_in}
use Rattle.isle_lsp_actions.specs.declared.actions.Action.{Action as CodeAction}
use Rattle.isle_lsp_actions.specs.declared.actions.ActionKind.{ActionKind}
use Rattle.isle_lsp_actions.specs.declared.actions.ActionKind.TheVariants.{QuickFix}
use Rattle.isle_lsp_actions.specs.declared.told.Told.{Told}
use Rattle.isle_lsp_text.specs.Lists.{outer_list}
use Rattle.isle_lsp_text.specs.declared.lists.ListSpan.{ListSpan}
use Rattle.isle_lsp_text.specs.declared.positions.PositionEncoding.{PositionEncoding}

-- an action: its title, its kind, and the text that it puts in place of what is between two offsets
pub record Action : Type 0 where
  pub title : List ℕ
  pub kind : ActionKind
  pub from : ℕ
  pub to : ℕ
  pub new_text : List ℕ

-- that of the code
abbrev pub action_of : CodeAction → Action
action_of a = record { title = string_bytes a.title; kind = a.kind; from = a.from; to = a.to; new_text = string_bytes a.new_text }

-- an action that corrects what a lint finds, and inserts a text at an offset
abbrev pub insertion : (title : List ℕ) → (offset : ℕ) → (text : List ℕ) → Action
insertion title offset text = record { title = title; kind = QuickFix; from = offset; to = offset; new_text = text }

-- ---- `_` before a name

-- a lint of names that nothing uses
abbrev pub is_unused : Lint → Bool
is_unused lints.UnusedLet = true
is_unused lints.DuplicateRuleName = false
is_unused lints.UnusedBinding = true
is_unused lints.UnusedPatternVariable = true
is_unused lints.ShadowedVariable = false

-- A name can become this one, which has a `_` more: it fills the range of the diagnostic, has no mark yet, stands apart and once in
-- its definition, where the new one does not stand.
abbrev pub can_become : List ℕ → List Name → Told → ListSpan → (name new : List ℕ) → Bool
can_become text names t definition name new =
    t.from + length name == t.to && not (begins_with is_mark name) && stands_apart text t.from
    && count_in definition name names == 1 && count_in definition new names == 0

abbrev pub prefix_of : Told → List ℕ → Action
prefix_of t name = insertion (codes "Prefix `" ++ name ++ codes "` with `_`") t.from (underscore ∷ [])

abbrev pub prefixing_of : List ℕ → List Name → Told → ListSpan → Option (List ℕ) → List Action
prefixing_of text names t definition None = []
prefixing_of text names t definition (Some name) =
    if is_unused t.lint && can_become text names t definition name (underscore ∷ name) then prefix_of t name ∷ [] else []

-- the action that puts `_` before the name that nothing uses
abbrev pub prefixing : List ℕ → List Name → Told → ListSpan → List Action
prefixing text names t definition = prefixing_of text names t definition (name_at t.from names)

-- ---- a comment above a definition

abbrev pub allowance_of : List ℕ → Lint → (offset : ℕ) → Action
allowance_of text lint offset =
    insertion (codes "Allow `" ++ name lint ++ codes "` for this definition") offset (codes "; isle-lint: allow " ++ name lint ++ line_end text)

abbrev pub allowing_at : List ℕ → Lint → Option ℕ → List Action
allowing_at text lint None = []
allowing_at text lint (Some offset) = allowance_of text lint offset ∷ []

-- the action that puts a comment above the definition, which disables the lint for it
abbrev pub allowing : List ℕ → Told → ListSpan → List Action
allowing text t definition = allowing_at text t.lint (line_of text definition.from)

-- ---- all of them

abbrev pub actions_in : List ℕ → List Name → Told → Option ListSpan → List Action
actions_in text names t None = []
actions_in text names t (Some definition) = prefixing text names t definition ++ allowing text t definition

-- the actions for a diagnostic, if it is one of a lint: in the definition around it, which is the outermost list
abbrev pub actions_for : List ℕ → List Name → List ListSpan → Option Told → List Action
actions_for text names lists None = []
actions_for text names lists (Some t) = actions_in text names t (outer_list t.from lists)

-- the actions for each of these diagnostics
abbrev pub all_actions : PositionEncoding → List ℕ → List Name → List ListSpan → Items → List Action
all_actions enc text names lists no_items = []
all_actions enc text names lists (item d ds) = actions_for text names lists (told_in enc text d) ++ all_actions enc text names lists ds
