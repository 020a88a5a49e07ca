-- Actions for diagnostics insert their texts at offsets of the document.
use Rattle.std.proofs.Common.{◌≡◌, ℕ, ◌≤◌, ◌&&◌, Bool, true, false, if◌then◌else◌, List, [], ◌∷◌, ◌++◌, Option, None, Some, codes, length, take, option_and_then, refl, arith}
use Rattle.std.proofs.lemmas.List.{length-take}
use Rattle.std.specs.List.{AllByRecursion}
use Rattle.serde_json.specs.Data.{Data, Items, no_items, item}
use Rattle.isle_base.specs.Bytes.{underscore}
use Rattle.isle_lint_core.specs.declared.lint.Lint.{Lint}
use Rattle.isle_lsp_actions.specs.Actions.{Action, actions_for, actions_in, all_actions, allowing, allowing_at, can_become, is_unused, prefix_of, prefixing, prefixing_of}
use Rattle.isle_lsp_actions.specs.Insertions.{ends_line, indent_start, line_of}
use Rattle.isle_lsp_actions.specs.Names.{Name, name_at}
use Rattle.isle_lsp_actions.specs.Told.{is_text, lint_named, position_at, text_in, told_in, told_with}
use Rattle.isle_lsp_actions.specs.declared.told.Told.{Told}
use Rattle.isle_lsp_text.specs.Lists.{outer_list}
use Rattle.isle_lsp_text.specs.declared.lists.ListSpan.{ListSpan}
use Rattle.isle_lsp_text.specs.declared.positions.Position.{Position}
use Rattle.isle_lsp_text.proofs.Walks.{whole_law}
use Rattle.isle_lsp_text.specs.declared.positions.PositionEncoding.{PositionEncoding}

abbrev AreWithin : List ℕ → List Action → Type 0
AreWithin text actions = AllByRecursion (λ a. (a.from ≡ a.to) × (a.to ≤ length text)) actions

append_within : (text : List ℕ) (xs ys : List Action) → AreWithin text xs → AreWithin text ys → AreWithin text (xs ++ ys)
append_within text [] ys h k = k
append_within text (x ∷ xs) ys h k = (h.0, append_within text xs ys h.1 k)

one_if_within : (text : List ℕ) (b : Bool) (a : Action) → (a.from ≡ a.to) × (a.to ≤ length text) → AreWithin text (if b then a ∷ [] else [])
one_if_within text true a h = (h, tt)
one_if_within text false a h = tt

-- what is told begins within the text
abbrev BeginsWithin : List ℕ → Option Told → Type 0
BeginsWithin text None = Unit {0}
BeginsWithin text (Some t) = t.from ≤ length text

told_with_within : (enc : PositionEncoding) (text : List ℕ) (lint : Option Lint) (start end : Option Position) → BeginsWithin text (told_with enc text lint start end)
told_with_within enc text None start end = tt
told_with_within enc text (Some lint) None end = tt
told_with_within enc text (Some lint) (Some start) None = tt
told_with_within enc text (Some lint) (Some start) (Some end) = (whole_law enc text start.line start.unit).0

told_if_within : (text : List ℕ) (b : Bool) (o : Option Told) → BeginsWithin text o → BeginsWithin text (if b then o else None)
told_if_within text true o h = h
told_if_within text false o h = tt

told_within : (enc : PositionEncoding) (text : List ℕ) (d : Data) → BeginsWithin text (told_in enc text d)
told_within enc text d =
    told_if_within text (is_text (codes "isle") (text_in (codes "source") d)) _
    (told_with_within enc text (option_and_then lint_named (text_in (codes "code") d)) (position_at (codes "/range/start") d) (position_at (codes "/range/end") d))

-- a line begins within the text
abbrev IsWithin : List ℕ → Option ℕ → Type 0
IsWithin text None = Unit {0}
IsWithin text (Some offset) = offset ≤ length text

some_if_within : (text : List ℕ) (b : Bool) (offset : ℕ) → offset ≤ length text → IsWithin text (if b then Some offset else None)
some_if_within text true offset h = h
some_if_within text false offset h = tt

line_within : (text : List ℕ) (offset : ℕ) → IsWithin text (line_of text offset)
line_within text offset =
    let start : ℕ = indent_start (take offset text) in
    some_if_within text (ends_line (take start text)) start (omega (arith, length-take offset text))

allowing_within : (text : List ℕ) (lint : Lint) (o : Option ℕ) → IsWithin text o → AreWithin text (allowing_at text lint o)
allowing_within text lint None h = tt
allowing_within text lint (Some offset) h = ((refl, h), tt)

prefixing_within : (text : List ℕ) (names : List Name) (t : Told) (definition : ListSpan) (o : Option (List ℕ)) → t.from ≤ length text
    → AreWithin text (prefixing_of text names t definition o)
prefixing_within text names t definition None h = tt
prefixing_within text names t definition (Some name) h =
    one_if_within text (is_unused t.lint && can_become text names t definition name (underscore ∷ name)) (prefix_of t name) (refl, h)

in_within : (text : List ℕ) (names : List Name) (t : Told) (o : Option ListSpan) → t.from ≤ length text → AreWithin text (actions_in text names t o)
in_within text names t None h = tt
in_within text names t (Some definition) h =
    append_within text (prefixing text names t definition) (allowing text t definition)
    (prefixing_within text names t definition (name_at t.from names) h)
    (allowing_within text t.lint (line_of text definition.from) (line_within text definition.from))

for_within : (text : List ℕ) (names : List Name) (lists : List ListSpan) (o : Option Told) → BeginsWithin text o → AreWithin text (actions_for text names lists o)
for_within text names lists None h = tt
for_within text names lists (Some t) h = in_within text names t (outer_list t.from lists) h

pub within : (enc : PositionEncoding) (text : List ℕ) (names : List Name) (lists : List ListSpan) (ds : Items)
    → AllByRecursion (λ a. (a.from ≡ a.to) × (a.to ≤ length text)) (all_actions enc text names lists ds)
within enc text names lists no_items = tt
within enc text names lists (item d ds) =
    append_within text (actions_for text names lists (told_in enc text d)) (all_actions enc text names lists ds)
    (for_within text names lists (told_in enc text d) (told_within enc text d)) (within enc text names lists ds)
