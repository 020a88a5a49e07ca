-- What a request for code actions tells: the diagnostics shown, and the kinds of actions wanted.
use Rattle.std.specs.Prelude.{ℕ, List, Bool, true, false, ◌||◌, Option, None, Some, codes, option_and_then, if◌then◌else◌}
use Rattle.std.specs.List.{find}
use Rattle.std.specs.Str.{bytes_eq}
use Rattle.serde_json.specs.Data.{Data, Items, no_items, item}
use Rattle.serde_json.specs.Find.{get, pointer, as_array, as_str}
use Rattle.isle_lint_core.specs.Lint.{all_lints, name}
use Rattle.isle_lint_core.specs.declared.lint.Lint.{Lint}
use Rattle.isle_lsp_actions.specs.declared.told.Told.{Told}
use Rattle.isle_lsp_protocol.specs.Parameters.{position_in}
use Rattle.isle_lsp_text.specs.Positions.{offset_at}
use Rattle.isle_lsp_text.specs.declared.positions.Position.{Position}
use Rattle.isle_lsp_text.specs.declared.positions.PositionEncoding.{PositionEncoding}

-- whether there is a text, and it is this one
abbrev pub is_text : List ℕ → Option (List ℕ) → Bool
is_text text None = false
is_text text (Some other) = bytes_eq other text

abbrev pub text_in : (key : List ℕ) → Data → Option (List ℕ)
text_in key d = option_and_then as_str (get key d)

-- the lint of this name
abbrev pub lint_named : List ℕ → Option Lint
lint_named text = find (λ lint. bytes_eq (name lint) text) all_lints

abbrev pub position_at : (path : List ℕ) → Data → Option Position
position_at path d = option_and_then position_in (pointer path d)

abbrev pub told_with : PositionEncoding → List ℕ → (lint : Option Lint) → (start end : Option Position) → Option Told
told_with enc text None start end = None
told_with enc text (Some lint) None end = None
told_with enc text (Some lint) (Some start) None = None
told_with enc text (Some lint) (Some start) (Some end) = Some record { lint = lint; from = offset_at enc start text; to = offset_at enc end text }

-- what a diagnostic of a lint tells about a text: the lint, and where its range begins and ends
abbrev pub told_in : PositionEncoding → List ℕ → Data → Option Told
told_in enc text d =
    if is_text (codes "isle") (text_in (codes "source") d)
    then told_with enc text (option_and_then lint_named (text_in (codes "code") d)) (position_at (codes "/range/start") d) (position_at (codes "/range/end") d)
    else None

abbrev pub items_or_none : Option Items → Items
items_or_none None = no_items
items_or_none (Some items) = items

-- the diagnostics that the client shows at the place of the request
abbrev pub diagnostics_in : Data → Items
diagnostics_in d = items_or_none (option_and_then as_array (pointer (codes "/params/context/diagnostics") d))

-- a kind of actions that quick fixes are of: their own, or the empty one, which all are of
abbrev pub is_kind_of_fixes : Data → Bool
is_kind_of_fixes d = is_text (codes "quickfix") (as_str d) || is_text (codes "") (as_str d)

abbrev pub has_kind_of_fixes : Items → Bool
has_kind_of_fixes no_items = false
has_kind_of_fixes (item d ds) = is_kind_of_fixes d || has_kind_of_fixes ds

abbrev pub wants_fixes_of : Option Items → Bool
wants_fixes_of None = true
wants_fixes_of (Some kinds) = has_kind_of_fixes kinds

-- the kinds that a request wants only
abbrev pub kinds_in : Data → Option Items
kinds_in d = option_and_then as_array (pointer (codes "/params/context/only") d)

-- whether a request wants quick fixes: it names no kinds that it wants only, or a kind of theirs
abbrev pub wants_fixes : Data → Bool
wants_fixes d = wants_fixes_of (kinds_in d)

-- a kind of actions that those are of that put in place of a use what it stands for
abbrev pub is_kind_of_inlining : Data → Bool
is_kind_of_inlining d = is_text (codes "refactor.inline") (as_str d) || is_text (codes "refactor") (as_str d) || is_text (codes "") (as_str d)

abbrev pub has_kind_of_inlining : Items → Bool
has_kind_of_inlining no_items = false
has_kind_of_inlining (item d ds) = is_kind_of_inlining d || has_kind_of_inlining ds

abbrev pub wants_inlining_of : Option Items → Bool
wants_inlining_of None = true
wants_inlining_of (Some kinds) = has_kind_of_inlining kinds

-- the same of these actions
abbrev pub wants_inlining : Data → Bool
wants_inlining d = wants_inlining_of (kinds_in d)

abbrev pub offset_of_position : PositionEncoding → List ℕ → Option Position → Option ℕ
offset_of_position enc text None = None
offset_of_position enc text (Some p) = Some (offset_at enc p text)

-- the offset at which the range of a request begins
abbrev pub asked_at : PositionEncoding → List ℕ → Data → Option ℕ
asked_at enc text d = offset_of_position enc text (position_at (codes "/params/range/start") d)
