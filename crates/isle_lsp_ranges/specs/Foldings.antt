-- The parts of a text that fold: lists, and runs of lines that are comments.
use Rattle.std.specs.Prelude.{◌≡◌, ℕ, ◌+◌, ◌-◌, List, [], ◌∷◌, ◌++◌, Bool, false, ◌||◌, ◌==◌, codes, drop, map, max, nat_le, nat_lt, if◌then◌else◌}
use Rattle.std.specs.List.{count_by, prefix_len}
use Rattle.isle_base.specs.Bytes.{semicolon, space, tab}
use Rattle.isle_lsp_text.specs.Lists.{AreLists}
use Rattle.isle_lsp_text.specs.Positions.{ends_line, position_at}
use Rattle.isle_lsp_text.specs.declared.lists.ListSpan.{ListSpan}
use Rattle.isle_lsp_text.specs.declared.positions.PositionEncoding.TheVariants.{Utf16}
use Rattle.serde_json.specs.Data.{Data, array, member, no_members, number, object, string, unsigned}
use Rattle.serde_json.specs.View.{items_of}

-- where the lines begin after the first one, if the first of these bytes has this offset
abbrev pub breaks_from : ℕ → List ℕ → List ℕ
breaks_from at [] = []
breaks_from at (b ∷ bytes) = if ends_line b bytes then (at + 1) ∷ breaks_from (at + 1) bytes else breaks_from (at + 1) bytes

abbrev pub breaks : List ℕ → List ℕ
breaks text = breaks_from 0 text

-- the line of an offset, which is one in every encoding
abbrev pub line_at : List ℕ → (offset : ℕ) → ℕ
line_at text offset = (position_at Utf16 offset text).line

-- whether a line is a comment that begins with these bytes: the first one that is no space or tab is a `;`
abbrev pub is_comment : List ℕ → Bool
is_comment [] = false
is_comment (b ∷ bytes) = if b == space || b == tab then is_comment bytes else b == semicolon

-- for each line of a text whether it is a comment
abbrev pub comments : List ℕ → List Bool
comments text = is_comment text ∷ map (λ start. is_comment (drop start text)) (breaks text)

-- The last line on which a list ends that begins on this line; this line itself, if no list begins on it. Of the lists that
-- begin on one line, the outermost is the last to end.
abbrev pub last_line : (line_of : ℕ → ℕ) → (line : ℕ) → List ListSpan → ℕ
last_line line_of line [] = line
last_line line_of line (l ∷ ls) =
    if line_of l.from == line then max (line_of (l.to - 1)) (last_line line_of line ls) else last_line line_of line ls

-- the last line of the run of comments that the first of these lines begins, where this is its number; the same line, if it is no comment
abbrev pub run_end : (line : ℕ) → List Bool → ℕ
run_end line comments = line + (prefix_len (λ c. c) comments - 1)

abbrev pub list_data : (start end : ℕ) → Data
list_data start end = object (member (codes "endLine") (number (unsigned end)) (member (codes "startLine") (number (unsigned start)) no_members))

abbrev pub comment_data : (start end : ℕ) → Data
comment_data start end =
    object (member (codes "endLine") (number (unsigned end)) (member (codes "kind") (string (codes "comment"))
    (member (codes "startLine") (number (unsigned start)) no_members)))

-- what folds from one line to another: nothing, if they are one line
abbrev pub folds : Data → (start end : ℕ) → List Data
folds fold start end = if nat_lt start end then fold ∷ [] else []

-- what folds from one line on: the outermost list that begins there, and the comments that begin there, if none is before them
abbrev pub folds_at : (end line : ℕ) → (is_after_comment : Bool) → List Bool → List Data
folds_at end line is_after_comment comments =
    folds (list_data line end) line end
    ++ (if is_after_comment then [] else folds (comment_data line (run_end line comments)) line (run_end line comments))

-- what folds from each of these lines on, the first of which has this number
abbrev pub folds_from : (ends : ℕ → ℕ) → (line : ℕ) → (is_after_comment : Bool) → List Bool → List Data
folds_from ends line is_after_comment [] = []
folds_from ends line is_after_comment (c ∷ cs) =
    folds_at (ends line) line is_after_comment (c ∷ cs) ++ folds_from ends (line + 1) c cs

-- the folds of a text with these lists, in the order of their first lines
abbrev pub foldings : List ℕ → List ListSpan → List Data
foldings text lists = folds_from (λ line. last_line (line_at text) line lists) 0 false (comments text)

-- These are the folds of a text: its lists of more than one line, one for each line, and its runs of more than one comment.
abbrev pub AreFoldings : List ℕ → Data → Type 0
AreFoldings text d = (lists : List ListSpan) × AreLists text lists × (d ≡ array (items_of (foldings text lists)))

-- ---- a search for the line of an offset

-- the line of an offset, by where the lines begin after the first one
abbrev pub line_in : (breaks : List ℕ) → (offset : ℕ) → ℕ
line_in breaks offset = count_by (λ start. nat_le start offset) breaks
