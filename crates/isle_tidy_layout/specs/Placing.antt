-- The rule: where each entry of a document is placed.
use Rattle.std.specs.Prelude.{ℕ, zero, suc, ◌+◌, List, [], ◌∷◌, ◌++◌, Bool, true, false, ◌||◌, ◌&&◌, ◌==◌, nat_le, if◌then◌else◌, Option, Some, None, unwrap_or}
use Rattle.isle_base.specs.Bytes.{tab, line_feed, carriage_return, space}
use Rattle.isle_tidy_layout.specs.Entries.{Lexeme, opening, closing, at_sign, atom, line_comment, block_comment, Entry}
use Rattle.isle_tidy_layout.specs.declared.entries.Gap.{Gap}
use Rattle.isle_tidy_layout.specs.declared.entries.Gap.TheVariants.{Beside, Tabbed, Below}
use Rattle.isle_tidy_layout.specs.Writing.{spelling}
use Rattle.isle_tidy_layout.specs.declared.columns.Columns.{Columns}
use Rattle.isle_tidy_layout.specs.declared.placing.Head.{Head}
use Rattle.isle_tidy_layout.specs.declared.placing.Head.TheVariants.{NoHead, ListHead, BodyHead, PlainHead}
use Rattle.isle_tidy_layout.specs.declared.placing.Kind.{Kind}
use Rattle.isle_tidy_layout.specs.declared.placing.Kind.TheVariants.{Start, Open, Close, At, Atom, LineComment, BlockComment}
use Rattle.isle_tidy_layout.specs.Heads.{is_body_head}

-- A line comment loses the spaces and tabs at its end.
abbrev pub before_trimmed : ℕ → List ℕ → List ℕ
before_trimmed b [] = if b == space || b == tab then [] else b ∷ []
before_trimmed b (c ∷ cs) = b ∷ c ∷ cs

abbrev pub trimmed : List ℕ → List ℕ
trimmed [] = []
trimmed (b ∷ bs) = before_trimmed b (trimmed bs)

abbrev pub tidied : Lexeme → Lexeme
tidied opening = opening
tidied closing = closing
tidied at_sign = at_sign
tidied (atom bytes) = atom bytes
tidied (line_comment bytes) = line_comment (trimmed bytes)
tidied (block_comment bytes) = block_comment bytes

-- The column behind bytes that begin at a column. A byte that continues a character counts none,
-- and behind a line end the columns begin anew.
abbrev pub column_after : ℕ → List ℕ → ℕ
column_after column [] = column
column_after column (b ∷ bs) =
    column_after (if b == line_feed || b == carriage_return then 0 else (if nat_le 128 b && nat_le b 191 then column else suc column)) bs

abbrev pub right_of : ℕ → Columns → Columns
right_of n c = record { source = c.source + n; result = c.result + n }

-- the column that a column of the source has in the result, if it is one of these
abbrev pub result_column : ℕ → List Columns → Option ℕ
result_column column [] = None
result_column column (c ∷ cs) = if column == c.source then Some c.result else result_column column cs

-- An open list: the line of its `(`, the columns of the `(` and of the line's first entry, its head,
-- those of its arguments on that line, and the column of its own lines in the result, once one is known.
pub record OpenList : Type 0 where
  pub row : ℕ
  pub parenthesis : Columns
  pub line : Columns
  pub head : Head
  pub arguments : List Columns
  pub lines : Option ℕ

-- to the right of the line, where no argument stands on the row
abbrev pub hanging : List Columns → Columns → List Columns
hanging [] line = right_of 2 line ∷ right_of 4 line ∷ []
hanging (_ ∷ _) line = []

-- where an author may put the first line of a list: below an argument, or 1, 2 or 4 to the right of
-- its `(`, or 2 or 4 to the right of its line
abbrev pub kept_columns : OpenList → List Columns
kept_columns l =
    l.arguments ++ (right_of 1 l.parenthesis ∷ right_of 2 l.parenthesis ∷ right_of 4 l.parenthesis ∷ hanging l.arguments l.line)

-- the column of the first argument, or this
abbrev pub first_argument : List Columns → ℕ → ℕ
first_argument [] column = column
first_argument (a ∷ _) column = a.result

-- where else it is placed
abbrev pub usual_column : Head → Columns → List Columns → ℕ
usual_column NoHead p arguments = p.result + 1
usual_column ListHead p arguments = p.result + 1
usual_column BodyHead p arguments = p.result + 2
usual_column PlainHead p arguments = first_argument arguments (p.result + 2)

-- the column of the first line of a list, which the author put at this one
abbrev pub first_line : OpenList → ℕ → ℕ
first_line l column = unwrap_or (result_column column (kept_columns l)) (usual_column l.head l.parenthesis l.arguments)

-- the column of a line that begins in the innermost of these lists
abbrev pub line_column : List OpenList → ℕ → ℕ
line_column [] column = 0
line_column (l ∷ _) column = unwrap_or l.lines (first_line l column)

-- the column of the line of the list behind so many inner ones
abbrev pub line_of : List OpenList → ℕ → ℕ
line_of [] inner = 0
line_of (l ∷ ls) zero = l.line.result
line_of (l ∷ ls) (suc inner) = line_of ls inner

-- how many `)` follow on the line
abbrev pub is_beside : Gap → Bool
is_beside (Beside _) = true
is_beside (Tabbed _) = true
is_beside (Below _ _) = false

abbrev pub is_closing : Lexeme → Bool
is_closing opening = false
is_closing closing = true
is_closing at_sign = false
is_closing (atom _) = false
is_closing (line_comment _) = false
is_closing (block_comment _) = false

abbrev pub closings : List Entry → ℕ
closings [] = 0
closings (e ∷ es) = if is_beside e.gap && is_closing e.lexeme then suc (closings es) else 0

abbrev pub kind_of : Lexeme → Kind
kind_of opening = Open
kind_of closing = Close
kind_of at_sign = At
kind_of (atom _) = Atom
kind_of (line_comment _) = LineComment
kind_of (block_comment _) = BlockComment

-- no space, as many as there are, or these but one at least
pub data Room : Type 0 where
  none : Room
  any : Room
  some : Room

abbrev pub result_width : Room → ℕ → ℕ
result_width none width = 0
result_width any width = width
result_width some zero = 1
result_width some (suc width) = suc width

abbrev pub room_after : Kind → Room
room_after Start = some
room_after Open = none
room_after Close = some
room_after At = any
room_after Atom = some
room_after LineComment = some
room_after BlockComment = some

-- none behind `(`, but one at least before a line comment; none before `)`; any next to `@`
abbrev pub room : (before : Kind) → Kind → Room
room before Close = none
room Open LineComment = some
room before LineComment = room_after before
room Open At = none
room before At = any
room before Start = room_after before
room before Open = room_after before
room before Atom = room_after before
room before BlockComment = room_after before

-- Where the rule stands in a document: what is before, the number of the line and the columns of its
-- first entry, the columns where what is before ends, and the open lists, the innermost first.
pub record Here : Type 0 where
  pub before : Kind
  pub row : ℕ
  pub line : Columns
  pub end : Columns
  pub lists : List OpenList

-- two empty lines at most, and none at the start
abbrev pub at_most_two : ℕ → ℕ
at_most_two zero = 0
at_most_two (suc zero) = 1
at_most_two (suc (suc _)) = 2

abbrev pub empty_lines : Kind → ℕ → ℕ
empty_lines Start empty = 0
empty_lines _ empty = at_most_two empty

-- the column of a line that begins with this, and has so many `)` behind it
abbrev pub column_of : List OpenList → Kind → (closings column : ℕ) → ℕ
column_of lists Close closings column = line_of lists closings
column_of lists _ closings column = line_column lists column

-- the gap in the result
abbrev pub placed_gap : Here → Gap → Kind → (closings : ℕ) → Gap
placed_gap here (Beside width) kind closings = Beside (result_width (room here.before kind) width)
placed_gap here (Tabbed width) kind closings = Beside (result_width (room here.before kind) 1)
placed_gap here (Below empty column) kind closings = Below (empty_lines here.before empty) (column_of here.lists kind closings column)

-- the innermost list knows the column of its lines, once one has begun in it
abbrev pub begun : Kind → ℕ → List OpenList → List OpenList
begun kind column [] = []
begun Close column (l ∷ ls) = l ∷ ls
begun _ column (l ∷ ls) = record l { lines = Some column } ∷ ls

abbrev pub width_of : Gap → ℕ
width_of (Beside width) = width
width_of (Tabbed width) = width
width_of (Below empty column) = column

-- where an entry stands, by what is before it in the source and in the result
abbrev pub reached : Here → Kind → (source result : Gap) → Here
reached here kind (Beside width) result =
    record here { end = record { source = here.end.source + width; result = here.end.result + width_of result } }
reached here kind (Tabbed width) result =
    record here { end = record { source = here.end.source + width; result = here.end.result + width_of result } }
reached here kind (Below empty column) result = record here {
  row = suc here.row;
  line = record { source = column; result = width_of result };
  end = record { source = column; result = width_of result };
  lists = begun kind (width_of result) here.lists;
}

-- how the lines of a list stand whose first item begins so; a comment and a `)` begin none
abbrev pub head_of : Lexeme → Head
head_of opening = ListHead
head_of closing = NoHead
head_of at_sign = PlainHead
head_of (atom bytes) = if is_body_head bytes then BodyHead else PlainHead
head_of (line_comment _) = NoHead
head_of (block_comment _) = NoHead

-- an item more in a list: its head, or an argument if it is on the row
abbrev pub argument_more : (on_row : Bool) → Columns → OpenList → OpenList
argument_more true at l = record l { arguments = l.arguments ++ (at ∷ []) }
argument_more false at l = l

abbrev pub item_in : (old new : Head) → (row : ℕ) → Columns → OpenList → OpenList
item_in NoHead new row at l = record l { head = new }
item_in _ new row at l = argument_more (l.row == row) at l

abbrev pub item_more : Head → (row : ℕ) → Columns → List OpenList → List OpenList
item_more head row at [] = []
item_more NoHead row at (l ∷ ls) = l ∷ ls
item_more head row at (l ∷ ls) = item_in l.head head row at l ∷ ls

abbrev pub outer : List OpenList → List OpenList
outer [] = []
outer (_ ∷ ls) = ls

-- the open lists behind a lexeme that stands here
abbrev pub lists_after : Here → Lexeme → List OpenList
lists_after here opening =
    record { row = here.row; parenthesis = here.end; line = here.line; head = NoHead; arguments = []; lines = None }
    ∷ item_more ListHead here.row here.end here.lists
lists_after here closing = outer here.lists
lists_after here lexeme = item_more (head_of lexeme) here.row here.end here.lists

abbrev pub passed : Here → Lexeme → Here
passed here lexeme = record here {
  before = kind_of lexeme;
  end = record {
    source = column_after here.end.source (spelling lexeme);
    result = column_after here.end.result (spelling (tidied lexeme));
  };
  lists = lists_after here lexeme;
}

-- the entries to come, placed
abbrev pub placed_after : Here → List Entry → List Entry
placed_after here [] = []
placed_after here (e ∷ es) =
    let kind = kind_of e.lexeme in
    let gap = placed_gap here e.gap kind (closings es) in
    record { gap = gap; lexeme = tidied e.lexeme } ∷ placed_after (passed (reached here kind e.gap gap) e.lexeme) es

abbrev pub text_start : Here
text_start = record {
  before = Start;
  row = 0;
  line = record { source = 0; result = 0 };
  end = record { source = 0; result = 0 };
  lists = [];
}

abbrev pub placed : List Entry → List Entry
placed entries = placed_after text_start entries
