-- The open lists of the code, as the rule has them.
use Rattle.std.specs.Prelude.{◌≡◌, ◌<◌, ◌^◌, List, [], ◌∷◌, ◌++◌, ◌≤◌, drop, length}
use Rattle.isle_tidy_layout.specs.declared.columns.Columns.{Columns}
use Rattle.isle_tidy_layout.specs.declared.stack.Opened.{Opened}
use Rattle.isle_tidy_layout.specs.Placing.{OpenList}

-- so that some columns more have no overflow
abbrev pub IsSmall : Columns → Type 0
IsSmall c = (c.source < 2 ^ 62) × (c.result < 2 ^ 62)

abbrev pub list_of : Opened → List Columns → OpenList
list_of o arguments =
    record { row = o.row; parenthesis = o.parenthesis; line = o.line; head = o.head; arguments = arguments; lines = o.lines }

-- These lists, the innermost first, are those of the code, the innermost last, with their arguments one
-- behind the other.
abbrev pub IsStack : List OpenList → List Opened → List Columns → Type 0
IsStack [] stack arguments = (stack ≡ []) × (arguments ≡ [])
IsStack (l ∷ ls) stack arguments =
    (below : List Opened) × (others : List Columns) × (o : Opened) × (stack ≡ below ++ (o ∷ [])) × (arguments ≡ others ++ l.arguments)
    × (l ≡ list_of o l.arguments) × (o.first ≡ length others) × IsSmall o.parenthesis × IsSmall o.line × IsStack ls below others

-- the innermost list
abbrev pub IsTop : List OpenList → List Columns → Opened → Type 0
IsTop ls arguments o =
    (others : List OpenList) × (ls ≡ list_of o (drop o.first arguments) ∷ others) × (o.first ≤ length arguments) × IsSmall o.parenthesis
    × IsSmall o.line
