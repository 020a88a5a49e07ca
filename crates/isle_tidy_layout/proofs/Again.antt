-- What is placed stays where it is: placing it again, each column of the source is the one that it
-- had in the result.
use Rattle.std.proofs.Common.{◌≡◌, ℕ, zero, suc, ◌+◌, List, [], ◌∷◌, ◌++◌, map, Bool, true, false, ◌&&◌, ◌||◌, Option, Some, None, cond, refl, sym, ap, ◌∙◌, eqb}
use Rattle.std.proofs.lemmas.Bool.{cond_both, eqb-true, eq-eqb, cond-false}
use Rattle.std.proofs.lemmas.List.{map-append}
use Rattle.std.specs.Prelude.{unwrap_or}
use Rattle.isle_tidy_layout.specs.Entries.{Lexeme, opening, closing, at_sign, atom, line_comment, block_comment, Entry}
use Rattle.isle_tidy_layout.specs.declared.entries.Gap.{Gap}
use Rattle.isle_tidy_layout.specs.declared.entries.Gap.TheVariants.{Beside, Tabbed, Below}
use Rattle.isle_tidy_layout.specs.declared.columns.Columns.{Columns}
use Rattle.isle_tidy_layout.specs.Writing.{spelling}
use Rattle.isle_tidy_layout.specs.Placing.{before_trimmed, trimmed, tidied, column_after, right_of, result_column, OpenList, hanging, kept_columns, usual_column, first_line, line_column, line_of, is_beside, is_closing, closings, kind_of, Room, none, any, some, result_width, room, Here, at_most_two, empty_lines, column_of, placed_gap, begun, reached, head_of, argument_more, item_in, item_more, outer, lists_after, passed, placed_after, text_start, placed}
use Rattle.isle_tidy_layout.specs.declared.placing.Kind.{Kind}
use Rattle.isle_tidy_layout.specs.declared.placing.Kind.TheVariants.{Start, Close}
use Rattle.isle_tidy_layout.specs.declared.placing.Head.{Head}
use Rattle.isle_tidy_layout.specs.declared.placing.Head.TheVariants.{NoHead, ListHead, BodyHead, PlainHead}

-- Lexemes.

trimmed_front : (b : ℕ) (bs : List ℕ) → trimmed bs ≡ bs → trimmed (before_trimmed b bs) ≡ before_trimmed b bs
trimmed_front b [] e =
    cond_both (eqb b 32 || eqb b 9) [] (b ∷ []) (λ xs. trimmed xs ≡ xs) (λ _. refl) (λ other. cond-false (eqb b 32 || eqb b 9) [] (b ∷ []) other)
trimmed_front b (c ∷ cs) e = ap (before_trimmed b) e

pub trimmed_again : (bs : List ℕ) → trimmed (trimmed bs) ≡ trimmed bs
trimmed_again [] = refl
trimmed_again (b ∷ bs) = trimmed_front b (trimmed bs) (trimmed_again bs)

pub tidied_again : (x : Lexeme) → tidied (tidied x) ≡ tidied x
tidied_again (line_comment bytes) = ap line_comment (trimmed_again bytes)
tidied_again opening = refl
tidied_again closing = refl
tidied_again at_sign = refl
tidied_again (atom bytes) = refl
tidied_again (block_comment bytes) = refl

pub kind_tidied : (x : Lexeme) → kind_of (tidied x) ≡ kind_of x
kind_tidied opening = refl
kind_tidied closing = refl
kind_tidied at_sign = refl
kind_tidied (atom bytes) = refl
kind_tidied (line_comment bytes) = refl
kind_tidied (block_comment bytes) = refl

closing_tidied : (x : Lexeme) → is_closing (tidied x) ≡ is_closing x
closing_tidied opening = refl
closing_tidied closing = refl
closing_tidied at_sign = refl
closing_tidied (atom bytes) = refl
closing_tidied (line_comment bytes) = refl
closing_tidied (block_comment bytes) = refl

-- What stands in the source as it does in the result.

abbrev pub same : Columns → Columns
same c = record { source = c.result; result = c.result }

abbrev pub same_list : OpenList → OpenList
same_list l = record l { parenthesis = same l.parenthesis; line = same l.line; arguments = map same l.arguments }

abbrev pub same_here : Here → Here
same_here here = record here { line = same here.line; end = same here.end; lists = map same_list here.lists }

-- Columns of lines: what is placed as a column is placed as itself.

abbrev IsPlaced : ℕ → List Columns → Type 0
IsPlaced column cs = result_column column (map same cs) ≡ Some column

-- one column more
more_columns : (column : ℕ) (c : Columns) (cs : List Columns) → IsPlaced column cs → IsPlaced column (c ∷ cs)
more_columns column c cs e =
    cond_both (eqb column c.result) (Some c.result) (result_column column (map same cs)) (λ o. o ≡ Some column)
    (λ is. ap Some (sym (eqb-true column c.result is))) (λ _. e)

first_column : (column : ℕ) (c : Columns) (cs : List Columns) → c.result ≡ column → IsPlaced column (c ∷ cs)
first_column column c cs e = rw (eq-eqb column c.result (sym e)) (ap Some e)

after_columns : (column : ℕ) (cs ds : List Columns) → IsPlaced column ds → IsPlaced column (cs ++ ds)
after_columns column [] ds e = e
after_columns column (c ∷ cs) ds e = more_columns column c (cs ++ ds) (after_columns column cs ds e)

placed_there : (column result : ℕ) (cs : List Columns) → result_column column cs ≡ Some result → IsPlaced result cs
placed_there column result [] e = cc
placed_there column result (c ∷ cs) e =
    cond_both (eqb column c.source) (Some c.result) (result_column column cs) (λ o. o ≡ Some result → IsPlaced result (c ∷ cs))
    (λ _ is. first_column result c cs (cc))
    (λ _ is. more_columns result c cs (placed_there column result cs is)) e

usual_placed : (head : Head) (p line : Columns) (arguments : List Columns) → IsPlaced (usual_column head p arguments) (arguments ++ (right_of 1 p ∷ right_of 2 p ∷ right_of 4 p ∷ hanging arguments line))
usual_placed NoHead p line arguments =
    after_columns (p.result + 1) arguments (right_of 1 p ∷ right_of 2 p ∷ right_of 4 p ∷ hanging arguments line)
    (first_column (p.result + 1) (right_of 1 p) (right_of 2 p ∷ right_of 4 p ∷ hanging arguments line) refl)
usual_placed ListHead p line arguments =
    after_columns (p.result + 1) arguments (right_of 1 p ∷ right_of 2 p ∷ right_of 4 p ∷ hanging arguments line)
    (first_column (p.result + 1) (right_of 1 p) (right_of 2 p ∷ right_of 4 p ∷ hanging arguments line) refl)
usual_placed BodyHead p line arguments =
    after_columns (p.result + 2) arguments (right_of 1 p ∷ right_of 2 p ∷ right_of 4 p ∷ hanging arguments line)
    (more_columns (p.result + 2) (right_of 1 p) (right_of 2 p ∷ right_of 4 p ∷ hanging arguments line)
    (first_column (p.result + 2) (right_of 2 p) (right_of 4 p ∷ hanging arguments line) refl))
usual_placed PlainHead p line [] =
    more_columns (p.result + 2) (right_of 1 p) (right_of 2 p ∷ right_of 4 p ∷ hanging [] line)
    (first_column (p.result + 2) (right_of 2 p) (right_of 4 p ∷ hanging [] line) refl)
usual_placed PlainHead p line (a ∷ arguments) = first_column a.result a (arguments ++ (right_of 1 p ∷ right_of 2 p ∷ right_of 4 p ∷ [])) refl

hanging_same : (arguments : List Columns) (line : Columns) → hanging (map same arguments) (same line) ≡ map same (hanging arguments line)
hanging_same [] line = refl
hanging_same (a ∷ arguments) line = refl

kept_same : (l : OpenList) → kept_columns (same_list l) ≡ map same (kept_columns l)
kept_same l =
    let p = l.parenthesis in
    ap (λ hung. map same l.arguments ++ (same (right_of 1 p) ∷ same (right_of 2 p) ∷ same (right_of 4 p) ∷ hung)) (hanging_same l.arguments l.line)
    ∙ sym (map-append same l.arguments (right_of 1 p ∷ right_of 2 p ∷ right_of 4 p ∷ hanging l.arguments l.line))

result_placed : (column usual : ℕ) (cs : List Columns) (o : Option ℕ) → result_column column cs ≡ o → IsPlaced usual cs → IsPlaced (unwrap_or o usual) cs
result_placed column usual cs None e is = is
result_placed column usual cs (Some result) e is = placed_there column result cs e

first_line_again : (l : OpenList) (column : ℕ) → first_line (same_list l) (first_line l column) ≡ first_line l column
first_line_again l column =
    let usual = usual_column l.head l.parenthesis l.arguments in
    let is = result_placed column usual (kept_columns l) (result_column column (kept_columns l)) refl (usual_placed l.head l.parenthesis l.line l.arguments) in
    let other = usual_column l.head (same l.parenthesis) (map same l.arguments) in
    ap (λ cs. unwrap_or (result_column (first_line l column) cs) other) (kept_same l) ∙ ap (λ o. unwrap_or o other) is

known_again : (l : OpenList) (column : ℕ) (o : Option ℕ) → unwrap_or o (first_line (same_list l) (unwrap_or o (first_line l column))) ≡ unwrap_or o (first_line l column)
known_again l column None = first_line_again l column
known_again l column (Some c) = refl

line_column_again : (ls : List OpenList) (column : ℕ) → line_column (map same_list ls) (line_column ls column) ≡ line_column ls column
line_column_again [] column = refl
line_column_again (l ∷ ls) column = known_again l column l.lines

line_of_same : (ls : List OpenList) (inner : ℕ) → line_of (map same_list ls) inner ≡ line_of ls inner
line_of_same [] inner = refl
line_of_same (l ∷ ls) zero = refl
line_of_same (l ∷ ls) (suc inner) = line_of_same ls inner

column_again : (ls : List OpenList) (kind : Kind) (inner column : ℕ) → column_of (map same_list ls) kind inner (column_of ls kind inner column) ≡ column_of ls kind inner column
column_again ls Close inner column = line_of_same ls inner
column_again ls _ inner column = line_column_again ls column

-- Gaps.

widened_again : (r : Room) (width : ℕ) → result_width r (result_width r width) ≡ result_width r width
widened_again none width = refl
widened_again any width = refl
widened_again some zero = refl
widened_again some (suc width) = refl

at_most_two_again : (n : ℕ) → at_most_two (at_most_two n) ≡ at_most_two n
at_most_two_again zero = refl
at_most_two_again (suc zero) = refl
at_most_two_again (suc (suc n)) = refl

empty_again : (before : Kind) (n : ℕ) → empty_lines before (empty_lines before n) ≡ empty_lines before n
empty_again Start n = refl
empty_again _ n = at_most_two_again n

gap_again : (here : Here) (gap : Gap) (kind : Kind) (inner : ℕ) → placed_gap (same_here here) (placed_gap here gap kind inner) kind inner ≡ placed_gap here gap kind inner
gap_again here (Beside width) kind inner = ap Beside (widened_again (room here.before kind) width)
gap_again here (Tabbed width) kind inner = ap Beside (widened_again (room here.before kind) 1)
gap_again here (Below empty column) kind inner =
    ap (λ n. Below n (column_of (map same_list here.lists) kind inner (column_of here.lists kind inner column))) (empty_again here.before empty)
    ∙ ap (Below (empty_lines here.before empty)) (column_again here.lists kind inner column)

beside_placed : (here : Here) (gap : Gap) (kind : Kind) (inner : ℕ) → is_beside (placed_gap here gap kind inner) ≡ is_beside gap
beside_placed here (Beside width) kind inner = refl
beside_placed here (Tabbed width) kind inner = refl
beside_placed here (Below empty column) kind inner = refl

closings_placed : (es : List Entry) (here : Here) → closings (placed_after here es) ≡ closings es
closings_placed [] here = refl
closings_placed (e ∷ es) here =
    let kind = kind_of e.lexeme in
    let gap = placed_gap here e.gap kind (closings es) in
    let next = passed (reached here kind e.gap gap) e.lexeme in
    ap (λ b. cond (b && is_closing (tidied e.lexeme)) (suc (closings (placed_after next es))) 0) (beside_placed here e.gap kind (closings es))
    ∙ ap (λ b. cond (is_beside e.gap && b) (suc (closings (placed_after next es))) 0) (closing_tidied e.lexeme)
    ∙ ap (λ n. cond (is_beside e.gap && is_closing e.lexeme) (suc n) 0) (closings_placed es next)

-- Where the rule stands.

begun_same : (kind : Kind) (column : ℕ) (ls : List OpenList) → begun kind column (map same_list ls) ≡ map same_list (begun kind column ls)
begun_same kind column [] = refl
begun_same Close column (l ∷ ls) = refl
begun_same _ column (l ∷ ls) = refl

reached_same : (here : Here) (kind : Kind) (gap : Gap) (inner : ℕ) → let result = placed_gap here gap kind inner in reached (same_here here) kind result result ≡ same_here (reached here kind gap result)
reached_same here kind (Beside width) inner = refl
reached_same here kind (Tabbed width) inner = refl
reached_same here kind (Below empty column) inner =
    let c = column_of here.lists kind inner column in
    ap (λ ls. record here { row = suc here.row; line = record { source = c; result = c }; end = record { source = c; result = c }; lists = ls }) (begun_same kind c here.lists)

argument_same : (b : Bool) (at : Columns) (l : OpenList) → argument_more b (same at) (same_list l) ≡ same_list (argument_more b at l)
argument_same true at l = ap (λ cs. record l { parenthesis = same l.parenthesis; line = same l.line; arguments = cs }) (sym (map-append same l.arguments (at ∷ [])))
argument_same false at l = refl

item_in_same : (old new : Head) (row : ℕ) (at : Columns) (l : OpenList) → item_in old new row (same at) (same_list l) ≡ same_list (item_in old new row at l)
item_in_same NoHead new row at l = refl
item_in_same _ new row at l = argument_same (eqb l.row row) at l

item_more_same : (head : Head) (row : ℕ) (at : Columns) (ls : List OpenList) → item_more head row (same at) (map same_list ls) ≡ map same_list (item_more head row at ls)
item_more_same head row at [] = refl
item_more_same NoHead row at (l ∷ ls) = refl
item_more_same ListHead row at (l ∷ ls) = ap (λ x. x ∷ map same_list ls) (item_in_same l.head ListHead row at l)
item_more_same BodyHead row at (l ∷ ls) = ap (λ x. x ∷ map same_list ls) (item_in_same l.head BodyHead row at l)
item_more_same PlainHead row at (l ∷ ls) = ap (λ x. x ∷ map same_list ls) (item_in_same l.head PlainHead row at l)

outer_same : (ls : List OpenList) → outer (map same_list ls) ≡ map same_list (outer ls)
outer_same [] = refl
outer_same (l ∷ ls) = refl

lists_same : (here : Here) (x : Lexeme) → lists_after (same_here here) (tidied x) ≡ map same_list (lists_after here x)
lists_same here opening = ap (λ ls. record { row = here.row; parenthesis = same here.end; line = same here.line; head = NoHead; arguments = []; lines = None } ∷ ls) (item_more_same ListHead here.row here.end here.lists)
lists_same here closing = outer_same here.lists
lists_same here at_sign = item_more_same PlainHead here.row here.end here.lists
lists_same here (atom bytes) = item_more_same (head_of (atom bytes)) here.row here.end here.lists
lists_same here (line_comment bytes) = item_more_same NoHead here.row here.end here.lists
lists_same here (block_comment bytes) = item_more_same NoHead here.row here.end here.lists

passed_same : (here : Here) (x : Lexeme) → passed (same_here here) (tidied x) ≡ same_here (passed here x)
passed_same here x =
    let column = column_after here.end.result (spelling (tidied x)) in
    ap (λ k. record (same_here here) { before = k; end = record { source = column; result = column_after here.end.result (spelling (tidied (tidied x))) }; lists = lists_after (same_here here) (tidied x) }) (kind_tidied x)
    ∙ ap (λ y. record (same_here here) { before = kind_of x; end = record { source = column; result = column_after here.end.result (spelling y) }; lists = lists_after (same_here here) (tidied x) }) (tidied_again x)
    ∙ ap (λ ls. record (same_here here) { before = kind_of x; end = record { source = column; result = column }; lists = ls }) (lists_same here x)

pub placed_after_again : (es : List Entry) (here : Here) → placed_after (same_here here) (placed_after here es) ≡ placed_after here es
placed_after_again [] here = refl
placed_after_again (e ∷ es) here =
    let kind = kind_of e.lexeme in
    let x = tidied e.lexeme in
    let gap = placed_gap here e.gap kind (closings es) in
    let there = reached here kind e.gap gap in
    let more = placed_after (passed there e.lexeme) es in
    let kinds : kind_of x ≡ kind = kind_tidied e.lexeme in
    let counts : closings more ≡ closings es = closings_placed es (passed there e.lexeme) in
    let gaps : placed_gap (same_here here) gap (kind_of x) (closings more) ≡ gap =
    ap (λ k. placed_gap (same_here here) gap k (closings more)) kinds ∙ ap (placed_gap (same_here here) gap kind) counts
    ∙ gap_again here e.gap kind (closings es) in
    let nexts : passed (reached (same_here here) (kind_of x) gap gap) x ≡ same_here (passed there e.lexeme) =
    ap (λ k. passed (reached (same_here here) k gap gap) x) kinds ∙ ap (λ h. passed h x) (reached_same here kind e.gap (closings es))
    ∙ passed_same there e.lexeme in
    ap (λ (g : Gap). let r : Entry = record { gap = g; lexeme = tidied x } in r ∷ placed_after (passed (reached (same_here here) (kind_of x) gap g) x) more) gaps
    ∙ ap (λ (y : Lexeme). let r : Entry = record { gap = gap; lexeme = y } in r ∷ placed_after (passed (reached (same_here here) (kind_of x) gap gap) x) more) (tidied_again e.lexeme)
    ∙ ap (λ h. let r : Entry = record { gap = gap; lexeme = x } in r ∷ placed_after h more) nexts
    ∙ ap (λ rest. let r : Entry = record { gap = gap; lexeme = x } in r ∷ rest) (placed_after_again es (passed there e.lexeme))

pub placed_again : (es : List Entry) → placed (placed es) ≡ placed es
placed_again es = placed_after_again es text_start
