-- Lines of a placed document fit.
use Rattle.std.proofs.Common.{◌≡◌, ◌==◌, ℕ, List, [], ◌∷◌, Bool, true, false, Option, None, Some, map, refl, sym, subst, ap, ◌∙◌, true≢false, unwrap_or}
use Rattle.isle_tidy_layout.specs.Entries.{Entry, Lexeme, opening, closing, at_sign, atom, line_comment, block_comment}
use Rattle.isle_tidy_layout.specs.Placing.{Here, OpenList, argument_more, begun, closings, first_line, head_of, is_closing, item_in, item_more, kind_of, line_column, line_of, lists_after, outer as outer_list, passed, placed, placed_after, placed_gap, reached, text_start, tidied}
use Rattle.isle_tidy_layout.specs.declared.columns.Columns.{Columns}
use Rattle.isle_tidy_layout.specs.declared.entries.Gap.{Gap}
use Rattle.isle_tidy_layout.specs.declared.entries.Gap.TheVariants.{Beside, Tabbed, Below}
use Rattle.isle_tidy_layout.specs.declared.placing.Head.{Head}
use Rattle.isle_tidy_layout.specs.declared.placing.Head.TheVariants.{NoHead, ListHead, BodyHead, PlainHead}
use Rattle.isle_tidy_layout.specs.declared.placing.Kind.{Kind}
use Rattle.isle_tidy_layout.specs.declared.placing.Kind.TheVariants.{Start, Open, Close, At, Atom, LineComment, BlockComment}
use Rattle.isle_tidy_core.specs.Ends.{body_of, entries_with, lexeme_with, line_end_of}
use Rattle.isle_tidy_core.specs.Grammar.{IsDocument}
use Rattle.isle_tidy_core.specs.Tidied.{IsTidyTextOf}
use Rattle.isle_tidy_core.specs.declared.ends.LineEnd.{LineEnd}
use Rattle.isle_tidy_core.specs.declared.ends.LineEnd.TheVariants.{Lf}
use Rattle.isle_tidy_core.proofs.TidyTexts.{its_document}
use Rattle.isle_tidy_laws.specs.Indentation.{FitsGap, FitsLine, LinesFit, behind, line_begun, outer, with_line}

abbrev lines_in : List OpenList → List (Option ℕ)
lines_in ls = map (λ l. l.lines) ls

argued : (on_row : Bool) (at : Columns) (l : OpenList) → (argument_more on_row at l).lines ≡ l.lines
argued true at l = refl
argued false at l = refl

-- an item more in a list changes no column of its lines
item_lines : (old new : Head) (row : ℕ) (at : Columns) (l : OpenList) → (item_in old new row at l).lines ≡ l.lines
item_lines NoHead new row at l = refl
item_lines ListHead new row at l = argued (l.row == row) at l
item_lines BodyHead new row at l = argued (l.row == row) at l
item_lines PlainHead new row at l = argued (l.row == row) at l

items_lines : (head : Head) (row : ℕ) (at : Columns) (ls : List OpenList) → lines_in (item_more head row at ls) ≡ lines_in ls
items_lines head row at [] = refl
items_lines NoHead row at (l ∷ ls) = refl
items_lines ListHead row at (l ∷ ls) = ap (λ o. o ∷ lines_in ls) (item_lines l.head ListHead row at l)
items_lines BodyHead row at (l ∷ ls) = ap (λ o. o ∷ lines_in ls) (item_lines l.head BodyHead row at l)
items_lines PlainHead row at (l ∷ ls) = ap (λ o. o ∷ lines_in ls) (item_lines l.head PlainHead row at l)

outer_lines : (ls : List OpenList) → lines_in (outer_list ls) ≡ outer (lines_in ls)
outer_lines [] = refl
outer_lines (l ∷ ls) = refl

-- the open lists behind a lexeme
lists_behind : (here : Here) (x : Lexeme) → lines_in (lists_after here x) ≡ behind (tidied x) (lines_in here.lists)
lists_behind here opening = ap (λ ls. None ∷ ls) (items_lines ListHead here.row here.end here.lists)
lists_behind here closing = outer_lines here.lists
lists_behind here at_sign = items_lines (head_of at_sign) here.row here.end here.lists
lists_behind here (atom text) = items_lines (head_of (atom text)) here.row here.end here.lists
lists_behind here (line_comment text) = items_lines NoHead here.row here.end here.lists
lists_behind here (block_comment text) = items_lines NoHead here.row here.end here.lists

known_fits : (known : Option ℕ) (rest : List (Option ℕ)) (first : ℕ) → FitsLine (known ∷ rest) (unwrap_or known first)
known_fits None rest first = tt
known_fits (Some c) rest first = refl

line_fits : (ls : List OpenList) (column : ℕ) → FitsLine (lines_in ls) (line_column ls column)
line_fits [] column = refl
line_fits (l ∷ ls) column = known_fits l.lines (lines_in ls) (first_line l column)

gap_fits : (here : Here) (gap : Gap) (x : Lexeme) (n : ℕ) → FitsGap (lines_in here.lists) (placed_gap here gap (kind_of x) n) (is_closing (tidied x))
gap_fits here (Beside width) x n = tt
gap_fits here (Tabbed width) x n = tt
gap_fits here (Below empty column) opening n = line_fits here.lists column
gap_fits here (Below empty column) closing n = tt
gap_fits here (Below empty column) at_sign n = line_fits here.lists column
gap_fits here (Below empty column) (atom text) n = line_fits here.lists column
gap_fits here (Below empty column) (line_comment text) n = line_fits here.lists column
gap_fits here (Below empty column) (block_comment text) n = line_fits here.lists column

closed_lines : (column : ℕ) (ls : List OpenList) → lines_in (begun Close column ls) ≡ lines_in ls
closed_lines column [] = refl
closed_lines column (l ∷ ls) = refl

abbrev is_close : Kind → Bool
is_close Start = false
is_close Open = false
is_close Close = true
is_close At = false
is_close Atom = false
is_close LineComment = false
is_close BlockComment = false

begun_lines : (kind : Kind) (column : ℕ) (ls : List OpenList) → is_close kind ≡ false → lines_in (begun kind column ls) ≡ with_line column (lines_in ls)
begun_lines kind column [] other = refl
begun_lines Start column (l ∷ ls) other = refl
begun_lines Open column (l ∷ ls) other = refl
begun_lines Close column (l ∷ ls) other = absurd (true≢false other)
begun_lines At column (l ∷ ls) other = refl
begun_lines Atom column (l ∷ ls) other = refl
begun_lines LineComment column (l ∷ ls) other = refl
begun_lines BlockComment column (l ∷ ls) other = refl

-- the open lists once a line has begun
lists_begun : (here : Here) (gap : Gap) (x : Lexeme) (n : ℕ) → lines_in (reached here (kind_of x) gap (placed_gap here gap (kind_of x) n)).lists ≡ line_begun (lines_in here.lists) (placed_gap here gap (kind_of x) n) (is_closing (tidied x))
lists_begun here (Beside width) x n = refl
lists_begun here (Tabbed width) x n = refl
lists_begun here (Below empty column) opening n = begun_lines Open (line_column here.lists column) here.lists refl
lists_begun here (Below empty column) closing n = closed_lines (line_of here.lists n) here.lists
lists_begun here (Below empty column) at_sign n = begun_lines At (line_column here.lists column) here.lists refl
lists_begun here (Below empty column) (atom text) n = begun_lines Atom (line_column here.lists column) here.lists refl
lists_begun here (Below empty column) (line_comment text) n = begun_lines LineComment (line_column here.lists column) here.lists refl
lists_begun here (Below empty column) (block_comment text) n = begun_lines BlockComment (line_column here.lists column) here.lists refl

lines_fit : (here : Here) (es : List Entry) → LinesFit (lines_in here.lists) (placed_after here es)
lines_fit here [] = tt
lines_fit here (e ∷ es) =
    let gap = placed_gap here e.gap (kind_of e.lexeme) (closings es) in
    let at = reached here (kind_of e.lexeme) e.gap gap in
    let lists : lines_in (lists_after at e.lexeme) ≡ behind (tidied e.lexeme) (line_begun (lines_in here.lists) gap (is_closing (tidied e.lexeme))) =
    lists_behind at e.lexeme ∙ ap (behind (tidied e.lexeme)) (lists_begun here e.gap e.lexeme (closings es)) in
    (gap_fits here e.gap e.lexeme (closings es), subst (λ ls. LinesFit ls (placed_after (passed at e.lexeme) es)) lists (lines_fit (passed at e.lexeme) es))

-- Other line ends change none of that.

same_behind : (e : LineEnd) (x : Lexeme) (lists : List (Option ℕ)) → behind (lexeme_with e x) lists ≡ behind x lists
same_behind e opening lists = refl
same_behind e closing lists = refl
same_behind e at_sign lists = refl
same_behind e (atom text) lists = refl
same_behind e (line_comment text) lists = refl
same_behind e (block_comment text) lists = refl

same_closing : (e : LineEnd) (x : Lexeme) → is_closing (lexeme_with e x) ≡ is_closing x
same_closing e opening = refl
same_closing e closing = refl
same_closing e at_sign = refl
same_closing e (atom text) = refl
same_closing e (line_comment text) = refl
same_closing e (block_comment text) = refl

ended_lines_fit : (e : LineEnd) (lists : List (Option ℕ)) (es : List Entry) → LinesFit lists es → LinesFit lists (entries_with e es)
ended_lines_fit e lists [] fit = tt
ended_lines_fit e lists (x ∷ xs) fit =
    let next = behind x.lexeme (line_begun lists x.gap (is_closing x.lexeme)) in
    let same : behind (lexeme_with e x.lexeme) (line_begun lists x.gap (is_closing (lexeme_with e x.lexeme))) ≡ next =
    same_behind e x.lexeme (line_begun lists x.gap (is_closing (lexeme_with e x.lexeme))) ∙ ap (λ c. behind x.lexeme (line_begun lists x.gap c)) (same_closing e x.lexeme) in
    (subst (FitsGap lists x.gap) (sym (same_closing e x.lexeme)) fit.0, subst (λ ls. LinesFit ls (entries_with e xs)) (sym same) (ended_lines_fit e next xs fit.1))

pub tidy_lines_fit : (text answer : List ℕ) → IsTidyTextOf text answer → (document : List Entry) × IsDocument (body_of answer) document × LinesFit [] document
tidy_lines_fit text answer t =
    let e = line_end_of text in
    let es = entries_with Lf t.document in
    (entries_with e (placed es), its_document text answer t, ended_lines_fit e [] (placed es) (lines_fit text_start es))
