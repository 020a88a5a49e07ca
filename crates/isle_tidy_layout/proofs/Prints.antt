-- Prints are tidy.
use Rattle.std.proofs.Common.{◌≡◌, ℕ, suc, ◌+◌, ◌*◌, ◌⊎◌, inl, inr, ⊎_elim, List, [], ◌∷◌, Some, None, Bool, true, false, refl, sym, ap, subst, ◌∙◌, eqb, arith}
use Rattle.std.proofs.lemmas.Bool.{cond_both, eqb-true, eq-eqb}
use Rattle.std.specs.Prelude.{unwrap_or}
use Rattle.isle_tidy_layout.specs.declared.columns.Columns.{Columns}
use Rattle.isle_tidy_layout.specs.declared.entries.Gap.TheVariants.{Beside, Below}
use Rattle.isle_tidy_layout.specs.declared.placing.Head.{Head}
use Rattle.isle_tidy_layout.specs.declared.placing.Head.TheVariants.{NoHead, ListHead, BodyHead, PlainHead}
use Rattle.isle_tidy_layout.specs.declared.placing.Kind.{Kind}
use Rattle.isle_tidy_layout.specs.declared.placing.Kind.TheVariants.{Open, Close, At, Atom}
use Rattle.isle_tidy_layout.specs.Entries.{Lexeme, opening, closing, at_sign, atom, Entry}
use Rattle.isle_tidy_layout.specs.Placing.{tidied, column_after, right_of, result_column, OpenList, usual_column, first_line, line_column, line_of, closings, kind_of, result_width, room, Here, column_of, begun, reached, head_of, argument_more, item_in, item_more, outer, passed, placed_after, text_start, placed, hanging, empty_lines}
use Rattle.isle_tidy_layout.specs.Printed.{Flat, flat_atom, flat_binding, flat_row, Flats, flat_none, flat_more, entry, flat_first, flat_rest, flat_items, Print, whole, binding, broken, Prints, none, more, print_first, print_rest, print_lines, printed_after, printed, is_plain, is_plain_print, HasPlainHeads, HavePlainHeads, AllHavePlainHeads}

abbrev pub IsEven : Columns → Type 0
IsEven c = c.source ≡ c.result

-- the innermost list has more items
abbrev Grown : List OpenList → List OpenList → Type 0
Grown [] after = after ≡ []
Grown (l ∷ ls) after = (m : OpenList) × (after ≡ m ∷ ls) × (m.line ≡ l.line) × (m.lines ≡ l.lines)

grown_self : (ls : List OpenList) → Grown ls ls
grown_self [] = refl
grown_self (l ∷ ls) = (l, refl, refl, refl)

grown_more : (a b c : List OpenList) → Grown a b → Grown b c → Grown a c
grown_more [] b c g h = subst (λ xs. Grown xs c) g h
grown_more (l ∷ ls) b c g h =
    let k = subst (λ xs. Grown xs c) g.1 h in
    (k.0, k.1, k.2 ∙ g.2, k.3 ∙ g.3)

cond_row : (b : Bool) (at : Columns) (l : OpenList) → ((argument_more b at l).line ≡ l.line) × ((argument_more b at l).lines ≡ l.lines)
cond_row true at l = (refl, refl)
cond_row false at l = (refl, refl)

grown_in : (old new : Head) (row : ℕ) (at : Columns) (l : OpenList) → ((item_in old new row at l).line ≡ l.line) × ((item_in old new row at l).lines ≡ l.lines)
grown_in NoHead new row at l = (refl, refl)
grown_in _ new row at l = cond_row (eqb l.row row) at l

grown_item : (head : Head) (row : ℕ) (at : Columns) (ls : List OpenList) → Grown ls (item_more head row at ls)
grown_item head row at [] = refl
grown_item NoHead row at (l ∷ ls) = (l, refl, refl, refl)
grown_item ListHead row at (l ∷ ls) = let k = grown_in l.head ListHead row at l in (item_in l.head ListHead row at l, refl, k.0, k.1)
grown_item BodyHead row at (l ∷ ls) = let k = grown_in l.head BodyHead row at l in (item_in l.head BodyHead row at l, refl, k.0, k.1)
grown_item PlainHead row at (l ∷ ls) = let k = grown_in l.head PlainHead row at l in (item_in l.head PlainHead row at l, refl, k.0, k.1)

grown_outer : (l : OpenList) (ls after : List OpenList) → Grown (l ∷ ls) after → outer after ≡ ls
grown_outer l ls after g = ap outer g.1

-- behind an item
abbrev IsBehind : Kind → Type 0
IsBehind kind = (kind ≡ Close) ⊎ (kind ≡ Atom)

-- one item more
abbrev IsOneItem : List OpenList → List OpenList → Type 0
IsOneItem ls after = (head : Head) × (row : ℕ) × (at : Columns) × (after ≡ item_more head row at ls)

-- what goes on where entries stand as they are placed
record Went (there : Here) (rest : List Entry → List Entry) (first : Lexeme) (plain : Bool) : Type 0 where
  after : Here
  is : (es : List Entry) → placed_after (passed there first) (rest es) ≡ rest (placed_after after es)
  before : IsBehind after.before
  line : after.line ≡ there.line
  row : after.row ≡ there.row
  even : IsEven after.end
  lists : Grown there.lists after.lists
  one : plain ≡ true → IsOneItem there.lists after.lists

one_step : (here : Here) (width : ℕ) (x : Lexeme) (es : List Entry) → result_width (room here.before (kind_of x)) width ≡ width → tidied x ≡ x
    → placed_after here (entry (Beside width) x ∷ es) ≡ entry (Beside width) x ∷ placed_after (passed (reached here (kind_of x) (Beside width) (Beside width)) x) es
one_step here width x es wide same =
    ap (λ (w : ℕ). entry (Beside w) (tidied x) ∷ placed_after (passed (reached here (kind_of x) (Beside width) (Beside w)) x) es) wide
    ∙ ap (λ y. entry (Beside width) y ∷ placed_after (passed (reached here (kind_of x) (Beside width) (Beside width)) x) es) same

first_tidied : (f : Flat) → tidied (flat_first f) ≡ flat_first f
first_tidied (flat_atom text) = refl
first_tidied (flat_binding name f) = refl
first_tidied (flat_row fs) = refl

even_moved : (c : Columns) (width : ℕ) → IsEven c → c.source + width ≡ c.result + width
even_moved c width e = ap (λ n. n + width) e

close_room : (f : Flat) → result_width (room Close (kind_of (flat_first f))) 1 ≡ 1
close_room (flat_atom text) = refl
close_room (flat_binding name f) = refl
close_room (flat_row fs) = refl

atom_room : (f : Flat) → result_width (room Atom (kind_of (flat_first f))) 1 ≡ 1
atom_room (flat_atom text) = refl
atom_room (flat_binding name f) = refl
atom_room (flat_row fs) = refl

at_sign_room : (f : Flat) → result_width (room At (kind_of (flat_first f))) 1 ≡ 1
at_sign_room (flat_atom text) = refl
at_sign_room (flat_binding name f) = refl
at_sign_room (flat_row fs) = refl

open_room : (f : Flat) → result_width (room Open (kind_of (flat_first f))) 0 ≡ 0
open_room (flat_atom text) = refl
open_room (flat_binding name f) = refl
open_room (flat_row fs) = refl

-- one space stands before an item that is behind an item or `@`
item_room : (before : Kind) (f : Flat) → IsBehind before → result_width (room before (kind_of (flat_first f))) 1 ≡ 1
item_room before f (inl e) = ap (λ k. result_width (room k (kind_of (flat_first f))) 1) e ∙ close_room f
item_room before f (inr e) = ap (λ k. result_width (room k (kind_of (flat_first f))) 1) e ∙ atom_room f

mutual
  flat_went : (f : Flat) (there : Here) → IsEven there.end → Went there (flat_rest f) (flat_first f) (is_plain f)
  flat_went (flat_atom text) there even = record {
    after = passed there (atom text);
    is = λ es. refl;
    before = inr refl;
    line = refl;
    row = refl;
    even = ap (λ n. column_after n text) even;
    lists = grown_item (head_of (atom text)) there.row there.end there.lists;
    one = λ _. (head_of (atom text), there.row, there.end, refl);
  }
  flat_went (flat_binding name f) there even =
      let named = passed there (atom name) in
      let at = reached named At (Beside 1) (Beside 1) in
      let signed = passed at at_sign in
      let item = reached signed (kind_of (flat_first f)) (Beside 1) (Beside 1) in
      let even_name : IsEven named.end = ap (λ n. column_after n name) even in
      let even_at_sign : IsEven signed.end = ap suc (even_moved named.end 1 even_name) in
      let w = flat_went f item (even_moved signed.end 1 even_at_sign) in
      record {
        after = w.after;
        is = λ es.
            one_step named 1 at_sign (entry (Beside 1) (flat_first f) ∷ flat_rest f es) refl refl
            ∙ ap (λ xs. entry (Beside 1) at_sign ∷ xs) (one_step signed 1 (flat_first f) (flat_rest f es) (at_sign_room f) (first_tidied f))
            ∙ ap (λ xs. entry (Beside 1) at_sign ∷ entry (Beside 1) (flat_first f) ∷ xs) (w.is es);
        before = w.before;
        line = w.line;
        row = w.row;
        even = w.even;
        lists = grown_more there.lists named.lists w.after.lists (grown_item (head_of (atom name)) there.row there.end there.lists)
            (grown_more named.lists signed.lists w.after.lists (grown_item PlainHead at.row at.end at.lists) w.lists);
        one = λ plain. cc;
      }
  flat_went (flat_row flat_none) there even =
      let opened = passed there opening in
      let shut = reached opened Close (Beside 0) (Beside 0) in
      record {
        after = passed shut closing;
        is = λ es. one_step opened 0 closing es refl refl;
        before = inl refl;
        line = refl;
        row = refl;
        even = ap suc (even_moved opened.end 0 (ap suc even));
        lists = grown_item ListHead there.row there.end there.lists;
        one = λ _. (ListHead, there.row, there.end, refl);
      }
  flat_went (flat_row (flat_more f fs)) there even =
      let opened = passed there opening in
      let item = reached opened (kind_of (flat_first f)) (Beside 0) (Beside 0) in
      let w = flat_went f item (even_moved opened.end 0 (ap suc even)) in
      let i = items_went fs w.after w.before w.even in
      let shut = reached i.0 Close (Beside 0) (Beside 0) in
      let l : OpenList = record { row = there.row; parenthesis = there.end; line = there.line; head = NoHead; arguments = []; lines = None } in
      let inside = item_more ListHead there.row there.end there.lists in
      let same : outer i.0.lists ≡ inside = grown_outer l inside i.0.lists (grown_more (l ∷ inside) w.after.lists i.0.lists w.lists i.6) in
      record {
        after = passed shut closing;
        is = λ es.
            one_step opened 0 (flat_first f) (flat_rest f (flat_items (Beside 1) fs (entry (Beside 0) closing ∷ es))) (open_room f) (first_tidied f)
            ∙ ap (λ xs. entry (Beside 0) (flat_first f) ∷ xs) (w.is (flat_items (Beside 1) fs (entry (Beside 0) closing ∷ es)))
            ∙ ap (λ xs. entry (Beside 0) (flat_first f) ∷ flat_rest f xs) (i.1 (entry (Beside 0) closing ∷ es))
            ∙ ap (λ xs. entry (Beside 0) (flat_first f) ∷ flat_rest f (flat_items (Beside 1) fs xs)) (one_step i.0 0 closing es refl refl);
        before = inl refl;
        line = i.3 ∙ w.line;
        row = i.4 ∙ w.row;
        even = ap suc (even_moved i.0.end 0 i.5);
        lists = subst (λ xs. Grown there.lists xs) (sym same) (grown_item ListHead there.row there.end there.lists);
        one = λ _. (ListHead, there.row, there.end, same);
      }

  -- items behind an item on the line
  items_went : (fs : Flats) (here : Here) → IsBehind here.before → IsEven here.end
      → (after : Here) × ((es : List Entry) → placed_after here (flat_items (Beside 1) fs es) ≡ flat_items (Beside 1) fs (placed_after after es))
      × IsBehind after.before × (after.line ≡ here.line) × (after.row ≡ here.row) × IsEven after.end × Grown here.lists after.lists
  items_went flat_none here before even = (here, λ es. refl, before, refl, refl, even, grown_self here.lists)
  items_went (flat_more f fs) here before even =
      let item = reached here (kind_of (flat_first f)) (Beside 1) (Beside 1) in
      let w = flat_went f item (even_moved here.end 1 even) in
      let i = items_went fs w.after w.before w.even in (
        i.0,
        λ es.
            one_step here 1 (flat_first f) (flat_rest f (flat_items (Beside 1) fs es)) (item_room here.before f before) (first_tidied f)
            ∙ ap (λ xs. entry (Beside 1) (flat_first f) ∷ xs) (w.is (flat_items (Beside 1) fs es))
            ∙ ap (λ xs. entry (Beside 1) (flat_first f) ∷ flat_rest f xs) (i.1 es),
        i.2,
        i.3 ∙ w.line,
        i.4 ∙ w.row,
        i.5,
        grown_more here.lists w.after.lists i.0.lists w.lists i.6,
      )

-- Broken lists.

abbrev at_level : ℕ → Columns
at_level level = record { source = 4 * level; result = 4 * level }

more_even : (column : ℕ) (c : Columns) (cs : List Columns) → IsEven c → result_column column cs ≡ Some column → result_column column (c ∷ cs) ≡ Some column
more_even column c cs even e =
    cond_both (eqb column c.source) (Some c.result) (result_column column cs) (λ o. o ≡ Some column)
    (λ is. ap Some (sym (eqb-true column c.source is ∙ even))) (λ _. e)

first_even : (column : ℕ) (c : Columns) (cs : List Columns) → column ≡ c.source → c.result ≡ column → result_column column (c ∷ cs) ≡ Some column
first_even column c cs e f = rw (eq-eqb column c.source e) (ap Some f)

next_level : (level : ℕ) → 4 * (level + 1) ≡ 4 * level + 4
next_level level = omega arith

even_right : (n : ℕ) (c : Columns) → IsEven c → IsEven (right_of n c)
even_right n c e = ap (λ m. m + n) e

-- the lines of a list whose first item stands alone on its row
first_ready : (level : ℕ) (p line : Columns) → IsEven p → line ≡ at_level level → result_column (4 * (level + 1)) (right_of 1 p ∷ right_of 2 p ∷ right_of 4 p ∷ hanging [] line) ≡ Some (4 * (level + 1))
first_ready level p line even is =
    let c : ℕ = 4 * (level + 1) in
    let l : Columns = at_level level in
    let last = first_even c (right_of 4 l) [] (next_level level) (sym (next_level level)) in
    let lines = more_even c (right_of 2 l) (right_of 4 l ∷ []) refl last in
    let whole_row = more_even c (right_of 1 p) (right_of 2 p ∷ right_of 4 p ∷ hanging [] l) (even_right 1 p even)
    (more_even c (right_of 2 p) (right_of 4 p ∷ hanging [] l) (even_right 2 p even) (more_even c (right_of 4 p) (hanging [] l) (even_right 4 p even) lines)) in
    subst (λ (x : Columns). result_column c (right_of 1 p ∷ right_of 2 p ∷ right_of 4 p ∷ hanging [] x) ≡ Some c) (sym is) whole_row

-- a line of the innermost list begins at this column
abbrev IsReady : OpenList → ℕ → Type 0
IsReady m column = unwrap_or m.lines (first_line m column) ≡ column

first_item : (head : Head) (row : ℕ) (at : Columns) (l : OpenList) (ls : List OpenList) → l.head ≡ NoHead → item_more head row at (l ∷ ls) ≡ record l { head = head } ∷ ls
first_item NoHead row at l ls e = ap (λ (h : Head). let m : OpenList = record l { head = h } in m ∷ ls) e
first_item ListHead row at l ls e = ap (λ (h : Head). item_in h ListHead row at l ∷ ls) e
first_item BodyHead row at l ls e = ap (λ (h : Head). item_in h BodyHead row at l ∷ ls) e
first_item PlainHead row at l ls e = ap (λ (h : Head). item_in h PlainHead row at l ∷ ls) e

print_tidied : (p : Print) → tidied (print_first p) ≡ print_first p
print_tidied (whole f) = first_tidied f
print_tidied (binding name p) = refl
print_tidied (broken p ps) = refl

flat_kind : (f : Flat) → (kind_of (flat_first f) ≡ Atom) ⊎ (kind_of (flat_first f) ≡ Open)
flat_kind (flat_atom text) = inl refl
flat_kind (flat_binding name f) = inl refl
flat_kind (flat_row fs) = inr refl

print_kind : (p : Print) → (kind_of (print_first p) ≡ Atom) ⊎ (kind_of (print_first p) ≡ Open)
print_kind (whole f) = flat_kind f
print_kind (binding name p) = inl refl
print_kind (broken p ps) = inr refl

at_sign_width : (p : Print) → result_width (room At (kind_of (print_first p))) 1 ≡ 1
at_sign_width p = ⊎_elim (λ e. ap (λ k. result_width (room At k) 1) e) (λ e. ap (λ k. result_width (room At k) 1) e) (print_kind p)

open_width : (p : Print) → result_width (room Open (kind_of (print_first p))) 0 ≡ 0
open_width p = ⊎_elim (λ e. ap (λ k. result_width (room Open k) 0) e) (λ e. ap (λ k. result_width (room Open k) 0) e) (print_kind p)

record PrintWent (level : ℕ) (p : Print) (there : Here) : Type 0 where
  after : Here
  is : (es : List Entry) → closings es ≡ 0 → placed_after (passed there (print_first p)) (print_rest level p es) ≡ print_rest level p (placed_after after es)
  before : IsBehind after.before
  line : after.line ≡ at_level level
  even : IsEven after.end
  lists : Grown there.lists after.lists
  one : is_plain_print p ≡ true → IsOneItem there.lists after.lists

-- lines in the innermost list
record LinesWent (level : ℕ) (ps : Prints) (here : Here) (m : OpenList) (ls : List OpenList) : Type 0 where
  after : Here
  is : (es : List Entry) → closings es ≡ 0 → placed_after here (print_lines level ps es) ≡ print_lines level ps (placed_after after es)
  before : IsBehind after.before
  last : OpenList
  lists : after.lists ≡ last ∷ ls
  line : last.line ≡ m.line

no_closings : (level : ℕ) (ps : Prints) (es : List Entry) → closings es ≡ 0 → closings (print_lines level ps es) ≡ 0
no_closings level none es h = h
no_closings level (more p ps) es h = refl

no_empty : (before : Kind) → IsBehind before → empty_lines before 0 ≡ 0
no_empty before (inl e) = ap (λ k. empty_lines k 0) e
no_empty before (inr e) = ap (λ k. empty_lines k 0) e

item_column : (ls : List OpenList) (p : Print) (count column : ℕ) → column_of ls (kind_of (print_first p)) count column ≡ line_column ls column
item_column ls p count column =
    ⊎_elim (λ e. ap (λ k. column_of ls k count column) e) (λ e. ap (λ k. column_of ls k count column) e) (print_kind p)

item_begun : (ls : List OpenList) (m : OpenList) (p : Print) (column : ℕ) → begun (kind_of (print_first p)) column (m ∷ ls) ≡ record m { lines = Some column } ∷ ls
item_begun ls m p column =
    ⊎_elim (λ e. ap (λ k. begun k column (m ∷ ls)) e) (λ e. ap (λ k. begun k column (m ∷ ls)) e) (print_kind p)

line_step : (here : Here) (empty column : ℕ) (x : Lexeme) (es : List Entry) → tidied x ≡ x → empty_lines here.before empty ≡ empty → column_of here.lists (kind_of x) (closings es) column ≡ column
    → placed_after here (entry (Below empty column) x ∷ es) ≡ entry (Below empty column) x ∷ placed_after (passed (reached here (kind_of x) (Below empty column) (Below empty column)) x) es
line_step here empty column x es same empties columns =
    ap (λ (n : ℕ). entry (Below n (column_of here.lists (kind_of x) (closings es) column)) (tidied x) ∷ placed_after (passed (reached here (kind_of x) (Below empty column) (Below n (column_of here.lists (kind_of x) (closings es) column))) x) es) empties
    ∙ ap (λ (n : ℕ). entry (Below empty n) (tidied x) ∷ placed_after (passed (reached here (kind_of x) (Below empty column) (Below empty n)) x) es) columns
    ∙ ap (λ y. entry (Below empty column) y ∷ placed_after (passed (reached here (kind_of x) (Below empty column) (Below empty column)) x) es) same

mutual
  print_went : (p : Print) (level : ℕ) (there : Here) → HasPlainHeads p → IsEven there.end → there.line ≡ at_level level → PrintWent level p there
  print_went (whole f) level there plain even line =
      let w = flat_went f there even in
      record { after = w.after; is = λ es _. w.is es; before = w.before; line = w.line ∙ line; even = w.even; lists = w.lists; one = w.one }
  print_went (binding name p) level there plain even line =
      let named = passed there (atom name) in
      let at = reached named At (Beside 1) (Beside 1) in
      let signed = passed at at_sign in
      let item = reached signed (kind_of (print_first p)) (Beside 1) (Beside 1) in
      let even_name : IsEven named.end = ap (λ n. column_after n name) even in
      let even_at_sign : IsEven signed.end = ap suc (even_moved named.end 1 even_name) in
      let w = print_went p level item plain (even_moved signed.end 1 even_at_sign) line in
      record {
        after = w.after;
        is = λ es shut.
            one_step named 1 at_sign (entry (Beside 1) (print_first p) ∷ print_rest level p es) refl refl
            ∙ ap (λ xs. entry (Beside 1) at_sign ∷ xs) (one_step signed 1 (print_first p) (print_rest level p es) (at_sign_width p) (print_tidied p))
            ∙ ap (λ xs. entry (Beside 1) at_sign ∷ entry (Beside 1) (print_first p) ∷ xs) (w.is es shut);
        before = w.before;
        line = w.line;
        even = w.even;
        lists = grown_more there.lists named.lists w.after.lists (grown_item (head_of (atom name)) there.row there.end there.lists)
            (grown_more named.lists signed.lists w.after.lists (grown_item PlainHead at.row at.end at.lists) w.lists);
        one = λ h. cc;
      }
  print_went (broken p ps) level there plain even line =
      let opened = passed there opening in
      let item = reached opened (kind_of (print_first p)) (Beside 0) (Beside 0) in
      let w = print_went p level item plain.1 (even_moved opened.end 0 (ap suc even)) line in
      let l : OpenList = record { row = there.row; parenthesis = there.end; line = there.line; head = NoHead; arguments = []; lines = None } in
      let inside = item_more ListHead there.row there.end there.lists in
      let one = w.one plain.0 in
      let m : OpenList = record l { head = one.0 } in
      let here_lists : w.after.lists ≡ m ∷ inside = one.3 ∙ first_item one.0 one.1 one.2 l inside refl in
      let ready : IsReady m (4 * (level + 1)) = ap (λ o. unwrap_or o (usual_column one.0 there.end [])) (first_ready level there.end there.line even line) in
      let lines = lines_went ps level w.after m inside plain.2 w.before here_lists ready in
      let shut = reached lines.after Close (Below 0 (4 * level)) (Below 0 (4 * level)) in
      let level_is : lines.last.line.result ≡ 4 * level = ap (λ (c : Columns). c.result) (lines.line ∙ line) in
      let same : outer shut.lists ≡ inside = ap (λ xs. outer (begun Close (4 * level) xs)) lines.lists in
      record {
        after = passed shut closing;
        is = λ es none_after.
            let column : line_of lines.after.lists (closings es) ≡ 4 * level = ap (λ n. line_of lines.after.lists n) none_after ∙ ap (λ xs. line_of xs 0) lines.lists ∙ level_is in
            one_step opened 0 (print_first p) (print_rest level p (print_lines level ps (entry (Below 0 (4 * level)) closing ∷ es))) (open_width p) (print_tidied p)
            ∙ ap (λ xs. entry (Beside 0) (print_first p) ∷ xs) (w.is (print_lines level ps (entry (Below 0 (4 * level)) closing ∷ es)) (no_closings level ps (entry (Below 0 (4 * level)) closing ∷ es) refl))
            ∙ ap (λ xs. entry (Beside 0) (print_first p) ∷ print_rest level p xs) (lines.is (entry (Below 0 (4 * level)) closing ∷ es) refl)
            ∙ ap (λ xs. entry (Beside 0) (print_first p) ∷ print_rest level p (print_lines level ps xs)) (line_step lines.after 0 (4 * level) closing es refl (no_empty lines.after.before lines.before) column);
        before = inl refl;
        line = refl;
        even = refl;
        lists = subst (λ xs. Grown there.lists xs) (sym same) (grown_item ListHead there.row there.end there.lists);
        one = λ _. (ListHead, there.row, there.end, same);
      }

  lines_went : (ps : Prints) (level : ℕ) (here : Here) (m : OpenList) (ls : List OpenList) → HavePlainHeads ps → IsBehind here.before → here.lists ≡ m ∷ ls → IsReady m (4 * (level + 1)) → LinesWent level ps here m ls
  lines_went none level here m ls plain before lists ready = record { after = here; is = λ es _. refl; before = before; last = m; lists = lists; line = refl }
  lines_went (more p ps) level here m ls plain before lists ready =
      let c : ℕ = 4 * (level + 1) in
      let kind = kind_of (print_first p) in
      let there = reached here kind (Below 0 c) (Below 0 c) in
      let known : OpenList = record m { lines = Some c } in
      let began : there.lists ≡ known ∷ ls = ap (begun kind c) lists ∙ item_begun ls m p c in
      let w = print_went p (level + 1) there plain.0 refl refl in
      let grown = subst (λ xs. Grown xs w.after.lists) began w.lists in
      let ready_again : IsReady grown.0 (4 * (level + 1)) = ap (λ o. unwrap_or o (first_line grown.0 c)) grown.3 in
      let i = lines_went ps level w.after grown.0 ls plain.1 w.before grown.1 ready_again in
      record {
        after = i.after;
        is = λ es shut.
            let more_after = print_rest (level + 1) p (print_lines level ps es) in
            let column : column_of here.lists kind (closings more_after) c ≡ c =
            item_column here.lists p (closings more_after) c ∙ ap (λ xs. line_column xs c) lists ∙ ready in
            line_step here 0 c (print_first p) more_after (print_tidied p) (no_empty here.before before) column
            ∙ ap (λ xs. entry (Below 0 c) (print_first p) ∷ xs) (w.is (print_lines level ps es) (no_closings level ps es shut))
            ∙ ap (λ xs. entry (Below 0 c) (print_first p) ∷ print_rest (level + 1) p xs) (i.is es shut);
        before = i.before;
        last = i.last;
        lists = i.lists;
        line = i.line ∙ grown.2;
      }

-- A whole print.

after_closings : (ps : List Print) → closings (printed_after ps) ≡ 0
after_closings [] = refl
after_closings (p ∷ ps) = refl

one_empty : (before : Kind) → IsBehind before → empty_lines before 1 ≡ 1
one_empty before (inl e) = ap (λ k. empty_lines k 1) e
one_empty before (inr e) = ap (λ k. empty_lines k 1) e

no_lists : (ls : List OpenList) (p : Print) (count : ℕ) → ls ≡ [] → column_of ls (kind_of (print_first p)) count 0 ≡ 0
no_lists ls p count e = item_column ls p count 0 ∙ ap (λ xs. line_column xs 0) e

begun_none : (ls : List OpenList) (kind : Kind) → ls ≡ [] → begun kind 0 ls ≡ []
begun_none ls kind e = ap (begun kind 0) e

after_tidy : (ps : List Print) (here : Here) → AllHavePlainHeads ps → IsBehind here.before → here.lists ≡ [] → placed_after here (printed_after ps) ≡ printed_after ps
after_tidy [] here plain before lists = refl
after_tidy (p ∷ ps) here plain before lists =
    let kind = kind_of (print_first p) in
    let there = reached here kind (Below 1 0) (Below 1 0) in
    let w = print_went p 0 there plain.0 refl refl in
    let ends : w.after.lists ≡ [] = subst (λ xs. Grown xs w.after.lists) (begun_none here.lists kind lists) w.lists in
    line_step here 1 0 (print_first p) (print_rest 0 p (printed_after ps)) (print_tidied p) (one_empty here.before before) (no_lists here.lists p (closings (print_rest 0 p (printed_after ps))) lists)
    ∙ ap (λ xs. entry (Below 1 0) (print_first p) ∷ xs) (w.is (printed_after ps) (after_closings ps))
    ∙ ap (λ xs. entry (Below 1 0) (print_first p) ∷ print_rest 0 p xs) (after_tidy ps w.after plain.1 w.before ends)

pub prints_tidy : (ps : List Print) → AllHavePlainHeads ps → placed (printed ps) ≡ printed ps
prints_tidy [] plain = refl
prints_tidy (p ∷ ps) plain =
    let kind = kind_of (print_first p) in
    let there = reached text_start kind (Below 0 0) (Below 0 0) in
    let w = print_went p 0 there plain.0 refl refl in
    let ends : w.after.lists ≡ [] = subst (λ xs. Grown xs w.after.lists) (begun_none [] kind refl) w.lists in
    line_step text_start 0 0 (print_first p) (print_rest 0 p (printed_after ps)) (print_tidied p) refl (no_lists [] p (closings (print_rest 0 p (printed_after ps))) refl)
    ∙ ap (λ xs. entry (Below 0 0) (print_first p) ∷ xs) (w.is (printed_after ps) (after_closings ps))
    ∙ ap (λ xs. entry (Below 0 0) (print_first p) ∷ print_rest 0 p xs) (after_tidy ps w.after plain.1 w.before ends)
