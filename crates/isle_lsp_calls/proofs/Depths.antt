-- How deep the answers about calls nest.
use Rattle.std.proofs.Common.{◌≤◌, ◌+◌, ℕ, List, [], ◌∷◌, Bool, true, false, Option, None, Some, if◌then◌else◌, arith, length, nat_lt, slice_get, subst, sym}
use Rattle.serde_json.specs.Data.{Data, array, depth}
use Rattle.serde_json.specs.View.{items_of}
use Rattle.isle_index.specs.declared.occurrences.Occurrence.{Occurrence}
use Rattle.isle_lsp_calls.specs.Incoming.{AreIncomingFrom, IsIncoming, by_caller, incoming_in}
use Rattle.isle_lsp_calls.specs.Items.{IsFirstItem, IsItemAt, IsPrepared, item_list, pos, range_of, term_at}
use Rattle.isle_lsp_calls.specs.Outgoing.{AreCallsOf, IsCallTo, IsOutgoing}
use Rattle.isle_lsp_calls.specs.Ranges.{calls_in}
use Rattle.isle_lsp_calls.specs.Sources.{Source}
use Rattle.isle_lsp_protocol.proofs.Depths.{AreShallow, IsAtMost, append_shallow, at_most, flat_map_shallow, items_shallow, map_shallow, range_depth}
use Rattle.isle_lsp_protocol.specs.Results.{call_item, outgoing_call, range_data, ranges_data}
use Rattle.isle_lsp_text.specs.Ranges.{range_at, range_between}
use Rattle.isle_lsp_text.specs.Wholes.{whole_of}
use Rattle.isle_lsp_text.specs.declared.calls.Caller.{Caller}
use Rattle.isle_lsp_text.specs.declared.positions.Range.{Range}
use Rattle.isle_resolve.specs.Names.{NameNode, global, name_text}
use Rattle.isle_resolve.specs.Scopes.{SeenNode}
use Rattle.isle_resolve.specs.declared.event.Kind.TheVariants as kinds
use Rattle.isle_lsp_text.specs.declared.positions.PositionEncoding.{PositionEncoding}

array_depth : (n : ℕ) (ds : List Data) → AreShallow n ds → depth (array (items_of ds)) ≤ n + 1
array_depth n ds s = omega (arith, items_shallow n ds s)

-- none of them, or all
unless_shallow : (n : ℕ) (none : Bool) (ds : List Data) → AreShallow n ds → AreShallow n (if none then [] else ds)
unless_shallow n true ds s = tt
unless_shallow n false ds s = s

ranges_depth : (rs : List Range) → depth (ranges_data rs) ≤ 4
ranges_depth rs = omega (arith, items_shallow 3 _ (map_shallow 3 range_data rs range_depth))

call_item_depth : (name uri : List ℕ) (r selection : Range) → depth (call_item name uri r selection) ≤ 4
call_item_depth name uri r selection = omega (arith, range_depth r, range_depth selection)

-- ---- items

item_at_most : (s : Option Source) (name : NameNode) (o : Occurrence) (item : Option Data) → IsItemAt s name o item → IsAtMost 4 item
item_at_most None name o item is = subst (IsAtMost 4) (sym is) tt
item_at_most (Some s) name o item (d, (lists, are, made), is) =
    let whole = range_of s.encoding s.text (whole_of s.text lists (nat_lt o.len (length (name_text name))) o.pos.offset o.len) in
    subst (IsAtMost 4) (sym is) (at_most 4 _ _ made (call_item_depth (name_text name) s.uri whole (range_at s.encoding s.text o.pos.offset o.len)))

first_at_most : (program : List Source) (name : NameNode) (o : Option Occurrence) (item : Option Data) → IsFirstItem program name o item → IsAtMost 4 item
first_at_most program name None item is = subst (IsAtMost 4) (sym is) tt
first_at_most program name (Some o) item h = item_at_most (slice_get program o.pos.file) name o item h

list_depth : (item : Option Data) → IsAtMost 4 item → depth (item_list item) ≤ 5
list_depth None h = omega arith
list_depth (Some d) h = array_depth 4 (d ∷ []) (h, tt)

pub prepared_depth : (program : List Source) (term : Option NameNode) (all : List SeenNode) (d : Data) → IsPrepared program term all d → depth d ≤ 6
prepared_depth program None all d h = at_most 6 _ _ h (omega arith)
prepared_depth program (Some term) all d (item, (found, order, first), is) =
    omega (arith, at_most 5 _ _ is (list_depth item (first_at_most program term (slice_get found 0) item first)))

-- ---- incoming calls

caller_shallow : (s : Source) (c : Caller) (implemented : Option NameNode) (rs : List Range) → AreShallow 5 (by_caller s c implemented rs)
caller_shallow s c None rs = tt
caller_shallow s c (Some term) rs =
    let name : List ℕ = name_text term in
    (omega (arith, call_item_depth name s.uri (range_between s.encoding s.text c.from c.to) (range_at s.encoding s.text c.name (length name)), ranges_depth rs), tt)

incoming_shallow : (number : ℕ) (s : Source) (all : List SeenNode) (found : List Occurrence) (c : Caller) → AreShallow 5 (incoming_in number s all found c)
incoming_shallow number s all found c =
    let rs : List Range = calls_in s.encoding number s.text (c ∷ []) found in
    unless_shallow 5 _ _ (caller_shallow s c (term_at (pos number c.name) all) rs)

texts_shallow : (number : ℕ) (program : List Source) (all : List SeenNode) (found : List Occurrence) (ds : List Data) → AreIncomingFrom number program all found ds → AreShallow 5 ds
texts_shallow number [] all found ds is = subst (AreShallow 5) (sym is) tt
texts_shallow number (s ∷ ss) all found ds (here, rest, (callers, are, made), others, is) =
    let first : AreShallow 5 here = subst (AreShallow 5) (sym made) (flat_map_shallow 5 (incoming_in number s all found) callers (incoming_shallow number s all found)) in
    subst (AreShallow 5) (sym is) (append_shallow 5 here rest first (texts_shallow (number + 1) ss all found rest others))

pub incoming_depth : (program : List Source) (term : Option NameNode) (all : List SeenNode) (d : Data) → IsIncoming program term all d → depth d ≤ 6
incoming_depth program None all d h = at_most 6 _ _ h (omega arith)
incoming_depth program (Some term) all d (found, ds, order, are, is) = at_most 6 _ _ is (array_depth 5 ds (texts_shallow 0 program all found ds are))

-- ---- outgoing calls

calls_shallow : (enc : PositionEncoding) (number : ℕ) (text : List ℕ) (callers : List Caller) (all : List SeenNode) (term : NameNode) (item : Option Data) (ds : List Data) → IsAtMost 4 item
    → IsCallTo enc number text callers all term item ds → AreShallow 5 ds
calls_shallow enc number text callers all term None ds h is = subst (AreShallow 5) (sym is) tt
calls_shallow enc number text callers all term (Some to) ds h (found, order, is) =
    let rs : List Range = calls_in enc number text callers found in
    let made : AreShallow 5 (outgoing_call to rs ∷ []) = (omega (arith, h, ranges_depth rs), tt) in
    subst (AreShallow 5) (sym is) (unless_shallow 5 _ (outgoing_call to rs ∷ []) made)

words_shallow : (enc : PositionEncoding) (program : List Source) (number : ℕ) (text : List ℕ) (callers : List Caller) (all : List SeenNode) (words : List (List ℕ)) (ds : List Data)
    → AreCallsOf enc program number text callers all words ds → AreShallow 5 ds
words_shallow enc program number text callers all [] ds is = subst (AreShallow 5) (sym is) tt
words_shallow enc program number text callers all (w ∷ ws) ds (here, rest, (item, (found, order, first), call), others, is) =
    let made : AreShallow 5 here = calls_shallow enc number text callers all (global kinds.Term w) item here (first_at_most program _ (slice_get found 0) item first) call in
    subst (AreShallow 5) (sym is) (append_shallow 5 here rest made (words_shallow enc program number text callers all ws rest others))

pub outgoing_depth : (enc : PositionEncoding) (program : List Source) (number : ℕ) (text : List ℕ) (term : Option NameNode) (at : Option Occurrence) (all : List SeenNode) (d : Data)
    → IsOutgoing enc program number text term at all d → depth d ≤ 6
outgoing_depth enc program number text None at all d h = at_most 6 _ _ h (omega arith)
outgoing_depth enc program number text (Some term) None all d h = at_most 6 _ _ h (omega arith)
outgoing_depth enc program number text (Some term) (Some at) all d (found, order, (callers, words, ds, asked, read, calls, is)) =
    at_most 6 _ _ is (array_depth 5 ds (words_shallow enc program number text callers all words ds calls))
