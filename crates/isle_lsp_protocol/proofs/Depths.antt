-- How deep the data nests that the server sends.
use Rattle.std.proofs.Common.{◌≡◌, ℕ, ℤ, ◌≤◌, ◌+◌, ◌-◌, subst, sym, Bool, List, [], ◌∷◌, ◌++◌, codes, flat_map, Option, None, Some, map, arith, Ordering, Less, Equal, Greater}
use Rattle.serde_json.specs.Data.{Data, null, boolean, number, string, array, object, Members, no_members, member, put, depth, items_depth, members_depth}
use Rattle.serde_json.specs.View.{items_of}
use Rattle.serde_json.specs.Find.{get, get_member}
use Rattle.isle_lsp_text.specs.declared.positions.Position.{Position}
use Rattle.isle_lsp_text.specs.declared.positions.Range.{Range}
use Rattle.isle_lsp_protocol.specs.Capabilities.{initialize_result}
use Rattle.isle_lsp_protocol.specs.Items.{edits_data}
use Rattle.isle_lsp_protocol.specs.Parameters.{if_object, item_of}
use Rattle.isle_lsp_protocol.specs.Replies.{Outcome, done, failed, reply, reply_id, usable_id}
use Rattle.isle_lsp_protocol.specs.Results.{checked_data, completion_item, document_edits, document_symbol, error_data, hover, location, markdown, position_data, range_data, ranged, text_edit, version_data, warning_data, with_documentation, workspace_symbol}
use Rattle.isle_lsp_text.specs.declared.positions.PositionEncoding.{PositionEncoding}
use Rattle.isle_lsp_text.specs.declared.positions.PositionEncoding.TheVariants.{Utf16, Utf8}

-- data that is equal to other data is no deeper
pub at_most : (n : ℕ) (d e : Data) → d ≡ e → depth e ≤ n → depth d ≤ n
at_most n d e same h = subst (λ x. depth x ≤ n) (sym same) h

pub position_depth : (p : Position) → depth (position_data p) ≤ 2
position_depth p = omega arith

pub range_depth : (r : Range) → depth (range_data r) ≤ 3
range_depth r = omega arith

pub text_edit_depth : (r : Range) (text : List ℕ) → depth (text_edit r text) ≤ 4
text_edit_depth r text = omega arith

-- one of three, by an order
abbrev pick : {A : Type 0} → Ordering → A → A → A → A
pick Less a b c = a
pick Equal a b c = b
pick Greater a b c = c

picked : {A : Type 0} (P : A → Type 0) (o : Ordering) (a b c : A) → P a → P b → P c → P (pick o a b c)
picked P Less a b c h k l = h
picked P Equal a b c h k l = k
picked P Greater a b c h k l = l

pub put_depth : (n : ℕ) (k : List ℕ) (d : Data) (ms : Members) → depth d ≤ n → members_depth ms ≤ n → members_depth (put k d ms) ≤ n
put_depth n k d no_members h l = omega arith
put_depth n k d (member q e ms) h l =
    let rest : members_depth ms ≤ n = omega arith in
    let more : members_depth (put k d ms) ≤ n = put_depth n k d ms h rest in
    picked (λ x. members_depth x ≤ n) _ (member k d (member q e ms)) (member q d ms) (member q e (put k d ms)) (omega arith) (omega arith) (omega arith)

abbrev pub IsAtMost : ℕ → Option Data → Type 0
IsAtMost n None = Unit {0}
IsAtMost n (Some d) = depth d ≤ n

member_at_most : (n : ℕ) (k : List ℕ) (ms : Members) → members_depth ms ≤ n → IsAtMost n (get_member k ms)
member_at_most n k no_members h = tt
member_at_most n k (member q f ms) h =
    let rest = member_at_most n k ms (omega arith) in
    picked (IsAtMost n) _ (get_member k ms) (Some f) (get_member k ms) rest (omega arith) rest

pub get_at_most : (n : ℕ) (k : List ℕ) (d : Data) → depth d ≤ n → IsAtMost (n - 1) (get k d)
get_at_most n k null h = tt
get_at_most n k (boolean b) h = tt
get_at_most n k (number x) h = tt
get_at_most n k (string s) h = tt
get_at_most n k (array ds) h = tt
get_at_most n k (object ms) h = member_at_most (n - 1) k ms (omega arith)

if_object_at_most : (n : ℕ) (o : Option Data) → IsAtMost n o → IsAtMost n (if_object o)
if_object_at_most n None h = tt
if_object_at_most n (Some null) h = tt
if_object_at_most n (Some (boolean b)) h = tt
if_object_at_most n (Some (number x)) h = tt
if_object_at_most n (Some (string s)) h = tt
if_object_at_most n (Some (array ds)) h = tt
if_object_at_most n (Some (object ms)) h = h

pub item_at_most : (n : ℕ) (d : Data) → depth d ≤ n → IsAtMost (n - 1) (item_of d)
item_at_most n d h = if_object_at_most (n - 1) (get (codes "params") d) (get_at_most n (codes "params") d h)

-- ---- lists

-- none of these is deeper than this
abbrev pub AreShallow : ℕ → List Data → Type 0
AreShallow n [] = Unit {0}
AreShallow n (d ∷ ds) = (depth d ≤ n) × AreShallow n ds

pub items_shallow : (n : ℕ) (ds : List Data) → AreShallow n ds → items_depth (items_of ds) ≤ n
items_shallow n [] s = omega arith
items_shallow n (d ∷ ds) s = omega (arith, s.0, items_shallow n ds s.1)

pub append_shallow : (n : ℕ) (ds es : List Data) → AreShallow n ds → AreShallow n es → AreShallow n (ds ++ es)
append_shallow n [] es s t = t
append_shallow n (d ∷ ds) es s t = (s.0, append_shallow n ds es s.1 t)

pub map_shallow : {A : Type 0} (n : ℕ) (f : A → Data) (xs : List A) → ((x : A) → depth (f x) ≤ n) → AreShallow n (map f xs)
map_shallow n f [] h = tt
map_shallow n f (x ∷ xs) h = (h x, map_shallow n f xs h)

pub flat_map_shallow : {A : Type 0} (n : ℕ) (f : A → List Data) (xs : List A) → ((x : A) → AreShallow n (f x)) → AreShallow n (flat_map f xs)
flat_map_shallow n f [] h = tt
flat_map_shallow n f (x ∷ xs) h = append_shallow n (f x) (flat_map f xs) (h x) (flat_map_shallow n f xs h)

-- ---- the parts of results

pub edits_depth : (text : List ℕ) (ranges : List Range) → depth (edits_data text ranges) ≤ 5
edits_depth text ranges = omega (arith, items_shallow 4 _ (map_shallow 4 (λ r. text_edit r text) ranges (λ r. text_edit_depth r text)))

pub location_depth : (uri : List ℕ) (r : Range) → depth (location uri r) ≤ 4
location_depth uri r = omega (arith, range_depth r)

pub ranged_depth : (r : Range) → depth (ranged r) ≤ 4
ranged_depth r = omega (arith, range_depth r)

pub symbol_depth : (name : List ℕ) (kind : ℕ) (r selection : Range) → depth (document_symbol name kind r selection) ≤ 4
symbol_depth name kind r selection = omega (arith, range_depth r, range_depth selection)

pub workspace_symbol_depth : (name : List ℕ) (kind : ℕ) (uri : List ℕ) (r : Range) → depth (workspace_symbol name kind uri r) ≤ 5
workspace_symbol_depth name kind uri r = omega (arith, location_depth uri r)

pub completion_depth : (name : List ℕ) (kind : ℕ) (r : Range) → depth (completion_item name kind r) ≤ 5
completion_depth name kind r = omega (arith, text_edit_depth r name)

pub hover_depth : (shown : List ℕ) (r : Range) → depth (hover shown r) ≤ 4
hover_depth shown r = omega (arith, range_depth r)

version_depth : (version : Option ℤ) → depth (version_data version) ≤ 1
version_depth None = omega arith
version_depth (Some v) = omega arith

pub document_edits_depth : (uri : List ℕ) (version : Option ℤ) (text : List ℕ) (ranges : List Range) → depth (document_edits uri version (edits_data text ranges)) ≤ 7
document_edits_depth uri version text ranges = omega (arith, edits_depth text ranges, version_depth version)

pub documented_depth : (n : ℕ) (d : Data) (shown : List ℕ) → depth d ≤ n → 3 ≤ n → depth (with_documentation d shown) ≤ n
documented_depth n null shown h l = h
documented_depth n (boolean b) shown h l = h
documented_depth n (number x) shown h l = h
documented_depth n (string s) shown h l = h
documented_depth n (array ds) shown h l = h
documented_depth n (object ms) shown h l =
    let inner : members_depth ms ≤ n - 1 = omega arith in
    let put_in = put_depth (n - 1) (codes "documentation") (markdown shown) ms (omega arith) inner in
    omega (arith, put_in)

pub initialized_depth : (enc : PositionEncoding) → depth (initialize_result enc) ≤ 5
initialized_depth Utf8 = omega arith
initialized_depth Utf16 = omega arith

pub error_depth : (r : Range) (message : List ℕ) → depth (error_data r message) ≤ 4
error_depth r message = omega (arith, range_depth r)

pub warning_depth : (r : Range) (code message : List ℕ) → depth (warning_data r code message) ≤ 4
warning_depth r code message = omega (arith, range_depth r)

pub checked_depth : (r : Range) (is_error : Bool) (kind message : List ℕ) → depth (checked_data r is_error kind message) ≤ 4
checked_depth r is_error kind message = omega (arith, range_depth r)

-- ---- what is sent

usable_depth : (id : Option Data) → depth (usable_id id) ≤ 1
usable_depth None = omega arith
usable_depth (Some null) = omega arith
usable_depth (Some (boolean b)) = omega arith
usable_depth (Some (number n)) = omega arith
usable_depth (Some (string s)) = omega arith
usable_depth (Some (array ds)) = omega arith
usable_depth (Some (object ms)) = omega arith

reply_id_depth : (d : Option Data) → depth (reply_id d) ≤ 1
reply_id_depth None = omega arith
reply_id_depth (Some d) = usable_depth (get (codes "id") d)

-- the result of an outcome is no deeper than this, if there is one
abbrev pub IsWithin : ℕ → Outcome → Type 0
IsWithin n (done d) = depth d ≤ n
IsWithin n (failed c reason) = Unit {0}

pub within : (n : ℕ) (o p : Outcome) → o ≡ p → IsWithin n p → IsWithin n o
within n o p same h = subst (IsWithin n) (sym same) h

-- a reply that fails is no deeper than this, nor one with a result that leaves room for the reply around it
pub reply_depth : (d : Option Data) (o : Outcome) (n : ℕ) → 2 ≤ n → IsWithin n o → depth (reply (reply_id d) o) ≤ n + 1
reply_depth d (done x) n h w = omega (arith, reply_id_depth d, w)
reply_depth d (failed c reason) n h w = omega (arith, reply_id_depth d)
