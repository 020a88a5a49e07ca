-- Whether a name can be renamed, and which positions change.
use Rattle.std.specs.Prelude.{ℕ, List, [], ◌∷◌, Bool, true, false, ◌&&◌, ◌||◌, not, Option, None, Some, Result, Ok, Err, map, filter, codes, string_bytes, if◌then◌else◌, ◌==◌, ◌≡◌}
use Rattle.std.specs.List.{filter_map, list_any}
use Rattle.std.specs.List.Sorted.{IsPermutation, IsSorted}
use Rattle.std.specs.Global.{Vec}
use Rattle.std.specs.Str.{bytes_eq}
use Rattle.isle_base.specs.Skips.{begins_with}
use Rattle.isle_base_source.specs.PositionOrder.{position_cmp}
use Rattle.isle_base_source.specs.declared.pos.Pos.{Pos}
use Rattle.isle_ast_names.specs.Identifier.{is_identifier}
use Rattle.isle_ast_names.specs.Words.{is_dollar}
use Rattle.isle_resolve.specs.declared.event.Kind.{Kind}
use Rattle.isle_resolve.specs.declared.event.Kind.TheVariants as kinds
use Rattle.isle_resolve.specs.declared.event.Role.{Role}
use Rattle.isle_resolve.specs.declared.event.Role.TheVariants as roles
use Rattle.isle_resolve.specs.Event.{EventNode, defines, uses, defines_variant, occurs, binds, reads, closes, ends}
use Rattle.isle_resolve.specs.Scopes.{SeenNode, seen}
use Rattle.isle_resolve.specs.Names.{NameNode, global, variable, gives, is_of, is_number, joined, name_text, same_kind}
use Rattle.isle_index.specs.declared.parts.Part as code
use Rattle.isle_index.specs.declared.parts.Part.TheVariants as parts
use Rattle.isle_index.specs.declared.parts.Variant.{Variant}
use Rattle.isle_index.specs.declared.rename.Refusal.{Refusal}
use Rattle.isle_index.specs.declared.rename.Refusal.TheVariants as refusals

-- the words that the grammar parses as something other than a name, at some place of a name
abbrev pub is_reserved : List ℕ → Bool
is_reserved text =
    bytes_eq text (codes "_") || bytes_eq text (codes "true") || bytes_eq text (codes "false") || bytes_eq text (codes "and")
    || bytes_eq text (codes "let") || bytes_eq text (codes "if") || bytes_eq text (codes "rule") || bytes_eq text (codes "pure")
    || bytes_eq text (codes "multi") || bytes_eq text (codes "partial") || bytes_eq text (codes "rec")
    || bytes_eq text (codes "infallible")

-- whether a text can be a new name: an identifier that does not begin with `$` and is no reserved word
abbrev pub is_new_name : List ℕ → Bool
is_new_name text = is_identifier text && not (begins_with is_dollar text) && not (is_reserved text)

-- the variant of this type that an event defines, if it defines one
abbrev pub member_of : List ℕ → EventNode → Option (List ℕ)
member_of owner (defines_variant o m) = if bytes_eq o.text owner then Some m.text else None
member_of owner (defines _ _) = None
member_of owner (uses _ _) = None
member_of owner (occurs _ _) = None
member_of owner (binds _) = None
member_of owner (reads _) = None
member_of owner closes = None
member_of owner ends = None

-- the variants of a type
abbrev pub members : List ℕ → List SeenNode → List (List ℕ)
members owner ss = filter_map (λ s. member_of owner s.event) ss

-- whether a text is the name of one of these variants of a type
abbrev pub is_member : List ℕ → List (List ℕ) → List ℕ → Bool
is_member owner ms text = list_any (λ m. bytes_eq (joined owner m) text) ms

-- whether an event is one of these variants of a type, with the type's name before it
abbrev pub writes_member : List ℕ → List (List ℕ) → EventNode → Bool
writes_member owner ms (defines kind name) = same_kind kind kinds.Term && is_member owner ms name.text
writes_member owner ms (uses kind name) = same_kind kind kinds.Term && is_member owner ms name.text
writes_member owner ms (defines_variant _ _) = false
writes_member owner ms (occurs _ _) = false
writes_member owner ms (binds _) = false
writes_member owner ms (reads _) = false
writes_member owner ms closes = false
writes_member owner ms ends = false

-- a variant of a type
pub record VariantNode : Type 0 where
  pub owner : List ℕ
  pub member : List ℕ

abbrev pub variant_view : Variant → VariantNode
variant_view v = record { owner = v.owner.now; member = v.member.now }

-- the variant that an event defines, if it is this term
abbrev pub variant_of : List ℕ → EventNode → Option VariantNode
variant_of term (defines_variant o m) =
    if bytes_eq (joined o.text m.text) term then Some (record { owner = o.text; member = m.text }) else None
variant_of term (defines _ _) = None
variant_of term (uses _ _) = None
variant_of term (occurs _ _) = None
variant_of term (binds _) = None
variant_of term (reads _) = None
variant_of term closes = None
variant_of term ends = None

abbrev pub or_later : Option VariantNode → Option VariantNode → Option VariantNode
or_later (Some v) later = Some v
or_later None later = later

-- the first variant that is this term, if one is
abbrev pub first_variant : List ℕ → List SeenNode → Option VariantNode
first_variant term [] = None
first_variant term (s ∷ ss) = or_later (variant_of term s.event) (first_variant term ss)

-- the text of an event's variable
abbrev pub variable_text : EventNode → List ℕ
variable_text (defines _ _) = []
variable_text (uses _ _) = []
variable_text (defines_variant _ _) = []
variable_text (occurs _ name) = name.text
variable_text (binds name) = name.text
variable_text (reads name) = name.text
variable_text closes = []
variable_text ends = []

-- whether an event has a variable that the event of this number binds, with this text
abbrev pub is_variable : ℕ → List ℕ → SeenNode → Bool
is_variable binder text s = is_number binder s.binder && bytes_eq (variable_text s.event) text

-- whether renaming a name changes the text of an event. A type's variants, which are these, change with it
abbrev pub changes : List (List ℕ) → NameNode → SeenNode → Bool
changes ms (global kinds.Type text) s = gives kinds.Type text s.event || writes_member text ms s.event
changes ms (global kinds.Term text) s = gives kinds.Term text s.event
changes ms (global kinds.Constant text) s = gives kinds.Constant text s.event
changes ms (variable binder text) s = is_variable binder text s

-- the position of an event's name
abbrev pub position : EventNode → Option Pos
position (defines _ name) = Some name.pos
position (uses _ name) = Some name.pos
position (defines_variant _ member) = Some member.pos
position (occurs _ name) = Some name.pos
position (binds name) = Some name.pos
position (reads name) = Some name.pos
position closes = None
position ends = None

-- the positions that change, in the order of the events
abbrev pub changed_places : NameNode → List SeenNode → List Pos
changed_places name ss =
    filter_map (λ s. position s.event) (filter (changes (members (name_text name) ss) name) ss)

-- whether an event defines something. `own` says whether it binds its variable
abbrev pub is_definition : EventNode → Bool → Bool
is_definition (defines _ _) own = true
is_definition (uses _ _) own = false
is_definition (defines_variant _ _) own = true
is_definition (occurs _ _) own = own
is_definition (binds _) own = own
is_definition (reads _) own = own
is_definition closes own = false
is_definition ends own = false

-- whether an event defines this name
abbrev pub defines_it : NameNode → SeenNode → Bool
defines_it name s = is_of name s && is_definition s.event (is_number s.number s.binder)

-- whether an event defines a variant that is this term
abbrev pub gives_variant : List ℕ → EventNode → Bool
gives_variant term (defines_variant o m) = bytes_eq (joined o.text m.text) term
gives_variant term (defines _ _) = false
gives_variant term (uses _ _) = false
gives_variant term (occurs _ _) = false
gives_variant term (binds _) = false
gives_variant term (reads _) = false
gives_variant term closes = false
gives_variant term ends = false

-- the part of a name that gets the new text
pub data Part : Type 0 where
  -- all of this text
  whole_text : List ℕ → Part
  -- The text of a variant, behind its type and a dot. Where the variant is defined, at these positions, it stands alone.
  behind_type : (owner text : List ℕ) → (alone : List Pos) → Part

abbrev pub part_view : code.Part → Part
part_view (parts.WholeText text) = whole_text (string_bytes text)
part_view (parts.BehindType owner text alone) = behind_type (string_bytes owner) (string_bytes text) alone.items

-- the positions where the variants are defined that are this term
abbrev pub alone_places : List ℕ → List SeenNode → List Pos
alone_places term ss = filter_map (λ s. position s.event) (filter (λ s. gives_variant term s.event) ss)

abbrev pub part_by : List ℕ → Option VariantNode → List SeenNode → Part
part_by term None ss = whole_text term
part_by term (Some v) ss = behind_type v.owner v.member (alone_places term ss)

abbrev pub part_of : NameNode → List SeenNode → Part
part_of (global kinds.Term text) ss = part_by text (first_variant text ss) ss
part_of (global kinds.Type text) ss = whole_text text
part_of (global kinds.Constant text) ss = whole_text text
part_of (variable _ text) ss = whole_text text

-- the text that a part has
abbrev pub part_text : Part → List ℕ
part_text (whole_text text) = text
part_text (behind_type owner text alone) = text

-- the text of the whole name, where its part has this text
abbrev pub with_part : Part → List ℕ → List ℕ
with_part (whole_text _) text = text
with_part (behind_type owner _ alone) text = joined owner text

-- whether something of a kind has this text
abbrev pub has : Kind → List ℕ → List SeenNode → Bool
has kind text ss = list_any (λ s. gives kind text s.event) ss

-- whether the new name of one of these variants of a type is that of another term
abbrev pub has_member : List ℕ → List (List ℕ) → List SeenNode → Bool
has_member new ms ss = list_any (λ m. has kinds.Term (joined new m) ss) ms

-- whether an event defines a variant of another type that is the same term as one of these variants of a type
abbrev pub shares : List ℕ → List (List ℕ) → EventNode → Bool
shares owner ms (defines_variant o m) = not (bytes_eq o.text owner) && is_member owner ms (joined o.text m.text)
shares owner ms (defines _ _) = false
shares owner ms (uses _ _) = false
shares owner ms (occurs _ _) = false
shares owner ms (binds _) = false
shares owner ms (reads _) = false
shares owner ms closes = false
shares owner ms ends = false

abbrev pub type_is_taken : List ℕ → List ℕ → List (List ℕ) → List SeenNode → Bool
type_is_taken old new ms ss = has kinds.Type new ss || (has_member new ms ss || list_any (λ s. shares old ms s.event) ss)

-- whether a part is the variant of one type, and an event defines a variant of another type that is the same term
abbrev pub is_double : Part → List SeenNode → Bool
is_double (whole_text _) ss = false
is_double (behind_type owner text alone) ss = list_any (λ s. shares owner (text ∷ []) s.event) ss

-- whether something else has the new name already, or a type's variant the new name of one of its variants
abbrev pub is_taken : NameNode → List ℕ → List SeenNode → Bool
is_taken (global kinds.Type text) new ss = type_is_taken text new (members text ss) ss
is_taken (global kinds.Term text) new ss = has kinds.Term (with_part (part_of (global kinds.Term text) ss) new) ss
is_taken (global kinds.Constant text) new ss = has kinds.Constant new ss
is_taken (variable _ _) new ss = false

-- an event with another text in its variable
abbrev pub with_text : List ℕ → EventNode → EventNode
with_text new (occurs role name) = occurs role (record { text = new; pos = name.pos })
with_text new (binds name) = binds (record { text = new; pos = name.pos })
with_text new (reads name) = reads (record { text = new; pos = name.pos })
with_text new e = e

abbrev pub renamed_variable : ℕ → List ℕ → List ℕ → SeenNode → EventNode
renamed_variable binder old new s = if is_variable binder old s then with_text new s.event else s.event

-- the same variables are bound by the same events
abbrev pub same_binder : Option ℕ → Option ℕ → Bool
same_binder None None = true
same_binder None (Some n) = false
same_binder (Some m) None = false
same_binder (Some m) (Some n) = m == n

abbrev pub same_binders : List SeenNode → List SeenNode → Bool
same_binders [] [] = true
same_binders [] (_ ∷ _) = false
same_binders (_ ∷ _) [] = false
same_binders (s ∷ ss) (t ∷ ts) = same_binder s.binder t.binder && same_binders ss ts

-- whether a template leaves a variable of this role to the rules that use its extractor: one that is no parameter, or
-- stands before an `@`. `own` says whether it binds itself
abbrev pub is_left : Role → Bool → Bool
is_left roles.Plain own = false
is_left roles.Parameter own = false
is_left roles.Template own = own
is_left roles.Named own = true

abbrev pub leaves_by : List ℕ → EventNode → Bool → Bool
leaves_by text (occurs role name) own = is_left role own && bytes_eq name.text text
leaves_by text (defines _ _) own = false
leaves_by text (uses _ _) own = false
leaves_by text (defines_variant _ _) own = false
leaves_by text (binds _) own = false
leaves_by text (reads _) own = false
leaves_by text closes own = false
leaves_by text ends own = false

-- whether an event is a variable of this text that a template leaves to rules
abbrev pub leaves : List ℕ → SeenNode → Bool
leaves text s = leaves_by text s.event (is_number s.number s.binder)

-- whether a template leaves a variable of this text to the rules that use its extractor
abbrev pub has_left : List ℕ → List SeenNode → Bool
has_left text ss = list_any (leaves text) ss

-- whether a variable gets another binder when the variable of this binder gets the new text, or may get one in an
-- expansion
abbrev pub is_captured : NameNode → List ℕ → List SeenNode → Bool
is_captured (global _ _) new ss = false
is_captured (variable binder old) new ss =
    has_left old ss || (has_left new ss || not (same_binders (seen (map (renamed_variable binder old new) ss)) ss))

-- the first reason that holds why a name cannot be renamed, if there is one
abbrev pub refusal : NameNode → List ℕ → List SeenNode → Option Refusal
refusal name new ss =
    if not (is_new_name new) then Some refusals.NotAName
    else if not (list_any (defines_it name) ss) then Some refusals.Undefined
    else if is_double (part_of name ss) ss then Some refusals.Variant
    else if is_taken name new ss then Some refusals.Taken
    else if is_captured name new ss then Some refusals.Captured
    else None

-- whether another type has a variant that is the same term as one of the type's own, or as the variant, or a template
-- leaves a variable of this name to rules
abbrev pub is_fixed : NameNode → List SeenNode → Bool
is_fixed (global kinds.Type text) ss = list_any (λ s. shares text (members text ss) s.event) ss
is_fixed (global kinds.Term text) ss = is_double (part_of (global kinds.Term text) ss) ss
is_fixed (global kinds.Constant text) ss = false
is_fixed (variable _ text) ss = has_left text ss

-- whether a name can be renamed at all: every other name is rejected, whatever its new text
abbrev pub can_be_renamed : NameNode → List SeenNode → Bool
can_be_renamed name ss = list_any (defines_it name) ss && not (is_fixed name ss)

-- the name can be renamed, and these are the positions that change, in order
pub record IsAccepted (name : NameNode) (new : List ℕ) (ss : List SeenNode) (places : List Pos) : Type 0 where
  pub accepted : refusal name new ss ≡ None
  pub exact : IsPermutation (changed_places name ss) places
  pub in_order : IsSorted position_cmp places

-- the positions that change, or why the name cannot be renamed
abbrev pub IsAnswer : NameNode → List ℕ → List SeenNode → Result (Vec Pos) Refusal → Type 0
IsAnswer name new ss (Ok places) = IsAccepted name new ss places.items
IsAnswer name new ss (Err why) = refusal name new ss ≡ Some why
