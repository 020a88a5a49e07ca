-- Names and events after a renaming.
use Rattle.std.specs.Prelude.{◌≡◌, ℕ, List, [], ◌∷◌, ◌++◌, Bool, true, ◌&&◌, ◌==◌, codes, not, length, drop, take, if◌then◌else◌}
use Rattle.std.specs.List.{AllByRecursion, filter_map, list_any}
use Rattle.isle_base_source.specs.declared.pos.Pos.{Pos}
use Rattle.std.specs.Str.{bytes_eq}
use Rattle.isle_ast_names.specs.Tree.{Name}
use Rattle.isle_resolve.specs.declared.event.Kind.{Kind}
use Rattle.isle_resolve.specs.declared.event.Kind.TheVariants as kinds
use Rattle.isle_resolve.specs.Event.{EventNode, defines, uses, defines_variant, occurs, binds, reads, closes, ends}
use Rattle.isle_resolve.specs.Mapped.{map_event}
use Rattle.isle_resolve.specs.Scopes.{SeenNode}
use Rattle.isle_resolve.specs.Names.{NameNode, global, variable, joined, name_text}
use Rattle.isle_index.specs.Renaming.{Part, behind_type, is_member, members, part_of, part_text, position, renamed_variable, whole_text, with_part}

-- the text with its first bytes replaced
abbrev pub with_front : List ℕ → List ℕ → List ℕ → List ℕ
with_front old new text = new ++ drop (length old) text

-- the text with the bytes of `new` in place of those of `old`, behind so many bytes that stay
abbrev pub with_new : ℕ → List ℕ → List ℕ → List ℕ → List ℕ
with_new skipped old new text = take skipped text ++ with_front old new (drop skipped text)

-- the text of a global name after another one, or the same, got a new text. The text of a variant starts with that of
-- its type
abbrev pub new_text : List (List ℕ) → Kind → List ℕ → List ℕ → Kind → List ℕ → List ℕ
new_text ms kinds.Type old new kinds.Type text = if bytes_eq text old then new else text
new_text ms kinds.Type old new kinds.Term text = if is_member old ms text then with_front old new text else text
new_text ms kinds.Type old new kinds.Constant text = text
new_text ms kinds.Term old new kinds.Type text = text
new_text ms kinds.Term old new kinds.Term text = if bytes_eq text old then new else text
new_text ms kinds.Term old new kinds.Constant text = text
new_text ms kinds.Constant old new kinds.Type text = text
new_text ms kinds.Constant old new kinds.Term text = text
new_text ms kinds.Constant old new kinds.Constant text = if bytes_eq text old then new else text

-- a name after the renaming
abbrev pub new_name : List (List ℕ) → NameNode → List ℕ → NameNode → NameNode
new_name ms (global kind old) new (global k text) = global k (new_text ms kind old new k text)
new_name ms (global kind old) new (variable b text) = variable b text
new_name ms (variable binder old) new (global k text) = global k text
new_name ms (variable binder old) new (variable b text) = variable b (if b == binder then new else text)

abbrev pub with_new_text : List (List ℕ) → Kind → List ℕ → List ℕ → Kind → Name → Name
with_new_text ms kind old new k name = record { text = new_text ms kind old new k name.text; pos = name.pos }

-- an event after the renaming
abbrev pub new_event : List (List ℕ) → Kind → List ℕ → List ℕ → EventNode → EventNode
new_event ms kind old new (defines k name) = defines k (with_new_text ms kind old new k name)
new_event ms kind old new (uses k name) = uses k (with_new_text ms kind old new k name)
new_event ms kind old new (defines_variant owner member) = defines_variant (with_new_text ms kind old new kinds.Type owner) member
new_event ms kind old new (occurs role name) = occurs role name
new_event ms kind old new (binds name) = binds name
new_event ms kind old new (reads name) = reads name
new_event ms kind old new closes = closes
new_event ms kind old new ends = ends

-- a variant's name where the variant is defined, with the new text if it is this term
abbrev pub new_member : List ℕ → List ℕ → (owner member : Name) → Name
new_member term new o m = if bytes_eq (joined o.text m.text) term then record { text = new; pos = m.pos } else m

-- an event with the new text of a part that stands alone, if it defines a variant that is this term
abbrev pub with_member : Part → List ℕ → List ℕ → EventNode → EventNode
with_member (whole_text _) term new e = e
with_member (behind_type _ _ alone) term new (defines_variant o m) = defines_variant o (new_member term new o m)
with_member (behind_type _ _ alone) term new (defines k name) = defines k name
with_member (behind_type _ _ alone) term new (uses k name) = uses k name
with_member (behind_type _ _ alone) term new (occurs role name) = occurs role name
with_member (behind_type _ _ alone) term new (binds name) = binds name
with_member (behind_type _ _ alone) term new (reads name) = reads name
with_member (behind_type _ _ alone) term new closes = closes
with_member (behind_type _ _ alone) term new ends = ends

abbrev pub renamed_by : List (List ℕ) → Part → NameNode → List ℕ → SeenNode → EventNode
renamed_by ms part (global kind old) new s = with_member part old new (new_event ms kind old (with_part part new) s.event)
renamed_by ms part (variable binder old) new s = renamed_variable binder old new s

-- an event after a part of the name got the new text
abbrev pub renamed : NameNode → List ℕ → List SeenNode → SeenNode → EventNode
renamed name new ss s = renamed_by (members (name_text name) ss) (part_of name ss) name new s

-- the name gets the new text wherever these events have it, and every other name stays as it is
abbrev pub Renames : (Name → Name) → NameNode → List ℕ → List SeenNode → Type 0
Renames f name new ss = AllByRecursion (λ s. map_event f s.event ≡ renamed name new ss s) ss

-- whether two positions are the same
abbrev pub same_place : Pos → Pos → Bool
same_place p q = (p.file == q.file) && (p.offset == q.offset)

abbrev pub stands_at : List Pos → Name → Bool
stands_at places name = list_any (same_place name.pos) places

-- the bytes of a name in front of the part that gets the new text, where the name is at this position
abbrev pub front : Part → Pos → List ℕ
front (whole_text _) p = []
front (behind_type owner _ alone) p = if list_any (same_place p) alone then [] else owner ++ codes "."

-- a name, with the new text of its part if it is at one of these positions
abbrev pub replaced : List Pos → Part → List ℕ → Name → Name
replaced places part new name =
    if stands_at places name then record { text = with_new (length (front part name.pos)) (part_text part) new name.text; pos = name.pos }
    else name

-- no two of the positions are the same
abbrev pub are_apart : List Pos → Bool
are_apart [] = true
are_apart (p ∷ ps) = not (list_any (same_place p) ps) && are_apart ps

-- no two names are at one position
abbrev pub places_of : List SeenNode → List Pos
places_of ss = filter_map (λ s. position s.event) ss

-- a name of these events after the renaming
abbrev pub after_renaming : NameNode → List ℕ → List SeenNode → NameNode → NameNode
after_renaming name new ss m = new_name (members (name_text name) ss) name (with_part (part_of name ss) new) m
