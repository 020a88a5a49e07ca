-- Accepted renamings keep definitions writable.
use Rattle.std.proofs.Common.{◌≡◌, ℕ, ◌+◌, List, [], ◌∷◌, Bool, true, false, cond, not, bytes_eq, Option, None, Some, refl, sym, ap, subst, ◌∙◌, if◌then◌else◌}
use Rattle.std.specs.List.{AllByRecursion}
use Rattle.isle_base_source.specs.declared.pos.Pos.{Pos}
use Rattle.isle_ast.specs.Tree.{Definition}
use Rattle.isle_ast.specs.Writable.{AreWritable}
use Rattle.isle_ast_names.specs.Tree.{Name}
use Rattle.isle_resolve.specs.declared.event.Kind.{Kind}
use Rattle.isle_resolve.specs.declared.event.Kind.TheVariants as kinds
use Rattle.isle_resolve.specs.Event.{EventNode, defines, uses, defines_variant, occurs, binds, reads, closes, ends}
use Rattle.isle_resolve.specs.Events.{events}
use Rattle.isle_resolve.specs.Mapped.{map_definitions, map_event}
use Rattle.isle_resolve.specs.Names.{NameNode, global, joined, variable, name_text}
use Rattle.isle_index.specs.Renamed.{Renames, are_apart, new_event, new_text, places_of, renamed, renamed_by, replaced, with_member}
use Rattle.isle_index.specs.Renaming.{IsAccepted, VariantNode, alone_places, behind_type, first_variant, is_new_name, is_variable, members, part_by, part_of, refusal, with_part, with_text}
use Rattle.isle_resolve.specs.Scopes.{BoundNode, SeenNode, after, binder, seen, seen_from}
use Rattle.isle_index_laws.proofs.Replaced.{replacing_renames}
use Rattle.isle_index_laws.specs.Kept.{AreKept, CanReplace, IsKept}
use Rattle.isle_index_laws.proofs.KeptTrees.{definitions_kept}
use Rattle.isle_index_laws.proofs.NewNames.{new_text_fits, renamed_text_fits, same_text, variant_fits}
use Rattle.isle_index_laws.proofs.Variants.{first_is}
use Rattle.isle_resolve.proofs.Texts.{bytes-are}

-- the text of an event's first name, and that of its second
first_text : EventNode → List ℕ
first_text (defines _ name) = name.text
first_text (uses _ name) = name.text
first_text (defines_variant owner member) = owner.text
first_text (occurs _ name) = name.text
first_text (binds name) = name.text
first_text (reads name) = name.text
first_text closes = []
first_text ends = []

second_text : EventNode → List ℕ
second_text (defines_variant owner member) = member.text
second_text _ = []

by : (old new text : List ℕ) → text ≡ new → CanReplace old new → CanReplace old text
by old new text is k = subst (CanReplace old) (sym is) k

-- a name of the whole program gets a new text
global_kept : (f : Name → Name) (ms : List (List ℕ)) (kind : Kind) (old new : List ℕ) (e : EventNode) → is_new_name new ≡ true → map_event f e ≡ new_event ms kind old new e → IsKept f e
unfolding first_text second_text
global_kept f ms kind old new (defines k name) h is = by name.text _ (f name).text (ap first_text is) (renamed_text_fits ms kind old new k name.text h)
global_kept f ms kind old new (uses k name) h is = by name.text _ (f name).text (ap first_text is) (renamed_text_fits ms kind old new k name.text h)
global_kept f ms kind old new (defines_variant owner member) h is = (
  by owner.text _ (f owner).text (ap first_text is) (renamed_text_fits ms kind old new kinds.Type owner.text h),
  by member.text _ (f member).text (ap second_text is) (same_text member.text),
)
global_kept f ms kind old new (occurs role name) h is = by name.text _ (f name).text (ap first_text is) (same_text name.text)
global_kept f ms kind old new (binds name) h is = by name.text _ (f name).text (ap first_text is) (same_text name.text)
global_kept f ms kind old new (reads name) h is = by name.text _ (f name).text (ap first_text is) (same_text name.text)
global_kept f ms kind old new closes h is = tt
global_kept f ms kind old new ends h is = tt

-- an event stays as it is
same_kept : (f : Name → Name) (e : EventNode) → map_event f e ≡ e → IsKept f e
unfolding first_text second_text
same_kept f (defines k name) is = by name.text _ (f name).text (ap first_text is) (same_text name.text)
same_kept f (uses k name) is = by name.text _ (f name).text (ap first_text is) (same_text name.text)
same_kept f (defines_variant owner member) is =
    (by owner.text _ (f owner).text (ap first_text is) (same_text owner.text), by member.text _ (f member).text (ap second_text is) (same_text member.text))
same_kept f (occurs role name) is = by name.text _ (f name).text (ap first_text is) (same_text name.text)
same_kept f (binds name) is = by name.text _ (f name).text (ap first_text is) (same_text name.text)
same_kept f (reads name) is = by name.text _ (f name).text (ap first_text is) (same_text name.text)
same_kept f closes is = tt
same_kept f ends is = tt

-- a variable gets a new text
variable_kept : (f : Name → Name) (new : List ℕ) (e : EventNode) → is_new_name new ≡ true → map_event f e ≡ with_text new e → IsKept f e
unfolding first_text
variable_kept f new (defines k name) h is = same_kept f (defines k name) is
variable_kept f new (uses k name) h is = same_kept f (uses k name) is
variable_kept f new (defines_variant owner member) h is = same_kept f (defines_variant owner member) is
variable_kept f new (occurs role name) h is = by name.text new (f name).text (ap first_text is) (new_text_fits name.text new h)
variable_kept f new (binds name) h is = by name.text new (f name).text (ap first_text is) (new_text_fits name.text new h)
variable_kept f new (reads name) h is = by name.text new (f name).text (ap first_text is) (new_text_fits name.text new h)
variable_kept f new closes h is = tt
variable_kept f new ends h is = tt

either_kept : (f : Name → Name) (new : List ℕ) (e : EventNode) (b : Bool) → is_new_name new ≡ true → map_event f e ≡ (if b then with_text new e else e) → IsKept f e
either_kept f new e true h is = variable_kept f new e h is
either_kept f new e false h is = same_kept f e is

-- a variant gets a new text

term_fits : (owner text old new x : List ℕ) (b : Bool) → is_new_name new ≡ true → joined owner text ≡ old → bytes_eq x old ≡ b → CanReplace x (if b then joined owner new else x)
term_fits owner text old new x true h whole is = subst (λ t. CanReplace t (joined owner new)) (whole ∙ sym (bytes-are x old is)) (variant_fits owner text new h)
term_fits owner text old new x false h whole is = same_text x

term_kept : (ms : List (List ℕ)) (owner text old new : List ℕ) (k : Kind) (x : List ℕ) → is_new_name new ≡ true → joined owner text ≡ old → CanReplace x (new_text ms kinds.Term old (joined owner new) k x)
term_kept ms owner text old new kinds.Term x h whole = term_fits owner text old new x (bytes_eq x old) h whole refl
term_kept ms owner text old new kinds.Type x h whole = same_text x
term_kept ms owner text old new kinds.Constant x h whole = same_text x

member_fits : (new : List ℕ) (m : Name) (b : Bool) → is_new_name new ≡ true → CanReplace m.text (cond b (record { text = new; pos = m.pos }) m).text
member_fits new m true h = new_text_fits m.text new h
member_fits new m false h = same_text m.text

variant_kept : (f : Name → Name) (ms : List (List ℕ)) (owner text : List ℕ) (alone : List Pos) (old new : List ℕ) (e : EventNode) → is_new_name new ≡ true → joined owner text ≡ old →
    map_event f e ≡ with_member (behind_type owner text alone) old new (new_event ms kinds.Term old (joined owner new) e) → IsKept f e
unfolding first_text second_text
variant_kept f ms owner text alone old new (defines k name) h whole is = by name.text _ (f name).text (ap first_text is) (term_kept ms owner text old new k name.text h whole)
variant_kept f ms owner text alone old new (uses k name) h whole is = by name.text _ (f name).text (ap first_text is) (term_kept ms owner text old new k name.text h whole)
variant_kept f ms owner text alone old new (defines_variant o m) h whole is = (
  by o.text _ (f o).text (ap first_text is) (same_text o.text),
  by m.text _ (f m).text (ap second_text is) (member_fits new m (bytes_eq (joined o.text m.text) old) h),
)
variant_kept f ms owner text alone old new (occurs role name) h whole is = by name.text _ (f name).text (ap first_text is) (same_text name.text)
variant_kept f ms owner text alone old new (binds name) h whole is = by name.text _ (f name).text (ap first_text is) (same_text name.text)
variant_kept f ms owner text alone old new (reads name) h whole is = by name.text _ (f name).text (ap first_text is) (same_text name.text)
variant_kept f ms owner text alone old new closes h whole is = tt
variant_kept f ms owner text alone old new ends h whole is = tt

term_event_kept : (f : Name → Name) (ms : List (List ℕ)) (old new : List ℕ) (ss : List SeenNode) (found : Option VariantNode) (e : EventNode) → first_variant old ss ≡ found → is_new_name new ≡ true →
    map_event f e ≡ with_member (part_by old found ss) old new (new_event ms kinds.Term old (with_part (part_by old found ss) new) e) → IsKept f e
term_event_kept f ms old new ss None e first h is = global_kept f ms kinds.Term old new e h is
term_event_kept f ms old new ss (Some v) e first h is = variant_kept f ms v.owner v.member (alone_places old ss) old new e h (first_is old v ss first) is

event_kept : (f : Name → Name) (ms : List (List ℕ)) (name : NameNode) (new : List ℕ) (ss : List SeenNode) (s : SeenNode) → is_new_name new ≡ true →
    map_event f s.event ≡ renamed_by ms (part_of name ss) name new s → IsKept f s.event
event_kept f ms (global kinds.Type old) new ss s h is = global_kept f ms kinds.Type old new s.event h is
event_kept f ms (global kinds.Constant old) new ss s h is = global_kept f ms kinds.Constant old new s.event h is
event_kept f ms (global kinds.Term old) new ss s h is = term_event_kept f ms old new ss (first_variant old ss) s.event refl h is
event_kept f ms (variable number old) new ss s h is = either_kept f new s.event (is_variable number old s) h is

all_kept : (f : Name → Name) (r : SeenNode → EventNode) → ((s : SeenNode) → map_event f s.event ≡ r s → IsKept f s.event) →
    (i : ℕ) (bound : List BoundNode) (es : List EventNode) → AllByRecursion (λ s. map_event f s.event ≡ r s) (seen_from i bound es) → AreKept f es
all_kept f r each i bound [] is = tt
all_kept f r each i bound (e ∷ es) is =
    (each (record { event = e; number = i; binder = binder e i bound }) is.0, all_kept f r each (i + 1) (after e i bound) es is.1)

accepted-by : {A : Type 0} (b : Bool) (x : A) (o : Option A) → (if not b then Some x else o) ≡ None → b ≡ true
accepted-by true x o h = refl
accepted-by false x o h = absurd (cc)

-- a new text that is not refused
accepted : (name : NameNode) (new : List ℕ) (ss : List SeenNode) → refusal name new ss ≡ None → is_new_name new ≡ true
accepted name new ss none = accepted-by (is_new_name new) _ _ none

-- an accepted renaming keeps each name
renaming_kept : (ds : List Definition) (name : NameNode) (new : List ℕ) (f : Name → Name) → refusal name new (seen (events ds)) ≡ None → Renames f name new (seen (events ds)) → AreKept f (events ds)
renaming_kept ds name new f none renames =
    let ss : List SeenNode = seen (events ds) in
    let h : is_new_name new ≡ true = accepted name new ss none in
    all_kept f (renamed name new ss) (λ s is. event_kept f (members (name_text name) ss) name new ss s h is) 0 [] (events ds) renames

pub replacing_kept : (ds : List Definition) (name : NameNode) (new : List ℕ) (places : List Pos) → are_apart (places_of (seen (events ds))) ≡ true →
    IsAccepted name new (seen (events ds)) places → AreKept (replaced places (part_of name (seen (events ds))) new) (events ds)
replacing_kept ds name new places apart ok =
    renaming_kept ds name new (replaced places (part_of name (seen (events ds))) new) ok.accepted (replacing_renames ds name new places apart ok)

pub renaming_writable : (ds : List Definition) (name : NameNode) (new : List ℕ) (f : Name → Name) → AreWritable ds → refusal name new (seen (events ds)) ≡ None →
    Renames f name new (seen (events ds)) → AreWritable (map_definitions f ds)
renaming_writable ds name new f w none renames = definitions_kept ds f w (renaming_kept ds name new f none renames)

pub replacing_writable : (ds : List Definition) (name : NameNode) (new : List ℕ) (places : List Pos) → AreWritable ds → are_apart (places_of (seen (events ds))) ≡ true →
    IsAccepted name new (seen (events ds)) places → AreWritable (map_definitions (replaced places (part_of name (seen (events ds))) new) ds)
replacing_writable ds name new places w apart ok = definitions_kept ds (replaced places (part_of name (seen (events ds))) new) w (replacing_kept ds name new places apart ok)
