-- Renaming keeps what names mean.
use Rattle.std.proofs.Common.{◌≡◌, ℕ, ◌+◌, List, [], ◌∷◌, true, false, ◌||◌, Option, None, Some, map, refl, sym, ap, ◌∙◌, subst}
use Rattle.std.specs.List.{AllByRecursion, list_any}
use Rattle.isle_base_source.specs.declared.pos.Pos.{Pos}
use Rattle.isle_ast.specs.Tree.{Definition}
use Rattle.isle_ast_names.specs.Tree.{Name}
use Rattle.isle_resolve.specs.declared.event.Kind.{Kind}
use Rattle.isle_resolve.specs.declared.event.Kind.TheVariants as kinds
use Rattle.isle_resolve.specs.Event.{EventNode}
use Rattle.isle_resolve.specs.Events.{events}
use Rattle.isle_resolve.specs.Mapped.{map_definitions, map_event}
use Rattle.isle_resolve.proofs.MappedLemmas.{events_follow}
use Rattle.isle_resolve.specs.Scopes.{BoundNode, SeenNode, after, binder, seen, seen_from}
use Rattle.isle_resolve.specs.Names.{NameNode, global, variable, gives, is_of, joined}
use Rattle.isle_index.specs.Renaming.{VariantNode, alone_places, behind_type, first_variant, gives_variant, has, has_member, has_left, is_double, members, part_by, refusal, renamed_variable, same_binders, shares, with_part}
use Rattle.isle_index.specs.Renamed.{Renames, after_renaming, new_event, new_name, with_member}
use Rattle.isle_index.proofs.Texts.{not-true, or-false}
use Rattle.isle_index_laws.proofs.Fits.{fits}
use Rattle.isle_index_laws.proofs.Keeps.{IsCovered, IsFree, Joins, any_over, constant_joins, covers, each_by, free_members, keeps, members_over, term_joins, type_joins, variable_keeps}
use Rattle.isle_index_laws.proofs.Variants.{all_own, first_is, no_first, variant_keeps}

-- events that change as those that are seen
events_renamed : (h : EventNode → EventNode) (r : SeenNode → EventNode) (i : ℕ) (bound : List BoundNode) (es : List EventNode) →
    AllByRecursion (λ s. h s.event ≡ r s) (seen_from i bound es) → map h es ≡ map r (seen_from i bound es)
events_renamed h r i bound [] each = refl
events_renamed h r i bound (e ∷ es) each =
    ap (λ x. x ∷ map h es) each.0 ∙ ap (λ xs. r (record { event = e; number = i; binder = binder e i bound }) ∷ xs) (events_renamed h r (i + 1) (after e i bound) es each.1)

plain_over : (g : EventNode → EventNode) (i : ℕ) (bound : List BoundNode) (es : List EventNode) → map (λ s. g s.event) (seen_from i bound es) ≡ map g es
plain_over g i bound [] = refl
plain_over g i bound (e ∷ es) = ap (λ xs. g e ∷ xs) (plain_over g (i + 1) (after e i bound) es)

-- the events of definitions with the name's new text
renamed_events : (f : Name → Name) (r : SeenNode → EventNode) (ds : List Definition) → AllByRecursion (λ s. map_event f s.event ≡ r s) (seen (events ds)) →
    events (map_definitions f ds) ≡ map r (seen (events ds))
renamed_events f r ds each = events_follow f ds ∙ events_renamed (map_event f) r 0 [] (events ds) each

-- what a name keeps, in the whole program or as a variable
global_law : (ms : List (List ℕ)) (f : Name → Name) (ds : List Definition) (kind : Kind) (old new : List ℕ) (m : NameNode) →
    AllByRecursion (λ s. map_event f s.event ≡ new_event ms kind old new s.event) (seen (events ds)) →
    IsFree ms kind old new (events ds) → AllByRecursion (Joins ms kind old new) (events ds) → list_any (is_of m) (seen (events ds)) ≡ true →
    map (is_of (new_name ms (global kind old) new m)) (seen (events (map_definitions f ds))) ≡ map (is_of m) (seen (events ds))
global_law ms f ds kind old new m renames free joins there =
    ap (λ es. map (is_of (new_name ms (global kind old) new m)) (seen es))
    (renamed_events f (λ s. new_event ms kind old new s.event) ds renames ∙ plain_over (new_event ms kind old new) 0 [] (events ds))
    ∙ keeps ms kind old new m (events ds) free joins there

-- what names mean once a term has another text, which may be a variant
term_law : (f : Name → Name) (ds : List Definition) (old new : List ℕ) (m : NameNode) (found : Option VariantNode) → first_variant old (seen (events ds)) ≡ found →
    is_double (part_by old found (seen (events ds))) (seen (events ds)) ≡ false → has kinds.Term (with_part (part_by old found (seen (events ds))) new) (seen (events ds)) ≡ false →
    AllByRecursion (λ s. map_event f s.event ≡ with_member (part_by old found (seen (events ds))) old new
    (new_event (members old (seen (events ds))) kinds.Term old (with_part (part_by old found (seen (events ds))) new) s.event)) (seen (events ds)) →
    list_any (is_of m) (seen (events ds)) ≡ true →
    map (is_of (new_name (members old (seen (events ds))) (global kinds.Term old) (with_part (part_by old found (seen (events ds))) new) m)) (seen (events (map_definitions f ds))) ≡ map (is_of m) (seen (events ds))
term_law f ds old new m None first single free renames there =
    let ms : List (List ℕ) = members old (seen (events ds)) in
    global_law ms f ds kinds.Term old new m renames
    (sym (any_over (gives kinds.Term new) 0 [] (events ds)) ∙ free)
    (each_by (gives_variant old) (Joins ms kinds.Term old new) (term_joins ms old new) (events ds)
    (sym (any_over (gives_variant old) 0 [] (events ds)) ∙ no_first old (seen (events ds)) first))
    there
term_law f ds old new m (Some v) first single free renames there =
    let ss : List SeenNode = seen (events ds) in
    let ms : List (List ℕ) = members old ss in
    let alone : List Pos = alone_places old ss in
    let turned : EventNode → EventNode = λ e. with_member (behind_type v.owner v.member alone) old new (new_event ms kinds.Term old (joined v.owner new) e) in
    ap (λ es. map (is_of (new_name ms (global kinds.Term old) (joined v.owner new) m)) (seen es)) (renamed_events f (λ s. turned s.event) ds renames ∙ plain_over turned 0 [] (events ds))
    ∙ variant_keeps ms v.owner v.member alone old new m (events ds)
    (sym (any_over (gives kinds.Term (joined v.owner new)) 0 [] (events ds)) ∙ free)
    (all_own v.owner v.member old (events ds) (first_is old v ss first) (sym (any_over (shares v.owner (v.member ∷ [])) 0 [] (events ds)) ∙ single))
    there

pub renaming_keeps : (ds : List Definition) (name : NameNode) (new : List ℕ) (f : Name → Name) → refusal name new (seen (events ds)) ≡ None → Renames f name new (seen (events ds)) →
    (m : NameNode) → list_any (is_of m) (seen (events ds)) ≡ true →
    map (is_of (after_renaming name new (seen (events ds)) m)) (seen (events (map_definitions f ds))) ≡ map (is_of m) (seen (events ds))
renaming_keeps ds (global kinds.Term old) new f none renames m there =
    let known = fits (global kinds.Term old) new (seen (events ds)) none in
    term_law f ds old new m (first_variant old (seen (events ds))) refl known.not_double known.not_taken renames there
renaming_keeps ds (global kinds.Constant old) new f none renames m there =
    let known = fits (global kinds.Constant old) new (seen (events ds)) none in
    let ms : List (List ℕ) = members old (seen (events ds)) in
    global_law ms f ds kinds.Constant old new m renames
    (sym (any_over (gives kinds.Constant new) 0 [] (events ds)) ∙ known.not_taken)
    (constant_joins ms old new (events ds))
    there
renaming_keeps ds (global kinds.Type old) new f none renames m there =
    let ss : List SeenNode = seen (events ds) in
    let ms : List (List ℕ) = members old ss in
    let known = fits (global kinds.Type old) new ss none in
    let first = or-false (has kinds.Type new ss) (has_member new ms ss || list_any (λ s. shares old ms s.event) ss) known.not_taken in
    let second = or-false (has_member new ms ss) (list_any (λ s. shares old ms s.event) ss) first.1 in
    let Covers : List (List ℕ) → Type 0 = λ xs. AllByRecursion (IsCovered old xs) (events ds) in
    global_law ms f ds kinds.Type old new m renames
    (sym (any_over (gives kinds.Type new) 0 [] (events ds)) ∙ first.0, free_members old new ms (events ds) second.0)
    (type_joins ms old new (events ds) (subst Covers (sym (members_over old 0 [] (events ds))) (covers old (events ds))) (sym (any_over (shares old ms) 0 [] (events ds)) ∙ second.1))
    there
renaming_keeps ds (variable b old) new f none renames m there =
    let ss : List SeenNode = seen (events ds) in
    let known = fits (variable b old) new ss none in
    ap (λ es. map (is_of (new_name (members old ss) (variable b old) new m)) (seen es)) (renamed_events f (renamed_variable b old new) ds renames)
    ∙ variable_keeps (members old ss) b old new m ss (not-true (same_binders (seen (map (renamed_variable b old new) ss)) ss)
    (or-false (has_left new ss) _ (or-false (has_left old ss) _ known.not_captured).1).1)
