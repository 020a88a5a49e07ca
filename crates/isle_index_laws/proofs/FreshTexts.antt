-- A text with which no name begins can be that of each name that can be renamed.
use Rattle.std.proofs.Common.{◌≡◌, ℕ, ◌+◌, List, [], ◌∷◌, ◌++◌, Bool, true, false, cond, not, ◌&&◌, ◌||◌, Option, None, Some, bytes_eq, codes, map, refl, sym, ap, ◌∙◌, append_assoc, append-nil}
use Rattle.std.proofs.lemmas.Bool.{and_parts}
use Rattle.std.specs.List.{AllByRecursion, list_any}
use Rattle.isle_resolve.specs.declared.event.Kind.{Kind}
use Rattle.isle_resolve.specs.declared.event.Kind.TheVariants as kinds
use Rattle.isle_resolve.specs.Event.{EventNode, defines, uses, defines_variant, occurs, binds, reads, closes, ends}
use Rattle.isle_resolve.specs.Scopes.{BoundNode, SeenNode, after, binder, seen, seen_from}
use Rattle.isle_resolve.specs.Names.{NameNode, global, variable, gives, is_number, joined, same_kind}
use Rattle.isle_index.specs.Renaming.{can_be_renamed, defines_it, has, has_left, has_member, is_captured, is_double, is_fixed, is_left, is_new_name, is_taken, leaves_by, members, part_of, refusal, renamed_variable, same_binders, shares, with_part}
use Rattle.isle_resolve.proofs.Texts.{bytes-false}
use Rattle.isle_index_laws.specs.Fresh.{BeginsNot, IsFresh, IsNotIn}
use Rattle.isle_index_laws.proofs.Keeps.{any_over}
use Rattle.isle_index_laws.proofs.NewNames.{neither, not-false}
use Rattle.isle_index_laws.proofs.SameBinders.{HasOther, binders_stay}

other-text : (new text : List ℕ) → BeginsNot new text → text ≡ new → ⊥
other-text new text apart e = apart [] (e ∙ sym (append-nil new))

behind : (a b : Bool) → b ≡ false → a && b ≡ false
behind true b e = e
behind false b e = refl

-- no event gives a name with the new text at its front

gives-nothing : (k : Kind) (new rest : List ℕ) (e : EventNode) → IsNotIn new e → gives k (new ++ rest) e ≡ false
gives-nothing k new rest (defines l n) apart = behind (same_kind k l) (bytes_eq n.text (new ++ rest)) (bytes-false n.text (new ++ rest) (apart rest))
gives-nothing k new rest (uses l n) apart = behind (same_kind k l) (bytes_eq n.text (new ++ rest)) (bytes-false n.text (new ++ rest) (apart rest))
gives-nothing k new rest (defines_variant o m) apart =
    behind (same_kind k kinds.Term) (bytes_eq (joined o.text m.text) (new ++ rest)) (bytes-false (joined o.text m.text) (new ++ rest) (apart rest))
gives-nothing k new rest (occurs role n) apart = refl
gives-nothing k new rest (binds n) apart = refl
gives-nothing k new rest (reads n) apart = refl
gives-nothing k new rest closes apart = refl
gives-nothing k new rest ends apart = refl

none-gives : (k : Kind) (new rest : List ℕ) (es : List EventNode) → IsFresh new es → list_any (gives k (new ++ rest)) es ≡ false
none-gives k new rest [] fresh = refl
none-gives k new rest (e ∷ es) fresh =
    neither (gives k (new ++ rest) e) (list_any (gives k (new ++ rest)) es) (gives-nothing k new rest e fresh.0) (none-gives k new rest es fresh.1)

none-begins : (k : Kind) (new rest : List ℕ) (es : List EventNode) → IsFresh new es → has k (new ++ rest) (seen es) ≡ false
none-begins k new rest es fresh = any_over (gives k (new ++ rest)) 0 [] es ∙ none-gives k new rest es fresh

none-has : (k : Kind) (new : List ℕ) (es : List EventNode) → IsFresh new es → has k new (seen es) ≡ false
none-has k new es fresh = ap (λ t. has k t (seen es)) (sym (append-nil new)) ∙ none-begins k new [] es fresh

none-has_member : (new : List ℕ) (ms : List (List ℕ)) (es : List EventNode) → IsFresh new es → has_member new ms (seen es) ≡ false
none-has_member new [] es fresh = refl
none-has_member new (m ∷ ms) es fresh =
    neither (has kinds.Term (joined new m) (seen es)) (has_member new ms (seen es))
    (ap (λ t. has kinds.Term t (seen es)) (append_assoc new (codes ".") m) ∙ none-begins kinds.Term new (codes "." ++ m) es fresh)
    (none-has_member new ms es fresh)

not_taken : (name : NameNode) (new : List ℕ) (es : List EventNode) → IsFresh (with_part (part_of name (seen es)) new) es → is_fixed name (seen es) ≡ false → is_taken name new (seen es) ≡ false
not_taken (global kinds.Term old) new es fresh free = none-has kinds.Term (with_part (part_of (global kinds.Term old) (seen es)) new) es fresh
not_taken (global kinds.Constant old) new es fresh free = none-has kinds.Constant new es fresh
not_taken (global kinds.Type old) new es fresh free =
    let ms : List (List ℕ) = members old (seen es) in
    neither (has kinds.Type new (seen es)) (has_member new ms (seen es) || list_any (λ s. shares old ms s.event) (seen es)) (none-has kinds.Type new es fresh)
    (neither (has_member new ms (seen es)) (list_any (λ s. shares old ms s.event) (seen es)) (none-has_member new ms es fresh) free)
not_taken (variable b old) new es fresh free = refl

-- no variable is captured

leaves-nothing : (new : List ℕ) (e : EventNode) (own : Bool) → IsNotIn new e → leaves_by new e own ≡ false
leaves-nothing new (occurs role n) own apart = behind (is_left role own) (bytes_eq n.text new) (bytes-false n.text new (other-text new n.text apart))
leaves-nothing new (defines k n) own apart = refl
leaves-nothing new (uses k n) own apart = refl
leaves-nothing new (defines_variant o m) own apart = refl
leaves-nothing new (binds n) own apart = refl
leaves-nothing new (reads n) own apart = refl
leaves-nothing new closes own apart = refl
leaves-nothing new ends own apart = refl

none-left : (new : List ℕ) (i : ℕ) (bound : List BoundNode) (es : List EventNode) → IsFresh new es → has_left new (seen_from i bound es) ≡ false
none-left new i bound [] fresh = refl
none-left new i bound (e ∷ es) fresh =
    neither (leaves_by new e (is_number i (binder e i bound))) (has_left new (seen_from (i + 1) (after e i bound) es))
    (leaves-nothing new e (is_number i (binder e i bound)) fresh.0) (none-left new (i + 1) (after e i bound) es fresh.1)

has_other : (new : List ℕ) (e : EventNode) → IsNotIn new e → HasOther new e
has_other new (defines k n) apart = tt
has_other new (uses k n) apart = tt
has_other new (defines_variant o m) apart = tt
has_other new (occurs role n) apart = other-text new n.text apart
has_other new (binds n) apart = other-text new n.text apart
has_other new (reads n) apart = other-text new n.text apart
has_other new closes apart = tt
has_other new ends apart = tt

have_others : (new : List ℕ) (es : List EventNode) → IsFresh new es → AllByRecursion (HasOther new) es
have_others new [] fresh = tt
have_others new (e ∷ es) fresh = (has_other new e fresh.0, have_others new es fresh.1)

not_captured : (name : NameNode) (new : List ℕ) (es : List EventNode) → IsFresh (with_part (part_of name (seen es)) new) es → is_fixed name (seen es) ≡ false → is_captured name new (seen es) ≡ false
not_captured (global k old) new es fresh free = refl
not_captured (variable b old) new es fresh free =
    let kept : Bool = same_binders (seen (map (renamed_variable b old new) (seen es))) (seen es) in
    neither (has_left old (seen es)) (has_left new (seen es) || not kept) free
    (neither (has_left new (seen es)) (not kept) (none-left new 0 [] es fresh) (ap not (binders_stay b old new es (have_others new es fresh))))

-- no reason is left

passes : {A : Type 0} (b : Bool) (why : A) (next : Option A) → b ≡ false → next ≡ None → cond b (Some why) next ≡ None
passes true why next fails rest = let never : true ≡ false = fails in absurd (cc)
passes false why next fails rest = rest

-- a variant that is double is fixed
not_double : (name : NameNode) (ss : List SeenNode) → is_fixed name ss ≡ false → is_double (part_of name ss) ss ≡ false
not_double (global kinds.Term old) ss free = free
not_double (global kinds.Constant old) ss free = refl
not_double (global kinds.Type old) ss free = refl
not_double (variable b old) ss free = refl

pub fresh_accepted : (name : NameNode) (new : List ℕ) (es : List EventNode) → can_be_renamed name (seen es) ≡ true → is_new_name new ≡ true →
    IsFresh (with_part (part_of name (seen es)) new) es → refusal name new (seen es) ≡ None
fresh_accepted name new es can fits fresh =
    let ss : List SeenNode = seen es in
    let both = and_parts (list_any (defines_it name) ss) (not (is_fixed name ss)) can in
    let free : is_fixed name ss ≡ false = not-false (is_fixed name ss) both.1 in
    passes (not (is_new_name new)) _ _ (ap not fits)
    (passes (not (list_any (defines_it name) ss)) _ _ (ap not both.0)
    (passes (is_double (part_of name ss) ss) _ _ (not_double name ss free)
    (passes (is_taken name new ss) _ _ (not_taken name new es fresh free)
    (passes (is_captured name new ss) _ _ (not_captured name new es fresh free) refl))))
