-- When a name can have a text.
use Rattle.std.proofs.Common.{◌≡◌, ℕ, List, Bool, true, false, cond, not, ◌&&◌, ◌||◌, Option, None, Some, map, refl}
use Rattle.std.specs.List.{list_any}
use Rattle.isle_resolve.specs.declared.event.Kind.TheVariants as kinds
use Rattle.isle_resolve.specs.Scopes.{SeenNode, seen}
use Rattle.isle_resolve.specs.Names.{NameNode, global, variable}
use Rattle.isle_index.specs.Renaming.{can_be_renamed, defines_it, has, has_left, has_member, is_captured, is_double, is_fixed, is_new_name, is_taken, members, part_of, refusal, renamed_variable, same_binders, shares}
use Rattle.isle_index.proofs.Texts.{or-false}

cond-none : {X : Type 0} (b : Bool) (x : X) (o : Option X) → cond b (Some x) o ≡ None → (b ≡ false) × (o ≡ None)
cond-none true x o e = absurd (cc)
cond-none false x o e = (refl, e)

-- what is known of a name that can have a text
pub record Fits (name : NameNode) (new : List ℕ) (ss : List SeenNode) : Type 0 where
  pub defined : not (list_any (defines_it name) ss) ≡ false
  pub not_double : is_double (part_of name ss) ss ≡ false
  pub not_taken : is_taken name new ss ≡ false
  pub not_captured : is_captured name new ss ≡ false

pub fits : (name : NameNode) (new : List ℕ) (ss : List SeenNode) → refusal name new ss ≡ None → Fits name new ss
fits name new ss none =
    let first = cond-none (not (is_new_name new)) _ _ none in
    let second = cond-none (not (list_any (defines_it name) ss)) _ _ first.1 in
    let third = cond-none (is_double (part_of name ss) ss) _ _ second.1 in
    let fourth = cond-none (is_taken name new ss) _ _ third.1 in
    let fifth = cond-none (is_captured name new ss) _ _ fourth.1 in
    record { defined = second.0; not_double = third.0; not_taken = fourth.0; not_captured = fifth.0 }

-- nothing fixes a name that can have a text
free_of : (name : NameNode) (new : List ℕ) (ss : List SeenNode) → Fits name new ss → is_fixed name ss ≡ false
free_of (global kinds.Term old) new ss known = known.not_double
free_of (global kinds.Constant old) new ss known = refl
free_of (global kinds.Type old) new ss known =
    let ms : List (List ℕ) = members old ss in
    let first = or-false (has kinds.Type new ss) (has_member new ms ss || list_any (λ s. shares old ms s.event) ss) known.not_taken in
    (or-false (has_member new ms ss) (list_any (λ s. shares old ms s.event) ss) first.1).1
free_of (variable b old) new ss known =
    (or-false (has_left old ss) (has_left new ss || not (same_binders (seen (map (renamed_variable b old new) ss)) ss)) known.not_captured).0

both-hold : (a b : Bool) → not a ≡ false → b ≡ false → a && not b ≡ true
both-hold true false p q = refl
both-hold false b p q = let never : true ≡ false = p in absurd (cc)
both-hold true true p q = let never : true ≡ false = q in absurd (cc)

pub accepted_can_be : (name : NameNode) (new : List ℕ) (ss : List SeenNode) → refusal name new ss ≡ None → can_be_renamed name ss ≡ true
accepted_can_be name new ss none =
    let known = fits name new ss none in
    both-hold (list_any (defines_it name) ss) (is_fixed name ss) known.defined (free_of name new ss known)
