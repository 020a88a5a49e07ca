-- Replacing the old text at the places that change renames the name, where each name stands at a place of its own.
use Rattle.std.proofs.Common.{◌≡◌, List, [], ◌∷◌, Bool, true, false, cond, not, ◌&&◌, ◌||◌, ◌==◌, eq-eqb, Option, None, Some, filter, refl, sym, ap, ◌∙◌}
use Rattle.std.proofs.lemmas.Bool.{eqb-true}
use Rattle.std.specs.List.{AllByRecursion, cons_option, filter_map, list_any}
use Rattle.isle_base_source.specs.declared.pos.Pos.{Pos}
use Rattle.isle_resolve.specs.Scopes.{SeenNode}
use Rattle.isle_index.specs.Renaming.{position}
use Rattle.isle_index.specs.Renamed.{are_apart, places_of, same_place}
use Rattle.isle_index.proofs.Texts.{or-false}

-- whether there is a place, and it is this one
abbrev pub is_at : Pos → Option Pos → Bool
is_at p None = false
is_at p (Some q) = same_place p q

-- the places of the events that are chosen
abbrev pub chosen : (SeenNode → Bool) → List SeenNode → List Pos
chosen C ss = filter_map (λ s. position s.event) (filter C ss)

any-cons : (p : Pos) (o : Option Pos) (ps : List Pos) → list_any (same_place p) (cons_option o ps) ≡ is_at p o || list_any (same_place p) ps
any-cons p None ps = refl
any-cons p (Some q) ps = refl

choose : (C : SeenNode → Bool) (p : Pos) (s : SeenNode) (ss : List SeenNode) (b : Bool) →
    list_any (same_place p) (filter_map (λ x. position x.event) (cond b (s ∷ filter C ss) (filter C ss)))
    ≡ (b && is_at p (position s.event)) || list_any (same_place p) (chosen C ss)
choose C p s ss true = any-cons p (position s.event) (chosen C ss)
choose C p s ss false = refl

-- of more events
chosen-more : (C : SeenNode → Bool) (p : Pos) (s : SeenNode) (ss : List SeenNode) →
    list_any (same_place p) (chosen C (s ∷ ss)) ≡ (C s && is_at p (position s.event)) || list_any (same_place p) (chosen C ss)
chosen-more C p s ss = choose C p s ss (C s)

and-swap : (a b : Bool) → a && b ≡ b && a
and-swap true true = refl
and-swap true false = refl
and-swap false true = refl
and-swap false false = refl

same-self : (p : Pos) → same_place p p ≡ true
same-self p = ap (λ b. b && (p.offset == p.offset)) (eq-eqb p.file p.file refl) ∙ eq-eqb p.offset p.offset refl

-- what is far from all is far from those that are chosen
none-chosen : (C : SeenNode → Bool) (p : Pos) (ss : List SeenNode) → list_any (same_place p) (places_of ss) ≡ false → list_any (same_place p) (chosen C ss) ≡ false
none-chosen C p [] far = refl
none-chosen C p (s ∷ ss) far =
    let parts = or-false (is_at p (position s.event)) (list_any (same_place p) (places_of ss)) (sym (any-cons p (position s.event) (places_of ss)) ∙ far) in
    chosen-more C p s ss
    ∙ ap (λ b. (C s && b) || list_any (same_place p) (chosen C ss)) parts.0
    ∙ ap (λ b. b || list_any (same_place p) (chosen C ss)) (and-swap (C s) false)
    ∙ none-chosen C p ss parts.1

and-parts : (a b : Bool) → a && b ≡ true → (a ≡ true) × (b ≡ true)
and-parts true b e = (refl, e)
and-parts false b e = let never : false ≡ true = e in absurd (cc)

other-way : (p q : Pos) (b : Bool) → same_place p q ≡ b → same_place q p ≡ false → b ≡ false
other-way p q true is far =
    let parts = and-parts (p.file == q.file) (p.offset == q.offset) is in
    let first : q.file == p.file ≡ true = eq-eqb q.file p.file (sym (eqb-true p.file q.file parts.0)) in
    let second : q.offset == p.offset ≡ true = eq-eqb q.offset p.offset (sym (eqb-true p.offset q.offset parts.1)) in
    let yes : same_place q p ≡ true = ap (λ b. b && (q.offset == p.offset)) first ∙ second in
    absurd (cc)
other-way p q false is far = refl

-- whether a place, if there is one, is one of these
abbrev meets : Option Pos → List Pos → Bool
meets None ps = false
meets (Some q) ps = list_any (same_place q) ps

not-false : (a : Bool) → not a ≡ true → a ≡ false
not-false true e = let never : false ≡ true = e in absurd (cc)
not-false false e = refl

apart-parts : (o : Option Pos) (ps : List Pos) → are_apart (cons_option o ps) ≡ true → (meets o ps ≡ false) × (are_apart ps ≡ true)
apart-parts None ps e = (refl, e)
apart-parts (Some q) ps e =
    let parts = and-parts (not (list_any (same_place q) ps)) (are_apart ps) e in (not-false (list_any (same_place q) ps) parts.0, parts.1)

-- an event does not stand at a place, if there is one
abbrev Away : Option Pos → SeenNode → Type 0
Away o s = (p : Pos) → position s.event ≡ Some p → is_at p o ≡ false

all-away : (o : Option Pos) (ss : List SeenNode) → meets o (places_of ss) ≡ false → AllByRecursion (Away o) ss
all-away o [] far = tt
all-away None (s ∷ ss) far = (λ p is. refl, all-away None ss refl)
all-away (Some q) (s ∷ ss) far =
    let parts = or-false (is_at q (position s.event)) (list_any (same_place q) (places_of ss)) (sym (any-cons q (position s.event) (places_of ss)) ∙ far) in
    (λ p is. other-way p q (same_place p q) refl (sym (ap (is_at q) is) ∙ parts.0), all-away (Some q) ss parts.1)

-- whether an event's place is one of those chosen tells whether the event is chosen
abbrev pub At : (SeenNode → Bool) → List SeenNode → SeenNode → Type 0
At C all s = (p : Pos) → position s.event ≡ Some p → list_any (same_place p) (chosen C all) ≡ C s

at-more : (C : SeenNode → Bool) (first : SeenNode) (all ss : List SeenNode) → AllByRecursion (At C all) ss → AllByRecursion (Away (position first.event)) ss → AllByRecursion (At C (first ∷ all)) ss
at-more C first all [] at away = tt
at-more C first all (s ∷ ss) at away = (
  λ p is.
      chosen-more C p first all
      ∙ ap (λ b. (C first && b) || list_any (same_place p) (chosen C all)) (away.0 p is)
      ∙ ap (λ b. b || list_any (same_place p) (chosen C all)) (and-swap (C first) false)
      ∙ at.0 p is,
  at-more C first all ss at.1 away.1,
)

alone : (b x : Bool) → x ≡ false → (b && true) || x ≡ b
alone true x e = refl
alone false x e = e

pub at-all : (C : SeenNode → Bool) (ss : List SeenNode) → are_apart (places_of ss) ≡ true → AllByRecursion (At C ss) ss
at-all C [] apart = tt
at-all C (s ∷ ss) apart =
    let parts = apart-parts (position s.event) (places_of ss) apart in (
      λ p is.
          chosen-more C p s ss
          ∙ ap (λ b. (C s && b) || list_any (same_place p) (chosen C ss)) (ap (is_at p) is ∙ same-self p)
          ∙ alone (C s) (list_any (same_place p) (chosen C ss)) (none-chosen C p ss (sym (ap (λ o. meets o (places_of ss)) is) ∙ parts.0)),
      at-more C s ss ss (at-all C ss parts.1) (all-away (position s.event) ss parts.0),
    )
