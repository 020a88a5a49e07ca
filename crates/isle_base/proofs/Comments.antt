-- Block comments: where the end of one stands. Inside a comment in a comment, so many ends are to
-- come as comments are open.
use Rattle.std.proofs.Common.{◌≡◌, ℕ, zero, suc, ◌<◌, List, [], ◌∷◌, true, false, Option, Some, None, MatchOption, length, refl, sym, ap, subst, ◌&&◌, eqb, arith}
use Rattle.std.proofs.lemmas.Bool.{and_parts, cond_both, eqb-true, both_ways}
use Rattle.isle_base.specs.Computed.{close}
use Rattle.isle_base.specs.Skips.{Inside, ends, byte, nested, opens, closes}

-- from inside the innermost of so many comments on, after the end of the outermost
abbrev pub Insides : ℕ → List ℕ → List ℕ → Type 0
Insides zero text rest = text ≡ rest
Insides (suc n) text rest = (mid : List ℕ) × Inside text mid × Insides n mid rest

opening : (a b : ℕ) (rest : List ℕ) → (eqb a 40 && eqb b 59) ≡ true → a ∷ b ∷ rest ≡ 40 ∷ 59 ∷ rest
opening a b rest h =
    let parts = and_parts (eqb a 40) (eqb b 59) h in
    let first : a ≡ 40 = eqb-true a 40 parts.0 in
    let second : b ≡ 59 = eqb-true b 59 parts.1 in
    cc

closing : (a b : ℕ) (rest : List ℕ) → (eqb a 59 && eqb b 41) ≡ true → a ∷ b ∷ rest ≡ 59 ∷ 41 ∷ rest
closing a b rest h =
    let parts = and_parts (eqb a 59) (eqb b 41) h in
    let first : a ≡ 59 = eqb-true a 59 parts.0 in
    let second : b ≡ 41 = eqb-true b 41 parts.1 in
    cc

pub opens_as : (text : List ℕ) → opens text ≡ true → (rest : List ℕ) × (text ≡ 40 ∷ 59 ∷ rest)
opens_as [] h = cc
opens_as (a ∷ []) h = cc
opens_as (a ∷ b ∷ rest) h = (rest, opening a b rest h)

pub closes_as : (text : List ℕ) → closes text ≡ true → (rest : List ℕ) × (text ≡ 59 ∷ 41 ∷ rest)
closes_as [] h = cc
closes_as (a ∷ []) h = cc
closes_as (a ∷ b ∷ rest) h = (rest, closing a b rest h)

-- what an inside begins with
inside_nil : {text rest : List ℕ} → text ≡ [] → Inside text rest → ⊥
inside_nil e (ends d) = cc
inside_nil e (byte b d o c i) = cc
inside_nil e (nested d i j) = cc

inside_open : {text inner rest : List ℕ} → text ≡ 40 ∷ 59 ∷ inner → Inside text rest → (mid : List ℕ) × Inside inner mid × Inside mid rest
inside_open e (ends d) = absurd (both_ways _ (ap closes e) (ap closes d))
inside_open e (byte b d o c i) = absurd (both_ways _ o (ap opens e))
inside_open e (nested {inner = inner'} {after = after} d i j) =
    let same : inner' ≡ _ = cc in
    (after, subst (λ xs. Inside xs after) same i, j)

inside_close : {text after rest : List ℕ} → text ≡ 59 ∷ 41 ∷ after → Inside text rest → after ≡ rest
inside_close e (ends d) = cc
inside_close e (byte b d o c i) = absurd (both_ways _ c (ap closes e))
inside_close e (nested d i j) = absurd (both_ways _ (ap opens e) (ap opens d))

inside_byte : {text after rest : List ℕ} (b : ℕ) → text ≡ b ∷ after → opens text ≡ false → closes text ≡ false → Inside text rest → Inside after rest
inside_byte b e o c (ends d) = absurd (both_ways _ c (ap closes d))
inside_byte {rest = rest} b e o c (byte {after = other} a d _ _ i) = let same : other ≡ _ = cc in subst (λ xs. Inside xs rest) same i
inside_byte b e o c (nested d i j) = absurd (both_ways _ o (ap opens d))

pub Inside-unique : {text rest other : List ℕ} → Inside text rest → Inside text other → rest ≡ other
Inside-unique (ends e) j = inside_close e j
Inside-unique (byte b e o c i) j = Inside-unique i (inside_byte b e o c j)
Inside-unique {other = other} (nested e i j) k =
    let parts = inside_open e k in
    Inside-unique j (subst (λ xs. Inside xs other) (sym (Inside-unique i parts.1)) parts.2)

pub Inside-shorter : {text rest : List ℕ} → Inside text rest → length rest < length text
Inside-shorter (ends e) = rw e (omega arith)
Inside-shorter (byte b e o c i) = let less = Inside-shorter i in rw e (omega arith)
Inside-shorter (nested e i j) = let less = Inside-shorter i in let fewer = Inside-shorter j in rw e (omega arith)

-- one step of a walk through comments, both ways
pub insides_open : {text inner : List ℕ} (n : ℕ) (rest : List ℕ) → text ≡ 40 ∷ 59 ∷ inner → Insides (suc n) text rest → Insides (suc (suc n)) inner rest
insides_open n rest e i = let parts = inside_open e i.1 in (parts.0, parts.1, (i.0, parts.2, i.2))

pub open_insides : {text inner : List ℕ} (n : ℕ) (rest : List ℕ) → text ≡ 40 ∷ 59 ∷ inner → Insides (suc (suc n)) inner rest → Insides (suc n) text rest
open_insides n rest e i = (i.2.0, nested e i.1 i.2.1, i.2.2)

pub insides_close : {text after : List ℕ} (n : ℕ) (rest : List ℕ) → text ≡ 59 ∷ 41 ∷ after → Insides (suc n) text rest → Insides n after rest
insides_close n rest e i = subst (λ xs. Insides n xs rest) (sym (inside_close e i.1)) i.2

pub close_insides : {text after : List ℕ} (n : ℕ) (rest : List ℕ) → text ≡ 59 ∷ 41 ∷ after → Insides n after rest → Insides (suc n) text rest
close_insides {after = after} n rest e i = (after, ends e, i)

pub insides_byte : {text after : List ℕ} (n : ℕ) (rest : List ℕ) (b : ℕ) → text ≡ b ∷ after → opens text ≡ false → closes text ≡ false → Insides (suc n) text rest → Insides (suc n) after rest
insides_byte n rest b e o c i = (i.0, inside_byte b e o c i.1, i.2)

pub byte_insides : {text after : List ℕ} (n : ℕ) (rest : List ℕ) (b : ℕ) → text ≡ b ∷ after → opens text ≡ false → closes text ≡ false → Insides (suc n) after rest → Insides (suc n) text rest
byte_insides n rest b e o c i = (i.0, byte b e o c i.1, i.2)

pub insides_nil : {text : List ℕ} (n : ℕ) (rest : List ℕ) → text ≡ [] → Insides (suc n) text rest → ⊥
insides_nil n rest e i = inside_nil e i.1

-- what `close` computes
abbrev Closes : ℕ → List ℕ → Option (List ℕ) → Type 0
Closes n text o = MatchOption o ((rest : List ℕ) → Insides n text rest → ⊥) (λ rest. Insides n text rest)

closes_along : (m n : ℕ) (text inner : List ℕ) (o : Option (List ℕ)) → ((rest : List ℕ) → Insides m inner rest → Insides n text rest) → ((rest : List ℕ) → Insides n text rest → Insides m inner rest) → Closes m inner o → Closes n text o
closes_along m n text inner None f g h = λ rest i. h rest (g rest i)
closes_along m n text inner (Some rest) f g h = f rest h

pub close_gives : (n : ℕ) (text : List ℕ) → Closes n text (close n text)
unfolding close
close_gives zero text = refl
close_gives (suc n) [] = λ rest i. insides_nil n rest refl i
close_gives (suc n) (a ∷ []) = λ rest i. insides_nil n rest refl (insides_byte n rest a refl refl refl i)
close_gives (suc n) (a ∷ b ∷ rest) =
    cond_both (eqb a 40 && eqb b 59) (close (suc (suc n)) rest) _ (Closes (suc n) (a ∷ b ∷ rest))
    (λ yes.
    closes_along (suc (suc n)) (suc n) (a ∷ b ∷ rest) rest (close (suc (suc n)) rest)
    (λ r. open_insides n r (opening a b rest yes))
    (λ r. insides_open n r (opening a b rest yes))
    (close_gives (suc (suc n)) rest))
    (λ no. cond_both (eqb a 59 && eqb b 41) (close n rest) (close (suc n) (b ∷ rest)) (Closes (suc n) (a ∷ b ∷ rest))
    (λ yes. closes_along n (suc n) (a ∷ b ∷ rest) rest (close n rest)
    (λ r. close_insides n r (closing a b rest yes))
    (λ r. insides_close n r (closing a b rest yes))
    (close_gives n rest))
    (λ also_no. closes_along (suc n) (suc n) (a ∷ b ∷ rest) (b ∷ rest) (close (suc n) (b ∷ rest))
    (λ r. byte_insides n r a refl no also_no)
    (λ r. insides_byte n r a refl no also_no)
    (close_gives (suc n) (b ∷ rest))))
