-- What the search finds is the first misuse, and there is none where it finds nothing.
use Rattle.std.proofs.Common.{◌≡◌, ◌==◌, inl, inr, ℕ, List, [], ◌∷◌, ◌++◌, get_or, map, Bool, true, false, Option, None, Some, slice_get, if◌then◌else◌, refl, ap, sym, subst, ◌∙◌, eqb-true, eq-eqb}
use Rattle.std.specs.List.{AllByRecursion}
use Rattle.isle_base_source.specs.declared.pos.Pos.{Pos}
use Rattle.isle_ast_names.specs.Tree.{Name}
use Rattle.isle_expand_core.specs.Macros.{MacroNode, meant, place_of}
use Rattle.isle_expand_core.specs.Mentions.{Mention, given_mention, use_mention, TermUse}
use Rattle.isle_expand_core.specs.Misuses.{Ends, IsFine, IsFineUse, IsMisuse, MisuseNode, Misuses, again, arguments, cycle}
use Rattle.isle_expand_warnings.specs.First.{first, or_first}
use Rattle.isle_expand_core.specs.Search.{given_misuse, macro_misuse, mention_misuse, place_misuse, use_misuse}
use Rattle.isle_expand_core.proofs.Places.{no_place, place_means}

-- the search over lists after one another
pub first_append : {A B : Type 0} (f : A → Option B) (xs ys : List A) → first f (xs ++ ys) ≡ or_first (first f xs) (first f ys)
first_append f [] ys = refl
first_append f (x ∷ xs) ys = ap (or_first (f x)) (first_append f xs ys) ∙ or_assoc (f x) (first f xs) (first f ys)
  where
    or_assoc : {B : Type 0} (a b c : Option B) → or_first a (or_first b c) ≡ or_first (or_first a b) c
    or_assoc None b c = refl
    or_assoc (Some x) b c = refl

pub first_map : {A B C : Type 0} (f : B → Option C) (g : A → B) (xs : List A) → first f (map g xs) ≡ first (λ x. f (g x)) xs
first_map f g [] = refl
first_map f g (x ∷ xs) = ap (or_first (f (g x))) (first_map f g xs)

-- flags that tell exactly which templates come to an end
pub record AreExact (ms : List MacroNode) (flags : List Bool) : Type 0 where
  pub sound : (p : ℕ) (m : MacroNode) → slice_get ms p ≡ Some m → get_or flags p false ≡ true → Ends ms m.template
  pub complete : (p : ℕ) (m : MacroNode) → slice_get ms p ≡ Some m → Ends ms m.template → get_or flags p false ≡ true

neq : (a b : ℕ) → (a == b) ≡ false → ¬ (a ≡ b)
neq a b h e = let t : (a == b) ≡ true = eq-eqb a b e in absurd (cc)

-- what a flag tells of a template
abbrev pub Tells : List MacroNode → MacroNode → Bool → Type 0
Tells ms m true = Ends ms m.template
Tells ms m false = ¬ (Ends ms m.template)

tells : (ms : List MacroNode) (flags : List Bool) → AreExact ms flags → (p : ℕ) (m : MacroNode) → slice_get ms p ≡ Some m → (b : Bool) → get_or flags p false ≡ b → Tells ms m b
tells ms flags exact p m there true h = exact.sound p m there h
tells ms flags exact p m there false h = λ e. let t : get_or flags p false ≡ true = exact.complete p m there e in absurd (cc)

-- what is said of a use, by cases
abbrev Said : List MacroNode → TermUse → MacroNode → Option MisuseNode → Type 0
Said ms u m None = IsFineUse ms (Some m) u.given
Said ms u m (Some n) = IsMisuse ms u (Some m) n

flag_said : (ms : List MacroNode) (u : TermUse) (m : MacroNode) (b : Bool) → u.given ≡ m.arity → Tells ms m b → Said ms u m (if b then None else Some (cycle u.term u.pos))
flag_said ms u m true e t = (e, t)
flag_said ms u m false e t = inr (e, t, refl)

count_said : (ms : List MacroNode) (u : TermUse) (m : MacroNode) (flag b : Bool) → (u.given == m.arity) ≡ b → Tells ms m flag →
    Said ms u m (if b then (if flag then None else Some (cycle u.term u.pos)) else Some (arguments u.term u.pos m.arity u.given))
count_said ms u m flag true h t = flag_said ms u m flag (eqb-true u.given m.arity h) t
count_said ms u m flag false h t = inl (neq u.given m.arity h, refl)

abbrev SaidOf : List MacroNode → TermUse → Option MacroNode → Option MisuseNode → Type 0
SaidOf ms u o None = IsFineUse ms o u.given
SaidOf ms u o (Some n) = IsMisuse ms u o n

said_some : (ms : List MacroNode) (u : TermUse) (m : MacroNode) (o : Option MisuseNode) → Said ms u m o → SaidOf ms u (Some m) o
said_some ms u m None h = h
said_some ms u m (Some n) h = h

module _ (ms : List MacroNode) (flags : List Bool) (exact : AreExact ms flags) where
  place_said : (u : TermUse) (o : Option ℕ) → place_of u.term.text ms ≡ o → SaidOf ms u (meant u.term.text ms) (place_misuse ms flags u o)
  place_said u None is = subst (λ m. IsFineUse ms m u.given) (sym (no_place u.term.text ms is)) tt
  place_said u (Some p) is =
      let at = place_means u.term.text ms p is in
      let said : SaidOf ms u (Some at.found) (macro_misuse u (get_or flags p false) (Some at.found)) =
      said_some ms u at.found (macro_misuse u (get_or flags p false) (Some at.found))
      (count_said ms u at.found (get_or flags p false) (u.given == at.found.arity) refl (tells ms flags exact p at.found at.there (get_or flags p false) refl)) in
      let there : SaidOf ms u (Some at.found) (macro_misuse u (get_or flags p false) (slice_get ms p)) =
      subst (λ o. SaidOf ms u (Some at.found) (macro_misuse u (get_or flags p false) o)) (sym at.there) said in
      subst (λ o. SaidOf ms u o (place_misuse ms flags u (Some p))) (sym at.means) there

  -- what is said of a mention
  abbrev SaidOfMention : Mention → Option MisuseNode → Type 0
  SaidOfMention mention None = IsFine ms mention
  SaidOfMention mention (Some n) = Misuses ms mention n

  use_said : (u : TermUse) (o : Option MisuseNode) → SaidOf ms u (meant u.term.text ms) o → SaidOfMention (use_mention u) o
  use_said u None h = h
  use_said u (Some n) h = h

  given_if : (term : Name) (place p : ℕ) (pos : Pos) (b : Bool) → place_of term.text ms ≡ Some p → (p == place) ≡ b →
      SaidOfMention (given_mention term place pos) (if b then None else Some (again term pos))
  given_if term place p pos true is h = is ∙ ap (λ q. Some q) (eqb-true p place h)
  given_if term place p pos false is h = ((λ e. let same : p ≡ place = cc in neq p place h same), refl)

  given_said : (term : Name) (place : ℕ) (pos : Pos) (o : Option ℕ) → place_of term.text ms ≡ o → SaidOfMention (given_mention term place pos) (given_misuse term place pos o)
  given_said term place pos None is = ((λ e. absurd (cc)), refl)
  given_said term place pos (Some p) is = given_if term place p pos (p == place) is refl

  mention_said : (mention : Mention) → SaidOfMention mention (mention_misuse ms flags mention)
  mention_said (given_mention term place pos) = given_said term place pos (place_of term.text ms) refl
  mention_said (use_mention u) = use_said u (use_misuse ms flags u) (place_said u (place_of u.term.text ms) refl)

  -- of the first
  pub record IsFirst (all : List Mention) (n : MisuseNode) : Type 0 where
    pub before : List Mention
    pub mention : Mention
    pub behind : List Mention
    pub is : all ≡ before ++ mention ∷ behind
    pub fine : AllByRecursion (IsFine ms) before
    pub wrong : Misuses ms mention n

  abbrev SaidOfAll : List Mention → Option MisuseNode → Type 0
  SaidOfAll all None = AllByRecursion (IsFine ms) all
  SaidOfAll all (Some n) = IsFirst all n

  said_more : (mention : Mention) (all : List Mention) (o p : Option MisuseNode) → SaidOfMention mention o → SaidOfAll all p → SaidOfAll (mention ∷ all) (or_first o p)
  said_more mention all None None h k = (h, k)
  said_more mention all None (Some n) h k =
      record {
        before = mention ∷ k.before;
        mention = k.mention;
        behind = k.behind;
        is = ap (λ rest. mention ∷ rest) k.is;
        fine = (h, k.fine);
        wrong = k.wrong;
      }
  said_more mention all (Some n) p h k =
      record { before = []; mention = mention; behind = all; is = refl; fine = tt; wrong = h }

  all_said : (all : List Mention) → SaidOfAll all (first (mention_misuse ms flags) all)
  all_said [] = tt
  all_said (mention ∷ all) =
      said_more mention all (mention_misuse ms flags mention) (first (mention_misuse ms flags) all) (mention_said mention) (all_said all)

  pub none_wrong : (all : List Mention) → first (mention_misuse ms flags) all ≡ None → AllByRecursion (IsFine ms) all
  none_wrong all h = subst (SaidOfAll all) h (all_said all)

  pub first_wrong : (all : List Mention) (n : MisuseNode) → first (mention_misuse ms flags) all ≡ Some n → IsFirst all n
  first_wrong all n h = subst (SaidOfAll all) h (all_said all)

-- a mention with which nothing is wrong is no misuse
pub fine_or_wrong : (ms : List MacroNode) (mention : Mention) (n : MisuseNode) → IsFine ms mention → Misuses ms mention n → ⊥
fine_or_wrong ms (given_mention term place pos) n h k = k.0 h
fine_or_wrong ms (use_mention u) n h k = fine_use ms u (meant u.term.text ms) n h k
  where
    fine_use : (ms : List MacroNode) (u : TermUse) (o : Option MacroNode) (n : MisuseNode) → IsFineUse ms o u.given → IsMisuse ms u o n → ⊥
    fine_use ms u None n h k = k
    fine_use ms u (Some m) n h (inl k) = k.0 h.0
    fine_use ms u (Some m) n h (inr k) = k.1 h.1
