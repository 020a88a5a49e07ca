-- Events with the names that are in scope, in place of numbers.
use Rattle.std.proofs.Common.{◌≡◌, ◌⊎◌, inl, inr, ℕ, ◌-◌, List, [], ◌∷◌, ◌++◌, Bool, true, false, Option, None, Some, bytes_eq, length, take, refl, sym, ap, ◌∙◌, if◌then◌else◌}
use Rattle.std.specs.List.{AllByRecursion}
use Rattle.std.specs.Option.{is_some}
use Rattle.isle_ast_names.specs.Tree.{Name}
use Rattle.isle_resolve.specs.declared.event.Role.{Role}
use Rattle.isle_resolve.specs.Event.{EventNode, defines, uses, defines_variant, occurs, binds, reads, closes, ends}
use Rattle.isle_resolve.proofs.Texts.{bytes-are}
use Rattle.isle_index_laws.specs.scopes.Reads.{meant}

-- the first, and otherwise the second
abbrev pub or_else : {A : Type 0} → Option A → Option A → Option A
or_else None second = second
or_else (Some x) second = Some x

abbrev pub named : Name → List ℕ → Option Name
named n text = if bytes_eq n.text text then Some n else None

-- the last name of this text
abbrev pub last : List Name → List ℕ → Option Name
last [] text = None
last (n ∷ ns) text = or_else (last ns text) (named n text)

-- the names in scope after an event
abbrev pub step : EventNode → List Name → List Name
step (defines _ _) names = names
step (uses _ _) names = names
step (defines_variant _ _) names = names
step (occurs _ n) names = if is_some (last names n.text) then names else names ++ n ∷ []
step (binds n) names = names ++ n ∷ []
step (reads _) names = names
step closes names = take (length names - 1) names
step ends names = []

abbrev pub steps : List EventNode → List Name → List Name
steps [] names = names
steps (e ∷ es) names = steps es (step e names)

-- one of the events reads this variable, which means this one there
abbrev pub IsRead : Name → Option Name → List Name → EventNode → Type 0
IsRead name w names e = (e ≡ reads name) × (last names name.text ≡ w)

-- one of the events has this, with the names in scope before it
abbrev pub HasBy : (List Name → EventNode → Type 0) → List Name → List EventNode → Type 0
HasBy Q names [] = ⊥
HasBy Q names (e ∷ es) = Q names e ⊎ HasBy Q (step e names) es

-- this variable occurs in a pattern, and means that one
abbrev pub IsOccurrenceOf : Name → Name → List Name → EventNode → Type 0
IsOccurrenceOf name b names e = (role : Role) × (e ≡ occurs role name) × (or_else (last names name.text) (Some name) ≡ Some b)

abbrev pub HasOccurrence : Name → Name → List Name → List EventNode → Type 0
HasOccurrence name b names es = HasBy (IsOccurrenceOf name b) names es

abbrev pub HasRead : Name → Option Name → List Name → List EventNode → Type 0
HasRead name w names es = HasBy (IsRead name w) names es

-- no event has it, if none can
pub none_by : (P : EventNode → Type 0) (Q : List Name → EventNode → Type 0) → ((e : EventNode) (names : List Name) → P e → Q names e → ⊥) → (es : List EventNode) (names : List Name) →
    AllByRecursion P es → HasBy Q names es → ⊥
none_by P Q never [] names are h = h
none_by P Q never (e ∷ es) names are (inl h) = never e names are.0 h
none_by P Q never (e ∷ es) names are (inr h) = none_by P Q never es (step e names) are.1 h

pub steps-append : (xs ys : List EventNode) (names : List Name) → steps (xs ++ ys) names ≡ steps ys (steps xs names)
steps-append [] ys names = refl
steps-append (x ∷ xs) ys names = steps-append xs ys (step x names)

later : {A B C : Type 0} → B ⊎ C → (A ⊎ B) ⊎ C
later (inl b) = inl (inr b)
later (inr c) = inr c

pub cut_by : (Q : List Name → EventNode → Type 0) (xs ys : List EventNode) (names : List Name) → HasBy Q names (xs ++ ys) →
    HasBy Q names xs ⊎ HasBy Q (steps xs names) ys
cut_by Q [] ys names h = inr h
cut_by Q (x ∷ xs) ys names (inl h) = inl (inl h)
cut_by Q (x ∷ xs) ys names (inr h) = later (cut_by Q xs ys (step x names) h)

pub in_front_by : (Q : List Name → EventNode → Type 0) (xs ys : List EventNode) (names : List Name) → HasBy Q names xs → HasBy Q names (xs ++ ys)
in_front_by Q [] ys names h = absurd h
in_front_by Q (x ∷ xs) ys names (inl h) = inl h
in_front_by Q (x ∷ xs) ys names (inr h) = inr (in_front_by Q xs ys (step x names) h)

pub behind_by : (Q : List Name → EventNode → Type 0) (xs ys : List EventNode) (names : List Name) → HasBy Q (steps xs names) ys → HasBy Q names (xs ++ ys)
behind_by Q [] ys names h = h
behind_by Q (x ∷ xs) ys names h = inr (behind_by Q xs ys (step x names) h)

pub cut : (name : Name) (w : Option Name) (xs ys : List EventNode) (names : List Name) → HasRead name w names (xs ++ ys) →
    HasRead name w names xs ⊎ HasRead name w (steps xs names) ys
cut name w xs ys names h = cut_by (IsRead name w) xs ys names h

pub in_front : (name : Name) (w : Option Name) (xs ys : List EventNode) (names : List Name) → HasRead name w names xs → HasRead name w names (xs ++ ys)
in_front name w xs ys names h = in_front_by (IsRead name w) xs ys names h

pub behind : (name : Name) (w : Option Name) (xs ys : List EventNode) (names : List Name) → HasRead name w (steps xs names) ys → HasRead name w names (xs ++ ys)
behind name w xs ys names h = behind_by (IsRead name w) xs ys names h

-- scopes

abbrev pub Agree : List Name → List Name → Type 0
Agree names scope = (text : List ℕ) → last names text ≡ meant scope text

or_else-assoc : {A : Type 0} (a b c : Option A) → or_else (or_else a b) c ≡ or_else a (or_else b c)
or_else-assoc None b c = refl
or_else-assoc (Some x) b c = refl

or_else-none : {A : Type 0} (a : Option A) → or_else a None ≡ a
or_else-none None = refl
or_else-none (Some x) = refl

last-append : (xs ys : List Name) (text : List ℕ) → last (xs ++ ys) text ≡ or_else (last ys text) (last xs text)
last-append [] ys text = sym (or_else-none (last ys text))
last-append (x ∷ xs) ys text =
    ap (λ o. or_else o (named x text)) (last-append xs ys text) ∙ or_else-assoc (last ys text) (last xs text) (named x text)

meant-cond : (b : Bool) (x : Name) (o p : Option Name) → or_else (if b then Some x else o) p ≡ (if b then Some x else or_else o p)
meant-cond true x o p = refl
meant-cond false x o p = refl

pub meant-append : (xs ys : List Name) (text : List ℕ) → meant (xs ++ ys) text ≡ or_else (meant xs text) (meant ys text)
meant-append [] ys text = refl
meant-append (x ∷ xs) ys text =
    ap (λ o. if bytes_eq x.text text then Some x else o) (meant-append xs ys text) ∙ sym (meant-cond (bytes_eq x.text text) x (meant xs text) (meant ys text))

pushed : (b : Bool) (x : Name) (o : Option Name) → or_else (if b then Some x else None) o ≡ (if b then Some x else o)
pushed true x o = refl
pushed false x o = refl

-- a `let` binds
pub agree_push : (names scope : List Name) (n : Name) → Agree names scope → Agree (names ++ n ∷ []) (n ∷ scope)
agree_push names scope n agree text =
    last-append names (n ∷ []) text ∙ ap (λ o. or_else (named n text) o) (agree text) ∙ pushed (bytes_eq n.text text) n (meant scope text)

-- a pattern binds
found_first : (b : Bool) (n : Name) (o : Option Name) → (b ≡ true → is_some o ≡ true) → o ≡ or_else o (if b then Some n else None)
found_first b n (Some x) h = refl
found_first false n None h = refl
found_first true n None h = let never : false ≡ true = h refl in absurd (cc)

found_last : (b : Bool) (n : Name) (o : Option Name) → (b ≡ true → is_some o ≡ false) → or_else (if b then Some n else None) o ≡ or_else o (if b then Some n else None)
found_last false n None h = refl
found_last true n None h = refl
found_last false n (Some x) h = refl
found_last true n (Some x) h = let never : true ≡ false = h refl in absurd (cc)

at_text : (names : List Name) (n : Name) (text : List ℕ) (b : Bool) → is_some (last names n.text) ≡ b → bytes_eq n.text text ≡ true → is_some (last names text) ≡ b
at_text names n text b is same = sym (ap (λ t. is_some (last names t)) (bytes-are n.text text same)) ∙ is

agree_occurs : (names scope : List Name) (n : Name) (b : Bool) → is_some (last names n.text) ≡ b → Agree names scope →
    Agree (if b then names else names ++ n ∷ []) (scope ++ n ∷ [])
agree_occurs names scope n true is agree text =
    found_first (bytes_eq n.text text) n (last names text) (at_text names n text true is)
    ∙ ap (λ o. or_else o (named n text)) (agree text)
    ∙ sym (meant-append scope (n ∷ []) text)
agree_occurs names scope n false is agree text =
    last-append names (n ∷ []) text
    ∙ found_last (bytes_eq n.text text) n (last names text) (at_text names n text false is)
    ∙ ap (λ o. or_else o (named n text)) (agree text)
    ∙ sym (meant-append scope (n ∷ []) text)

pub agree_occurrence : (names scope : List Name) (n : Name) → Agree names scope →
    Agree (if is_some (last names n.text) then names else names ++ n ∷ []) (scope ++ n ∷ [])
agree_occurrence names scope n agree = agree_occurs names scope n (is_some (last names n.text)) refl agree
