-- Each name of the definitions that tokens spell is the text of a token.
use Rattle.std.proofs.Common.{◌≡◌, ◌⊎◌, inl, inr, ℕ, ◌+◌, ◌<◌, ◌≤◌, List, [], ◌∷◌, Bool, true, false, cond, not, ◌&&◌, Option, None, Some, bytes_eq, codes, map, refl, sym, ap, subst, ◌∙◌, arith, ⊎_elim}
use Rattle.std.proofs.lemmas.Bool.{and_from, and_parts}
use Rattle.std.proofs.lemmas.List.{append-nil}
use Rattle.std.proofs.lemmas.Str.{IsUtf8-from_ascii}
use Rattle.std.proofs.lemmas.Str.Ascii.{IsAscii-cons, IsAscii-nil}
use Rattle.isle_base.specs.Place.{Placed}
use Rattle.isle_base.specs.Skips.{begins_with}
use Rattle.isle_base.specs.Token.{symbol}
use Rattle.isle_base_source.specs.declared.pos.Pos.{Pos}
use Rattle.isle_ast_names.specs.Identifier.{is_ascii_identifier, is_identifier}
use Rattle.isle_ast_names.specs.Tree.{Name}
use Rattle.isle_ast_names.specs.Words.{SpellsAll, is_dollar}
use Rattle.isle_ast_names.proofs.Identifiers.{ascii_identifier}
use Rattle.isle_ast.specs.Grammar.{SpellsDefinition, SpellsDefinitions}
use Rattle.isle_ast.specs.Tree.{Definition}
use Rattle.isle_parser.proofs.Reading.Definitions.{one_list}
use Rattle.isle_resolve.specs.Event.{EventNode, binds, closes, defines, defines_variant, ends, occurs, reads, uses}
use Rattle.isle_resolve.specs.Events.{events}
use Rattle.isle_resolve.specs.Mapped.{map_definitions, map_event}
use Rattle.isle_resolve.proofs.MappedLemmas.{events_follow}
use Rattle.isle_index.specs.Renamed.{are_apart, same_place}
use Rattle.isle_index.specs.Renaming.{is_new_name, is_reserved}
use Rattle.isle_resolve.proofs.Texts.{bytes-are, bytes-true}
use Rattle.isle_index_laws.specs.Kept.{AreKept, CanReplace, IsKeptName}
use Rattle.isle_index_laws.specs.RenamedTokens.{as_written, positions}
use Rattle.isle_index_laws.proofs.FollowedDefinitions.{definitions_follow}
use Rattle.isle_index_laws.proofs.Follows.{Follow}
use Rattle.isle_index_laws.proofs.Marks.{Mark, constant, events_at, hit, is_constant_kind, marks_at, name, one_if, plain, token, tokens, tokens_of, wanted}
use Rattle.isle_index_laws.proofs.NewNames.{new_text_fits, same_text}
use Rattle.isle_index_laws.proofs.RenamedTokens.{once, places_at}
use Rattle.isle_index_laws.proofs.KeptNames.{clash}
use Rattle.isle_index_laws.proofs.edits.Positions.{position_is, same_self}

-- a token, or an event, is one of these
abbrev pub Has : {A : Type 0} → List A → A → Type 0
Has [] x = ⊥
Has (y ∷ ys) x = (y ≡ x) ⊎ Has ys x

-- the name that an event is about, and whether that is a constant; of a variant its own name, where it is defined
abbrev pub name_of : EventNode → Option (Bool × Name)
name_of (defines kind n) = Some (is_constant_kind kind, n)
name_of (uses kind n) = Some (is_constant_kind kind, n)
name_of (defines_variant _ member) = Some (false, member)
name_of (occurs _ n) = Some (false, n)
name_of (binds n) = Some (false, n)
name_of (reads n) = Some (false, n)
name_of closes = None
name_of ends = None

-- the token of a name
abbrev pub written : Bool → Name → Placed
written c n = record { pos = n.pos; token = symbol (as_written c n.text) }

-- one name gets another text, which no name has

abbrev is_it : Pos → List ℕ → Name → Bool
is_it p text n = same_place p n.pos && bytes_eq n.text text

abbrev turned : Pos → List ℕ → List ℕ → Name → Name
turned p text other n = cond (is_it p text n) (record { text = other; pos = n.pos }) n

turned_stays : (other : List ℕ) (n : Name) (b : Bool) → (cond b (record { text = other; pos = n.pos }) n).pos ≡ n.pos
turned_stays other n true = refl
turned_stays other n false = refl

turned_fits : (other : List ℕ) (n : Name) (b : Bool) → is_new_name other ≡ true → CanReplace n.text (cond b (record { text = other; pos = n.pos }) n).text
turned_fits other n true h = new_text_fits n.text other h
turned_fits other n false h = same_text n.text

module _ (p : Pos) (text other : List ℕ) (fresh : is_new_name other ≡ true) where
  abbrev f : Name → Name
  f = turned p text other

  fits : (n : Name) → IsKeptName f n
  fits n = turned_fits other n (is_it p text n) fresh

  all_fit : (es : List EventNode) → AreKept f es
  all_fit [] = tt
  all_fit (defines k n ∷ es) = (fits n, all_fit es)
  all_fit (uses k n ∷ es) = (fits n, all_fit es)
  all_fit (defines_variant o m ∷ es) = ((fits o, fits m), all_fit es)
  all_fit (occurs r n ∷ es) = (fits n, all_fit es)
  all_fit (binds n ∷ es) = (fits n, all_fit es)
  all_fit (reads n ∷ es) = (fits n, all_fit es)
  all_fit (closes ∷ es) = (tt, all_fit es)
  all_fit (ends ∷ es) = (tt, all_fit es)

  -- the marks are of other names, or one is of this name

  abbrev Seen : List Mark → Type 0
  Seen ms = (d : Bool) × Has (tokens_of ms) (record { pos = p; token = symbol (as_written d text) }) × (1 ≤ marks_at d p ms)

  look_name : (n : Name) (ms : List Mark) (b : Bool) → is_it p text n ≡ b → (tokens f ms ≡ tokens_of ms) ⊎ Seen ms → (tokens f (name n ∷ ms) ≡ tokens_of (name n ∷ ms)) ⊎ Seen (name n ∷ ms)
  look_name n ms true is later =
      let both = and_parts (same_place p n.pos) (bytes_eq n.text text) is in
      let here = position_is p n.pos both.0 in
      let same = bytes-are n.text text both.1 in
      let hits : hit false p (Some (false, n.pos)) ≡ 1 = ap one_if both.0 in
      inr (false, inl (λ i. record { pos = here i; token = symbol (same i) }), omega arith)
  look_name n ms false is (inl stays) =
      inl (ap (λ m. record { pos = n.pos; token = symbol m.text } ∷ tokens f ms) (ap (λ b. cond b (record { text = other; pos = n.pos }) n) is) ∙ ap (λ ts. token (λ m. m) (name n) ∷ ts) stays)
  look_name n ms false is (inr s) = inr (s.0, inr s.1, omega (arith, s.2))

  look_constant : (n : Name) (ms : List Mark) (b : Bool) → is_it p text n ≡ b → (tokens f ms ≡ tokens_of ms) ⊎ Seen ms → (tokens f (constant n ∷ ms) ≡ tokens_of (constant n ∷ ms)) ⊎ Seen (constant n ∷ ms)
  look_constant n ms true is later =
      let both = and_parts (same_place p n.pos) (bytes_eq n.text text) is in
      let here = position_is p n.pos both.0 in
      let same = bytes-are n.text text both.1 in
      let hits : hit true p (Some (true, n.pos)) ≡ 1 = ap one_if both.0 in
      inr (true, inl (λ i. record { pos = here i; token = symbol (as_written true (same i)) }), omega arith)
  look_constant n ms false is (inl stays) =
      inl (ap (λ m. record { pos = n.pos; token = symbol (as_written true m.text) } ∷ tokens f ms) (ap (λ b. cond b (record { text = other; pos = n.pos }) n) is) ∙ ap (λ ts. token (λ m. m) (constant n) ∷ ts) stays)
  look_constant n ms false is (inr s) = inr (s.0, inr s.1, omega (arith, s.2))

  look_plain : (t : Placed) (ms : List Mark) → (tokens f ms ≡ tokens_of ms) ⊎ Seen ms → (tokens f (plain t ∷ ms) ≡ tokens_of (plain t ∷ ms)) ⊎ Seen (plain t ∷ ms)
  look_plain t ms (inl stays) = inl (ap (λ ts. t ∷ ts) stays)
  look_plain t ms (inr s) = inr (s.0, inr s.1, omega (arith, s.2))

  look : (ms : List Mark) → (tokens f ms ≡ tokens_of ms) ⊎ Seen ms
  look [] = inl refl
  look (plain t ∷ ms) = look_plain t ms (look ms)
  look (name n ∷ ms) = look_name n ms (is_it p text n) refl (look ms)
  look (constant n ∷ ms) = look_constant n ms (is_it p text n) refl (look ms)

-- an event that stays, as all do
stays_there : (g : EventNode → EventNode) (es : List EventNode) (e : EventNode) → es ≡ map g es → Has es e → e ≡ g e
stays_there g [] e same h = absurd h
stays_there g (d ∷ es) e same (inl is) = let first : d ≡ g d = cc in sym is ∙ first ∙ ap g is
stays_there g (d ∷ es) e same (inr later) = let rest : es ≡ map g es = cc in stays_there g es e rest later

abbrev text_of : Option (Bool × Name) → List ℕ
text_of None = []
text_of (Some x) = x.1.text

abbrev named_by : Option (Bool × Name) → (Name → Name) → List ℕ
named_by None g = []
named_by (Some x) g = (g x.1).text

-- the name of an event that is changed
mapped_name : (g : Name → Name) (e : EventNode) → text_of (name_of (map_event g e)) ≡ named_by (name_of e) g
mapped_name g (defines k m) = refl
mapped_name g (uses k m) = refl
mapped_name g (defines_variant o m) = refl
mapped_name g (occurs r m) = refl
mapped_name g (binds m) = refl
mapped_name g (reads m) = refl
mapped_name g closes = refl
mapped_name g ends = refl

-- an event about a name is wanted at its place

own : (c : Bool) (p : Pos) → hit c p (Some (c, p)) ≡ 1
own true p = ap one_if (same_self p)
own false p = ap one_if (same_self p)

abbrev key_of : Option (Bool × Name) → Option (Bool × Pos)
key_of None = None
key_of (Some x) = Some (x.0, x.1.pos)

key_is : (e : EventNode) (x : Bool × Name) → name_of e ≡ Some x → wanted e ≡ key_of (name_of e)
key_is (defines k m) x is = refl
key_is (uses k m) x is = refl
key_is (defines_variant o m) x is = refl
key_is (occurs r m) x is = refl
key_is (binds m) x is = refl
key_is (reads m) x is = refl
key_is closes x is = refl
key_is ends x is = refl

wants : (e : EventNode) (c : Bool) (n : Name) → name_of e ≡ Some (c, n) → hit c n.pos (wanted e) ≡ 1
wants e c n is = ap (hit c n.pos) (key_is e (c, n) is ∙ ap key_of is) ∙ own c n.pos

-- the number of events about a name

pub named_at : (es : List EventNode) (e : EventNode) (c : Bool) (n : Name) → Has es e → name_of e ≡ Some (c, n) → 1 ≤ events_at c n.pos es
named_at [] e c n h is = absurd h
named_at (d ∷ es) e c n (inl same) is = let one = wants d c n (ap name_of same ∙ is) in omega arith
named_at (d ∷ es) e c n (inr later) is = let more = named_at es e c n later is in omega arith

-- a new name that is not this text

letter_name : (b : ℕ) → b < 128 → is_ascii_identifier (b ∷ []) ≡ true → not (begins_with is_dollar (b ∷ [])) && not (is_reserved (b ∷ [])) ≡ true → is_new_name (b ∷ []) ≡ true
letter_name b less letter free =
    let both = and_parts (not (begins_with is_dollar (b ∷ []))) (not (is_reserved (b ∷ []))) free in
    and_from (is_identifier (b ∷ []) && not (begins_with is_dollar (b ∷ []))) (not (is_reserved (b ∷ [])))
    (and_from (is_identifier (b ∷ [])) (not (begins_with is_dollar (b ∷ []))) (ascii_identifier (b ∷ []) (IsUtf8-from_ascii (b ∷ []) (IsAscii-cons b [] less IsAscii-nil)) letter) both.0)
    both.1

name_a : is_new_name (codes "a") ≡ true
name_a = letter_name 97 (omega arith) refl refl

name_b : is_new_name (codes "b") ≡ true
name_b = letter_name 98 (omega arith) refl refl

abbrev Other : List ℕ → Type 0
Other text = (other : List ℕ) × (is_new_name other ≡ true) × (text ≡ other → ⊥)

other_by : (text : List ℕ) (b : Bool) → bytes_eq text (codes "a") ≡ b → Other text
other_by text true is = (
  codes "b",
  name_b,
  λ e.
      clash (bytes_eq (codes "a") (codes "b"))
      (bytes-true (codes "a") (codes "b") (sym (bytes-are text (codes "a") is) ∙ e))
      refl,
)
other_by text false is = (codes "a", name_a, λ e. clash (bytes_eq text (codes "a")) (bytes-true text (codes "a") e) is)

-- a mark of the other kind is none at this place
kind_is : (c d : Bool) (p : Pos) (ms : List Mark) → marks_at false p ms + marks_at true p ms ≤ 1 → 1 ≤ marks_at c p ms → 1 ≤ marks_at d p ms → d ≡ c
kind_is true true p ms most one other = refl
kind_is false false p ms most one other = refl
kind_is true false p ms most one other = absurd (omega arith)
kind_is false true p ms most one other = absurd (omega arith)

names_fewer : (p : Pos) (ms : List Mark) → marks_at false p ms + marks_at true p ms ≤ places_at p (positions (tokens_of ms))
names_fewer p [] = omega arith
names_fewer p (plain t ∷ ms) = let more = names_fewer p ms in omega arith
names_fewer p (name n ∷ ms) = let more = names_fewer p ms in omega arith
names_fewer p (constant n ∷ ms) = let more = names_fewer p ms in omega arith

-- the token of each name
pub has_token : (ds : List Definition) (ts : List Placed) (e : EventNode) (c : Bool) (n : Name) → SpellsDefinitions ds ts → are_apart (positions ts) ≡ true → Has (events ds) e → name_of e ≡ Some (c, n) →
    Has ts (written c n)
has_token ds ts e c n h away there is =
    let o = other_by n.text (bytes_eq n.text (codes "a")) refl in
    let g : Name → Name = turned n.pos n.text o.0 in
    let one : Follow g (SpellsAll SpellsDefinition (map_definitions g ds)) (events ds) ts [] =
    definitions_follow g (λ m. turned_stays o.0 m (is_it n.pos n.text m)) ds ts [] (all_fit n.pos n.text o.0 o.1 (events ds)) h in
    let all : ts ≡ tokens_of one.marks = one.is ∙ append-nil (tokens_of one.marks) in
    ⊎_elim
    (λ same.
    let again : SpellsDefinitions (map_definitions g ds) ts = subst (SpellsDefinitions (map_definitions g ds)) (append-nil (tokens g one.marks) ∙ same ∙ sym all) (one.spelt []) in
    let unchanged : ds ≡ map_definitions g ds = one_list ts ds (map_definitions g ds) h again in
    let stays : e ≡ map_event g e = stays_there (map_event g) (events ds) e (ap events unchanged ∙ events_follow g ds) there in
    let here : is_it n.pos n.text n ≡ true = and_from (same_place n.pos n.pos) (bytes_eq n.text n.text) (same_self n.pos) (bytes-true n.text n.text refl) in
    let moved : n.text ≡ o.0 =
    sym (ap text_of is) ∙ ap (λ d. text_of (name_of d)) stays ∙ mapped_name g e ∙ ap (λ x. named_by x g) is ∙ ap (λ b. (cond b (record { text = o.0; pos = n.pos }) n).text) here in
    absurd (o.2 moved))
    (λ s.
    let least = once (positions ts) away n.pos in
    let number : places_at n.pos (positions ts) ≡ places_at n.pos (positions (tokens_of one.marks)) = ap (λ us. places_at n.pos (positions us)) all in
    let fewer = names_fewer n.pos one.marks in
    let marks = one.marked c n.pos in
    let events_there = named_at (events ds) e c n there is in
    let kind : s.0 ≡ c = kind_is c s.0 n.pos one.marks (omega arith) (omega arith) s.2 in
    subst (λ us. Has us (written c n)) (sym all) (subst (λ d. Has (tokens_of one.marks) (written d n)) kind s.1))
    (look n.pos n.text o.0 o.1 one.marks)
