-- Adding events to an index.
use Rattle.std.proofs.Common.{◌≡◌, ℕ, ◌+◌, List, [], ◌∷◌, ◌++◌, None, Some, length, refl, sym, ap, ◌∙◌, suc, arith, append_assoc, subst}
use Rattle.std.specs.List.{AllByRecursion}
use Rattle.std.specs.declared.alloc.Global.{Global}
use Rattle.std.specs.declared.string.String.{String}
use Rattle.isle_ast_names.specs.Tree.{Name}
use Rattle.isle_resolve.specs.Event.{EventNode, defines, uses, defines_variant, occurs, binds, reads}
use Rattle.isle_index.specs.declared.entries.Entry.{Entry}
use Rattle.isle_index.specs.declared.entries.Entry.TheVariants as entries
use Rattle.isle_index.specs.declared.entries.Spot.{Spot}
use Rattle.isle_index.specs.Entries.{or_no_bytes, unpacked, unpacked_from, with_binder, word_at}
use Rattle.isle_index.specs.Held.{Extends, HasText, HasTexts, IsEntryOf, IsSpotOf}
use Rattle.isle_resolve.specs.Scopes.{BoundNode, SeenNode, after, binder, seen_from}

-- a word is read as it was written
pub word_is : (texts : List (String Global)) (n : Name) (s : Spot) → IsSpotOf texts n s → word_at texts s ≡ n
word_is texts n s is =
    ap (λ t. record { text = or_no_bytes t; pos = record { file = s.file; offset = s.offset } }) is.text
    ∙ ap (λ f. record { text = n.text; pos = record { file = f; offset = s.offset } }) is.file
    ∙ ap (λ o. record { text = n.text; pos = record { file = n.pos.file; offset = o } }) is.offset

pub spot_has : (texts : List (String Global)) (n : Name) (s : Spot) → IsSpotOf texts n s → HasText texts s
spot_has texts n s is = (n.text, is.text)

pub spot_stays : (old new : List (String Global)) → Extends old new → (n : Name) (s : Spot) → IsSpotOf old n s → IsSpotOf new n s
spot_stays old new more n s is = record { text = more s.text n.text is.text; file = is.file; offset = is.offset }

-- where texts are added, entries keep theirs
text_stays : (old new : List (String Global)) → Extends old new → (s : Spot) → HasText old s → HasText new s
text_stays old new more s has = (has.0, more s.text has.0 has.1)

word_stays : (old new : List (String Global)) → Extends old new → (s : Spot) → HasText old s → word_at new s ≡ word_at old s
word_stays old new more s has =
    ap (λ t. record { text = or_no_bytes t; pos = record { file = s.file; offset = s.offset } }) (more s.text has.0 has.1 ∙ sym has.1)

texts_stay : (old new : List (String Global)) → Extends old new → (e : Entry) → HasTexts old e → HasTexts new e
texts_stay old new more (entries.Defines kind s) has = text_stays old new more s has
texts_stay old new more (entries.Uses kind s) has = text_stays old new more s has
texts_stay old new more (entries.DefinesVariant o m) has = (text_stays old new more o has.0, text_stays old new more m has.1)
texts_stay old new more (entries.Occurs role s b) has = text_stays old new more s has
texts_stay old new more (entries.Binds s) has = text_stays old new more s has
texts_stay old new more (entries.Reads s b) has = text_stays old new more s has
texts_stay old new more entries.Closes has = tt
texts_stay old new more entries.Ends has = tt

unpacked_stays : (old new : List (String Global)) → Extends old new → (i : ℕ) (e : Entry) → HasTexts old e → unpacked new i e ≡ unpacked old i e
unpacked_stays old new more i (entries.Defines kind s) has = ap (λ w. record { event = defines kind w; number = i; binder = None }) (word_stays old new more s has)
unpacked_stays old new more i (entries.Uses kind s) has = ap (λ w. record { event = uses kind w; number = i; binder = None }) (word_stays old new more s has)
unpacked_stays old new more i (entries.DefinesVariant o m) has =
    ap (λ w. record { event = defines_variant w (word_at new m); number = i; binder = None }) (word_stays old new more o has.0)
    ∙ ap (λ w. record { event = defines_variant (word_at old o) w; number = i; binder = None }) (word_stays old new more m has.1)
unpacked_stays old new more i (entries.Occurs role s b) has = ap (λ w. record { event = occurs role w; number = i; binder = Some b }) (word_stays old new more s has)
unpacked_stays old new more i (entries.Binds s) has = ap (λ w. record { event = binds w; number = i; binder = Some i }) (word_stays old new more s has)
unpacked_stays old new more i (entries.Reads s b) has = ap (λ w. record { event = reads w; number = i; binder = b }) (word_stays old new more s has)
unpacked_stays old new more i entries.Closes has = refl
unpacked_stays old new more i entries.Ends has = refl

all_stay : (old new : List (String Global)) → Extends old new → (i : ℕ) (es : List Entry) → AllByRecursion (HasTexts old) es → unpacked_from new i es ≡ unpacked_from old i es
all_stay old new more i [] has = refl
all_stay old new more i (e ∷ es) has =
    ap (λ s. s ∷ unpacked_from new (i + 1) es) (unpacked_stays old new more i e has.0)
    ∙ ap (λ ss. unpacked old i e ∷ ss) (all_stay old new more (i + 1) es has.1)

-- one more entry
all_have : (old new : List (String Global)) → Extends old new → (es : List Entry) (e : Entry) → AllByRecursion (HasTexts old) es → HasTexts new e → AllByRecursion (HasTexts new) (es ++ e ∷ [])
all_have old new more [] e has own = (own, tt)
all_have old new more (x ∷ xs) e has own = (texts_stay old new more x has.0, all_have old new more xs e has.1 own)

unpacked_more : (texts : List (String Global)) (i : ℕ) (es : List Entry) (e : Entry) → unpacked_from texts i (es ++ e ∷ []) ≡ unpacked_from texts i es ++ unpacked texts (i + length es) e ∷ []
unpacked_more texts i [] e = let at : i ≡ i + 0 = omega arith in ap (λ j. unpacked texts j e ∷ []) at
unpacked_more texts i (x ∷ xs) e =
    let at : i + 1 + length xs ≡ i + length (x ∷ xs) = omega arith in
    ap (λ ss. unpacked texts i x ∷ ss)
    (unpacked_more texts (i + 1) xs e ∙ ap (λ j. unpacked_from texts (i + 1) xs ++ unpacked texts j e ∷ []) at)

pub length-unpacked : (texts : List (String Global)) (i : ℕ) (es : List Entry) → length (unpacked_from texts i es) ≡ length es
length-unpacked texts i [] = refl
length-unpacked texts i (e ∷ es) = ap suc (length-unpacked texts (i + 1) es)

-- an entry is added, and texts before it
pub record Pushed (old new : List (String Global)) (before after : List Entry) (s : SeenNode) : Type 0 where
  pub has : AllByRecursion (HasTexts new) after
  pub is : unpacked_from new 0 after ≡ unpacked_from old 0 before ++ s ∷ []

pub pushed : (old new : List (String Global)) (es : List Entry) (e : Entry) (s : SeenNode) → Extends old new → AllByRecursion (HasTexts old) es → IsEntryOf new (length es) s e →
    Pushed old new es (es ++ e ∷ []) s
pushed old new es e s more has is = let at : 0 + length es ≡ length es = omega arith in record {
  has = all_have old new more es e has is.has_texts;
  is =
      unpacked_more new 0 es e
      ∙ ap (λ j. unpacked_from new 0 es ++ unpacked new j e ∷ []) at
      ∙ ap (λ ss. ss ++ unpacked new (length es) e ∷ []) (all_stay old new more 0 es has)
      ∙ ap (λ x. unpacked_from old 0 es ++ x ∷ []) is.is;
}

length-more : {A : Type 0} (xs : List A) (x : A) → length (xs ++ x ∷ []) ≡ length xs + 1
length-more [] x = refl
length-more (y ∷ ys) x = let one : length (ys ++ x ∷ []) ≡ length ys + 1 = length-more ys x in omega (arith, one)

-- the entry of the next event is added
pub record Added (old new : List (String Global)) (before after_it : List Entry) (bound bound_then : List BoundNode) (events rest : List EventNode) : Type 0 where
  pub has : AllByRecursion (HasTexts new) after_it
  pub is :
      unpacked_from new 0 after_it ++ seen_from (length after_it) bound_then rest
      ≡ unpacked_from old 0 before ++ seen_from (length before) bound events

pub added : (old new : List (String Global)) (es : List Entry) (e : Entry) (event : EventNode) (bound : List BoundNode) (rest : List EventNode) →
    Extends old new → AllByRecursion (HasTexts old) es → IsEntryOf new (length es) (with_binder event (length es) (binder event (length es) bound)) e →
    Added old new es (es ++ e ∷ []) bound (after event (length es) bound) (event ∷ rest) rest
added old new es e event bound rest more has is =
    let s : SeenNode = with_binder event (length es) (binder event (length es) bound) in
    let then : List BoundNode = after event (length es) bound in
    let p = pushed old new es e s more has is in record {
      has = p.has;
      is =
          ap (λ ss. ss ++ seen_from (length (es ++ e ∷ [])) then rest) p.is
          ∙ ap (λ n. (unpacked_from old 0 es ++ s ∷ []) ++ seen_from n then rest) (length-more es e)
          ∙ append_assoc (unpacked_from old 0 es) (s ∷ []) (seen_from (length es + 1) then rest);
    }

-- the same, from what is known of each part
pub added_by : (old new : List (String Global)) (es after_it : List Entry) (e : Entry) (event : EventNode) (bound bound_now bound_then : List BoundNode) (number : ℕ) (rest all : List EventNode) →
    Extends old new → AllByRecursion (HasTexts old) es → number ≡ length es → bound_now ≡ bound →
    IsEntryOf new number (with_binder event number (binder event number bound_now)) e →
    after_it ≡ es ++ e ∷ [] → bound_then ≡ after event number bound → all ≡ event ∷ rest →
    Added old new es after_it bound bound_then all rest
added_by old new es after_it e event bound bound_now bound_then number rest all more has at same is is_after is_then is_all =
    let By : ℕ → Type 0 = λ n. IsEntryOf new n (with_binder event n (binder event n bound_now)) e in
    let With : List BoundNode → Type 0 = λ bs. IsEntryOf new (length es) (with_binder event (length es) (binder event (length es) bs)) e in
    let then : bound_then ≡ after event (length es) bound = is_then ∙ ap (λ n. after event n bound) at in
    rw (is_after, then, is_all) (added old new es e event bound rest more has (subst With same (subst By at is)))
