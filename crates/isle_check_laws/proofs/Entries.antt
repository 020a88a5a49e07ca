-- The entries of a list by their texts.
use Rattle.std.proofs.Common.{◌≡◌, ℕ, List, [], ◌∷◌, Bool, true, false, Option, None, Some, Contains, refl, ap, sym, ◌∙◌, bytes_eq, if◌then◌else◌}
use Rattle.std.proofs.lemmas.Option.{none-some}
use Rattle.isle_check_environment.specs.signatures.Entries.{Entry, or_else, value_of}
use Rattle.isle_check_laws.proofs.Lists.{either, first_or_later, here, later, no_element}
use Rattle.isle_check_laws.proofs.Names.{other_text, same_text}

-- an entry of this text and this value
abbrev pub IsEntry : {Y : Type 0} → List (Entry Y) → List ℕ → Y → Type 0
IsEntry {Y = Y} es text y = (e : Entry Y) × Contains es e × (e.text ≡ text) × (e.value ≡ y)

pub same_some : {Y : Type 0} (x y : Y) → Some x ≡ Some y → x ≡ y
same_some x y e = cc

entry_first : {Y : Type 0} (e : Entry Y) (es : List (Entry Y)) (text : List ℕ) (y : Y) (b : Bool) → bytes_eq e.text text ≡ b →
    (if b then Some e.value else None) ≡ Some y → IsEntry (e ∷ es) text y
entry_first e es text y true is h = (e, here e es, same_text e.text text is, same_some e.value y h)
entry_first e es text y false is h = cc

entry_by : {Y : Type 0} (e : Entry Y) (es : List (Entry Y)) (text : List ℕ) (y : Y) (o : Option Y) → value_of es text ≡ o →
    (value_of es text ≡ Some y → IsEntry es text y) → or_else o (if bytes_eq e.text text then Some e.value else None) ≡ Some y → IsEntry (e ∷ es) text y
entry_by e es text y None is more h = entry_first e es text y (bytes_eq e.text text) refl h
entry_by e es text y (Some z) is more h = let at = more (is ∙ h) in (at.0, later e es at.0 at.1, at.2, at.3)

-- a value that is found is that of an entry
pub entry_of : {Y : Type 0} (es : List (Entry Y)) (text : List ℕ) (y : Y) → value_of es text ≡ Some y → IsEntry es text y
entry_of [] text y h = cc
entry_of (e ∷ es) text y h = entry_by e es text y (value_of es text) refl (entry_of es text y) h

not_first : {Y : Type 0} (f : Entry Y) (es : List (Entry Y)) (text : List ℕ) (b : Bool) → bytes_eq f.text text ≡ b →
    ((e : Entry Y) → Contains es e → e.text ≡ text → ⊥) → ◌≡◌ {A = Option Y} (if b then Some f.value else None) None →
    (e : Entry Y) → Contains (f ∷ es) e → e.text ≡ text → ⊥
not_first f es text true is more h e among same = absurd (none-some f.value (sym h))
not_first {Y = Y} f es text false is more h e among same =
    either (λ first. other_text f.text text is (ap (λ (x : Entry Y). x.text) first ∙ same)) (λ behind. more e behind same) (first_or_later f es e among)

no_entry_by : {Y : Type 0} (f : Entry Y) (es : List (Entry Y)) (text : List ℕ) (o : Option Y) → value_of es text ≡ o →
    (value_of es text ≡ None → (e : Entry Y) → Contains es e → e.text ≡ text → ⊥) →
    or_else o (if bytes_eq f.text text then Some f.value else None) ≡ None → (e : Entry Y) → Contains (f ∷ es) e → e.text ≡ text → ⊥
no_entry_by f es text None is more h = not_first f es text (bytes_eq f.text text) refl (more is) h
no_entry_by f es text (Some y) is more h = absurd (none-some y (sym h))

-- where no value is found there is no entry of the text
pub no_entry : {Y : Type 0} (es : List (Entry Y)) (text : List ℕ) → value_of es text ≡ None → (e : Entry Y) → Contains es e → e.text ≡ text → ⊥
no_entry [] text h e among same = no_element e among
no_entry (f ∷ es) text h e among same = no_entry_by f es text (value_of es text) refl (no_entry es text) h e among same
