-- Texts that a renaming writes: each can stand where the old one stood.
use Rattle.std.proofs.Common.{◌≡◌, ℕ, zero, suc, ◌+◌, ◌<◌, List, [], ◌∷◌, ◌++◌, Bool, true, false, not, ◌&&◌, ◌||◌, ◌==◌, bytes_eq, codes, length, take, get_or, refl, sym, ap, subst, ◌∙◌, inl, inr, if◌then◌else◌, append_assoc, length-append, arith}
use Rattle.std.proofs.Math.Seq.{drop-append_seam}
use Rattle.std.proofs.lemmas.Bool.{and_parts, and_from}
use Rattle.std.proofs.lemmas.List.Folds.{list_all-append}
use Rattle.std.proofs.lemmas.Str.{IsUtf8-append, IsUtf8-drop, IsUtf8-take, IsUtf8-from_ascii, IsUtf8-from_is_utf8, is_utf8-from_IsUtf8, IsCharBoundary-after_ascii, chars-append, chars-nil, chars-IsAscii, encodes-chars}
use Rattle.std.specs.List.{list_all, list_any}
use lib.Utf8.{encodes}
use Rattle.std.specs.Str.{chars, is_utf8, IsAscii, IsCharBoundary, IsUtf8}
use Rattle.isle_base.specs.Bytes.{dollar, dot, underscore}
use Rattle.isle_base.specs.Skips.{begins_with}
use Rattle.isle_ast_names.specs.Identifier.{are_identifier, begins_identifier, continues_identifier, is_digit, is_identifier, is_letter}
use Rattle.isle_ast_names.specs.Words.{is_dollar}
use Rattle.isle_resolve.specs.declared.event.Kind.{Kind}
use Rattle.isle_resolve.specs.declared.event.Kind.TheVariants as kinds
use Rattle.isle_resolve.specs.Names.{joined}
use Rattle.isle_index.specs.Renamed.{new_text, with_front}
use Rattle.isle_index.specs.Renaming.{is_member, is_new_name, is_reserved}
use Rattle.isle_resolve.proofs.Texts.{bytes-are, bytes-false}
use Rattle.isle_index.proofs.Texts.{or-right, with_front-is}
use Rattle.isle_index_laws.specs.Kept.{CanReplace}
use Rattle.isle_index_laws.proofs.KeptNames.{clash}

-- identifiers, and what may follow them

goes_on : (letter line sign digit point : Bool) → letter || line || sign ≡ true → letter || digit || line || point || sign ≡ true
goes_on true line sign digit point h = refl
goes_on false true sign true point h = refl
goes_on false true sign false point h = refl
goes_on false false true digit point h = or-right (false || digit || false || point) true refl
goes_on false false false digit point h = let never : false ≡ true = h in absurd (cc)

all_go_on : (cs : List ℕ) → are_identifier cs ≡ true → list_all continues_identifier cs ≡ true
all_go_on [] h = refl
all_go_on (c ∷ cs) h =
    let p = and_parts (begins_identifier c) (list_all continues_identifier cs) h in
    and_from (continues_identifier c) (list_all continues_identifier cs) (goes_on (is_letter c) (c == underscore) (c == dollar) (is_digit c) (c == dot) p.0) p.1

more : (cs ds : List ℕ) → are_identifier cs ≡ true → list_all continues_identifier ds ≡ true → are_identifier (cs ++ ds) ≡ true
more [] ds h each = let never : false ≡ true = h in absurd (cc)
more (c ∷ cs) ds h each =
    let p = and_parts (begins_identifier c) (list_all continues_identifier cs) h in
    and_from (begins_identifier c) (list_all continues_identifier (cs ++ ds)) p.0
    (list_all-append continues_identifier cs ds ∙ and_from (list_all continues_identifier cs) (list_all continues_identifier ds) p.1 each)

taken_apart : (text : List ℕ) → is_identifier text ≡ true → IsUtf8 text × (are_identifier (chars text) ≡ true)
unfolding is_identifier
taken_apart text h = let p = and_parts (is_utf8 text) (are_identifier (chars text)) h in (IsUtf8-from_is_utf8 text p.0, p.1)

pub put_together : (text : List ℕ) → IsUtf8 text → are_identifier (chars text) ≡ true → is_identifier text ≡ true
unfolding is_identifier
put_together text u h = and_from (is_utf8 text) (are_identifier (chars text)) (is_utf8-from_IsUtf8 text u) h

-- texts of one byte

at_one : (b : ℕ) → b < 128 → IsAscii (b ∷ [])
at_one b h zero = h
at_one b h (suc i) = omega arith

-- with a `$` before it, an identifier is one
with_dollar : (text : List ℕ) → is_identifier text ≡ true → is_identifier (dollar ∷ text) ≡ true
with_dollar text h =
    let p = taken_apart text h in
    let one : IsAscii (dollar ∷ []) = at_one dollar (omega arith) in
    let sign : IsUtf8 (dollar ∷ []) = IsUtf8-from_ascii (dollar ∷ []) one in
    let spelt : chars (dollar ∷ text) ≡ dollar ∷ chars text = chars-append (dollar ∷ []) text sign ∙ ap (λ cs. cs ++ chars text) (chars-IsAscii (dollar ∷ []) one) in
    put_together (dollar ∷ text) (IsUtf8-append (dollar ∷ []) text sign p.0) (ap are_identifier spelt ∙ all_go_on (chars text) p.1)

-- a text with a dot: both parts are texts

get-seam : (xs ys : List ℕ) (x : ℕ) → get_or (xs ++ x ∷ ys) (length xs) 0 ≡ x
get-seam [] ys x = refl
get-seam (y ∷ xs) ys x = get-seam xs ys x

take-seam : (xs ys : List ℕ) → take (length xs) (xs ++ ys) ≡ xs
take-seam [] ys = refl
take-seam (x ∷ xs) ys = ap (λ zs. x ∷ zs) (take-seam xs ys)

cut : (front behind : List ℕ) → IsUtf8 (joined front behind) → IsUtf8 (front ++ codes ".") × IsUtf8 behind
cut front behind u =
    let whole : List ℕ = joined front behind in
    let n : ℕ = length (front ++ codes ".") in
    let long : length front + 1 ≡ n = sym (length-append front (codes ".")) in
    let all : length whole ≡ n + length behind = length-append (front ++ codes ".") behind in
    let byte : get_or whole (length front) 0 ≡ dot = ap (λ t. get_or t (length front) 0) (append_assoc front (codes ".") behind) ∙ get-seam front behind dot in
    let here : length front < length whole = omega arith in
    let low : get_or whole (length front) 0 < 128 = subst (λ b. b < 128) (sym byte) (omega arith) in
    let place : IsCharBoundary whole n = subst (IsCharBoundary whole) long (IsCharBoundary-after_ascii whole (length front) u here low) in (
      subst IsUtf8 (take-seam (front ++ codes ".") behind) (IsUtf8-take whole n u place),
      subst IsUtf8 (drop-append_seam (front ++ codes ".") behind) (IsUtf8-drop whole n u place),
    )

-- an identifier with another end
other_end : (cs ds es : List ℕ) → (cs ≡ [] → ⊥) → are_identifier (cs ++ ds) ≡ true → list_all continues_identifier es ≡ true → are_identifier (cs ++ es) ≡ true
other_end [] ds es some h each = absurd (some refl)
other_end (c ∷ cs) ds es some h each =
    let p = and_parts (begins_identifier c) (list_all continues_identifier (cs ++ ds)) h in
    let q = and_parts (list_all continues_identifier cs) (list_all continues_identifier ds) (sym (list_all-append continues_identifier cs ds) ∙ p.1) in
    and_from (begins_identifier c) (list_all continues_identifier (cs ++ es)) p.0
    (list_all-append continues_identifier cs es ∙ and_from (list_all continues_identifier cs) (list_all continues_identifier es) q.0 each)

some_byte : (owner : List ℕ) → [] ≡ owner ++ codes "." → ⊥
some_byte [] e = cc
some_byte (b ∷ owner) e = cc

-- a text with a dot has a character
dotted_chars : (owner : List ℕ) → IsUtf8 (owner ++ codes ".") → chars (owner ++ codes ".") ≡ [] → ⊥
dotted_chars owner u none = some_byte owner (sym (ap encodes none) ∙ encodes-chars (owner ++ codes ".") u)

-- the name of a variant behind another type
joined_identifier : (old new member : List ℕ) → is_identifier (joined old member) ≡ true → is_identifier new ≡ true → is_identifier (joined new member) ≡ true
joined_identifier old new member h g =
    let whole = taken_apart (joined old member) h in
    let first = taken_apart new g in
    let halves = cut old member whole.0 in
    let old_front : List ℕ = chars (old ++ codes ".") in
    let spelt : chars (joined old member) ≡ old_front ++ chars member = chars-append (old ++ codes ".") member halves.0 in
    let each : list_all continues_identifier (old_front ++ chars member) ≡ true = all_go_on (old_front ++ chars member) (sym (ap are_identifier spelt) ∙ whole.1) in
    let behind : list_all continues_identifier (chars member) ≡ true =
    (and_parts (list_all continues_identifier old_front) (list_all continues_identifier (chars member)) (sym (list_all-append continues_identifier old_front (chars member)) ∙ each)).1 in
    let one : IsAscii (codes ".") = at_one dot (omega arith) in
    let point : IsUtf8 (codes ".") = IsUtf8-from_ascii (codes ".") one in
    let front : IsUtf8 (new ++ codes ".") = IsUtf8-append new (codes ".") first.0 point in
    let spelt_front : chars (new ++ codes ".") ≡ chars new ++ codes "." = chars-append new (codes ".") first.0 ∙ ap (λ cs. chars new ++ cs) (chars-IsAscii (codes ".") one) in
    let spelt_new : chars (joined new member) ≡ (chars new ++ codes ".") ++ chars member = chars-append (new ++ codes ".") member front ∙ ap (λ cs. cs ++ chars member) spelt_front in
    put_together (joined new member) (IsUtf8-append (new ++ codes ".") member front halves.1)
    (ap are_identifier spelt_new ∙ more (chars new ++ codes ".") (chars member) (more (chars new) (codes ".") first.1 refl) behind)

-- no reserved word has a dot

abbrev is_dot : ℕ → Bool
is_dot b = b == dot

has-dot : (front behind : List ℕ) → list_any is_dot (joined front behind) ≡ true
has-dot [] behind = refl
has-dot (b ∷ front) behind = or-right (is_dot b) (list_any is_dot (joined front behind)) (has-dot front behind)

other : (text word : List ℕ) → list_any is_dot text ≡ true → list_any is_dot word ≡ false → bytes_eq text word ≡ false
other text word holds fails = bytes-false text word (λ e. clash (list_any is_dot text) holds (ap (list_any is_dot) e ∙ fails))

pub neither : (a b : Bool) → a ≡ false → b ≡ false → a || b ≡ false
neither a b p q = ap (λ x. x || b) p ∙ q

no_reserved : (text : List ℕ) → list_any is_dot text ≡ true → is_reserved text ≡ false
no_reserved text h =
    let is_not = λ (word : List ℕ) (fails : list_any is_dot word ≡ false). other text word h fails in
    neither _ _ (neither _ _ (neither _ _ (neither _ _ (neither _ _ (neither _ _ (neither _ _ (neither _ _ (neither _ _ (neither _ _ (neither _ _
    (is_not (codes "_") refl) (is_not (codes "true") refl)) (is_not (codes "false") refl)) (is_not (codes "and") refl))
    (is_not (codes "let") refl)) (is_not (codes "if") refl)) (is_not (codes "rule") refl)) (is_not (codes "pure") refl))
    (is_not (codes "multi") refl)) (is_not (codes "partial") refl)) (is_not (codes "rec") refl)) (is_not (codes "infallible") refl)

same_begin : (front behind : List ℕ) → is_identifier front ≡ true → begins_with is_dollar (joined front behind) ≡ begins_with is_dollar front
same_begin [] behind h = let never : false ≡ true = sym (ap are_identifier chars-nil) ∙ (taken_apart [] h).1 in absurd (cc)
same_begin (b ∷ front) behind h = refl

-- what a new name is
record IsFresh (new : List ℕ) : Type 0 where
  name : is_identifier new ≡ true
  no_dollar : begins_with is_dollar new ≡ false
  no_word : is_reserved new ≡ false

pub not-false : (b : Bool) → not b ≡ true → b ≡ false
not-false true h = let never : false ≡ true = h in absurd (cc)
not-false false h = refl

fresh : (new : List ℕ) → is_new_name new ≡ true → IsFresh new
fresh new h =
    let outer = and_parts (is_identifier new && not (begins_with is_dollar new)) (not (is_reserved new)) h in
    let inner = and_parts (is_identifier new) (not (begins_with is_dollar new)) outer.0 in
    record { name = inner.0; no_dollar = not-false (begins_with is_dollar new) inner.1; no_word = not-false (is_reserved new) outer.1 }

-- what can stand where a text stood: itself, a new name, and a variant's name behind a new name

pub same_text : (text : List ℕ) → CanReplace text text
same_text text = record { name = λ h. h; constant = λ h. h; plain = inl refl }

pub new_text_fits : (old new : List ℕ) → is_new_name new ≡ true → CanReplace old new
new_text_fits old new h =
    let p = fresh new h in
    record { name = λ _. p.name; constant = λ _. with_dollar new p.name; plain = inr (p.no_word, λ begins. clash (begins_with is_dollar new) begins p.no_dollar) }

member_fits : (old new member : List ℕ) → is_new_name new ≡ true → CanReplace (joined old member) (joined new member)
member_fits old new member h =
    let p = fresh new h in
    record {
      name = λ g. joined_identifier old new member g p.name;
      constant = λ g. joined_identifier (dollar ∷ old) (dollar ∷ new) member g (with_dollar new p.name);
      plain = inr (no_reserved (joined new member) (has-dot new member), λ begins. clash (begins_with is_dollar (joined new member)) begins (same_begin new member p.name ∙ p.no_dollar));
    }

-- a variant with another name behind its type
variant_identifier : (owner member new : List ℕ) → is_identifier (joined owner member) ≡ true → is_identifier new ≡ true → is_identifier (joined owner new) ≡ true
variant_identifier owner member new h g =
    let whole = taken_apart (joined owner member) h in
    let last = taken_apart new g in
    let halves = cut owner member whole.0 in
    let front : List ℕ = chars (owner ++ codes ".") in
    let spelt : chars (joined owner member) ≡ front ++ chars member = chars-append (owner ++ codes ".") member halves.0 in
    let spelt_new : chars (joined owner new) ≡ front ++ chars new = chars-append (owner ++ codes ".") new halves.0 in
    let some : are_identifier (front ++ chars member) ≡ true = sym (ap are_identifier spelt) ∙ whole.1 in
    put_together (joined owner new) (IsUtf8-append (owner ++ codes ".") new halves.0 last.0)
    (ap are_identifier spelt_new ∙ other_end front (chars member) (chars new) (dotted_chars owner halves.0) some (all_go_on (chars new) last.1))

same_sign : (owner member new : List ℕ) → begins_with is_dollar (joined owner new) ≡ true → begins_with is_dollar (joined owner member) ≡ true
same_sign [] member new h = h
same_sign (b ∷ owner) member new h = h

pub variant_fits : (owner member new : List ℕ) → is_new_name new ≡ true → CanReplace (joined owner member) (joined owner new)
variant_fits owner member new h =
    let p = fresh new h in
    record {
      name = λ g. variant_identifier owner member new g p.name;
      constant = λ g. variant_identifier (dollar ∷ owner) member new g p.name;
      plain = inr (no_reserved (joined owner new) (has-dot owner new), same_sign owner member new);
    }

-- a member of a type has the type's name and a dot in front
member-by : (owner m : List ℕ) (ms : List (List ℕ)) (text : List ℕ) → (is_member owner ms text ≡ true → (member : List ℕ) × (text ≡ joined owner member)) →
    (b : Bool) → bytes_eq (joined owner m) text ≡ b → b || is_member owner ms text ≡ true → (member : List ℕ) × (text ≡ joined owner member)
member-by owner m ms text later true is h = (m, sym (bytes-are (joined owner m) text is))
member-by owner m ms text later false is h = later h

pub member-of : (owner : List ℕ) (ms : List (List ℕ)) (text : List ℕ) → is_member owner ms text ≡ true → (member : List ℕ) × (text ≡ joined owner member)
member-of owner [] text h = let never : false ≡ true = h in absurd (cc)
member-of owner (m ∷ ms) text h = member-by owner m ms text (member-of owner ms text) (bytes_eq (joined owner m) text) refl h

front_fits : (old new member text : List ℕ) → is_new_name new ≡ true → text ≡ joined old member → CanReplace text (with_front old new text)
front_fits old new member text h is =
    let moved : with_front old new text ≡ joined new member =
    with_front-is old new (codes "." ++ member) text (is ∙ append_assoc old (codes ".") member) ∙ sym (append_assoc new (codes ".") member) in
    subst (λ t. CanReplace t (with_front old new text)) (sym is) (subst (CanReplace (joined old member)) (sym moved) (member_fits old new member h))

chosen : (b : Bool) (new text : List ℕ) → is_new_name new ≡ true → CanReplace text (if b then new else text)
chosen true new text h = new_text_fits text new h
chosen false new text h = same_text text

member_chosen : (ms : List (List ℕ)) (old new text : List ℕ) (b : Bool) → is_new_name new ≡ true → is_member old ms text ≡ b → CanReplace text (if b then with_front old new text else text)
member_chosen ms old new text true h is = let m = member-of old ms text is in front_fits old new m.0 text h m.1
member_chosen ms old new text false h is = same_text text

-- the text of a name of the whole program after the renaming
pub renamed_text_fits : (ms : List (List ℕ)) (kind : Kind) (old new : List ℕ) (k : Kind) (text : List ℕ) → is_new_name new ≡ true → CanReplace text (new_text ms kind old new k text)
renamed_text_fits ms kinds.Type old new kinds.Type text h = chosen (bytes_eq text old) new text h
renamed_text_fits ms kinds.Type old new kinds.Term text h = member_chosen ms old new text (is_member old ms text) h refl
renamed_text_fits ms kinds.Type old new kinds.Constant text h = same_text text
renamed_text_fits ms kinds.Term old new kinds.Type text h = same_text text
renamed_text_fits ms kinds.Term old new kinds.Term text h = chosen (bytes_eq text old) new text h
renamed_text_fits ms kinds.Term old new kinds.Constant text h = same_text text
renamed_text_fits ms kinds.Constant old new kinds.Type text h = same_text text
renamed_text_fits ms kinds.Constant old new kinds.Term text h = same_text text
renamed_text_fits ms kinds.Constant old new kinds.Constant text h = chosen (bytes_eq text old) new text h
