-- Where a name's text begins and ends, no character and no CR LF is cut.
use Rattle.std.proofs.Common.{◌≡◌, ◌⊎◌, inl, inr, ℕ, suc, ◌+◌, ◌<◌, ◌≤◌, List, [], ◌∷◌, ◌++◌, Bool, true, false, IsCharBoundary, IsUtf8, drop, get_or, slice_index, refl, sym, ap, subst, ◌∙◌, length, length-append, append_assoc, arith}
use Rattle.std.proofs.lemmas.Bool.{and_parts}
use Rattle.std.proofs.lemmas.Bool.Decides.{nat_tests}
use Rattle.std.proofs.lemmas.List.{get_or-append-add}
use Rattle.std.proofs.lemmas.List.Folds.{list_all-append}
use Rattle.std.proofs.lemmas.Str.{IsCharBoundary-after_ascii, IsCharBoundary-from_drop, IsUtf8-drop}
use Rattle.std.proofs.Math.Seq.{drop-append_seam, get_or-append_seam}
use Rattle.std.specs.List.{list_all}
use Rattle.isle_base.specs.Bytes.{dollar, dot}
use Rattle.isle_base.specs.Lexing.{Lexes}
use Rattle.isle_base.specs.Skips.{begins_with, is_blank}
use Rattle.isle_base.specs.Spellings.{Spelling, in_symbol}
use Rattle.isle_base.specs.Token.{Lexeme, end, symbol}
use Rattle.isle_base.proofs.Utf8.{Skip-utf8, Spelling-utf8}
use Rattle.isle_index_laws.proofs.KeptNames.{clash}
use Rattle.isle_lsp_text.specs.Positions.{IsWhole, is_inner}
use Rattle.isle_lsp_text.proofs.Walks.{inverse_law}
use Rattle.isle_index_laws.specs.edits.Ranges.{IsRange}
use Rattle.isle_index_laws.proofs.edits.Behind.{last_of}
use Rattle.isle_index_laws.proofs.edits.Gaps.{gap}
use Rattle.isle_index_laws.proofs.edits.Tokened.{Has}
use Rattle.isle_index_laws.proofs.edits.Tokens.{stays, symbol_first, token_line}

-- behind the name's text its token ends, or it is that of a variant
abbrev pub IsBehind : List ℕ → Type 0
IsBehind [] = Unit {0}
IsBehind (b ∷ _) = b ≡ dot

-- bytes that cut nothing

no_inner : (b : ℕ) → (128 ≤ b → 192 ≤ b) → is_inner b ≡ false
no_inner b h = grind (arith, nat_tests, h)

end_no_inner : (b : ℕ) → in_symbol b ≡ false → is_inner b ≡ false
unfolding in_symbol is_blank
end_no_inner b h = grind (arith, nat_tests)

no_feed : in_symbol 10 ≡ false
unfolding in_symbol is_blank
no_feed = refl

no_return : in_symbol 13 ≡ false
unfolding in_symbol is_blank
no_return = refl

-- the first byte of a text
utf8_inner : (text : List ℕ) → IsUtf8 text → is_inner (slice_index text 0) ≡ false
utf8_inner [] h = refl
utf8_inner (b ∷ bs) h =
    let boundary : IsCharBoundary (b ∷ bs) 0 = IsCharBoundary-from_drop (b ∷ bs) 0 (omega arith) h in
    no_inner b (boundary.1 (omega arith))

behind_ascii : (front bs : List ℕ) (a : ℕ) → a < 128 → IsUtf8 (front ++ (a ∷ bs)) → is_inner (slice_index bs 0) ≡ false
behind_ascii front bs a low h =
    let whole : List ℕ = front ++ (a ∷ bs) in
    let n : ℕ = length (front ++ (a ∷ [])) in
    let long : length front + 1 ≡ n = sym (length-append front (a ∷ [])) in
    let all = length-append front (a ∷ bs) in
    let there : length front ≡ length front + 0 = omega arith in
    let byte : get_or whole (length front) 0 ≡ a = ap (λ k. get_or whole k 0) there ∙ get_or-append-add front (a ∷ bs) 0 0 in
    let place : IsCharBoundary whole n = subst (IsCharBoundary whole) long (IsCharBoundary-after_ascii whole (length front) h (omega arith) (subst (λ b. b < 128) (sym byte) low)) in
    let rest : IsUtf8 (drop n whole) = IsUtf8-drop whole n h place in
    utf8_inner bs (subst IsUtf8 (ap (drop n) (sym (append_assoc front (a ∷ []) bs)) ∙ drop-append_seam (front ++ (a ∷ [])) bs) rest)

end_inner : (behind after : List ℕ) → IsBehind behind → begins_with in_symbol after ≡ false → is_inner (slice_index (behind ++ after) 0) ≡ false
end_inner [] [] is stops = refl
end_inner [] (b ∷ after) is stops = end_no_inner b stops
end_inner (b ∷ behind) after is stops = ap is_inner is

-- no CR LF is cut between these
abbrev Between : List ℕ → List ℕ → Type 0
Between front rest = (slice_index rest 0 ≡ 10 → ⊥) ⊎ ((first : List ℕ) × (c : ℕ) × (front ≡ first ++ (c ∷ [])) × (c ≡ 13 → ⊥))

at_rest : (front rest : List ℕ) (n : ℕ) → n ≡ length front → slice_index (front ++ rest) n ≡ slice_index rest 0
at_rest front rest n is =
    let there : n ≡ length front + 0 = omega arith in
    ap (λ m. get_or (front ++ rest) m 0) there ∙ get_or-append-add front rest 0 0

no_cut : (T front rest : List ℕ) (n : ℕ) → T ≡ front ++ rest → n ≡ length front → Between front rest → (m : ℕ) → n ≡ suc m → slice_index T m ≡ 13 → slice_index T n ≡ 10 → ⊥
no_cut T front rest n is at (inl none) m next cr lf = none (sym (ap (λ xs. slice_index xs n) is ∙ at_rest front rest n at) ∙ lf)
no_cut T front rest n is at (inr last) m next cr lf =
    let size = ap length last.2 in
    let there : m ≡ length last.0 = omega (arith, length-append last.0 (last.1 ∷ [])) in
    let whole : T ≡ last.0 ++ (last.1 ∷ rest) = is ∙ ap (λ xs. xs ++ rest) last.2 ∙ append_assoc last.0 (last.1 ∷ []) rest in
    last.3 (sym (ap (λ xs. slice_index xs m) whole ∙ ap (λ k. slice_index (last.0 ++ (last.1 ∷ rest)) k) there ∙ get_or-append_seam last.0 last.1 rest 0) ∙ cr)

whole_at : (T front rest : List ℕ) (n : ℕ) → T ≡ front ++ rest → n ≡ length front → is_inner (slice_index rest 0) ≡ false → Between front rest → IsWhole T n
whole_at T front rest n is at inner between =
    let size = ap length is in (
      omega (arith, length-append front rest),
      ap (λ xs. is_inner (slice_index xs n)) is ∙ ap is_inner (at_rest front rest n at) ∙ inner,
      no_cut T front rest n is at between,
    )

not_byte : (b c : ℕ) → in_symbol b ≡ true → in_symbol c ≡ false → b ≡ c → ⊥
not_byte b c h k e = clash (in_symbol c) (sym (ap in_symbol e) ∙ h) k

no_feed_first : (text : List ℕ) → begins_with in_symbol text ≡ true → slice_index text 0 ≡ 10 → ⊥
no_feed_first [] h e = let never : false ≡ true = h in absurd (cc)
no_feed_first (b ∷ bs) h e = not_byte b 10 h no_feed e

-- behind the bytes of a symbol
behind_symbol : (P name rest : List ℕ) → (name ≡ [] → ⊥) → list_all in_symbol name ≡ true → Between (P ++ name) rest
behind_symbol P name rest some each =
    let l = last_of in_symbol name some each in
    inr (P ++ l.0, l.1, ap (λ xs. P ++ xs) l.2 ∙ sym (append_assoc P l.0 (l.1 ∷ [])), not_byte l.1 13 l.3 no_return)

-- the two ends of the part of a name

-- what stays in front of it ends with a byte of ASCII, as a `$` and a dot are, if there is any
abbrev pub EndsPlain : List ℕ → Type 0
EndsPlain stay = (stay ≡ []) ⊎ ((front : List ℕ) × (last : ℕ) × (stay ≡ front ++ (last ∷ [])) × (last < 128))

begins_whole : (T P : List ℕ) (stay old rest : List ℕ) → EndsPlain stay → T ≡ P ++ ((stay ++ old) ++ rest) → IsUtf8 ((stay ++ old) ++ rest) → list_all in_symbol stay ≡ true →
    begins_with in_symbol ((stay ++ old) ++ rest) ≡ true → IsWhole T (length P + length stay)
begins_whole T P stay old rest (inl none) is utf8 each begins =
    let same : (stay ++ old) ++ rest ≡ old ++ rest = ap (λ zs. (zs ++ old) ++ rest) none in
    let size = ap length none in
    whole_at T P (old ++ rest) (length P + length stay) (is ∙ ap (λ zs. P ++ zs) same) (omega arith) (utf8_inner (old ++ rest) (subst IsUtf8 same utf8))
    (inl (no_feed_first (old ++ rest) (subst (λ zs. begins_with in_symbol zs ≡ true) same begins)))
begins_whole T P stay old rest (inr e) is utf8 each begins =
    let turned : (stay ++ old) ++ rest ≡ e.0 ++ (e.1 ∷ (old ++ rest)) = ap (λ zs. (zs ++ old) ++ rest) e.2 ∙ append_assoc (e.0 ++ (e.1 ∷ [])) old rest ∙ append_assoc e.0 (e.1 ∷ []) (old ++ rest) in
    let last = and_parts (list_all in_symbol e.0) (list_all in_symbol (e.1 ∷ [])) (sym (list_all-append in_symbol e.0 (e.1 ∷ [])) ∙ sym (ap (list_all in_symbol) e.2) ∙ each) in
    let byte = and_parts (in_symbol e.1) true last.1 in
    whole_at T (P ++ stay) (old ++ rest) (length P + length stay) (is ∙ ap (λ zs. P ++ zs) (append_assoc stay old rest) ∙ sym (append_assoc P stay (old ++ rest))) (omega (arith, length-append P stay))
    (behind_ascii e.0 (old ++ rest) e.1 e.3 (subst IsUtf8 turned utf8))
    (inr (P ++ e.0, e.1, ap (λ zs. P ++ zs) e.2 ∙ sym (append_assoc P e.0 (e.1 ∷ [])), not_byte e.1 13 byte.0 no_return))

end_between : (P name rest : List ℕ) → list_all in_symbol name ≡ true → begins_with in_symbol (name ++ rest) ≡ true → Between (P ++ name) rest
end_between P [] rest each begins = inl (no_feed_first rest begins)
end_between P (b ∷ name) rest each begins = behind_symbol P (b ∷ name) rest (λ e. cc) each

ends_whole : (T P : List ℕ) (name behind after : List ℕ) → T ≡ P ++ (name ++ (behind ++ after)) → list_all in_symbol name ≡ true →
    begins_with in_symbol (name ++ (behind ++ after)) ≡ true → IsBehind behind → begins_with in_symbol after ≡ false → IsWhole T (length P + length name)
ends_whole T P name behind after is each begins b stops =
    whole_at T (P ++ name) (behind ++ after) (length P + length name) (is ∙ sym (append_assoc P name (behind ++ after))) (omega (arith, length-append P name))
    (end_inner behind after b stops) (end_between P name (behind ++ after) each begins)

-- a token, where it stands
pub record Spot (T : List ℕ) (x : Lexeme) : Type 0 where
  pub front : List ℕ
  pub text : List ℕ
  pub after : List ℕ
  pub split : T ≡ front ++ text
  pub at : x.offset ≡ length front
  pub spelt : Spelling text x.token after
  pub utf8 : IsUtf8 text

spot_by : (T front text after : List ℕ) (y : Lexeme) (ys : List Lexeme) → T ≡ front ++ text → y.offset ≡ length front → Spelling text y.token after → IsUtf8 text → (x : Lexeme) → (Has ys x → Spot T x) → Has (y ∷ ys) x → Spot T x
spot_by T front text after y ys is at spelt utf8 x later (inl same) =
    subst (Spot T) same (record { front = front; text = text; after = after; split = is; at = at; spelt = spelt; utf8 = utf8 })
spot_by T front text after y ys is at spelt utf8 x later (inr more) = later more

pub spot : (T front text : List ℕ) (xs : List Lexeme) → T ≡ front ++ text → IsUtf8 text → Lexes (length T) text xs end → (x : Lexeme) → Has xs x → Spot T x
spot T front text [] is utf8 l x h = absurd h
spot T front text (y ∷ ys) is utf8 l x h =
    let g = gap l.2 (token_line l.0 l.1 y.token l.3) in
    let s = stays l.0 l.1 y.token l.3 in
    let bytes : List ℕ = s.first ∷ s.further in
    let ahead : T ≡ (front ++ g.bytes) ++ l.0 = is ∙ ap (λ zs. front ++ zs) g.split ∙ sym (append_assoc front g.bytes l.0) in
    let whole : T ≡ ((front ++ g.bytes) ++ bytes) ++ l.1 = ahead ∙ ap (λ zs. (front ++ g.bytes) ++ zs) s.split ∙ sym (append_assoc (front ++ g.bytes) bytes l.1) in
    let here : IsUtf8 l.0 = Skip-utf8 l.2 utf8 in
    let size = ap length ahead in
    spot_by T (front ++ g.bytes) l.0 l.1 y ys ahead (l.4 ∙ (omega (arith, length-append (front ++ g.bytes) l.0))) l.3 here x
    (λ k. spot T ((front ++ g.bytes) ++ bytes) l.1 ys whole (Spelling-utf8 l.0 y.token l.1 l.3 here) l.6 x k) h

-- the text of a name's part is a range
pub range : (T : List ℕ) (x : Lexeme) (stay old behind : List ℕ) → Spot T x → EndsPlain stay → x.token ≡ symbol ((stay ++ old) ++ behind) → IsBehind behind → IsRange T (length old) (x.offset + length stay)
range T x stay old behind s plain is b =
    let name : List ℕ = stay ++ old in
    let spelt : Spelling s.text (symbol (name ++ behind)) s.after = subst (λ t. Spelling s.text t s.after) is s.spelt in
    let split : s.text ≡ name ++ (behind ++ s.after) = spelt.1.split ∙ append_assoc name behind s.after in
    let whole : T ≡ s.front ++ (name ++ (behind ++ s.after)) = s.split ∙ ap (λ zs. s.front ++ zs) split in
    let begins : begins_with in_symbol (name ++ (behind ++ s.after)) ≡ true = subst (λ zs. begins_with in_symbol zs ≡ true) split (symbol_first s.text (name ++ behind) s.after spelt) in
    let each = (and_parts (list_all in_symbol name) (list_all in_symbol behind) (sym (list_all-append in_symbol name behind) ∙ spelt.1.each)).0 in
    let each_stay = (and_parts (list_all in_symbol stay) (list_all in_symbol old) (sym (list_all-append in_symbol stay old) ∙ each)).0 in
    let at = s.at in
    let size = length-append stay old in
    let there : length s.front + length name ≡ x.offset + length stay + length old = omega arith in
    let first : IsWhole T (x.offset + length stay) = subst (λ n. IsWhole T (n + length stay)) (sym s.at) (begins_whole T s.front stay old (behind ++ s.after) plain whole (subst IsUtf8 split s.utf8) each_stay begins) in
    let last : IsWhole T (x.offset + length stay + length old) = subst (IsWhole T) there (ends_whole T s.front name behind s.after whole each begins b spelt.1.stops) in
    (last.0, λ enc. inverse_law enc T (x.offset + length stay) first, λ enc. inverse_law enc T (x.offset + length stay + length old) last)
