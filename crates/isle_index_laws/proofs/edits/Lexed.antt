-- The edited text lexes to the tokens with the new text.
use Rattle.std.proofs.Common.{◌≡◌, ◌⊎◌, inl, inr, ℕ, ℤ, ◌+◌, ◌-◌, ◌≤◌, List, [], ◌∷◌, ◌++◌, Bool, true, false, cond, not, ◌&&◌, ◌||◌, Some, refl, sym, ap, subst, ◌∙◌, length, length-append, drop, take, append_assoc, ◌*◌, arith}
use Rattle.std.proofs.Math.Nat.{add-mul}
use Rattle.std.proofs.Math.Seq.{drop-append_seam, take-append_seam}
use Rattle.std.proofs.lemmas.Bool.{and_from, and_parts}
use Rattle.std.proofs.lemmas.List.{append_cancel_right}
use Rattle.std.proofs.lemmas.List.Folds.{list_all-append}
use Rattle.std.specs.List.{AllByRecursion, list_all}
use Rattle.isle_base.specs.Bytes.{dollar}
use Rattle.isle_base.specs.Lexing.{Lexes}
use Rattle.isle_base.specs.Literals.{Literal, has_minus}
use Rattle.isle_base.specs.Skips.{begins_with, in_line}
use Rattle.isle_base.specs.Spellings.{Spelling, begins_symbol, in_symbol, is_lone_minus, symbol_here}
use Rattle.isle_base.specs.Token.{Lexeme, Tok, end, integer, symbol}
use Rattle.isle_base.proofs.Complete.{Spelling-shorter}
use Rattle.isle_base.proofs.Minus.{begins_here}
use Rattle.isle_index.specs.Renamed.{with_front, with_new}
use Rattle.isle_index_laws.specs.RenamedTokens.{with_new_text}
use Rattle.isle_index_laws.proofs.Marks.{one_if}
use Rattle.isle_index_laws.specs.edits.EditedTexts.{BeginsWith}
use Rattle.isle_lsp_text.specs.Numbers.{is_behind_number}
use Rattle.isle_index_laws.specs.edits.Edits.{edited}
use Rattle.isle_index_laws.proofs.edits.Behind.{behind_digits, digits}
use Rattle.isle_index_laws.proofs.edits.Gaps.{Gap, gap}
use Rattle.isle_index_laws.proofs.KeptNames.{clash}
use Rattle.isle_index_laws.proofs.Parts.{edit_behind, named_new}
use Rattle.isle_index_laws.proofs.edits.Alike.{Alike, alike_self}
use Rattle.isle_index_laws.proofs.edits.Tokens.{Follows, Stays, stays, still_stops, symbol_first, token_line}

-- a text that a symbol can begin with
pub record IsFront (text : List ℕ) : Type 0 where
  pub first : ℕ
  pub further : List ℕ
  pub split : text ≡ first ∷ further
  pub begins : begins_symbol first ≡ true
  pub stays : in_symbol first ≡ true
  pub each : list_all in_symbol further ≡ true

-- Bytes that stay in front of a name's part: a symbol with them is no lone `-`.
abbrev pub IsLead : List ℕ → Type 0
IsLead [] = Unit {0}
IsLead (b ∷ []) = begins_symbol b ≡ true
IsLead (_ ∷ _ ∷ _) = Unit {0}

front_each : (text : List ℕ) → IsFront text → list_all in_symbol text ≡ true
front_each text f = ap (list_all in_symbol) f.split ∙ and_from (in_symbol f.first) (list_all in_symbol f.further) f.stays f.each

no_second : (a b : Bool) → b ≡ true → a && not b ≡ false
no_second true true h = refl
no_second false b h = refl
no_second true false h = let never : false ≡ true = h in absurd (cc)

first_holds : (a b : Bool) → b ≡ false → a || b ≡ true → a ≡ true
first_holds true b fails h = refl
first_holds false b fails h = clash b h fails

-- before these bytes stands a new text as the old one did
lead_front : (stay old new behind text after : List ℕ) → IsLead stay → IsFront new → Spelling text (symbol ((stay ++ old) ++ behind)) after → IsFront (stay ++ new)
lead_front [] old new behind text after is f spelt = f
lead_front (b ∷ []) old new behind text after is f spelt =
    let each = and_parts (in_symbol b) (list_all in_symbol (old ++ behind)) spelt.1.each in
    record { first = b; further = new; split = refl; begins = is; stays = each.0; each = front_each new f }
lead_front (b ∷ c ∷ bs) old new behind text after is f spelt =
    let each = and_parts (in_symbol b) (list_all in_symbol (((c ∷ bs) ++ old) ++ behind)) spelt.1.each in
    let second = and_parts (in_symbol c) (list_all in_symbol ((bs ++ old) ++ behind)) each.1 in
    let whole : List ℕ = b ∷ c ∷ (((bs ++ old) ++ behind) ++ after) in
    let here : symbol_here whole ≡ true = subst (λ xs. symbol_here xs ≡ true) spelt.1.split spelt.0 in
    let others = and_parts (list_all in_symbol (bs ++ old)) (list_all in_symbol behind) (sym (list_all-append in_symbol (bs ++ old) behind) ∙ second.1) in
    let rest = and_parts (list_all in_symbol bs) (list_all in_symbol old) (sym (list_all-append in_symbol bs old) ∙ others.0) in
    record {
      first = b;
      further = c ∷ (bs ++ new);
      split = refl;
      begins = first_holds (begins_symbol b) (is_lone_minus whole) (no_second (has_minus whole) (in_symbol c) second.0) here;
      stays = each.0;
      each = and_from (in_symbol c) (list_all in_symbol (bs ++ new)) second.0
          (list_all-append in_symbol bs new ∙ and_from (list_all in_symbol bs) (list_all in_symbol new) rest.0 (front_each new f));
    }

-- where tokens that change begin
module _ (mark : ℕ → Bool) where
  abbrev pub marked_offsets : List Lexeme → List ℕ
  marked_offsets [] = []
  marked_offsets (x ∷ xs) = cond (mark x.offset) (x.offset ∷ marked_offsets xs) (marked_offsets xs)

module _ (mark : ℕ → Bool) (lead : ℕ → List ℕ) where
  -- where the part of a name that changes begins
  abbrev pub starts : List Lexeme → List ℕ
  starts [] = []
  starts (x ∷ xs) = cond (mark x.offset) ((x.offset + length (lead x.offset)) ∷ starts xs) (starts xs)

module _ (T : List ℕ) (mark : ℕ → Bool) (lead : ℕ → List ℕ) (old new : List ℕ) where
  -- the token after the edits
  abbrev pub changed : Lexeme → Tok
  changed x = cond (mark x.offset) (with_new_text (length (lead x.offset)) old new x.token) x.token

  abbrev pub Written : List Lexeme → Type 0
  Written xs = AllByRecursion (λ x. mark x.offset ≡ true → BeginsWith (lead x.offset ++ old) x.token) xs

  abbrev pub Apart : Type 0
  Apart = (offset : ℕ) → mark offset ≡ true → is_behind_number T (offset + length (lead offset)) ≡ false

  abbrev pub IsLeads : Type 0
  IsLeads = (offset : ℕ) → IsLead (lead offset)

  -- the two texts begin alike, or a name that changes begins here
  abbrev Meets : List ℕ → List ℕ → Type 0
  Meets text other =
      Alike text other
      ⊎ ((lead (length T - length text) ≡ []) × (mark (length T - length text) ≡ true) × (begins_with in_symbol text ≡ true) × (begins_with in_symbol other ≡ true))

  -- how many tokens change
  abbrev pub count : List Lexeme → ℕ
  count [] = 0
  count (x ∷ xs) = one_if (mark x.offset) + count xs

  -- an offset behind this many edits
  abbrev pub shifted : ℕ → ℕ → ℕ
  shifted k offset = (offset + k * length new) - k * length old

  -- the tokens behind this many edits
  abbrev pub later : ℕ → List Lexeme → List Lexeme
  later k [] = []
  later k (x ∷ xs) =
      record { offset = shifted k x.offset; token = changed x; after = shifted (k + one_if (mark x.offset)) x.after }
      ∷ later (k + one_if (mark x.offset)) xs

  -- this many edits make the one length the other
  abbrev Grows : ℕ → ℕ → ℕ → Type 0
  Grows k text other = other + k * length old ≡ text + k * length new

  -- what the end of the text is after the edits, and its tokens
  pub record Edits (front text : List ℕ) (xs : List Lexeme) : Type 0 where
    pub other : List ℕ
    pub edits : edited old new (starts mark lead xs) T ≡ front ++ other
    pub grows : Grows (count xs) (length text) (length other)
    pub lexed : (size k : ℕ) → length other ≤ size → Grows (k + count xs) (length T) size → Lexes size other (later k xs) end
    pub meets : Meets text other

  -- an offset, by the number of bytes from there on
  shifts : (size k n from to : ℕ) → to ≤ size → from ≤ length T → Grows (k + n) (length T) size → Grows n from to → size - to ≡ shifted k (length T - from)
  shifts size k n from to less fits all some =
      let olds = add-mul k n (length old) in
      let news = add-mul k n (length new) in
      omega arith

  follows : (text other : List ℕ) → Meets text other → Follows text other
  follows text other (inl alike) = inl alike
  follows text other (inr both) = inr (both.2, both.3)

  -- behind an integer begins no name that changes
  beside : Apart → (P text rest other : List ℕ) (value : ℤ) → T ≡ P ++ text → Literal text (Some value) rest → Meets rest other → Alike rest other
  beside apart P text rest other value is l (inl alike) = alike
  beside apart P text rest other value is l (inr both) =
      let d = digits text rest value l in
      let whole : T ≡ (P ++ d.front) ++ (d.run ++ rest) = is ∙ ap (λ xs. P ++ xs) d.split ∙ sym (append_assoc P d.front (d.run ++ rest)) in
      let size = ap length whole in
      let offset : ℕ = length T - length rest + length (lead (length T - length rest)) in
      let plain : length (lead (length T - length rest)) ≡ 0 = ap length both.0 in
      clash (is_behind_number T offset)
      (behind_digits T (P ++ d.front) d.run rest offset whole d.some d.each (omega (arith, length-append (P ++ d.front) (d.run ++ rest), length-append d.run rest)))
      (apart (length T - length rest) both.1)

  -- in front of what meets stand the same bytes
  met : (bytes from to text : List ℕ) → text ≡ bytes ++ from → Meets from to → Meets text (bytes ++ to)
  met [] from to text is m = subst (λ xs. Meets xs to) (sym is) m
  met (b ∷ bs) from to text is m = subst (λ xs. Meets xs (b ∷ (bs ++ to))) (sym is) (inl refl)

  -- a token and those after it
  build : (front ahead text from after : List ℕ) (x : Lexeme) (xs : List Lexeme) (g : Gap text from) (to : List ℕ) (e : Edits ahead after xs) → Spelling to (changed x) e.other →
      begins_with in_line to ≡ true → edited old new (starts mark lead (x ∷ xs)) T ≡ front ++ (g.bytes ++ to) → Meets from to → Grows (count (x ∷ xs)) (length from) (length to) →
      x.offset ≡ length T - length from → x.after ≡ length T - length after → length from ≤ length T → length after ≤ length T → Edits front text (x ∷ xs)
  build front ahead text from after x xs g to e spelt line edits m grows at end_at from_fits after_fits =
      let gap_old = length-append g.bytes from in
      let gap_new = length-append g.bytes to in
      let whole = ap length g.split in
      record {
        other = g.bytes ++ to;
        edits = edits;
        grows = omega arith;
        lexed = λ size k less all.
            let m1 : ℕ = one_if (mark x.offset) in
            let shorter = Spelling-shorter to (changed x) e.other spelt in
            let turn : k + (m1 + count xs) ≡ k + m1 + count xs = omega arith in
            let rest : Grows (k + m1 + count xs) (length T) size = subst (λ n. Grows n (length T) size) turn all in
            let offset : shifted k x.offset ≡ size - length to = ap (shifted k) at ∙ sym (shifts size k (m1 + count xs) (length from) (length to) (omega arith) from_fits all grows) in
            let end_offset : shifted (k + m1) x.after ≡ size - length e.other =
            ap (shifted (k + m1)) end_at ∙ sym (shifts size (k + m1) (count xs) (length after) (length e.other) (omega arith) after_fits rest e.grows) in
            (to, e.other, g.moves to line, spelt, offset, end_offset, e.lexed size (k + m1) (omega arith) rest);
        meets = met g.bytes from to text g.split m;
      }

  -- one that stays
  keep : Apart → (front text from after : List ℕ) (x : Lexeme) (xs : List Lexeme) → T ≡ front ++ text → (g : Gap text from) → (s : Stays from after x.token) → Spelling from x.token after →
      x.offset ≡ length T - length from → x.after ≡ length T - length after → mark x.offset ≡ false → Edits (front ++ (g.bytes ++ (s.first ∷ s.further))) after xs → Edits front text (x ∷ xs)
  keep apart front text from after x xs is g s p at end_at off e =
      let bytes : List ℕ = s.first ∷ s.further in
      let ahead : T ≡ (front ++ g.bytes) ++ from = is ∙ ap (λ zs. front ++ zs) g.split ∙ sym (append_assoc front g.bytes from) in
      let number = λ (value : ℤ) (same : x.token ≡ integer value).
      beside apart (front ++ g.bytes) from after e.other value ahead (subst (λ t. Spelling from t after) same p) e.meets in
      let spelt : Spelling (bytes ++ e.other) x.token e.other = s.moves e.other (follows after e.other e.meets) number in
      let same : changed x ≡ x.token = ap (λ b. cond b (with_new_text (length (lead x.offset)) old new x.token) x.token) off in
      let same_count : count (x ∷ xs) ≡ count xs = ap (λ b. one_if b + count xs) off ∙ (omega arith) in
      let olds = ap (λ n. n * length old) same_count in
      let news = ap (λ n. n * length new) same_count in
      let size = ap length ahead in
      let size_of = length-append (front ++ g.bytes) from in
      let from_size = ap length s.split in
      let old_size = length-append bytes after in
      let new_size = length-append bytes e.other in
      let some = e.grows in
      build front (front ++ (g.bytes ++ bytes)) text from after x xs g (bytes ++ e.other) e (subst (λ t. Spelling (bytes ++ e.other) t e.other) (sym same) spelt)
      (token_line (bytes ++ e.other) e.other x.token spelt)
      (ap (λ b. edited old new (cond b ((x.offset + length (lead x.offset)) ∷ starts mark lead xs) (starts mark lead xs)) T) off ∙ e.edits ∙ append_assoc front (g.bytes ++ bytes) e.other ∙ ap (λ zs. front ++ zs) (append_assoc g.bytes bytes e.other))
      (subst (λ zs. Meets zs (bytes ++ e.other)) (sym s.split) (inl refl))
      (omega arith) at end_at (omega arith) (omega arith)

  -- one that changes

  first_of_name : (offset : ℕ) (from rest other : List ℕ) (stay : List ℕ) → stay ≡ lead offset → mark offset ≡ true → offset ≡ length T - length from → from ≡ (stay ++ old) ++ rest → IsFront (stay ++ new) →
      begins_with in_symbol from ≡ true → Meets from ((stay ++ new) ++ other)
  first_of_name offset from rest other (b ∷ stay) same there at is f begins = subst (λ zs. Meets zs (b ∷ ((stay ++ new) ++ other))) (sym is) (inl refl)
  first_of_name offset from rest other [] same there at is f begins =
      inr (sym (ap lead at) ∙ sym same, subst (λ n. mark n ≡ true) at there, begins, ap (λ zs. begins_with in_symbol (zs ++ other)) f.split ∙ f.stays)

  change : IsFront new → IsLeads → (front text from after : List ℕ) (x : Lexeme) (xs : List Lexeme) → T ≡ front ++ text → (g : Gap text from) → (s : Stays from after x.token) → Spelling from x.token after →
      x.offset ≡ length T - length from → x.after ≡ length T - length after → mark x.offset ≡ true → BeginsWith (lead x.offset ++ old) x.token →
      Edits (front ++ (g.bytes ++ (s.first ∷ s.further))) after xs → Edits front text (x ∷ xs)
  change plain leads front text from after x xs is g s p at end_at on b e =
      let stay : List ℕ = lead x.offset in
      let name : List ℕ = (stay ++ old) ++ b.0 in
      let fresh : List ℕ = (stay ++ new) ++ b.0 in
      let bytes : List ℕ = s.first ∷ s.further in
      let ahead : T ≡ (front ++ g.bytes) ++ from = is ∙ ap (λ zs. front ++ zs) g.split ∙ sym (append_assoc front g.bytes from) in
      let old_spelt : Spelling from (symbol name) after = subst (λ t. Spelling from t after) b.1 p in
      let f : IsFront (stay ++ new) = lead_front stay old new b.0 from after (leads x.offset) plain old_spelt in
      let same : bytes ≡ name = append_cancel_right bytes name after (sym s.split ∙ old_spelt.1.split) in
      let turned : changed x ≡ symbol fresh =
      ap (λ m. cond m (with_new_text (length stay) old new x.token) x.token) on ∙ ap (with_new_text (length stay) old new) b.1 ∙ ap symbol (named_new old new stay b.0) in
      let behind : list_all in_symbol b.0 ≡ true =
      (and_parts (list_all in_symbol (stay ++ old)) (list_all in_symbol b.0) (sym (list_all-append in_symbol (stay ++ old) b.0) ∙ old_spelt.1.each)).1 in
      let spelt : Spelling (fresh ++ e.other) (symbol fresh) e.other = (
        ap (λ zs. symbol_here ((zs ++ b.0) ++ e.other)) f.split ∙ begins_here f.first ((f.further ++ b.0) ++ e.other) f.begins,
        record {
          split = refl;
          each = list_all-append in_symbol (stay ++ new) b.0 ∙ and_from (list_all in_symbol (stay ++ new)) (list_all in_symbol b.0) (front_each (stay ++ new) f) behind;
          stops = still_stops after e.other (follows after e.other e.meets) old_spelt.1.stops;
        },
      ) in
      let size = ap length ahead in
      let place : x.offset + length stay ≡ length (front ++ g.bytes) + length stay = omega (arith, length-append (front ++ g.bytes) from) in
      let later : edited old new (starts mark lead xs) T ≡ (front ++ g.bytes) ++ ((stay ++ old) ++ (b.0 ++ e.other)) =
      e.edits ∙ ap (λ zs. (front ++ (g.bytes ++ zs)) ++ e.other) same ∙ append_assoc front (g.bytes ++ name) e.other ∙ ap (λ zs. front ++ zs) (append_assoc g.bytes name e.other)
      ∙ sym (append_assoc front g.bytes (name ++ e.other)) ∙ ap (λ zs. (front ++ g.bytes) ++ zs) (append_assoc (stay ++ old) b.0 e.other) in
      let one_count : count (x ∷ xs) ≡ 1 + count xs = ap (λ m. one_if m + count xs) on in
      let olds = ap (λ n. n * length old) one_count ∙ add-mul 1 (count xs) (length old) in
      let news = ap (λ n. n * length new) one_count ∙ add-mul 1 (count xs) (length new) in
      let size_of = length-append (front ++ g.bytes) from in
      let from_size = ap length old_spelt.1.split in
      let old_size = length-append name after in
      let new_size = length-append fresh e.other in
      let name_size = length-append (stay ++ old) b.0 in
      let fresh_size = length-append (stay ++ new) b.0 in
      let old_written = length-append stay old in
      let new_written = length-append stay new in
      let some = e.grows in
      build front (front ++ (g.bytes ++ bytes)) text from after x xs g (fresh ++ e.other) e (subst (λ t. Spelling (fresh ++ e.other) t e.other) (sym turned) spelt)
      (token_line (fresh ++ e.other) e.other (symbol fresh) spelt)
      (ap (λ m. edited old new (cond m ((x.offset + length stay) ∷ starts mark lead xs) (starts mark lead xs)) T) on
      ∙ edit_behind old new (front ++ g.bytes) stay (b.0 ++ e.other) (x.offset + length stay) (edited old new (starts mark lead xs) T) place later
      ∙ append_assoc front g.bytes ((stay ++ new) ++ (b.0 ++ e.other)) ∙ ap (λ zs. front ++ (g.bytes ++ zs)) (sym (append_assoc (stay ++ new) b.0 e.other)))
      (subst (λ zs. Meets from zs) (sym (append_assoc (stay ++ new) b.0 e.other))
      (first_of_name x.offset from (b.0 ++ after) (b.0 ++ e.other) stay refl on at (old_spelt.1.split ∙ append_assoc (stay ++ old) b.0 after) f (symbol_first from name after old_spelt)))
      (omega arith) at end_at (omega arith) (omega arith)

  step : Apart → IsFront new → IsLeads → (front text from after : List ℕ) (x : Lexeme) (xs : List Lexeme) → T ≡ front ++ text → (g : Gap text from) → (s : Stays from after x.token) → Spelling from x.token after →
      x.offset ≡ length T - length from → x.after ≡ length T - length after → (mark x.offset ≡ true → BeginsWith (lead x.offset ++ old) x.token) → Edits (front ++ (g.bytes ++ (s.first ∷ s.further))) after xs →
      (m : Bool) → mark x.offset ≡ m → Edits front text (x ∷ xs)
  step apart f leads front text from after x xs is g s p at end_at b e true m = change f leads front text from after x xs is g s p at end_at m (b m) e
  step apart f leads front text from after x xs is g s p at end_at b e false m = keep apart front text from after x xs is g s p at end_at m e

  pub edits_lex : Apart → IsFront new → IsLeads → (front text : List ℕ) (xs : List Lexeme) → T ≡ front ++ text → Lexes (length T) text xs end → Written xs → Edits front text xs
  edits_lex apart f leads front text [] is l w = record { other = text; edits = is; grows = omega arith; lexed = λ size k less all. l; meets = inl (alike_self text) }
  edits_lex apart f leads front text (x ∷ xs) is l w =
      let from = l.0 in
      let after = l.1 in
      let s = stays from after x.token l.3 in
      let g = gap l.2 (token_line from after x.token l.3) in
      let bytes : List ℕ = s.first ∷ s.further in
      let whole : T ≡ (front ++ (g.bytes ++ bytes)) ++ after =
      is ∙ ap (λ zs. front ++ zs) (g.split ∙ ap (λ zs. g.bytes ++ zs) s.split ∙ sym (append_assoc g.bytes bytes after)) ∙ sym (append_assoc front (g.bytes ++ bytes) after) in
      step apart f leads front text from after x xs is g s l.3 l.4 l.5 w.0 (edits_lex apart f leads (front ++ (g.bytes ++ bytes)) after xs whole l.6 w.1) (mark x.offset) refl
