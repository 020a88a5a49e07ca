-- What the calls of a lexer do to what it has still to give.
use Rattle.std.proofs.Common.{◌≡◌, ℕ, zero, suc, ◌-◌, ◌≤◌, List, [], ◌∷◌, Bool, true, false, Option, Some, None, IfSome, is_some, length, drop, refl, sym, ap, subst, ◌∙◌, arith, length-drop}
use Rattle.isle_base.specs.declared.scanner.Scanner.TheInside.{Inside}
use Rattle.isle_base_source.specs.declared.pos.Pos.{Pos}
use Rattle.isle_base.specs.declared.token.TokenRef.{TokenRef}
use Rattle.isle_base.specs.declared.scanner.read.Found.TheVariants as founds
use Rattle.isle_base.specs.declared.scanner.read.Reason.{Reason}
use Rattle.isle_base.specs.Computed.{First, ended, refused, found, first, Computed, computed_by, computed}
use Rattle.isle_base.specs.ScannerView.{computed_from, coming_of, ending_of, feed_of, IsAhead, IsScanner}
use Rattle.isle_base.specs.Lexing.{Lexes, lexes}
use Rattle.isle_base.specs.Place.{Placed, in_file, placed_at}
use Rattle.isle_base.specs.Reads.{Finds}
use Rattle.isle_base.specs.Steps.{FacesFault, Takes, first_placed, lookahead, placed_ref, AreWithin, EndsWithin, IsWithin, Rises}
use Rattle.isle_base.specs.Token.{Lexeme, Ending, end, fault, Feed}
use Rattle.isle_base.specs.TokenView.{token_of_ref}
use Rattle.isle_base.proofs.Complete.{Lexes-unique, Skip-le, Spelling-shorter}
use Rattle.isle_base.proofs.Exists.{computed_sound}

-- no offset is past the end
step_within : (more : List ℕ → Computed) (size : ℕ) (f : First) → ((after : List ℕ) → AreWithin size (more after).tokens × EndsWithin size (more after).ending) → AreWithin size (computed_by more size f).tokens × EndsWithin size (computed_by more size f).ending
unfolding computed_by
step_within more size ended h = (tt, tt)
step_within more size (refused from) h = (tt, omega arith)
step_within more size (found from token after) h = ((omega arith, omega arith, (h after).0), (h after).1)

computed_within : (n size : ℕ) (text : List ℕ) → AreWithin size (computed n size text).tokens × EndsWithin size (computed n size text).ending
unfolding computed
computed_within zero size text = (tt, tt)
computed_within (suc n) size text = step_within (computed n size) size (first (length text) text) (λ after. computed_within n size after)

coming_within : (text : List ℕ) (pos : Pos) (o : Option (Pos × TokenRef)) (failed : Bool) → pos.offset ≤ length text → IsAhead text pos o failed → AreWithin (length text) (coming_of text pos o) × EndsWithin (length text) (ending_of text pos o failed)
coming_within text pos None true h ahead = (tt, h)
coming_within text pos None false h ahead = (tt, tt)
coming_within text pos (Some x) failed h ahead =
    let more = computed_within (length text) (length text) (drop pos.offset text) in
    ((omega (arith, ahead.1), h, more.0), more.1)

pub view_within : (a : Inside) → IsScanner a → IsWithin (feed_of a)
view_within a h =
    let parts = coming_within a.src.now a.pos a.lookahead a.failed h.within h.ahead in
    record { tokens = parts.0; ending = parts.1; short = h.short }

-- the tokens stand one after the other
lexes_rise : (size : ℕ) (text : List ℕ) (xs : List Lexeme) (ending : Ending) → length text ≤ size → Lexes size text xs ending → Rises (size - length text) xs
lexes_rise size text [] ending h l = tt
lexes_rise size text (x ∷ xs) ending h l =
    let skipped = Skip-le l.2 in
    let shorter = Spelling-shorter l.0 x.token l.1 l.3 in
    let more = lexes_rise size l.1 xs ending (omega (arith, skipped, shorter)) l.6 in
    (omega (arith, skipped, l.4), omega (arith, skipped, shorter, l.4, l.5), subst (λ n. Rises n xs) (sym l.5) more)

coming_rises : (text : List ℕ) (pos : Pos) (o : Option (Pos × TokenRef)) (failed : Bool) → pos.offset ≤ length text → IsAhead text pos o failed → Rises 0 (coming_of text pos o)
coming_rises text pos None failed h ahead = tt
coming_rises text pos (Some x) failed h ahead =
    let sound = computed_sound (length text) (length text) (drop pos.offset text) (omega (arith, length-drop pos.offset text)) in
    let more = lexes_rise (length text) (drop pos.offset text) (computed_from text pos.offset).tokens (computed_from text pos.offset).ending (omega (arith, length-drop pos.offset text)) sound in
    let here : length text - length (drop pos.offset text) ≡ pos.offset = omega (arith, length-drop pos.offset text) in
    (omega arith, ahead.1, subst (λ n. Rises n (computed_from text pos.offset).tokens) here more)

pub view_rises : (a : Inside) → IsScanner a → Rises 0 (feed_of a).coming
view_rises a h = coming_rises a.src.now a.pos a.lookahead a.failed h.within h.ahead

-- the parts of a lexer
abbrev pub feed_parts : List ℕ → Pos → Option (Pos × TokenRef) → Bool → Feed
feed_parts text pos ahead failed = record {
  file = pos.file;
  coming = coming_of text pos ahead;
  ending = ending_of text pos ahead failed;
  size = length text;
}

offset_here : (text : List ℕ) (at : ℕ) → at ≤ length text → at ≡ length text - length (drop at text)
offset_here text at h = omega (arith, length-drop at text)

-- what is found is what is computed
found_token : (text : List ℕ) (from start after : ℕ) (token : TokenRef) → Finds text from (founds.Token start token after) → Lexes (length text) (drop from text) (record { offset = start; token = token_of_ref token; after = after } ∷ (computed_from text after).tokens) (computed_from text after).ending
found_token text from start after token f =
    (drop start text, drop after text, f.0, f.1, offset_here text start (omega (arith, f.2, f.3)), offset_here text after f.3, computed_sound (length text) (length text) (drop after text) (omega (arith, length-drop after text)))

found_fault : (text : List ℕ) (from at : ℕ) (reason : Reason) → Finds text from (founds.Fault at reason) → Lexes (length text) (drop from text) [] (fault at)
found_fault text from at reason f = (drop at text, f.0, f.1, offset_here text at (omega (arith, f.2)))

computed_as : (text : List ℕ) (from : ℕ) (xs : List Lexeme) (ending : Ending) → Lexes (length text) (drop from text) xs ending → ((computed_from text from).tokens ≡ xs) × ((computed_from text from).ending ≡ ending)
computed_as text from xs ending l =
    Lexes-unique (length text) (drop from text) (computed_from text from).tokens xs (computed_from text from).ending ending (computed_sound (length text) (length text) (drop from text) (omega (arith, length-drop from text))) l

pub starts_token : (file : ℕ) (text : List ℕ) (pos ahead : Pos) (start after : ℕ) (token : TokenRef) → pos ≡ in_file file after → ahead ≡ in_file file start → Finds text 0 (founds.Token start token after) → lexes text (feed_parts text pos (Some (ahead, token)) false).coming (feed_parts text pos (Some (ahead, token)) false).ending
starts_token file text pos ahead start after token is is_ahead f =
    subst (λ p. lexes text (feed_parts text p (Some (ahead, token)) false).coming (feed_parts text p (Some (ahead, token)) false).ending) (sym is)
    (subst (λ p. lexes text (feed_parts text (in_file file after) (Some (p, token)) false).coming (feed_parts text (in_file file after) (Some (p, token)) false).ending) (sym is_ahead)
    (found_token text 0 start after token f))

first_shown : (pos : Pos) (x : Pos × TokenRef) → x.0.file ≡ pos.file → placed_ref x ≡ placed_at (in_file pos.file) (record { offset = x.0.offset; token = token_of_ref x.1; after = pos.offset })
first_shown pos x same = ap (λ f. record { pos = record { file = f; offset = x.0.offset }; token = token_of_ref x.1 }) same

-- the token ahead is taken, and another one is found
pub next_token : (text : List ℕ) (pos : Pos) (o : Option (Pos × TokenRef)) (start after : ℕ) (token : TokenRef) → is_some o ≡ true → IsAhead text pos o false → Finds text pos.offset (founds.Token start token after) → IfSome o (λ x. Takes (feed_parts text pos o false) (placed_ref x) (feed_parts text (in_file pos.file after) (Some (in_file pos.file start, token)) false))
next_token text pos None start after token some ahead f = cc
next_token text pos (Some x) start after token some ahead f =
    let same = computed_as text pos.offset (record { offset = start; token = token_of_ref token; after = after } ∷ (computed_from text after).tokens) (computed_from text after).ending (found_token text pos.offset start after token f) in
    record {
      first = record { offset = x.0.offset; token = token_of_ref x.1; after = pos.offset };
      shown = first_shown pos x ahead.0;
      coming = ap (λ xs. record { offset = x.0.offset; token = token_of_ref x.1; after = pos.offset } ∷ xs) same.0;
      goes_on = refl;
      same = ap (λ e. record { file = pos.file; coming = record { offset = start; token = token_of_ref token; after = after } ∷ (computed_from text after).tokens; ending = e; size = length text }) (sym same.1);
    }

-- the token ahead is the last
pub next_end : (text : List ℕ) (pos : Pos) (o : Option (Pos × TokenRef)) → is_some o ≡ true → IsAhead text pos o false → Finds text pos.offset founds.End → IfSome o (λ x. Takes (feed_parts text pos o false) (placed_ref x) (feed_parts text (in_file pos.file (length text)) None false))
next_end text pos None some ahead f = cc
next_end text pos (Some x) some ahead f =
    let same = computed_as text pos.offset [] end f in
    record {
      first = record { offset = x.0.offset; token = token_of_ref x.1; after = pos.offset };
      shown = first_shown pos x ahead.0;
      coming = ap (λ xs. record { offset = x.0.offset; token = token_of_ref x.1; after = pos.offset } ∷ xs) same.0;
      goes_on = refl;
      same = ap (λ e. record { file = pos.file; coming = []; ending = e; size = length text }) (sym same.1);
    }

-- a fault is after the token ahead
pub faces_fault : (text : List ℕ) (pos : Pos) (o : Option (Pos × TokenRef)) (at : ℕ) (reason : Reason) → is_some o ≡ true → Finds text pos.offset (founds.Fault at reason) → FacesFault (feed_parts text pos o false) at
faces_fault text pos None at reason some f = cc
faces_fault text pos (Some x) at reason some f =
    let same = computed_as text pos.offset [] (fault at) (found_fault text pos.offset at reason f) in
    record {
      last = record { offset = x.0.offset; token = token_of_ref x.1; after = pos.offset };
      coming = ap (λ xs. record { offset = x.0.offset; token = token_of_ref x.1; after = pos.offset } ∷ xs) same.0;
      ending = same.1;
      within = f.2;
    }

pub takes_along : {old other new further : Feed} {o p : Option (Pos × TokenRef)} → old ≡ other → o ≡ p → new ≡ further → IfSome o (λ x. Takes old (placed_ref x) new) → IfSome p (λ x. Takes other (placed_ref x) further)
takes_along {old = old} {other = other} {new = new} {further = further} {o = o} {p = p} e f g h =
    subst (λ f. IfSome p (λ x. Takes f (placed_ref x) further)) e
    (subst (λ q. IfSome q (λ x. Takes old (placed_ref x) further)) f (subst (λ f. IfSome o (λ x. Takes old (placed_ref x) f)) g h))

-- what is taken is what was shown ahead
first_taken : (old new : Feed) (x : Placed) → Takes old x new → IfSome (lookahead old) (λ y. Takes old y new)
first_taken old new x h =
    let ahead : lookahead old ≡ Some (placed_at (in_file old.file) h.first) = ap (first_placed old.file) h.coming in
    subst (λ o. IfSome o (λ y. Takes old y new)) (sym ahead) (subst (λ y. Takes old y new) h.shown h)

pub shown_taken : (old new : Feed) (o : Option (Pos × TokenRef)) → is_some o ≡ true → IfSome o (λ x. Takes old (placed_ref x) new) → IfSome (lookahead old) (λ y. Takes old y new)
shown_taken old new None some h = absurd cc
shown_taken old new (Some x) some h = first_taken old new (placed_ref x) h

ahead_parts : (text : List ℕ) (pos : Pos) (o : Option (Pos × TokenRef)) (failed : Bool) → is_some (lookahead (feed_parts text pos o failed)) ≡ true → IsAhead text pos o failed → (is_some o ≡ true) × (failed ≡ false)
ahead_parts text pos None failed some h = absurd cc
ahead_parts text pos (Some x) failed some h = (refl, h.2)

-- a token is shown, so there is one, and the scanner isn't failed
pub record Shown (a : Inside) (now : Feed) : Type 0 where
  pub some : is_some a.lookahead ≡ true
  pub live : a.failed ≡ false
  pub ahead : IsAhead a.src.now a.pos a.lookahead false
  pub same : feed_parts a.src.now a.pos a.lookahead false ≡ now

pub shown_ahead : (a : Inside) (now : Feed) → feed_of a ≡ now → is_some (lookahead now) ≡ true → IsScanner a → Shown a now
shown_ahead a now view some h =
    let parts = ahead_parts a.src.now a.pos a.lookahead a.failed (subst (λ f. is_some (lookahead f) ≡ true) (sym view) some) h.ahead in
    record {
      some = parts.0;
      live = parts.1;
      ahead = subst (IsAhead a.src.now a.pos a.lookahead) parts.1 h.ahead;
      same = ap (feed_parts a.src.now a.pos a.lookahead) (sym parts.1) ∙ view;
    }
