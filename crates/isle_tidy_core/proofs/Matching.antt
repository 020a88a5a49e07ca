-- Parentheses that match, and those that don't.
use Rattle.std.proofs.Common.{◌≡◌, ◌+◌, ◌-◌, ◌<◌, ◌≤◌, ℕ, zero, suc, List, [], ◌∷◌, ◌++◌, map, true, false, length, refl, sym, ap, ◌∙◌, subst, arith, append_assoc, append-nil}
use Rattle.std.proofs.lemmas.List.{map-append}
use Rattle.isle_base.specs.Lexing.{Lexes, lexes}
use Rattle.isle_base.specs.Token.{Tok, lparen, rparen, symbol, integer, at_sign, Lexeme, Ending, end, fault}
use Rattle.isle_base.proofs.Complete.{Lexes-unique}
use Rattle.isle_base_source.specs.declared.error.Error.{Error}
use Rattle.isle_tidy_core.specs.Matched.{match_tokens, token_of, tokens_match}
use Rattle.isle_base.specs.Place.{Placed, in_file}
use Rattle.isle_base.specs.Steps.{RefusesAt, Takes, Refuses, RefusesStart, placed_ref, ended_by, is_at_end, IfError}
use Rattle.isle_base.specs.Token.{Feed}
use Rattle.isle_base.specs.TokenView.{token_of_ref}
use Rattle.isle_base.specs.declared.token.TokenRef.{TokenRef}
use Rattle.isle_base.specs.declared.token.TokenRef.TheVariants as refs
use Rattle.isle_base.specs.declared.fault.Fault.{Fault}
use Rattle.isle_base.specs.declared.fault.Fault.TheVariants as faults
use Rattle.isle_base_source.specs.declared.pos.Pos.{Pos}
use Rattle.isle_tidy_core.specs.Parentheses.{IsOutermost, IsAfter, HasRead, HasReadAll, IsUnmatched}
use Rattle.isle_tidy_core.specs.declared.parentheses.Parentheses.{Parentheses}
use Rattle.isle_tidy_core.specs.Refused.{none_closes, HasDocument, HasNoDocument, StandsAt, IsRefusedFor, faulty, unmatched, unclosed, IsWithin}
use Rattle.isle_tidy_core.proofs.Existing.{document_lexed, lexed_document}

-- lists that none of these tokens closes stay open
stays_open : (ts : List Tok) (k d : ℕ) → k < d → none_closes k ts ≡ true → match_tokens d ts ≡ false
stays_open [] k zero more h = absurd (omega arith)
stays_open [] k (suc d) more h = refl
stays_open (lparen ∷ ts) k d more h = stays_open ts (suc k) (suc d) (omega arith) h
stays_open (rparen ∷ ts) zero d more h = cc
stays_open (rparen ∷ ts) (suc k) zero more h = absurd (omega arith)
stays_open (rparen ∷ ts) (suc k) (suc d) more h = stays_open ts k d (omega arith) h
stays_open (symbol name ∷ ts) k d more h = stays_open ts k d more h
stays_open (integer value ∷ ts) k d more h = stays_open ts k d more h
stays_open (at_sign ∷ ts) k d more h = stays_open ts k d more h

unclosed_fails : (before : List Tok) (d : ℕ) (ts : List Tok) → none_closes 0 ts ≡ true → match_tokens d (before ++ (lparen ∷ ts)) ≡ false
unclosed_fails [] d ts h = stays_open ts 0 (suc d) (omega arith) h
unclosed_fails (lparen ∷ bs) d ts h = unclosed_fails bs (suc d) ts h
unclosed_fails (rparen ∷ bs) zero ts h = refl
unclosed_fails (rparen ∷ bs) (suc d) ts h = unclosed_fails bs d ts h
unclosed_fails (symbol name ∷ bs) d ts h = unclosed_fails bs d ts h
unclosed_fails (integer value ∷ bs) d ts h = unclosed_fails bs d ts h
unclosed_fails (at_sign ∷ bs) d ts h = unclosed_fails bs d ts h

unmatched_fails : (before : List Tok) (d : ℕ) (ts : List Tok) → match_tokens d before ≡ true → match_tokens d (before ++ (rparen ∷ ts)) ≡ false
unmatched_fails [] zero ts h = refl
unmatched_fails [] (suc d) ts h = cc
unmatched_fails (lparen ∷ bs) d ts h = unmatched_fails bs (suc d) ts h
unmatched_fails (rparen ∷ bs) zero ts h = refl
unmatched_fails (rparen ∷ bs) (suc d) ts h = unmatched_fails bs d ts h
unmatched_fails (symbol name ∷ bs) d ts h = unmatched_fails bs d ts h
unmatched_fails (integer value ∷ bs) d ts h = unmatched_fails bs d ts h
unmatched_fails (at_sign ∷ bs) d ts h = unmatched_fails bs d ts h

-- A refused text has no document.

split_fails : (text : List ℕ) (before after : List Lexeme) (x : Lexeme) (ending : Ending) (t : Tok) → lexes text (before ++ (x ∷ after)) ending → x.token ≡ t
    → match_tokens 0 (map token_of before ++ (t ∷ map token_of after)) ≡ false → HasNoDocument text
split_fails text before after x ending t l is fails = λ d h.
    let other = document_lexed text d h in
    let same : other.0 ≡ before ++ (x ∷ after) = (Lexes-unique (length text) text other.0 (before ++ (x ∷ after)) end ending other.1 l).0 in
    let parts : map token_of (before ++ (x ∷ after)) ≡ map token_of before ++ (t ∷ map token_of after) =
    map-append token_of before (x ∷ after) ∙ ap (λ u. map token_of before ++ (u ∷ map token_of after)) is in
    let no : tokens_match other.0 ≡ false = ap tokens_match same ∙ ap (match_tokens 0) parts ∙ fails in
    let yes : tokens_match other.0 ≡ true = other.2 in
    cc

pub refused_none : (text : List ℕ) (e : Error) → IsRefusedFor text e → HasNoDocument text
refused_none text e (faulty tokens offset l s) = λ d h.
    let other = document_lexed text d h in
    let same : end ≡ fault offset = (Lexes-unique (length text) text other.0 tokens end (fault offset) other.1 l).1 in
    cc
refused_none text e (unmatched before after x ending l is m s) =
    split_fails text before after x ending rparen l is (unmatched_fails (map token_of before) 0 (map token_of after) m)
refused_none text e (unclosed before after x l is m s) =
    split_fails text before after x end lparen l is (unclosed_fails (map token_of before) 0 (map token_of after) m)

-- Its error stands within it.

pub token_within : (size : ℕ) (text : List ℕ) (before after : List Lexeme) (x : Lexeme) (ending : Ending) → Lexes size text (before ++ (x ∷ after)) ending → x.offset ≤ size
token_within size text [] after x ending l = omega (arith, l.4)
token_within size text (b ∷ bs) after x ending l = token_within size l.1 bs after x ending l.6

fault_within : (size : ℕ) (text : List ℕ) (tokens : List Lexeme) (offset : ℕ) → Lexes size text tokens (fault offset) → offset ≤ size
fault_within size text [] offset l = omega (arith, l.3)
fault_within size text (x ∷ xs) offset l = fault_within size l.1 xs offset l.6

pub refused_within : (text : List ℕ) (e : Error) → IsRefusedFor text e → IsWithin (length text) e
refused_within text e (faulty tokens offset l s) = (offset, fault_within (length text) text tokens offset l, s)
refused_within text e (unmatched before after x ending l is m s) = (x.offset, token_within (length text) text before after x ending l, s)
refused_within text e (unclosed before after x l is m s) = (x.offset, token_within (length text) text before after x end l, s)

-- One token more.

one_more : (taken : List Lexeme) (x : Lexeme) (ts : List Tok) → map token_of (taken ++ (x ∷ [])) ++ ts ≡ map token_of taken ++ (x.token ∷ ts)
one_more taken x ts = ap (λ ys. ys ++ ts) (map-append token_of taken (x ∷ [])) ∙ append_assoc (map token_of taken) (x.token ∷ []) ts

count_more : (taken : List Lexeme) (x : Lexeme) (t : Tok) (d n : ℕ) → x.token ≡ t → ((ts : List Tok) → match_tokens 0 (map token_of taken ++ ts) ≡ match_tokens d ts)
    → ((ts : List Tok) → match_tokens d (t ∷ ts) ≡ match_tokens n ts) → (ts : List Tok) → match_tokens 0 (map token_of (taken ++ (x ∷ [])) ++ ts) ≡ match_tokens n ts
count_more taken x t d n is counted step ts =
    ap (match_tokens 0) (one_more taken x ts ∙ ap (λ u. map token_of taken ++ (u ∷ ts)) is) ∙ counted (t ∷ ts) ∙ step ts

outermost_more : (taken : List Lexeme) (x : Lexeme) (t : Tok) (k n o : ℕ) → x.token ≡ t → IsOutermost taken k o → ((ts : List Tok) → none_closes k (t ∷ ts) ≡ none_closes n ts) → IsOutermost (taken ++ (x ∷ [])) n o
outermost_more taken x t k n o is h step = (
  h.0,
  h.1,
  h.2 ++ (x ∷ []),
  ap (λ ys. ys ++ (x ∷ [])) h.3 ∙ append_assoc h.0 (h.1 ∷ h.2) (x ∷ []),
  h.4,
  h.5,
  λ ts. ap (none_closes 0) (one_more h.2 x ts ∙ ap (λ u. map token_of h.2 ++ (u ∷ ts)) is) ∙ h.6 (t ∷ ts) ∙ step ts,
)

pub none_read : IsAfter [] (record { depth = 0; outermost = 0 })
none_read = record { counted = λ ts. refl; opened = λ k e. cc }

pub first_opened : (taken : List Lexeme) (p : Parentheses) (x : Lexeme) (at : ℕ) → IsAfter taken p → p.depth ≡ 0 → x.token ≡ lparen → x.offset ≡ at → IsAfter (taken ++ (x ∷ [])) (record { depth = 1; outermost = at })
first_opened taken p x at h zero_open is place = record {
  counted = count_more taken x lparen 0 1 is (λ ts. h.counted ts ∙ ap (λ d. match_tokens d ts) zero_open) (λ ts. refl);
  opened = λ k e. let none : k ≡ 0 = omega arith in (taken, x, [], refl, is, place, λ ts. ap (λ j. none_closes j ts) (sym none));
}

pub inner_opened : (taken : List Lexeme) (p : Parentheses) (x : Lexeme) (d : ℕ) → IsAfter taken p → (p.depth ≡ 0 → ⊥) → d ≡ p.depth + 1 → x.token ≡ lparen → IsAfter (taken ++ (x ∷ [])) (record { depth = d; outermost = p.outermost })
inner_opened taken p x d h some_open more is = record {
  counted = count_more taken x lparen p.depth d is h.counted (λ ts. let e : suc p.depth ≡ d = omega arith in ap (λ n. match_tokens n ts) e);
  opened = λ k e.
      let at : p.depth ≡ suc (k - 1) = omega arith in
      let n : suc (k - 1) ≡ k = omega arith in
      outermost_more taken x lparen (k - 1) k p.outermost is (h.opened (k - 1) at) (λ ts. ap (λ j. none_closes j ts) n);
}

pub one_closed : (taken : List Lexeme) (p : Parentheses) (x : Lexeme) → IsAfter taken p → (p.depth ≡ 0 → ⊥) → x.token ≡ rparen → IsAfter (taken ++ (x ∷ [])) (record { depth = p.depth - 1; outermost = p.outermost })
one_closed taken p x h some_open is = record {
  counted = count_more taken x rparen p.depth (p.depth - 1) is h.counted (λ ts. let e : p.depth ≡ suc (p.depth - 1) = omega arith in ap (λ n. match_tokens n (rparen ∷ ts)) e);
  opened = λ k e.
      let at : p.depth ≡ suc (suc k) = omega arith in
      outermost_more taken x rparen (suc k) k p.outermost is (h.opened (suc k) at) (λ ts. refl);
}

other_matches : (token : TokenRef) → (token ≡ refs.LParen → ⊥) → (token ≡ refs.RParen → ⊥) → (d : ℕ) (ts : List Tok) → match_tokens d (token_of_ref token ∷ ts) ≡ match_tokens d ts
other_matches refs.LParen a b d ts = absurd (a refl)
other_matches refs.RParen a b d ts = absurd (b refl)
other_matches (refs.Symbol name) a b d ts = refl
other_matches (refs.Int value) a b d ts = refl
other_matches refs.At a b d ts = refl

other_closes : (token : TokenRef) → (token ≡ refs.LParen → ⊥) → (token ≡ refs.RParen → ⊥) → (d : ℕ) (ts : List Tok) → none_closes d (token_of_ref token ∷ ts) ≡ none_closes d ts
other_closes refs.LParen a b d ts = absurd (a refl)
other_closes refs.RParen a b d ts = absurd (b refl)
other_closes (refs.Symbol name) a b d ts = refl
other_closes (refs.Int value) a b d ts = refl
other_closes refs.At a b d ts = refl

pub other_read : (taken : List Lexeme) (p : Parentheses) (x : Lexeme) (token : TokenRef) → IsAfter taken p → x.token ≡ token_of_ref token → (token ≡ refs.LParen → ⊥) → (token ≡ refs.RParen → ⊥) → IsAfter (taken ++ (x ∷ [])) p
other_read taken p x token h is a b = record {
  counted = count_more taken x (token_of_ref token) p.depth p.depth is h.counted (other_matches token a b p.depth);
  opened = λ k e. outermost_more taken x (token_of_ref token) k k p.outermost is (h.opened k e) (other_closes token a b k);
}

-- What a scanner has read.

pub took_token : (old new : Feed) (pos : Pos) (token : TokenRef) (t : Takes old (placed_ref (pos, token)) new) → t.first.token ≡ token_of_ref token
took_token old new pos token t = let token_in : Placed → Tok = λ p. p.token in sym (ap token_in t.shown)

pub took_offset : (old new : Feed) (pos : Pos) (token : TokenRef) (t : Takes old (placed_ref (pos, token)) new) → t.first.offset ≡ pos.offset
took_offset old new pos token t = let offset_in : Placed → ℕ = λ p. p.pos.offset in sym (ap offset_in t.shown)

pub read_more : (text : List ℕ) (taken : List Lexeme) (old new : Feed) (x : Placed) (p q : Parentheses) (t : Takes old x new) → HasRead text taken old p → IsAfter (taken ++ (t.first ∷ [])) q → HasRead text (taken ++ (t.first ∷ [])) new q
read_more text taken old new x p q t h a =
    let ending_in : Feed → Ending = λ f. f.ending in
    let file_in : Feed → ℕ = λ f. f.file in
    let coming : lexes text ((taken ++ (t.first ∷ [])) ++ new.coming) old.ending =
    subst (λ xs. lexes text xs old.ending) (ap (λ xs. taken ++ xs) t.coming ∙ sym (append_assoc taken (t.first ∷ []) new.coming)) h.lexed in
    record {
      lexed = subst (λ e. lexes text ((taken ++ (t.first ∷ [])) ++ new.coming) e) (sym (ap ending_in t.same)) coming;
      file = ap file_in t.same ∙ h.file;
      parentheses = a;
    }

pub none_open : (taken : List Lexeme) (p : Parentheses) → IsAfter taken p → p.depth ≡ 0 → tokens_match taken ≡ true
none_open taken p h none = ap (match_tokens 0) (sym (append-nil (map token_of taken))) ∙ h.counted [] ∙ ap (λ d. match_tokens d []) none

pub unmatched_here : (text : List ℕ) (taken : List Lexeme) (old new : Feed) (pos : Pos) (token : TokenRef) (p : Parentheses) → HasRead text taken old p → Takes old (placed_ref (pos, token)) new → p.depth ≡ 0 → token_of_ref token ≡ rparen → IsUnmatched text pos.offset
unmatched_here text taken old new pos token p h t none is = record {
  before = taken;
  x = t.first;
  after = new.coming;
  ending = old.ending;
  lexed = subst (λ xs. lexes text xs old.ending) (ap (λ xs. taken ++ xs) t.coming) h.lexed;
  is = took_token old new pos token t ∙ is;
  matched = none_open taken p h.parentheses none;
  place = took_offset old new pos token t;
}

pub refused_here : (text : List ℕ) (taken : List Lexeme) (old new : Feed) (p : Parentheses) (fault : Fault) → HasRead text taken old p → IfError (λ e. Refuses old e new) fault → IfError (IsRefusedFor text) fault
refused_here text taken old new p (faults.Error e) h r =
    let whole : lexes text (taken ++ (r.last ∷ [])) (fault r.offset) =
    subst (λ g. lexes text (taken ++ (r.last ∷ [])) g) r.ending (subst (λ xs. lexes text xs old.ending) (ap (λ xs. taken ++ xs) r.coming) h.lexed) in
    faulty (taken ++ (r.last ∷ [])) r.offset whole (subst (λ f. RefusesAt (in_file f r.offset) e) h.file r.error)
refused_here text taken old new p faults.Failed h r = tt
refused_here text taken old new p faults.Memory h r = tt

pub refused_start : (text : List ℕ) (fault : Fault) → IfError (RefusesStart 0 text) fault → IfError (IsRefusedFor text) fault
refused_start text (faults.Error e) r = faulty [] r.0 r.1 r.2
refused_start text faults.Failed r = tt
refused_start text faults.Memory r = tt

ended : (xs : List Lexeme) (ending : Ending) → ended_by xs ending ≡ true → (xs ≡ []) × (ending ≡ end)
ended [] end h = (refl, refl)
ended [] (fault offset) h = cc
ended (x ∷ xs) ending h = cc

pub all_read : (text : List ℕ) (taken : List Lexeme) (feed : Feed) (p : Parentheses) → HasRead text taken feed p → is_at_end feed ≡ true → HasReadAll text taken p
all_read text taken feed p h at =
    let both = ended feed.coming feed.ending at in
    record {
      lexed = subst (λ g. lexes text taken g) both.1
          (subst (λ xs. lexes text xs feed.ending) (ap (λ xs. taken ++ xs) both.0 ∙ append-nil taken) h.lexed);
      parentheses = h.parentheses;
    }

pub closed_document : (text : List ℕ) (taken : List Lexeme) (p : Parentheses) → HasReadAll text taken p → p.depth ≡ 0 → HasDocument text
closed_document text taken p h none = lexed_document text taken h.lexed (none_open taken p h.parentheses none)

-- the outermost open list
open_split : (text : List ℕ) (taken : List Lexeme) (p : Parentheses) → HasReadAll text taken p → (p.depth ≡ 0 → ⊥) → IsOutermost taken (p.depth - 1) p.outermost
open_split text taken p h some_open = h.parentheses.opened (p.depth - 1) (omega arith)

pub unclosed_within : (text : List ℕ) (taken : List Lexeme) (p : Parentheses) → HasReadAll text taken p → (p.depth ≡ 0 → ⊥) → p.outermost ≤ length text
unclosed_within text taken p h some_open =
    let o = open_split text taken p h some_open in
    let within : o.1.offset ≤ length text = token_within (length text) text o.0 o.2 o.1 end (subst (λ xs. lexes text xs end) o.3 h.lexed) in
    omega (arith, o.5)

pub unclosed_here : (text : List ℕ) (taken : List Lexeme) (p : Parentheses) (e : Error) → HasReadAll text taken p → (p.depth ≡ 0 → ⊥) → StandsAt p.outermost e → IsRefusedFor text e
unclosed_here text taken p e h some_open s =
    let o = open_split text taken p h some_open in
    let pending : none_closes 0 (map token_of o.2) ≡ true = ap (none_closes 0) (sym (append-nil (map token_of o.2))) ∙ o.6 [] in
    unclosed o.0 o.2 o.1 (subst (λ xs. lexes text xs end) o.3 h.lexed) o.4 pending (subst (λ n. StandsAt n e) (sym o.5) s)

pub unmatched_within : (text : List ℕ) (offset : ℕ) → IsUnmatched text offset → offset ≤ length text
unmatched_within text offset u =
    let within : u.x.offset ≤ length text = token_within (length text) text u.before u.after u.x u.ending u.lexed in
    omega (arith, u.place)

pub unmatched_refused : (text : List ℕ) (offset : ℕ) (e : Error) → IsUnmatched text offset → StandsAt offset e → IsRefusedFor text e
unmatched_refused text offset e u s = unmatched u.before u.after u.x u.ending u.lexed u.is u.matched (subst (λ n. StandsAt n e) (sym u.place) s)

pub refusal_told : (text : List ℕ) (fault : Fault) → IfError (IsRefusedFor text) fault → IfError (λ e. HasNoDocument text × IsRefusedFor text e × IsWithin (length text) e) fault
refusal_told text (faults.Error e) r = (refused_none text e r, r, refused_within text e r)
refusal_told text faults.Failed r = tt
refusal_told text faults.Memory r = tt
