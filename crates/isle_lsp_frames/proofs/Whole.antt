-- A whole message: its header, and its body.
use Rattle.std.proofs.Common.{◌≡◌, ◌≢◌, ℕ, ◌<◌, ◌≤◌, List, [], ◌∷◌, ◌++◌, length, take, drop, true, false, Option, None, Some, Result, Ok, Err, arith, refl, sym, ◌∙◌, ap, subst, nat_lt, length-append}
use Rattle.std.specs.Io.KnownBytes.{Keeps, Consumes}
use Rattle.std.specs.Result.{IsErrAnd}
use Rattle.std.proofs.lemmas.Result.{err_from_is_err_and}
use Rattle.std.proofs.lemmas.Bool.{lt-ltb, le-ltb}
use Rattle.std.proofs.lemmas.Grind.{common_steps}
use Rattle.isle_lsp_frames.specs.declared.frames.FrameFault.{FrameFault}
use Rattle.isle_lsp_frames.specs.declared.frames.FrameFault.TheVariants.{Malformed, Cut, TooLong, Unreadable, Memory}
use Rattle.isle_lsp_frames.specs.Frames.{◌>>=◌, head_at, body_at, frame_at, Fails, Gives, IsBroken}

pub kept_some : (old new : Option (List ℕ)) (bytes : List ℕ) → Keeps old new → old ≡ Some bytes → new ≡ Some bytes
kept_some None new bytes k e = absurd (cc)
kept_some (Some x) None bytes k e = absurd k
kept_some (Some x) (Some y) bytes k e = cc

pub consumed_some : (old new : Option (List ℕ)) (bytes body : List ℕ) → Consumes old new body → old ≡ Some bytes → (rest : List ℕ) × (new ≡ Some rest) × (bytes ≡ body ++ rest)
consumed_some None new bytes body k e = absurd (cc)
consumed_some (Some x) None bytes body k e = absurd k
consumed_some (Some x) (Some y) bytes body k e = (y, refl, cc)

pub exit_gives : {X Y : Type 0} (view : X → Y) (new : Option (List ℕ)) (r : Result X FrameFault) (e : FrameFault) (read : Result (Y × List ℕ) FrameFault) → IsErrAnd r (λ f. f ≡ e) → Fails e read → Gives view new r read
exit_gives view new r e read is f =
    let p = err_from_is_err_and r is in
    subst (λ q. Gives view new q read) (sym (p.1 ∙ ap Err p.2)) f

-- ---- the body

pub body_long : (n : ℕ) (bytes : List ℕ) → 67108864 < n → body_at n bytes ≡ Err TooLong
unfolding body_at
body_long n bytes h = let a : nat_lt 67108864 n ≡ true = lt-ltb _ _ h in rw a refl

pub body_cut : (n : ℕ) (bytes : List ℕ) → n ≤ 67108864 → length bytes < n → body_at n bytes ≡ Err Cut
unfolding body_at
body_cut n bytes m h =
    let a : nat_lt 67108864 n ≡ false = le-ltb _ _ m in
    let b : nat_lt (length bytes) n ≡ true = lt-ltb _ _ h in
    rw (a, b) refl

pub body_ok : (n : ℕ) (body rest : List ℕ) → length body ≡ n → n ≤ 67108864 → body_at n (body ++ rest) ≡ Ok (body, rest)
unfolding body_at
body_ok n body rest e m =
    let a : nat_lt 67108864 n ≡ false = le-ltb _ _ m in
    let b : nat_lt (length (body ++ rest)) n ≡ false = le-ltb _ _ (omega (arith, length-append body rest)) in
    let t : take n (body ++ rest) ≡ body = grind (arith, common_steps) in
    let d : drop n (body ++ rest) ≡ rest = grind (arith, common_steps) in
    rw (a, b, t, d) refl

pub body_fails : (e : FrameFault) (n : ℕ) (bytes : List ℕ) → (e ≡ Cut → length bytes < n) → (e ≢ Malformed) × (e ≢ TooLong) → n ≤ 67108864 → Fails e (body_at n bytes)
body_fails Malformed n bytes cut other m = absurd (other.0 refl)
body_fails Cut n bytes cut other m = body_cut n bytes m (cut refl)
body_fails TooLong n bytes cut other m = absurd (other.1 refl)
body_fails Unreadable n bytes cut other m = tt
body_fails Memory n bytes cut other m = tt

-- ---- both

after_head : Result (ℕ × List ℕ) FrameFault → Result (Option (List ℕ) × List ℕ) FrameFault
after_head read = read >>= λ head. (body_at head.0 head.1 >>= λ body. Ok (Some body.0, body.1))

frame_parts : (bytes : List ℕ) → 0 < length bytes → frame_at bytes ≡ after_head (head_at 16 None bytes)
unfolding frame_at after_head
frame_parts [] h = absurd (omega arith)
frame_parts (b ∷ bytes) h = refl

pub frame_end : (bytes : List ℕ) → bytes ≡ [] → frame_at bytes ≡ Ok (None, [])
unfolding frame_at
frame_end bytes e = rw e refl

head_fault : (e : FrameFault) (bytes : List ℕ) → 0 < length bytes → head_at 16 None bytes ≡ Err e → frame_at bytes ≡ Err e
unfolding after_head
head_fault e bytes h q = frame_parts bytes h ∙ rw q refl

pub head_fails : (e : FrameFault) (bytes : List ℕ) → 0 < length bytes → Fails e (head_at 16 None bytes) → Fails e (frame_at bytes)
head_fails Malformed bytes h f = head_fault Malformed bytes h f
head_fails Cut bytes h f = head_fault Cut bytes h f
head_fails TooLong bytes h f = head_fault TooLong bytes h f
head_fails Unreadable bytes h f = tt
head_fails Memory bytes h f = tt

body_fault : (e : FrameFault) (n : ℕ) (bytes rest : List ℕ) → 0 < length bytes → head_at 16 None bytes ≡ Ok (n, rest) → body_at n rest ≡ Err e → frame_at bytes ≡ Err e
unfolding after_head
body_fault e n bytes rest h q b = frame_parts bytes h ∙ rw (q, b) refl

pub frame_fails : (e : FrameFault) (n : ℕ) (bytes rest : List ℕ) → 0 < length bytes → head_at 16 None bytes ≡ Ok (n, rest) → Fails e (body_at n rest) → Fails e (frame_at bytes)
frame_fails Malformed n bytes rest h q f = body_fault Malformed n bytes rest h q f
frame_fails Cut n bytes rest h q f = body_fault Cut n bytes rest h q f
frame_fails TooLong n bytes rest h q f = body_fault TooLong n bytes rest h q f
frame_fails Unreadable n bytes rest h q f = tt
frame_fails Memory n bytes rest h q f = tt

pub frame_ok : (n : ℕ) (bytes rest body after : List ℕ) → 0 < length bytes → head_at 16 None bytes ≡ Ok (n, rest) → body_at n rest ≡ Ok (body, after) → frame_at bytes ≡ Ok (Some body, after)
unfolding after_head
frame_ok n bytes rest body after h q b = frame_parts bytes h ∙ rw (q, b) refl

pub fails_unreadable : {Y : Type 0} (e : FrameFault) (read : Result Y FrameFault) → e ≡ Unreadable → Fails e read
fails_unreadable e read h = subst (λ f. Fails f read) (sym h) tt

pub fails_broken : {Y : Type 0} (e : FrameFault) (read : Result Y FrameFault) → IsBroken e → Fails e read
fails_broken Malformed read h = elim h [ ]
fails_broken Cut read h = elim h [ ]
fails_broken TooLong read h = elim h [ ]
fails_broken Unreadable read h = tt
fails_broken Memory read h = tt

-- no message is read only at the end
abbrev found_of : Result (Option (List ℕ) × List ℕ) FrameFault → Option (List ℕ)
found_of (Ok p) = p.0
found_of (Err e) = Some []

abbrev rest_of : Result (Option (List ℕ) × List ℕ) FrameFault → List ℕ
rest_of (Ok p) = p.1
rest_of (Err e) = []

after_body : Result (List ℕ × List ℕ) FrameFault → Result (Option (List ℕ) × List ℕ) FrameFault
after_body read = read >>= λ body. Ok (Some body.0, body.1)

not_none : (body : Result (List ℕ × List ℕ) FrameFault) → found_of (after_body body) ≡ None → ⊥
unfolding after_body
not_none (Ok b) h = cc
not_none (Err e) h = cc

not_none_head : (head : Result (ℕ × List ℕ) FrameFault) → found_of (after_head head) ≡ None → ⊥
unfolding after_head after_body
not_none_head (Ok h) q = not_none (body_at h.0 h.1) q
not_none_head (Err e) q = cc

pub none_at_end : (bytes after : List ℕ) → frame_at bytes ≡ Ok (None, after) → (bytes ≡ []) × (after ≡ [])
none_at_end [] after h = (refl, sym (ap rest_of (sym (frame_end [] refl) ∙ h)))
none_at_end (b ∷ bytes) after h = absurd (not_none_head _ (ap found_of (sym (frame_parts (b ∷ bytes) (omega arith)) ∙ h)))
