-- Several reads and several writes, taken together.
use Rattle.std.proofs.Common.{◌≡◌, ◌≢◌, ◌++◌, ℕ, ◌+◌, ◌-◌, min, List, length, take, drop, Option, Result, Ok, Err, IfErr, IsUtf8, refl, ap, subst, sym, ◌∙◌, arith, length-drop}
use Rattle.std.proofs.KnownBytes.{Appends-trans, Consumes-trans, starts_with_rest}
use Rattle.std.proofs.Math.Seq.{take-add, take-append-add}
use Rattle.std.proofs.lemmas.List.{take-append-le, take_all, take_min}
use Rattle.std.proofs.lemmas.Result.{err_from_is_err_and}
use Rattle.std.specs.Io.{StartsWith, appended_bytes}
use Rattle.std.specs.Io.KnownBytes.{Appends, Consumes, IsAtEnd}
use Rattle.std.specs.Result.{IsErrAnd}
use Rattle.std.specs.Str.Lossy.{utf8_valid_len}
use Rattle.std.specs.declared.io.ErrorKind.{ErrorKind}
use Rattle.std.specs.declared.io.ErrorKind.TheVariants as kinds
use Rattle.isle_cli.specs.Streams.{AppendsBeginning, IsBroken, IsStreamFault, ReadsText, fault_of}
use Rattle.isle_cli.specs.declared.streams.ReadFault.{ReadFault}
use Rattle.isle_cli.specs.declared.streams.ReadFault.TheVariants as faults

-- the bytes so far were consumed, and then those by which they grew
pub Consumes-grown : (a b c : Option (List ℕ)) (old new : List ℕ) → StartsWith new old
    → Consumes a b old → Consumes b c (appended_bytes old new) → Consumes a c new
Consumes-grown a b c old new grows first second =
    subst (Consumes a c) (sym (starts_with_rest new old grows)) (Consumes-trans a b c _ _ first second)

-- the first n bytes were written, and then m of the rest
pub Appends-more : (a b c : Option (List ℕ)) (n m : ℕ) (bytes : List ℕ) → Appends a b (take n bytes)
    → Appends b c (take m (take (length bytes - n) (drop n bytes))) → Appends a c (take (n + m) bytes)
Appends-more a b c n m bytes first second =
    let rest : take (length bytes - n) (drop n bytes) ≡ drop n bytes = take_all _ _ (omega (arith, length-drop n bytes)) in
    let moved = rw rest at second in
    subst (Appends a c) (sym (take-add n m bytes)) (Appends-trans a b c _ _ first moved)

-- a beginning of the front is one of the whole
pub AppendsBeginning-front : (a b : Option (List ℕ)) (xs ys : List ℕ) → AppendsBeginning a b xs → AppendsBeginning a b (xs ++ ys)
AppendsBeginning-front a b xs ys front =
    let n = min front.0 (length xs) in
    (n, subst (Appends a b) (sym (take-append-le n xs ys (omega arith) ∙ take_min front.0 xs)) front.1)

-- the front was written, and then a beginning of what is behind it
pub AppendsBeginning-behind : (a b c : Option (List ℕ)) (xs ys : List ℕ) → Appends a b xs → AppendsBeginning b c ys → AppendsBeginning a c (xs ++ ys)
AppendsBeginning-behind a b c xs ys front rest =
    (length xs + rest.0, subst (Appends a c) (sym (take-append-add xs ys rest.0)) (Appends-trans a b c _ _ front rest.1))

-- what follows of the text that was read
pub ReadsText-weaker : (old new : Option (List ℕ)) (P Q : List ℕ → Type 0) → ((text : List ℕ) → P text → Q text) → ReadsText old new P → ReadsText old new Q
ReadsText-weaker old new P Q follows read =
    record { text = read.text; consumed = read.consumed; ended = read.ended; utf8 = read.utf8; holds = follows read.text read.holds }

broken_fault : (old new : Option (List ℕ)) (fault : ReadFault) → IsBroken fault → IsStreamFault old new fault
broken_fault old new (faults.NotUtf8 offset) broken = absurd broken
broken_fault old new _ broken = tt

-- an error of one read is an error of the stream
pub broken_stream : {X : Type 0} (old new : Option (List ℕ)) (r : Result X ReadFault) (e : ReadFault) → IsErrAnd r (λ f. f ≡ e) → IsBroken e → IfErr r (IsStreamFault old new)
broken_stream old new r e is broken =
    let p = err_from_is_err_and r is in
    subst (λ q. IfErr q (IsStreamFault old new)) (sym (p.1 ∙ ap Err p.2)) (broken_fault old new e broken)

-- any other error of the system
pub fault_of-other : (kind : ErrorKind) → kind ≢ kinds.NotFound → kind ≢ kinds.PermissionDenied → kind ≢ kinds.IsADirectory → kind ≢ kinds.OutOfMemory → faults.Unreadable ≡ fault_of kind
fault_of-other kinds.NotFound missing denied folder memory = absurd (missing refl)
fault_of-other kinds.PermissionDenied missing denied folder memory = absurd (denied refl)
fault_of-other kinds.IsADirectory missing denied folder memory = absurd (folder refl)
fault_of-other kinds.OutOfMemory missing denied folder memory = absurd (memory refl)
fault_of-other _ missing denied folder memory = refl

-- bytes that aren't UTF-8 are no text
pub no_text : {X : Type 0} (old new : Option (List ℕ)) (bytes : List ℕ) (r : Result X ReadFault) → Consumes old new bytes → IsAtEnd new → IfErr r (λ _. ¬ (IsUtf8 bytes))
    → IfErr r (λ f. f ≡ faults.NotUtf8 (utf8_valid_len bytes)) → IfErr r (IsStreamFault old new)
no_text old new bytes (Ok x) consumed ended not_utf8 is = tt
no_text old new bytes (Err e) consumed ended not_utf8 is =
    subst (IsStreamFault old new) (sym is) (record { bytes = bytes; consumed = consumed; ended = ended; not_utf8 = not_utf8; valid = refl })
