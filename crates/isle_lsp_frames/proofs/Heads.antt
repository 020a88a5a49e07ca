-- The lines of a header, one after another.
use Rattle.std.proofs.Common.{◌≡◌, ◌⊎◌, inl, inr, ℕ, zero, suc, ◌+◌, ◌<◌, nat_lt, List, length, true, false, Option, None, Some, Result, Ok, Err, arith, refl, sym, ◌∙◌, codes, bytes_eq, ap}
use Rattle.std.specs.Io.BufRead.{take_through, drop_through}
use Rattle.std.proofs.lemmas.Bool.{both_ways, cases_lt, false_from_ne_true, lt-ltb}
use Rattle.std.proofs.lemmas.List.{length-take-le, take_all}
use Rattle.std.proofs.lemmas.Slice.Eq.{bytes_eq-Decides}
use Rattle.isle_lsp_frames.specs.declared.frames.FrameFault.{FrameFault}
use Rattle.isle_lsp_frames.specs.declared.frames.FrameFault.TheVariants.{Malformed, Cut, TooLong, Unreadable, Memory}
use Rattle.isle_lsp_frames.specs.Frames.{head_at, header_length, length_after, known_length, Fails, IsLine}

pub fails_so : {Y : Type 0} (e : FrameFault) (read : Result Y FrameFault) → read ≡ Err e → Fails e read
fails_so Malformed read h = h
fails_so Cut read h = h
fails_so TooLong read h = h
fails_so Unreadable read h = tt
fails_so Memory read h = tt

-- reading the header has come so far: so many lines may follow, this length is known, and this is left
pub record Reads (start : List ℕ) (passed : ℕ) (known : Option ℕ) (now : Option (List ℕ)) : Type 0 where
  pub rest : List ℕ
  pub lines : ℕ
  pub count : lines + passed ≡ 16
  pub at : now ≡ Some rest
  pub same : head_at 16 None start ≡ head_at lines known rest

pub reads_start : (start : List ℕ) (now : Option (List ℕ)) → now ≡ Some start → Reads start 0 None now
reads_start start now e = record { rest = start; lines = 16; count = refl; at = e; same = refl }

pub blank : (lines : ℕ) (known : Option ℕ) (rest : List ℕ) → bytes_eq (take_through 10 rest) (codes "\r\n") ≡ true → head_at (suc lines) known rest ≡ known_length known (drop_through 10 rest)
unfolding head_at
blank lines known rest h = rw h refl

pub more : (lines : ℕ) (known found : Option ℕ) (rest : List ℕ) → bytes_eq (take_through 10 rest) (codes "\r\n") ≡ false → length_after (take_through 10 rest) known ≡ Ok found → head_at (suc lines) known rest ≡ head_at lines found (drop_through 10 rest)
unfolding head_at
more lines known found rest h e = rw (h, e) refl

bad : (lines : ℕ) (known : Option ℕ) (rest : List ℕ) (e : FrameFault) → bytes_eq (take_through 10 rest) (codes "\r\n") ≡ false → length_after (take_through 10 rest) known ≡ Err e → head_at (suc lines) known rest ≡ Err e
unfolding head_at
bad lines known rest e h q = rw (h, q) refl

out_of_lines : (known : Option ℕ) (rest : List ℕ) → head_at 0 known rest ≡ Err Malformed
unfolding head_at
out_of_lines known rest = refl

-- ---- lines that are too long

long_after : (line : List ℕ) (known : Option ℕ) → 4096 < length line → length_after line known ≡ Err Malformed
unfolding length_after header_length
long_after line known h = let long : nat_lt 4096 (length line) ≡ true = lt-ltb _ _ h in rw long refl

not_blank : (line : List ℕ) → 4096 < length line → bytes_eq line (codes "\r\n") ≡ false
not_blank line h =
    false_from_ne_true _ (λ e. let n : length line ≡ 2 = ap length ((bytes_eq-Decides line (codes "\r\n")).0 e) in omega (arith, n, h))

-- the line was read whole, or it is too long, and so is what was read of it
seen : (bytes line : List ℕ) (new : Option (List ℕ)) → IsLine bytes line new → ((line ≡ take_through 10 bytes) × (new ≡ Some (drop_through 10 bytes))) ⊎ ((4096 < length line) × (4096 < length (take_through 10 bytes)))
seen bytes line new is =
    elim (cases_lt 4096 (length (take_through 10 bytes))) [
      | inl long ↦ let n : length line ≡ 4097 = ap length is.0 ∙ length-take-le 4097 (take_through 10 bytes) (omega (arith, long)) in inr (omega (arith, n), long)
      | inr few ↦ let whole : line ≡ take_through 10 bytes = is.0 ∙ take_all 4097 (take_through 10 bytes) (omega (arith, few)) in inl (whole, is.1 (rw whole few))
    ]

module _ (start line : List ℕ) (passed : ℕ) (old new : Option (List ℕ)) (known : Option ℕ) (so_far : Reads start passed known old) (below : passed < 16) (next : (bytes : List ℕ) → old ≡ Some bytes → IsLine bytes line new) where
  found_blank : (lines : ℕ) → lines + passed ≡ 16 → bytes_eq (take_through 10 so_far.rest) (codes "\r\n") ≡ true → head_at lines known so_far.rest ≡ known_length known (drop_through 10 so_far.rest)
  found_blank zero c b = absurd (omega arith)
  found_blank (suc lines) c b = blank lines known so_far.rest b

  found_more : (found : Option ℕ) (lines : ℕ) → lines + passed ≡ 16 → bytes_eq (take_through 10 so_far.rest) (codes "\r\n") ≡ false → length_after (take_through 10 so_far.rest) known ≡ Ok found → (more_lines : ℕ) × (more_lines + (passed + 1) ≡ 16) × (head_at lines known so_far.rest ≡ head_at more_lines found (drop_through 10 so_far.rest))
  found_more found zero c b h = absurd (omega arith)
  found_more found (suc lines) c b h = (lines, omega arith, more lines known found so_far.rest b h)

  found_bad : (e : FrameFault) (lines : ℕ) → lines + passed ≡ 16 → bytes_eq (take_through 10 so_far.rest) (codes "\r\n") ≡ false → length_after (take_through 10 so_far.rest) known ≡ Err e → head_at lines known so_far.rest ≡ Err e
  found_bad e zero c b h = absurd (omega arith)
  found_bad e (suc lines) c b h = bad lines known so_far.rest e b h

  pub blank_gives : (bytes_eq line (codes "\r\n") ≡ true) → (rest : List ℕ) × (new ≡ Some rest) × (head_at 16 None start ≡ known_length known rest)
  blank_gives b =
      elim (seen so_far.rest line new (next so_far.rest so_far.at)) [
        | inl w ↦
            let b' : bytes_eq (take_through 10 so_far.rest) (codes "\r\n") ≡ true = rw w.0 at b in
            (drop_through 10 so_far.rest, w.1, so_far.same ∙ found_blank so_far.lines so_far.count b')
        | inr long ↦ absurd (both_ways _ (not_blank line long.0) b)
      ]

  pub more_gives : (found : Option ℕ) → (bytes_eq line (codes "\r\n") ≡ false) → Ok found ≡ length_after line known → Reads start (passed + 1) found new
  more_gives found b h =
      elim (seen so_far.rest line new (next so_far.rest so_far.at)) [
        | inl w ↦
            let b' : bytes_eq (take_through 10 so_far.rest) (codes "\r\n") ≡ false = rw w.0 at b in
            let h' : length_after (take_through 10 so_far.rest) known ≡ Ok found = ap (λ l. length_after l known) (sym w.0) ∙ sym h in
            let m = found_more found so_far.lines so_far.count b' h' in
            record { rest = drop_through 10 so_far.rest; lines = m.0; count = m.1; at = w.1; same = so_far.same ∙ m.2 }
        | inr long ↦ let no : Ok found ≡ Err Malformed = h ∙ long_after line known long.0 in absurd cc
      ]

  pub bad_gives : (e : FrameFault) → (bytes_eq line (codes "\r\n") ≡ false) → Err e ≡ length_after line known → head_at 16 None start ≡ Err e
  bad_gives e b h =
      elim (seen so_far.rest line new (next so_far.rest so_far.at)) [
        | inl w ↦
            let b' : bytes_eq (take_through 10 so_far.rest) (codes "\r\n") ≡ false = rw w.0 at b in
            let h' : length_after (take_through 10 so_far.rest) known ≡ Err e = ap (λ l. length_after l known) (sym w.0) ∙ sym h in
            so_far.same ∙ found_bad e so_far.lines so_far.count b' h'
        | inr long ↦
            let h' : length_after (take_through 10 so_far.rest) known ≡ Err e = long_after _ known long.1 ∙ sym (long_after line known long.0) ∙ sym h in
            so_far.same ∙ found_bad e so_far.lines so_far.count (not_blank _ long.1) h'
      ]

pub none_left : (start : List ℕ) (known : Option ℕ) (now : Option (List ℕ)) (passed : ℕ) → passed ≡ 16 → Reads start passed known now → head_at 16 None start ≡ Err Malformed
none_left start known now passed e w =
    let z : w.lines ≡ 0 = let c = w.count in omega arith in
    w.same ∙ rw z (out_of_lines known w.rest)
