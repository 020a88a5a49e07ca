-- The bytes of a line, one after another.
use Rattle.std.proofs.Common.{◌≡◌, ◌≢◌, ℕ, ◌≤◌, List, [], ◌∷◌, ◌++◌, length, take, false, Option, IfSome, Some, ◌==◌, arith, refl, sym, ◌∙◌, ap, append-nil, append_assoc, length-append}
use Rattle.std.specs.Io.BufRead.{take_through, drop_through}
use Rattle.std.specs.Io.KnownBytes.{Consumes}
use Rattle.std.proofs.lemmas.List.{take_all, take_at}
use Rattle.std.proofs.lemmas.Bool.Decides.{nat_tests}
use Rattle.isle_lsp_frames.proofs.Whole.{consumed_some}
use Rattle.isle_lsp_frames.specs.Frames.{IsLine}

-- reading a line has come so far: these bytes of it were read, and this is left
pub record HasCome (bytes line : List ℕ) (now : Option (List ℕ)) : Type 0 where
  pub rest : List ℕ
  pub at : now ≡ Some rest
  pub taken : take_through 10 bytes ≡ line ++ take_through 10 rest
  pub left : drop_through 10 bytes ≡ drop_through 10 rest

pub has_begun : (bytes : List ℕ) (now : Option (List ℕ)) → now ≡ Some bytes → HasCome bytes [] now
has_begun bytes now e = record { rest = bytes; at = e; taken = refl; left = refl }

pub no_lf : (byte : ℕ) → byte ≢ 10 → (byte == 10) ≡ false
no_lf byte h = grind (arith, nat_tests)

take_lf : (byte : ℕ) (rest : List ℕ) → byte ≡ 10 → take_through 10 (byte ∷ rest) ≡ byte ∷ []
take_lf byte rest e = rw e refl

drop_lf : (byte : ℕ) (rest : List ℕ) → byte ≡ 10 → drop_through 10 (byte ∷ rest) ≡ rest
drop_lf byte rest e = rw e refl

take_other : (byte : ℕ) (rest : List ℕ) → (byte == 10) ≡ false → take_through 10 (byte ∷ rest) ≡ byte ∷ take_through 10 rest
take_other byte rest e = rw e refl

drop_other : (byte : ℕ) (rest : List ℕ) → (byte == 10) ≡ false → drop_through 10 (byte ∷ rest) ≡ drop_through 10 rest
drop_other byte rest e = rw e refl

-- a line that was read whole
whole_line : (bytes line : List ℕ) (new : Option (List ℕ)) → length line ≤ 4097 → take_through 10 bytes ≡ line → new ≡ Some (drop_through 10 bytes) → IsLine bytes line new
whole_line bytes line new few e n = (sym (ap (take 4097) e ∙ take_all 4097 line few), λ _. n)

module _ (bytes line : List ℕ) (old new : Option (List ℕ)) (so_far : HasCome bytes line old) where
  -- the input is at its end
  pub ends : length line ≤ 4096 → IfSome old (λ rest. rest ≡ []) → Consumes old new [] → IsLine bytes line new
  ends few end c =
      let w = consumed_some old new so_far.rest [] c so_far.at in
      let none : so_far.rest ≡ [] = rw so_far.at at end in
      whole_line bytes line new (omega arith) (so_far.taken ∙ ap (λ l. line ++ take_through 10 l) none ∙ append-nil line)
      (w.1 ∙ ap Some (sym w.2 ∙ none ∙ sym (so_far.left ∙ ap (drop_through 10) none)))

  module _ (byte : ℕ) (consumes : Consumes old new (byte ∷ [])) where
    -- the byte ends the line
    pub closes : length line ≤ 4096 → byte ≡ 10 → IsLine bytes (line ++ byte ∷ []) new
    closes few lf =
        let w = consumed_some old new so_far.rest (byte ∷ []) consumes so_far.at in
        whole_line bytes (line ++ byte ∷ []) new (omega (arith, length-append line (byte ∷ [])))
        (so_far.taken ∙ ap (λ l. line ++ take_through 10 l) w.2 ∙ ap (λ l. line ++ l) (take_lf byte w.0 lf))
        (w.1 ∙ ap Some (sym (so_far.left ∙ ap (drop_through 10) w.2 ∙ drop_lf byte w.0 lf)))

    -- the byte is one of the line
    pub goes_on : (byte == 10) ≡ false → HasCome bytes (line ++ byte ∷ []) new
    goes_on other =
        let w = consumed_some old new so_far.rest (byte ∷ []) consumes so_far.at in
        record {
          rest = w.0;
          at = w.1;
          taken = so_far.taken ∙ ap (λ l. line ++ take_through 10 l) w.2 ∙ ap (λ l. line ++ l) (take_other byte w.0 other) ∙ sym (append_assoc line (byte ∷ []) (take_through 10 w.0));
          left = so_far.left ∙ ap (drop_through 10) w.2 ∙ drop_other byte w.0 other;
        }

-- there are more bytes than a line may have
pub too_long : (bytes line : List ℕ) (now : Option (List ℕ)) → HasCome bytes line now → length line ≡ 4097 → IsLine bytes line now
too_long bytes line now w n =
    (sym (ap (take 4097) w.taken ∙ take_at line (take_through 10 w.rest) 4097 n), λ few. absurd (omega (arith, n, few)))
