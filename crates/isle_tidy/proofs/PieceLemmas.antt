-- The pieces of a tidy text, taken together.
use Rattle.std.proofs.Common.{◌≡◌, ◌++◌, [], ◌-◌, ◌<◌, ◌≤◌, arith, ℕ, List, length, Option, Result, Ok, Err, IfErr, OnOk, Bool, true, false, refl, sym, ap, ◌∙◌, subst, inl, inr, ⊎_elim, append_assoc, append-nil}
use Rattle.std.proofs.KnownBytes.{Appends-nil, Appends-trans, Keeps-refl}
use Rattle.std.specs.Io.KnownBytes.{Appends}
use Rattle.isle_cli.specs.Streams.{AppendsBeginning, Writes}
use Rattle.isle_cli.specs.declared.failure.Failure.{Failure}
use Rattle.isle_cli.specs.declared.failure.Failure.TheVariants as failures
use Rattle.isle_tidy_core.specs.Streams.{HasWritten, PutsMore, PutsLast}
use Rattle.isle_tidy_core.specs.Tidied.{IsTidyTextOf}
use Rattle.isle_tidy_core.specs.declared.tidying.Tidying.{Tidying}
use Rattle.isle_tidy_core.proofs.Streams.{begins_tidy}
use Rattle.isle_tidy.specs.Pieces.{PutsPiece, PutsRest, CutsRest, FailsPiece, FailsTidied}
use Rattle.isle_cli.proofs.StreamLemmas.{AppendsBeginning-behind, AppendsBeginning-front}

-- One piece.

pub piece_more : (t new : Tidying) (before piece shown : List ℕ) (output after : Option (List ℕ)) → before ≡ [] → PutsMore t new before piece → shown ≡ piece → Appends output after shown → PutsPiece t new output after
piece_more t new before piece shown output after none more is put = λ text out has.
    let m = more text out has in
    let same : shown ≡ m.0 = is ∙ m.1 ∙ ap (λ xs. xs ++ m.0) none in
    (m.0, subst (Appends output after) same put, m.2)

pub piece_last : (t : Tidying) (before piece shown : List ℕ) (output after : Option (List ℕ)) → before ≡ [] → PutsLast t before piece → shown ≡ piece → Appends output after shown → PutsRest t output after
piece_last t before piece shown output after none last is put = λ text out has.
    let m = last text out has in
    let same : shown ≡ m.0 = is ∙ m.1 ∙ ap (λ xs. xs ++ m.0) none in
    (m.0, subst (Appends output after) same put, m.2)

cut_more : (t new : Tidying) (before piece shown : List ℕ) (output after : Option (List ℕ)) → before ≡ [] → PutsMore t new before piece → shown ≡ piece → AppendsBeginning output after shown → CutsRest t output after
cut_more t new before piece shown output after none more is cut = λ text out has.
    let m = more text out has in
    let same : shown ≡ m.0 = is ∙ m.1 ∙ ap (λ xs. xs ++ m.0) none in
    let whole = begins_tidy new text (out ++ m.0) m.2 in
    (m.0 ++ whole.0, AppendsBeginning-front output after m.0 whole.0 (subst (AppendsBeginning output after) same cut), subst (IsTidyTextOf text) (append_assoc out m.0 whole.0) whole.1)

cut_last : (t : Tidying) (before piece shown : List ℕ) (output after : Option (List ℕ)) → before ≡ [] → PutsLast t before piece → shown ≡ piece → AppendsBeginning output after shown → CutsRest t output after
cut_last t before piece shown output after none last is cut = λ text out has.
    let m = last text out has in
    let same : shown ≡ m.0 = is ∙ m.1 ∙ ap (λ xs. xs ++ m.0) none in
    (m.0, subst (AppendsBeginning output after) same cut, m.2)

cut_piece : (t new : Tidying) (before piece shown : List ℕ) (output after : Option (List ℕ)) (more : Bool) → before ≡ [] → (more ≡ true → PutsMore t new before piece) → (more ≡ false → PutsLast t before piece) → shown ≡ piece → AppendsBeginning output after shown → CutsRest t output after
cut_piece t new before piece shown output after true none f g is cut = cut_more t new before piece shown output after none (f refl) is cut
cut_piece t new before piece shown output after false none f g is cut = cut_last t before piece shown output after none (g refl) is cut

output_fails : (failure : Failure) (t : Tidying) (output after : Option (List ℕ)) → failure ≡ failures.Output → CutsRest t output after → FailsPiece failure t output after
output_fails failure t output after is cut = record {
  kind = inl is;
  kept = λ memory. let no : failures.Output ≡ failures.Memory = sym is ∙ memory in cc;
  cut = cut;
}

pub piece_fails : (failure : Failure) (t new : Tidying) (before piece shown : List ℕ) (output after : Option (List ℕ)) (more : Bool) → before ≡ [] → (more ≡ true → PutsMore t new before piece) → (more ≡ false → PutsLast t before piece) → shown ≡ piece
    → (failure ≡ failures.Output) × AppendsBeginning output after shown → FailsPiece failure t output after
piece_fails failure t new before piece shown output after more none f g is said =
    output_fails failure t output after said.0 (cut_piece t new before piece shown output after more none f g is said.1)

pub memory_fails : (t : Tidying) (output : Option (List ℕ)) → FailsPiece failures.Memory t output output
memory_fails t output = record {
  kind = inr refl;
  kept = λ _. Keeps-refl output;
  cut = λ text out has. let whole = begins_tidy t text out has in (whole.0, (0, Appends-nil output), whole.1);
}

-- Several pieces.

pub no_piece : (t : Tidying) (output : Option (List ℕ)) → PutsPiece t t output output
no_piece t output = λ text out has. ([], Appends-nil output, subst (λ xs. HasWritten text xs t) (sym (append-nil out)) has)

pub piece_then : (t mid new : Tidying) (a b c : Option (List ℕ)) → PutsPiece t mid a b → PutsPiece mid new b c → PutsPiece t new a c
piece_then t mid new a b c first second = λ text out has.
    let m = first text out has in
    let n = second text (out ++ m.0) m.2 in
    (m.0 ++ n.0, Appends-trans a b c m.0 n.0 m.1 n.1, subst (λ xs. HasWritten text xs new) (append_assoc out m.0 n.0) n.2)

pub rest_then : (t mid : Tidying) (a b c : Option (List ℕ)) → PutsPiece t mid a b → PutsRest mid b c → PutsRest t a c
rest_then t mid a b c first second = λ text out has.
    let m = first text out has in
    let n = second text (out ++ m.0) m.2 in
    (m.0 ++ n.0, Appends-trans a b c m.0 n.0 m.1 n.1, subst (IsTidyTextOf text) (append_assoc out m.0 n.0) n.2)

pub cut_then : (t mid : Tidying) (a b c : Option (List ℕ)) → PutsPiece t mid a b → CutsRest mid b c → CutsRest t a c
cut_then t mid a b c first second = λ text out has.
    let m = first text out has in
    let n = second text (out ++ m.0) m.2 in
    (m.0 ++ n.0, AppendsBeginning-behind a b c m.0 n.0 m.1 n.1, subst (IsTidyTextOf text) (append_assoc out m.0 n.0) n.2)

-- a tidying that is begun still goes on behind a piece
pub goes_further : (t new : Tidying) (a b : Option (List ℕ)) → (text : List ℕ) × (out : List ℕ) × HasWritten text out t → PutsPiece t new a b → (text : List ℕ) × (out : List ℕ) × HasWritten text out new
goes_further t new a b has piece = let m = piece has.0 has.1 has.2 in (has.0, _, m.2)

pub others_ok : {E : Type 0} (result : Result (Unit {0}) E) (t mid : Tidying) (a b c : Option (List ℕ)) → PutsPiece t mid a b → OnOk result (PutsRest mid b c) → OnOk result (PutsRest t a c)
others_ok (Ok x) t mid a b c first second = rest_then t mid a b c first second
others_ok (Err e) t mid a b c first second = tt

pub others_err : {T : Type 0} (result : Result T Failure) (t mid : Tidying) (a b c : Option (List ℕ)) → PutsPiece t mid a b → IfErr result (λ f. (f ≡ failures.Output) × CutsRest mid b c) → IfErr result (λ f. FailsPiece f t a c)
others_err (Ok x) t mid a b c first second = tt
others_err (Err f) t mid a b c first second = output_fails f t a c second.0 (cut_then t mid a b c first second.1)

-- A whole text.

pub tidied_ok : {E : Type 0} (result : Result (Unit {0}) E) (t : Tidying) (text : List ℕ) (a b : Option (List ℕ)) → HasWritten text [] t → OnOk result (PutsRest t a b) → OnOk result (Writes a b (IsTidyTextOf text))
tidied_ok (Ok x) t text a b has rest = let m = rest text [] has in (m.0, m.2, m.1)
tidied_ok (Err e) t text a b has rest = tt

tidied_fails : (f : Failure) (t : Tidying) (name text : List ℕ) (a b : Option (List ℕ)) → HasWritten text [] t → FailsPiece f t a b → FailsTidied f name text a b
tidied_fails f t name text a b has fails =
    ⊎_elim (λ is. subst (λ g. FailsTidied g name text a b) (sym is) (let m = fails.cut text [] has in (m.0, m.2, m.1)))
    (λ is. subst (λ g. FailsTidied g name text a b) (sym is) (tt, fails.kept is)) fails.kind

pub tidied_err : {T : Type 0} (result : Result T Failure) (t : Tidying) (name text : List ℕ) (a b : Option (List ℕ)) → HasWritten text [] t → IfErr result (λ f. FailsPiece f t a b) → IfErr result (λ f. FailsTidied f name text a b)
tidied_err (Ok x) t name text a b has fails = tt
tidied_err (Err f) t name text a b has fails = tidied_fails f t name text a b has fails

pub piece_smaller : (t new : Tidying) (a b : Option (List ℕ)) → (text : List ℕ) × (out : List ℕ) × HasWritten text out t → PutsPiece t new a b → t.at < new.at → length new.text.now - new.at < length t.text.now - t.at
piece_smaller t new a b has piece moves =
    let there = (piece has.0 has.1 has.2).2 in
    let within : new.at ≤ length has.0 = there.within in
    let same : length t.text.now ≡ length has.0 = ap length has.2.same_text in
    let same_too : length new.text.now ≡ length has.0 = ap length there.same_text in
    omega (arith, within, same, same_too, moves)

pub ok_is : {E : Type 0} (a b : Bool) → (let x : Result Bool E = Ok a in x) ≡ Ok b → a ≡ b
ok_is a b h = cc
