-- The longest run of a kind: it is there, there is just one, and it is as long as `prefix_len` says.
use Rattle.std.proofs.Common.{◌≡◌, ℕ, suc, ◌+◌, List, [], ◌∷◌, ◌++◌, Bool, true, false, take, drop, refl, sym, ap, subst, ⊎_elim, ◌∙◌}
use Rattle.std.specs.List.{prefix_len, take_while, list_all}
use Rattle.std.proofs.Math.Numerals.{one-add}
use Rattle.std.proofs.lemmas.Bool.{cases_Bool, and_parts, both_ways}
use Rattle.std.proofs.lemmas.List.{drop-drop}
use Rattle.isle_base.specs.Computed.{behind}
use Rattle.isle_base.specs.Skips.{begins_with, Longest}

pub prefix_len-yes : (kind : ℕ → Bool) (b : ℕ) (rest : List ℕ) → kind b ≡ true → prefix_len kind (b ∷ rest) ≡ suc (prefix_len kind rest)
prefix_len-yes kind b rest e = rw e (one-add (prefix_len kind rest))

pub prefix_len-no : (kind : ℕ → Bool) (b : ℕ) (rest : List ℕ) → kind b ≡ false → prefix_len kind (b ∷ rest) ≡ 0
prefix_len-no kind b rest e = rw e refl

Longest-cons : (kind : ℕ → Bool) (b : ℕ) {rest run after : List ℕ} → kind b ≡ true → Longest kind rest run after → Longest kind (b ∷ rest) (b ∷ run) after
Longest-cons kind b e l = record { split = ap (λ xs. b ∷ xs) l.split; each = rw e l.each; stops = l.stops }

pub longest : (kind : ℕ → Bool) (text : List ℕ) → Longest kind text (take_while kind text) (behind kind text)
longest kind [] = record { split = refl; each = refl; stops = refl }
longest kind (b ∷ rest) =
    let P : ℕ → Type 0 = λ n. Longest kind (b ∷ rest) (take n (b ∷ rest)) (drop n (b ∷ rest)) in
    ⊎_elim
    (λ yes. subst P (sym (prefix_len-yes kind b rest yes)) (Longest-cons kind b yes (longest kind rest)))
    (λ no. subst P (sym (prefix_len-no kind b rest no)) (record { split = refl; each = refl; stops = no }))
    (cases_Bool (kind b))

longest_same : (kind : ℕ → Bool) (run other after behind : List ℕ) → run ++ after ≡ other ++ behind → list_all kind run ≡ true → list_all kind other ≡ true → begins_with kind after ≡ false → begins_with kind behind ≡ false → (run ≡ other) × (after ≡ behind)
longest_same kind [] [] after behind e all all' stops stops' = (refl, e)
longest_same kind [] (y ∷ ys) after behind e all all' stops stops' =
    absurd (both_ways (kind y) (sym (ap (begins_with kind) e) ∙ stops) (and_parts (kind y) (list_all kind ys) all').0)
longest_same kind (x ∷ xs) [] after behind e all all' stops stops' =
    absurd (both_ways (kind x) (ap (begins_with kind) e ∙ stops') (and_parts (kind x) (list_all kind xs) all).0)
longest_same kind (x ∷ xs) (y ∷ ys) after behind e all all' stops stops' =
    let head : x ≡ y = cc in
    let tail : xs ++ after ≡ ys ++ behind = cc in
    let same = longest_same kind xs ys after behind tail (and_parts (kind x) (list_all kind xs) all).1 (and_parts (kind y) (list_all kind ys) all').1 stops stops' in
    (cc, same.1)

pub Longest-unique : {kind : ℕ → Bool} {text run other after behind : List ℕ} → Longest kind text run after → Longest kind text other behind → (run ≡ other) × (after ≡ behind)
Longest-unique {kind} {text} {run} {other} {after} {behind} l m =
    longest_same kind run other after behind (sym l.split ∙ m.split) l.each m.each l.stops m.stops

-- from an offset on, up to where the run ends
pub longest_from : (kind : ℕ → Bool) (bytes : List ℕ) (from end : ℕ) → end ≡ from + prefix_len kind (drop from bytes) → Longest kind (drop from bytes) (take_while kind (drop from bytes)) (drop end bytes)
longest_from kind bytes from end e =
    let same : behind kind (drop from bytes) ≡ drop end bytes = drop-drop (prefix_len kind (drop from bytes)) from bytes ∙ ap (λ n. drop n bytes) (sym e) in
    subst (λ rest. Longest kind (drop from bytes) (take_while kind (drop from bytes)) rest) same (longest kind (drop from bytes))
