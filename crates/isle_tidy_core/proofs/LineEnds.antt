-- Texts with other line ends.
use Rattle.std.proofs.Common.{◌≡◌, ℕ, List, [], ◌∷◌, ◌++◌, Bool, true, false, ◌&&◌, not, cond, eqb, refl, sym, ap, ◌∙◌, append_assoc}
use Rattle.std.proofs.lemmas.Bool.{and_parts, and_right, both_ways, cond_both, eqb-true, not-true}
use Rattle.std.specs.List.{list_all}
use Rattle.isle_base.specs.Skips.{begins_with, in_line}
use Rattle.isle_base.proofs.Bytes.{other_byte}
use Rattle.isle_tidy_core.specs.Ends.{is_feed, is_no_return, end_bytes, line_end_of, with_ends}
use Rattle.isle_tidy_core.specs.declared.ends.LineEnd.{LineEnd}
use Rattle.isle_tidy_core.specs.declared.ends.LineEnd.TheVariants.{Lf, CrLf}

-- One byte more.

-- what holds of the bytes that stand for this one
pub ends_step : (e : LineEnd) (b : ℕ) (bs : List ℕ) (P : List ℕ → Type 0)
    → (eqb b 10 ≡ true → P (end_bytes e ++ with_ends e bs))
    → (eqb b 13 ≡ true → begins_with is_feed bs ≡ true → P (with_ends e bs))
    → (eqb b 13 ≡ true → begins_with is_feed bs ≡ false → P (end_bytes e ++ with_ends e bs))
    → (eqb b 10 ≡ false → eqb b 13 ≡ false → P (b ∷ with_ends e bs))
    → P (with_ends e (b ∷ bs))
ends_step e b bs P feed both alone other =
    let more = with_ends e bs in
    let ended = end_bytes e ++ more in
    let f = begins_with is_feed bs in
    cond_both (eqb b 10) ended (cond (eqb b 13) (cond f more ended) (b ∷ more)) P feed
    (λ no. cond_both (eqb b 13) (cond f more ended) (b ∷ more) P (λ is. cond_both f more ended P (both is) (alone is)) (other no))

pub no_feed_there : (b : ℕ) → eqb b 13 ≡ true → eqb b 10 ≡ false
no_feed_there b is = ap (λ c. eqb c 10) (eqb-true b 13 is)

pub ends_feed : (e : LineEnd) (b : ℕ) (bs : List ℕ) → eqb b 10 ≡ true → with_ends e (b ∷ bs) ≡ end_bytes e ++ with_ends e bs
ends_feed e b bs is = rw is refl

pub ends_both : (e : LineEnd) (b : ℕ) (bs : List ℕ) → eqb b 13 ≡ true → begins_with is_feed bs ≡ true → with_ends e (b ∷ bs) ≡ with_ends e bs
ends_both e b bs is more = rw (no_feed_there b is, is, more) refl

pub ends_alone : (e : LineEnd) (b : ℕ) (bs : List ℕ) → eqb b 13 ≡ true → begins_with is_feed bs ≡ false → with_ends e (b ∷ bs) ≡ end_bytes e ++ with_ends e bs
ends_alone e b bs is none = rw (no_feed_there b is, is, none) refl

pub ends_other : (e : LineEnd) (b : ℕ) (bs : List ℕ) → eqb b 10 ≡ false → eqb b 13 ≡ false → with_ends e (b ∷ bs) ≡ b ∷ with_ends e bs
ends_other e b bs no_feed no_return = rw (no_feed, no_return) refl

-- Bytes of a line stay.

pub line_parts : (b : ℕ) → in_line b ≡ true → (eqb b 10 ≡ false) × (eqb b 13 ≡ false)
unfolding in_line
line_parts b h = (other_byte in_line b 10 h refl, other_byte in_line b 13 h refl)

pub ends_run : (e : LineEnd) (run rest : List ℕ) → list_all in_line run ≡ true → with_ends e (run ++ rest) ≡ run ++ with_ends e rest
ends_run e [] rest all = refl
ends_run e (b ∷ bs) rest all =
    let parts = and_parts (in_line b) (list_all in_line bs) all in
    let no = line_parts b parts.0 in
    ends_other e b (bs ++ rest) no.0 no.1 ∙ ap (λ xs. b ∷ xs) (ends_run e bs rest parts.1)

-- Texts without CR.

pub none_left : (text : List ℕ) → list_all is_no_return (with_ends Lf text) ≡ true
none_left [] = refl
none_left (b ∷ bs) =
    ends_step Lf b bs (λ xs. list_all is_no_return xs ≡ true) (λ _. none_left bs) (λ _ _. none_left bs) (λ _ _. none_left bs) (λ _ no. rw no (none_left bs))

-- the byte that is written for a LF is one
same_feed : (b : ℕ) (xs ys : List ℕ) → eqb b 10 ≡ true → xs ≡ ys → 10 ∷ xs ≡ b ∷ ys
same_feed b xs ys is e = ap (λ zs. 10 ∷ zs) e ∙ ap (λ c. c ∷ ys) (sym (eqb-true b 10 is))

feed_back : (e : LineEnd) (text : List ℕ) → with_ends Lf (end_bytes e ++ text) ≡ 10 ∷ with_ends Lf text
feed_back Lf text = refl
feed_back CrLf text = refl

-- other line ends can be taken back
pub ends_back : (e : LineEnd) (text : List ℕ) → list_all is_no_return text ≡ true → with_ends Lf (with_ends e text) ≡ text
ends_back e [] h = refl
ends_back e (b ∷ bs) h =
    let parts = and_parts (is_no_return b) (list_all is_no_return bs) h in
    let no = not-true (eqb b 13) parts.0 in
    let more = ends_back e bs parts.1 in
    ends_step e b bs (λ xs. with_ends Lf xs ≡ b ∷ bs)
    (λ is. feed_back e (with_ends e bs) ∙ same_feed b (with_ends Lf (with_ends e bs)) bs is more)
    (λ is _. absurd (both_ways (eqb b 13) no is)) (λ is _. absurd (both_ways (eqb b 13) no is))
    (λ no_feed _. ends_other Lf b (with_ends e bs) no_feed no ∙ ap (λ xs. b ∷ xs) more)

pub plain_stays : (text : List ℕ) → list_all is_no_return text ≡ true → with_ends Lf text ≡ text
plain_stays [] h = refl
plain_stays (b ∷ bs) h =
    let parts = and_parts (is_no_return b) (list_all is_no_return bs) h in
    let no = not-true (eqb b 13) parts.0 in
    let more = plain_stays bs parts.1 in
    ends_step Lf b bs (λ xs. xs ≡ b ∷ bs) (λ is. same_feed b (with_ends Lf bs) bs is more)
    (λ is _. absurd (both_ways (eqb b 13) no is)) (λ is _. absurd (both_ways (eqb b 13) no is)) (λ _ _. ap (λ xs. b ∷ xs) more)

end_decides : (e : LineEnd) (text : List ℕ) → line_end_of (end_bytes e ++ text) ≡ e
end_decides Lf text = refl
end_decides CrLf text = refl

line_end_further : (b : ℕ) (bs : List ℕ) → eqb b 10 ≡ false → eqb b 13 ≡ false → line_end_of (b ∷ bs) ≡ line_end_of bs
line_end_further b bs no_feed no_return = rw (no_feed, no_return) refl

no_return_decides : (b : ℕ) (bs : List ℕ) → eqb b 13 ≡ false → line_end_of bs ≡ Lf → cond (eqb b 13 && begins_with is_feed bs) CrLf (line_end_of bs) ≡ Lf
no_return_decides b bs other more = ap (λ t. cond (t && begins_with is_feed bs) CrLf (line_end_of bs)) other ∙ more

pub plain_line_end : (text : List ℕ) → list_all is_no_return text ≡ true → line_end_of text ≡ Lf
plain_line_end [] h = refl
plain_line_end (b ∷ bs) h =
    let parts = and_parts (is_no_return b) (list_all is_no_return bs) h in
    let more = no_return_decides b bs (not-true (eqb b 13) parts.0) (plain_line_end bs parts.1) in
    cond_both (eqb b 10) Lf (cond (eqb b 13 && begins_with is_feed bs) CrLf (line_end_of bs)) (λ e. e ≡ Lf) (λ _. refl) (λ _. more)

-- what a text with other line ends decides
pub ends_again : (e : LineEnd) (text : List ℕ) → list_all is_no_return text ≡ true → with_ends (line_end_of (with_ends e text)) text ≡ with_ends e text
ends_again e [] h = refl
ends_again e (b ∷ bs) h =
    let parts = and_parts (is_no_return b) (list_all is_no_return bs) h in
    let no = not-true (eqb b 13) parts.0 in
    let more = with_ends e bs in
    ends_step e b bs (λ xs. with_ends (line_end_of xs) (b ∷ bs) ≡ xs)
    (λ is. ap (λ k. with_ends k (b ∷ bs)) (end_decides e more) ∙ ends_feed e b bs is)
    (λ is _. absurd (both_ways (eqb b 13) no is)) (λ is _. absurd (both_ways (eqb b 13) no is))
    (λ no_feed _. ap (λ k. with_ends k (b ∷ bs)) (line_end_further b more no_feed no) ∙ ends_other (line_end_of more) b bs no_feed no ∙ ap (λ xs. b ∷ xs) (ends_again e bs parts.1))

twice_end : (e : LineEnd) (text : List ℕ) → with_ends e (end_bytes e ++ text) ≡ end_bytes e ++ with_ends e text
twice_end Lf text = refl
twice_end CrLf text = refl

-- and the same ones again
pub ends_twice : (e : LineEnd) (text : List ℕ) → with_ends e (with_ends e text) ≡ with_ends e text
ends_twice e [] = refl
ends_twice e (b ∷ bs) =
    let more = with_ends e bs in
    let ended : with_ends e (end_bytes e ++ more) ≡ end_bytes e ++ more = twice_end e more ∙ ap (λ xs. end_bytes e ++ xs) (ends_twice e bs) in
    ends_step e b bs (λ xs. with_ends e xs ≡ xs) (λ _. ended) (λ _ _. ends_twice e bs) (λ _ _. ended)
    (λ no_feed no. ends_other e b more no_feed no ∙ ap (λ xs. b ∷ xs) (ends_twice e bs))

-- Two texts, one behind the other.

-- no CR at the end of the one is before a LF at the start of the other
abbrev pub splits : (xs ys : List ℕ) → Bool
splits [] ys = true
splits (b ∷ []) ys = not (eqb b 13 && begins_with is_feed ys)
splits (b ∷ c ∷ cs) ys = splits (c ∷ cs) ys

step_append : (e : LineEnd) (b : ℕ) (bs ys : List ℕ) → with_ends e (bs ++ ys) ≡ with_ends e bs ++ with_ends e ys
    → (eqb b 13 ≡ true → begins_with is_feed (bs ++ ys) ≡ begins_with is_feed bs) → with_ends e (b ∷ (bs ++ ys)) ≡ with_ends e (b ∷ bs) ++ with_ends e ys
step_append e b bs ys more same =
    let ended : end_bytes e ++ with_ends e (bs ++ ys) ≡ (end_bytes e ++ with_ends e bs) ++ with_ends e ys =
    ap (λ xs. end_bytes e ++ xs) more ∙ sym (append_assoc (end_bytes e) (with_ends e bs) (with_ends e ys)) in
    ends_step e b bs (λ xs. with_ends e (b ∷ (bs ++ ys)) ≡ xs ++ with_ends e ys)
    (λ is. ends_feed e b (bs ++ ys) is ∙ ended)
    (λ is feed. ends_both e b (bs ++ ys) is (same is ∙ feed) ∙ more)
    (λ is none. ends_alone e b (bs ++ ys) is (same is ∙ none) ∙ ended)
    (λ no_feed no. ends_other e b (bs ++ ys) no_feed no ∙ ap (λ xs. b ∷ xs) more)

last_apart : (b : ℕ) (ys : List ℕ) → not (eqb b 13 && begins_with is_feed ys) ≡ true → eqb b 13 ≡ true → begins_with is_feed ys ≡ false
last_apart b ys h is = not-true (begins_with is_feed ys) (sym (ap (λ t. not (t && begins_with is_feed ys)) is) ∙ h)

pub ends_append : (e : LineEnd) (xs ys : List ℕ) → splits xs ys ≡ true → with_ends e (xs ++ ys) ≡ with_ends e xs ++ with_ends e ys
ends_append e [] ys h = refl
ends_append e (b ∷ []) ys h = step_append e b [] ys refl (λ is. last_apart b ys h is)
ends_append e (b ∷ c ∷ cs) ys h = step_append e b (c ∷ cs) ys (ends_append e (c ∷ cs) ys h) (λ _. refl)

-- before anything but a LF
pub splits_before : (xs ys : List ℕ) → begins_with is_feed ys ≡ false → splits xs ys ≡ true
splits_before [] ys h = refl
splits_before (b ∷ []) ys h = rw (h, and_right (eqb b 13) false refl) refl
splits_before (b ∷ c ∷ cs) ys h = splits_before (c ∷ cs) ys h

-- The first byte, if it ends no line, is the same.

abbrev pub first_by : {A : Type 0} → (ℕ → A) → A → List ℕ → A
first_by f d [] = d
first_by f d (b ∷ _) = f b

first_end : {A : Type 0} (f : ℕ → A) (d : A) (e : LineEnd) (text : List ℕ) → f 10 ≡ d → f 13 ≡ d → first_by f d (end_bytes e ++ text) ≡ d
first_end f d Lf text ten thirteen = ten
first_end f d CrLf text ten thirteen = thirteen

first_feed : {A : Type 0} (f : ℕ → A) (d : A) (text : List ℕ) → f 10 ≡ d → begins_with is_feed text ≡ true → first_by f d text ≡ d
first_feed f d [] ten h = refl
first_feed f d (b ∷ bs) ten h = ap f (eqb-true b 10 h) ∙ ten

pub first_kept : {A : Type 0} (f : ℕ → A) (d : A) (e : LineEnd) (text : List ℕ) → f 10 ≡ d → f 13 ≡ d → first_by f d (with_ends e text) ≡ first_by f d text
first_kept f d e [] ten thirteen = refl
first_kept f d e (b ∷ bs) ten thirteen =
    let more = with_ends e bs in
    ends_step e b bs (λ xs. first_by f d xs ≡ f b)
    (λ is. first_end f d e more ten thirteen ∙ sym (ap f (eqb-true b 10 is) ∙ ten))
    (λ is feed. first_kept f d e bs ten thirteen ∙ first_feed f d bs ten feed ∙ sym (ap f (eqb-true b 13 is) ∙ thirteen))
    (λ is _. first_end f d e more ten thirteen ∙ sym (ap f (eqb-true b 13 is) ∙ thirteen))
    (λ _ _. refl)

begins_by : (kind : ℕ → Bool) (text : List ℕ) → begins_with kind text ≡ first_by kind false text
begins_by kind [] = refl
begins_by kind (b ∷ bs) = refl

pub begins_kept : (kind : ℕ → Bool) (e : LineEnd) (text : List ℕ) → kind 10 ≡ false → kind 13 ≡ false → begins_with kind (with_ends e text) ≡ begins_with kind text
begins_kept kind e text ten thirteen = begins_by kind (with_ends e text) ∙ first_kept kind false e text ten thirteen ∙ sym (begins_by kind text)
