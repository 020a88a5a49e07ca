-- The layouts of S-expressions have short lines, where no list begins with an empty list, none is
-- bound, and atoms hold no parenthesis and no LF.
use Rattle.std.proofs.Common.{◌≡◌, ◌==◌, ℕ, zero, suc, ◌+◌, ◌*◌, ◌≤◌, List, [], ◌∷◌, ◌++◌, length, replicate, codes, Bool, true, false, ◌&&◌, ◌||◌, not, cond, Some, None, refl, sym, ap, ◌∙◌, subst, arith}
use Rattle.std.proofs.lemmas.List.{append_assoc, length-append, length-replicate}
use Rattle.std.proofs.lemmas.List.Folds.{list_all-append}
use Rattle.std.proofs.lemmas.Bool.{false≢true, and_parts, and_from}
use Rattle.std.specs.List.{list_all}
use Rattle.isle_ast_names.specs.Writable.{Each}
use Rattle.isle_printer_layout.specs.Choices.{Choice, Choices, render, render_behind, FitsAt, FitsBehind}
use Rattle.isle_printer_layout.specs.Flat.{flat, flat_behind, counted, counted_items}
use Rattle.isle_printer_layout.specs.Layout.{new_line, layout}
use Rattle.isle_printer_layout.specs.Sexp.{Sexp, Sexps, atom, binding, list, none, more}
use Rattle.isle_printer_layout.specs.ShortLines.{before_first, text_lines, leading_spaces, empty_lists, IsShortLine, HasShortLines}
use Rattle.isle_printer_layout.proofs.Greedy.{greedy, greedy-IsLeast, layout_is_render}

-- bytes of a kind

-- neither LF nor a parenthesis
abbrev pub is_plain : ℕ → Bool
is_plain b = not (b == 10 || b == 40 || b == 41)

-- neither LF nor `)`
abbrev is_opening : ℕ → Bool
is_opening b = not (b == 10 || b == 41)

-- any but LF
abbrev stays : ℕ → Bool
stays b = not (b == 10)

-- any but `(`
abbrev is_closing : ℕ → Bool
is_closing b = not (b == 40)

pub all_weaker : (p q : ℕ → Bool) → ((b : ℕ) → p b ≡ true → q b ≡ true) → (text : List ℕ) → list_all p text ≡ true → list_all q text ≡ true
all_weaker p q weaker [] h = refl
all_weaker p q weaker (b ∷ bs) h =
    let hs = and_parts _ _ h in
    and_from _ _ (weaker b hs.0) (all_weaker p q weaker bs hs.1)

pub all_append : (p : ℕ → Bool) (xs ys : List ℕ) → list_all p xs ≡ true → list_all p ys ≡ true → list_all p (xs ++ ys) ≡ true
all_append p xs ys h k = list_all-append p xs ys ∙ and_from _ _ h k

all_replicate : (p : ℕ → Bool) (n b : ℕ) → p b ≡ true → list_all p (replicate n b) ≡ true
all_replicate p zero b h = refl
all_replicate p (suc n) b h = and_from _ _ h (all_replicate p n b h)

all_at : (p : ℕ → Bool) (before : List ℕ) (b : ℕ) (behind : List ℕ) → list_all p (before ++ b ∷ behind) ≡ true → p b ≡ true
all_at p [] b behind h = (and_parts _ _ h).0
all_at p (x ∷ xs) b behind h = all_at p xs b behind (and_parts _ _ h).1

-- the tests, over plain truth values
plain_opens : (lf left right : Bool) → not (lf || left || right) ≡ true → not (lf || right) ≡ true
plain_opens true left right h = h
plain_opens false true right h = absurd (false≢true h)
plain_opens false false right h = h

opening_stays : (lf right : Bool) → not (lf || right) ≡ true → not lf ≡ true
opening_stays true right h = h
opening_stays false right h = refl

is_false : (b : Bool) → not b ≡ true → b ≡ false
is_false true h = absurd (false≢true h)
is_false false h = refl

plain-opening : (text : List ℕ) → list_all is_plain text ≡ true → list_all is_opening text ≡ true
plain-opening = all_weaker is_plain is_opening (λ b h. plain_opens (b == 10) (b == 40) (b == 41) h)

opening-stays : (text : List ℕ) → list_all is_opening text ≡ true → list_all stays text ≡ true
opening-stays = all_weaker is_opening stays (λ b h. opening_stays (b == 10) (b == 41) h)

-- lines

first_line : (line rest : List ℕ) → list_all stays line ≡ true → text_lines (line ++ 10 ∷ rest) ≡ line ∷ text_lines rest
first_line [] rest h = refl
first_line (b ∷ bs) rest h =
    let hs = and_parts _ _ h in
    ap (λ t. cond t ([] ∷ text_lines (bs ++ 10 ∷ rest)) (before_first b (text_lines (bs ++ 10 ∷ rest)))) (is_false _ hs.0)
    ∙ ap (before_first b) (first_line bs rest hs.1)

-- a line and what follows it
short-line : (width : ℕ) (line rest : List ℕ) → list_all stays line ≡ true → IsShortLine width line → HasShortLines width rest → HasShortLines width (line ++ 10 ∷ rest)
short-line width line rest h short behind =
    subst (Each (IsShortLine width)) (sym (first_line line rest h)) (short, behind)

-- a line without `)`, and one without `(`
opening-short : (width : ℕ) (line : List ℕ) → list_all is_opening line ≡ true → IsShortLine width line
opening-short width line h before within behind e =
    absurd (false≢true (all_at is_opening (before ++ 40 ∷ within) 41 behind (ap (list_all is_opening) (sym e) ∙ h)))

closing-short : (width : ℕ) (line : List ℕ) → list_all is_closing line ≡ true → IsShortLine width line
closing-short width line h before within behind e =
    absurd (false≢true (all_at is_closing before 40 (within ++ 41 ∷ behind) (ap (list_all is_closing) (sym (e ∙ append_assoc before (40 ∷ within) (41 ∷ behind))) ∙ h)))

-- empty lists and indentation

abbrev one_if : Bool → ℕ
one_if b = cond b 1 0

none_at_end : (b : Bool) → one_if (b && false) ≡ 0
none_at_end true = refl
none_at_end false = refl

empty_lists-append : (xs ys : List ℕ) → empty_lists xs + empty_lists ys ≤ empty_lists (xs ++ ys)
empty_lists-append [] ys = omega arith
empty_lists-append (x ∷ []) ys = omega (arith, none_at_end (x == 40))
empty_lists-append (x ∷ y ∷ xs) ys = omega (arith, empty_lists-append (y ∷ xs) ys)

leading_spaces-replicate : (n : ℕ) (text : List ℕ) → n ≤ leading_spaces (replicate n 32 ++ text)
leading_spaces-replicate zero text = omega arith
leading_spaces-replicate (suc n) text = omega (arith, leading_spaces-replicate n text)

mutual
  -- on one line, an S-expression has the bytes that it counts, and at most one more for each empty
  -- list
  flat-length : (s : Sexp) → length (flat s) ≤ counted s + empty_lists (flat s)
  flat-length (atom text) = omega arith
  flat-length (binding name s) =
      omega (
        arith,
        flat-length s,
        length-append (name ++ codes " @ ") (flat s),
        length-append name (codes " @ "),
        empty_lists-append (name ++ codes " @ ") (flat s),
      )
  flat-length (list none) = omega arith
  flat-length (list (more s ss)) =
      omega (
        arith,
        flat-length s,
        flat_behind-length ss,
        length-append (codes "(" ++ flat s) (flat_behind ss),
        empty_lists-append (codes "(" ++ flat s) (flat_behind ss),
        empty_lists-append (codes "(") (flat s),
      )

  flat_behind-length : (ss : Sexps) → length (flat_behind ss) ≤ 1 + counted_items ss + empty_lists (flat_behind ss)
  flat_behind-length none = omega arith
  flat_behind-length (more s ss) =
      omega (
        arith,
        flat-length s,
        flat_behind-length ss,
        length-append (codes " " ++ flat s) (flat_behind ss),
        empty_lists-append (codes " " ++ flat s) (flat_behind ss),
        empty_lists-append (codes " ") (flat s),
      )

-- S-expressions with short lines

abbrev pub IsNoEmptyList : Sexp → Type 0
IsNoEmptyList (list none) = ⊥
IsNoEmptyList _ = Unit {0}

-- No list begins with an empty list, none is bound, and atoms hold no parenthesis and no LF.
abbrev mutual
  pub IsTidy : Sexp → Type 0
  IsTidy (atom text) = list_all is_plain text ≡ true
  IsTidy (binding name s) = (list_all is_plain name ≡ true) × IsNoEmptyList s × IsTidy s
  IsTidy (list none) = Unit {0}
  IsTidy (list (more s ss)) = IsNoEmptyList s × IsTidy s × AreTidy ss

  pub AreTidy : Sexps → Type 0
  AreTidy none = Unit {0}
  AreTidy (more s ss) = IsTidy s × AreTidy ss

mutual
  flat-stays : (s : Sexp) → IsTidy s → list_all stays (flat s) ≡ true
  flat-stays (atom text) tidy = opening-stays text (plain-opening text tidy)
  flat-stays (binding name s) tidy =
      all_append stays (name ++ codes " @ ") (flat s)
      (all_append stays name (codes " @ ") (opening-stays name (plain-opening name tidy.0)) refl)
      (flat-stays s tidy.2)
  flat-stays (list none) tidy = refl
  flat-stays (list (more s ss)) tidy = all_append stays (codes "(" ++ flat s) (flat_behind ss) (flat-stays s tidy.1) (flat_behind-stays ss tidy.2)

  flat_behind-stays : (ss : Sexps) → AreTidy ss → list_all stays (flat_behind ss) ≡ true
  flat_behind-stays none tidy = refl
  flat_behind-stays (more s ss) tidy = all_append stays (codes " " ++ flat s) (flat_behind ss) (flat-stays s tidy.0) (flat_behind-stays ss tidy.1)

-- the line that is begun: how far it is written after its indentation
record IsBegun (column : ℕ) (begun : List ℕ) : Type 0 where
  bytes : list_all is_opening begun ≡ true
  within : (behind : List ℕ) → length begun ≤ column + leading_spaces (begun ++ behind)

IsBegun-spaces : (n : ℕ) → IsBegun 0 (replicate n 32)
IsBegun-spaces n = record {
  bytes = all_replicate is_opening n 32 refl;
  within = λ behind. omega (arith, leading_spaces-replicate n behind, length-replicate {A = ℕ} n 32);
}

IsBegun-more : (column next : ℕ) (begun text : List ℕ) → next ≡ column + length text → list_all is_opening text ≡ true → IsBegun column begun → IsBegun next (begun ++ text)
IsBegun-more column next begun text e h is = record {
  bytes = all_append is_opening begun text is.bytes h;
  within = λ behind. omega (arith, e, is.within (text ++ behind), length-append begun text, ap leading_spaces (append_assoc begun text behind));
}

-- an empty list stands at the beginning of a line, any other S-expression anywhere
abbrev MayStand : ℕ → Sexp → Type 0
MayStand column (list none) = column ≡ 0
MayStand column _ = Unit {0}

MayStand-first : (s : Sexp) → MayStand 0 s
MayStand-first (atom _) = tt
MayStand-first (binding _ _) = tt
MayStand-first (list none) = refl
MayStand-first (list (more _ _)) = tt

MayStand-no_empty : (column : ℕ) (s : Sexp) → IsNoEmptyList s → MayStand column s
MayStand-no_empty column (atom _) is = tt
MayStand-no_empty column (binding _ _) is = tt
MayStand-no_empty column (list none) is = absurd is
MayStand-no_empty column (list (more _ _)) is = tt

-- a line that ends with a list on one line, within the width
whole-short : (width column : ℕ) (begun : List ℕ) (s : Sexp) → IsBegun column begun → column + counted s ≤ width → IsShortLine width (begun ++ flat s)
whole-short width column begun s is fits before within behind e =
    omega (arith, fits, is.within (flat s), flat-length s, length-append begun (flat s), empty_lists-append begun (flat s))

-- a line that is an empty list
empty-short : (width : ℕ) (begun : List ℕ) → 1 ≤ width → IsBegun 0 begun → IsShortLine width (begun ++ codes "()")
empty-short width begun some is before within behind e =
    omega (arith, some, is.within (codes "()"), length-append begun (codes "()"), empty_lists-append begun (codes "()"))

line-stays : (column : ℕ) (begun text : List ℕ) → IsBegun column begun → list_all stays text ≡ true → list_all stays (begun ++ text) ≡ true
line-stays column begun text is h = all_append stays begun text (opening-stays begun is.bytes) h

-- the texts below, grouped to the left

binding-grouped : (begun name inner rest : List ℕ) → begun ++ (name ++ inner) ++ rest ≡ begun ++ name ++ inner ++ rest
binding-grouped begun name inner rest = ap (λ t. t ++ rest) (sym (append_assoc begun name inner))

list-grouped : (begun first behind rest after : List ℕ) → behind ++ rest ≡ after → begun ++ (codes "(" ++ first ++ behind) ++ rest ≡ begun ++ codes "(" ++ first ++ after
list-grouped begun first behind rest after e =
    ap (λ t. t ++ rest) (sym (append_assoc begun (codes "(" ++ first) behind))
    ∙ ap (λ t. t ++ behind ++ rest) (sym (append_assoc begun (codes "(") first))
    ∙ append_assoc (begun ++ codes "(" ++ first) behind rest
    ∙ ap (λ t. begun ++ codes "(" ++ first ++ t) e

-- what follows an item of a broken list: a LF, and then short lines
record HasLinesBehind (width : ℕ) (text : List ℕ) : Type 0 where
  after : List ℕ
  begins : text ≡ 10 ∷ after
  short : HasShortLines width after

mutual
  -- A choice that fits, on a line that is begun and before another line, has short lines.
  render-short : (width : ℕ) → 1 ≤ width → (s : Sexp) (c : Choice s) (level column : ℕ) (begun rest : List ℕ)
      → FitsAt width s column c → IsTidy s → MayStand column s → IsBegun column begun → HasShortLines width rest
      → HasShortLines width (begun ++ render s c level ++ 10 ∷ rest)
  render-short width some (atom text) c level column begun rest fits tidy may is behind =
      let opening = all_append is_opening begun text is.bytes (plain-opening text tidy) in
      short-line width (begun ++ text) rest (opening-stays (begun ++ text) opening) (opening-short width (begun ++ text) opening) behind
  render-short width some (binding name s) c level column begun rest fits tidy may is behind =
      let front = name ++ codes " @ " in
      let next = column + length name + 3 in
      let is_front : list_all is_opening front ≡ true = all_append is_opening name (codes " @ ") (plain-opening name tidy.0) refl in
      let is_next : IsBegun next (begun ++ front) = IsBegun-more column next begun front (omega (arith, length-append name (codes " @ "))) is_front is in
      subst (HasShortLines width) (sym (binding-grouped begun front (render s c level) (10 ∷ rest)))
      (render-short width some s c level next (begun ++ front) rest fits tidy.2 (MayStand-no_empty next s tidy.1) is_next behind)
  render-short width some (list none) c level column begun rest fits tidy may is behind =
      let is_first : IsBegun 0 begun = subst (λ n. IsBegun n begun) may is in
      short-line width (begun ++ codes "()") rest (line-stays column begun (codes "()") is refl) (empty-short width begun some is_first) behind
  render-short width some (list (more s ss)) None level column begun rest fits tidy may is behind =
      let whole = list (more s ss) in
      short-line width (begun ++ flat whole) rest (line-stays column begun (flat whole) is (flat-stays whole tidy)) (whole-short width column begun whole is fits) behind
  render-short width some (list (more s ss)) (Some c) level column begun rest fits tidy may is behind =
      let lines = render_behind-short width some ss c.1 level rest fits.1 tidy.2 behind in
      let is_next : IsBegun (column + 1) (begun ++ codes "(") = IsBegun-more column (column + 1) begun (codes "(") (omega arith) refl is in
      subst (HasShortLines width) (sym (list-grouped begun (render s c.0 level) (render_behind ss c.1 level) (10 ∷ rest) (10 ∷ lines.after) lines.begins))
      (render-short width some s c.0 level (column + 1) (begun ++ codes "(") lines.after fits.0 tidy.1 (MayStand-no_empty (column + 1) s tidy.0) is_next lines.short)

  render_behind-short : (width : ℕ) → 1 ≤ width → (ss : Sexps) (c : Choices ss) (level : ℕ) (rest : List ℕ)
      → FitsBehind width ss c → AreTidy ss → HasShortLines width rest → HasLinesBehind width (render_behind ss c level ++ 10 ∷ rest)
  render_behind-short width some none c level rest fits tidy behind =
      let spaces = replicate (4 * level) 32 in
      let plain : list_all is_closing (spaces ++ codes ")") ≡ true = all_append is_closing spaces (codes ")") (all_replicate is_closing (4 * level) 32 refl) refl in
      record {
        after = spaces ++ codes ")" ++ 10 ∷ rest;
        begins = refl;
        short = short-line width (spaces ++ codes ")") rest
            (line-stays 0 spaces (codes ")") (IsBegun-spaces (4 * level)) refl)
            (closing-short width (spaces ++ codes ")") plain)
            behind;
      }
  render_behind-short width some (more s ss) c level rest fits tidy behind =
      let lines = render_behind-short width some ss c.1 level rest fits.1 tidy.1 behind in
      let spaces = replicate (4 * (level + 1)) 32 in
      let item = render s c.0 (level + 1) in
      record {
        after = spaces ++ item ++ 10 ∷ lines.after;
        begins = append_assoc (new_line (level + 1) ++ item) (render_behind ss c.1 level) (10 ∷ rest)
            ∙ ap (λ t. new_line (level + 1) ++ item ++ t) lines.begins;
        short = render-short width some s c.0 (level + 1) 0 spaces lines.after fits.0 tidy.0 (MayStand-first s) (IsBegun-spaces (4 * (level + 1))) lines.short;
      }

-- The layout of a tidy S-expression, before another line, has short lines.
pub layout-short : (width : ℕ) → 1 ≤ width → (s : Sexp) (rest : List ℕ) → IsTidy s → HasShortLines width rest → HasShortLines width (layout width s ++ 10 ∷ rest)
layout-short width some s rest tidy behind =
    subst (λ t. HasShortLines width (t ++ 10 ∷ rest)) (sym (layout_is_render width s))
    (render-short width some s (greedy width s 0) 0 0 [] rest (greedy-IsLeast width s).fits tidy (MayStand-first s) (IsBegun-spaces 0) behind)

-- an empty line more
pub HasShortLines-empty : (width : ℕ) (text : List ℕ) → HasShortLines width text → HasShortLines width (10 ∷ text)
HasShortLines-empty width text short = (opening-short width [] refl, short)
