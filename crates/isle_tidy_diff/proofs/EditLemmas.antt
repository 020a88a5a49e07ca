-- The lines of both texts among edits that are put behind one another.
use Rattle.std.proofs.Common.{◌≡◌, ◌≤◌, ◌<◌, ◌+◌, ◌-◌, ℕ, zero, suc, true, List, [], ◌∷◌, ◌++◌, get_or, map, length, take, drop, refl, sym, ap, ap₂, ◌∙◌, append_assoc, append-nil, arith}
use Rattle.std.proofs.lemmas.List.{get_or_default, length-map, map-append, take-append-drop, take_all, take_more, take_rest}
use Rattle.std.proofs.lemmas.Slice.Eq.{bytes_eq-Decides}
use Rattle.std.specs.Borrow.{Bor}
use Rattle.std.specs.Str.{bytes_eq}
use Rattle.isle_tidy_diff.specs.declared.edits.Change.TheVariants.{Kept, Removed, Added}
use Rattle.isle_tidy_diff.specs.declared.edits.Edit.{Edit}
use Rattle.isle_tidy_diff.specs.Edits.{LineEdit, TellsMore, added_line, edit_of, edits_of, new_lines, old_lines, part, texts_of}
use Rattle.isle_tidy_diff.proofs.LineLemmas.{front_part, part_more, part_none}

pub old_lines-append : (es fs : List LineEdit) → old_lines (es ++ fs) ≡ old_lines es ++ old_lines fs
old_lines-append [] fs = refl
old_lines-append ((Kept, line) ∷ es) fs = ap (λ ls. line ∷ ls) (old_lines-append es fs)
old_lines-append ((Removed, line) ∷ es) fs = ap (λ ls. line ∷ ls) (old_lines-append es fs)
old_lines-append ((Added, line) ∷ es) fs = old_lines-append es fs

pub new_lines-append : (es fs : List LineEdit) → new_lines (es ++ fs) ≡ new_lines es ++ new_lines fs
new_lines-append [] fs = refl
new_lines-append ((Kept, line) ∷ es) fs = ap (λ ls. line ∷ ls) (new_lines-append es fs)
new_lines-append ((Removed, line) ∷ es) fs = new_lines-append es fs
new_lines-append ((Added, line) ∷ es) fs = ap (λ ls. line ∷ ls) (new_lines-append es fs)

old_lines-added : (ls : List (List ℕ)) → old_lines (map added_line ls) ≡ []
old_lines-added [] = refl
old_lines-added (l ∷ ls) = old_lines-added ls

new_lines-added : (ls : List (List ℕ)) → new_lines (map added_line ls) ≡ ls
new_lines-added [] = refl
new_lines-added (l ∷ ls) = ap (λ ms. l ∷ ms) (new_lines-added ls)

-- lines are added
pub added-old : (es : List LineEdit) (ls : List (List ℕ)) → old_lines (es ++ map added_line ls) ≡ old_lines es
added-old es ls = old_lines-append es (map added_line ls) ∙ ap (λ ms. old_lines es ++ ms) (old_lines-added ls) ∙ append-nil (old_lines es)

pub added-new : (es : List LineEdit) (ls : List (List ℕ)) → new_lines (es ++ map added_line ls) ≡ new_lines es ++ ls
added-new es ls = new_lines-append es (map added_line ls) ∙ ap (λ ms. new_lines es ++ ms) (new_lines-added ls)

-- a line of the old text alone
pub tells-removed : (es fs : List LineEdit) (line : List ℕ) (ls : List (List ℕ)) (told : ℕ) → fs ≡ es ++ (Removed, line) ∷ [] → TellsMore es fs line ls told told
tells-removed es fs line ls told is = record {
  order = omega arith;
  old = ap old_lines is ∙ old_lines-append es ((Removed, line) ∷ []);
  new = ap new_lines is ∙ new_lines-append es ((Removed, line) ∷ []) ∙ ap (λ ms. new_lines es ++ ms) (sym (part_none ls told));
}

-- a line of both, behind lines of the new text
pub tells-kept : (es fs gs : List LineEdit) (line : List ℕ) (ls : List (List ℕ)) (told next : ℕ) → told ≤ next → next < length ls
    → fs ≡ es ++ map added_line (part ls told next) → gs ≡ fs ++ (Kept, line) ∷ [] → line ≡ get_or ls next [] → TellsMore es gs line ls told (next + 1)
tells-kept es fs gs line ls told next order within added is same = record {
  order = omega arith;
  old = ap old_lines is ∙ old_lines-append fs ((Kept, line) ∷ []) ∙ ap (λ ms. ms ++ line ∷ []) (ap old_lines added ∙ added-old es (part ls told next));
  new = ap new_lines is ∙ new_lines-append fs ((Kept, line) ∷ [])
      ∙ ap (λ ms. ms ++ line ∷ []) (ap new_lines added ∙ added-new es (part ls told next))
      ∙ append_assoc (new_lines es) (part ls told next) (line ∷ [])
      ∙ ap (λ ms. new_lines es ++ ms) (ap (λ l. part ls told next ++ l ∷ []) same ∙ sym (part_more ls told next [] order within));
}

-- one line of the old text more
pub old-on : (es fs : List LineEdit) (line : List ℕ) (olds news : List (List ℕ)) (i from to : ℕ) → TellsMore es fs line news from to → i < length olds → line ≡ get_or olds i line
    → old_lines es ≡ take i olds → old_lines fs ≡ take (i + 1) olds
old-on es fs line olds news i from to tells within is before =
    tells.old ∙ ap (λ ms. ms ++ line ∷ []) before ∙ ap (λ l. take i olds ++ l ∷ []) is ∙ sym (take_more olds i line within)

pub new-on : (es fs : List LineEdit) (line : List ℕ) (news : List (List ℕ)) (from to : ℕ) → TellsMore es fs line news from to
    → new_lines es ≡ take from news → new_lines fs ≡ take to news
new-on es fs line news from to tells before = tells.new ∙ ap (λ ms. ms ++ part news from to) before ∙ front_part news from to tells.order

-- the bytes of slices
pub text-at : (ts : List (Bor (List ℕ))) (i : ℕ) (d : Bor (List ℕ)) → (get_or ts i d).now ≡ get_or (texts_of ts) i d.now
text-at [] zero d = refl
text-at [] (suc i) d = refl
text-at (t ∷ ts) zero d = refl
text-at (t ∷ ts) (suc i) d = text-at ts i d

pub texts-drop : (n : ℕ) (ts : List (Bor (List ℕ))) → texts_of (drop n ts) ≡ drop n (texts_of ts)
texts-drop zero ts = refl
texts-drop (suc n) [] = refl
texts-drop (suc n) (t ∷ ts) = texts-drop n ts

texts-take : (n : ℕ) (ts : List (Bor (List ℕ))) → texts_of (take n ts) ≡ take n (texts_of ts)
texts-take zero ts = refl
texts-take (suc n) [] = refl
texts-take (suc n) (t ∷ ts) = ap (λ us. t.now ∷ us) (texts-take n ts)

pub texts-part : (m n : ℕ) (ts : List (Bor (List ℕ))) → texts_of (take n (drop m ts)) ≡ take n (drop m (texts_of ts))
texts-part m n ts = texts-take n (drop m ts) ∙ ap (take n) (texts-drop m ts)

-- a line that both have is the one that is compared
pub same-line : (line : List ℕ) (ts : List (Bor (List ℕ))) (i : ℕ) (d : Bor (List ℕ)) → d.now ≡ [] → bytes_eq line (get_or ts i d).now ≡ true → line ≡ get_or (texts_of ts) i []
same-line line ts i d none same = (bytes_eq-Decides line (get_or ts i d).now).0 same ∙ text-at ts i d ∙ ap (get_or (texts_of ts) i) none

pub as-texts : (ts : List (Bor (List ℕ))) → length (texts_of ts) ≡ length ts
as-texts ts = length-map ts (λ t. t.now)

-- an edit is put behind others
pub pushed : (es fs : List Edit) (e : Edit) → fs ≡ es ++ e ∷ [] → edits_of fs ≡ edits_of es ++ edit_of e ∷ []
pushed es fs e is = ap edits_of is ∙ map-append edit_of es (e ∷ [])

-- the line that is looked at
pub line-at : (ts : List (Bor (List ℕ))) (i : ℕ) (d : Bor (List ℕ)) → i < length ts → (get_or ts i d).now ≡ get_or (texts_of ts) i (get_or ts i d).now
line-at ts i d l =
    let within : i < length (texts_of ts) = omega (arith, as-texts ts, l) in
    text-at ts i d ∙ get_or_default (texts_of ts) i d.now (get_or ts i d).now within

-- all lines of the old text, and the rest of the new one
pub all-old : (es fs : List LineEdit) (ts : List (Bor (List ℕ))) (ls : List (List ℕ)) (i : ℕ) → length ts ≤ i → fs ≡ es ++ map added_line ls → old_lines es ≡ take i (texts_of ts) → old_lines fs ≡ texts_of ts
all-old es fs ts ls i past is before =
    let n : length (texts_of ts) ≤ i = omega (arith, as-texts ts, past) in
    ap old_lines is ∙ added-old es ls ∙ before ∙ take_all i (texts_of ts) n

pub all-new : (es fs : List LineEdit) (ts : List (Bor (List ℕ))) (told : ℕ) → fs ≡ es ++ map added_line (texts_of (take (length ts - told) (drop told ts))) → new_lines es ≡ take told (texts_of ts) → new_lines fs ≡ texts_of ts
all-new es fs ts told is before =
    ap new_lines is ∙ added-new es (texts_of (take (length ts - told) (drop told ts)))
    ∙ ap₂ (λ ls ms. ls ++ ms) before (ap texts_of (take_rest ts told) ∙ texts-drop told ts)
    ∙ take-append-drop told (texts_of ts)

pub old-within : (ts : List (Bor (List ℕ))) (i : ℕ) → i < length ts → i < length (texts_of ts)
old-within ts i l = omega (arith, as-texts ts, l)
