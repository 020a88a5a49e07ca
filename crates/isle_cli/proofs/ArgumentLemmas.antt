-- Words and arguments that are read one after another.
use Rattle.std.proofs.Common.{◌≡◌, ℕ, ◌+◌, ◌<◌, ◌≤◌, List, [], ◌∷◌, ◌++◌, Option, None, Some, map, drop, length, get_or, option_to_list, string_bytes, refl, sym, ap, subst, ◌∙◌, ◌⊎◌, inl, inr, append_assoc, append-nil}
use Rattle.std.proofs.lemmas.List.{drop_all, drop_more}
use Rattle.std.specs.Option.{option_map}
use Rattle.std.specs.declared.alloc.Global.{Global}
use Rattle.std.specs.declared.string.String.{String}
use Rattle.isle_cli.specs.declared.arguments.Options.{Options}
use Rattle.isle_cli.specs.declared.failure.Failure.{Failure}
use Rattle.isle_cli.specs.declared.failure.Failure.TheVariants.{Memory, Usage}
use Rattle.isle_cli.specs.Arguments.{Given, Awaited, at_end, given, taken}

-- what these words give, before what the others give
abbrev pub after : List Given → Option (List Given) → Option (List Given)
after front rest = option_map (λ more. front ++ more) rest

after-after : (front one : List Given) (rest : Option (List Given)) → after front (after one rest) ≡ after (front ++ one) rest
after-after front one None = refl
after-after front one (Some more) = ap Some (sym (append_assoc front one more))

-- a list from this element on
pub from_here : {A : Type 0} (xs : List A) (i : ℕ) (x : A) → i < length xs → x ≡ get_or xs i x → x ∷ drop (i + 1) xs ≡ drop i xs
from_here xs i x within is = ap (λ y. y ∷ drop (i + 1) xs) is ∙ sym (drop_more xs i x within)

given-word : (options : Options) (front : List Given) (a : Awaited) (word : List ℕ) (words : List (List ℕ)) (t : Option Given × Awaited) → taken options a word ≡ Some t
    → after front (given options a (word ∷ words)) ≡ after (front ++ option_to_list t.0) (given options t.1 words)
unfolding given
given-word options front a word words t is = rw is (after-after front (option_to_list t.0) (given options t.1 words))

given-refused : (options : Options) (a : Awaited) (word : List ℕ) (words : List (List ℕ)) → taken options a word ≡ None → given options a (word ∷ words) ≡ None
unfolding given
given-refused options a word words is = rw is refl

-- before the first word
pub first_word : (rest : Option (List Given)) → after [] rest ≡ rest
first_word None = refl
first_word (Some more) = refl

-- without a word
pub given-none : (options : Options) (a : Awaited) → given options a [] ≡ at_end a
unfolding given
given-none options a = refl

-- one word more
pub one_word : (options : Options) (front : List Given) (a : Awaited) (words : List (String Global)) (i : ℕ) (w : String Global) (t : Option Given × Awaited) (total : Option (List Given))
    → i < length words → w ≡ get_or words i w → taken options a (string_bytes w) ≡ Some t
    → after front (given options a (map string_bytes (drop i words))) ≡ total → after (front ++ option_to_list t.0) (given options t.1 (map string_bytes (drop (i + 1) words))) ≡ total
one_word options front a words i w t total within is took so_far =
    sym (given-word options front a (string_bytes w) (map string_bytes (drop (i + 1) words)) t took)
    ∙ ap (λ ws. after front (given options a (map string_bytes ws))) (from_here words i w within is) ∙ so_far

-- a word that is none of the usage
pub refused_word : (options : Options) (front : List Given) (a : Awaited) (words : List (String Global)) (i : ℕ) (w : String Global) (total : Option (List Given))
    → i < length words → w ≡ get_or words i w → taken options a (string_bytes w) ≡ None
    → after front (given options a (map string_bytes (drop i words))) ≡ total → total ≡ None
refused_word options front a words i w total within is took so_far =
    let none = given-refused options a (string_bytes w) (map string_bytes (drop (i + 1) words)) took in
    sym so_far ∙ ap (λ ws. after front (given options a (map string_bytes ws))) (sym (from_here words i w within is)) ∙ ap (after front) none

-- the same, as the reader of the words answers it
pub failed_word : (options : Options) (front : List Given) (a : Awaited) (words : List (String Global)) (i : ℕ) (w : String Global) (word : List ℕ) (total : Option (List Given)) (failure : Failure)
    → i < length words → w ≡ get_or words i w → word ≡ string_bytes w → (failure ≡ Memory) ⊎ (failure ≡ Usage) × (taken options a word ≡ None)
    → after front (given options a (map string_bytes (drop i words))) ≡ total → (failure ≡ Memory) ⊎ (failure ≡ Usage) × (total ≡ None)
failed_word options front a words i w word total failure within is text (inl memory) so_far = inl memory
failed_word options front a words i w word total failure within is text (inr said) so_far =
    inr (said.0, refused_word options front a words i w total within is (subst (λ bytes. taken options a bytes ≡ None) text said.1) so_far)

-- one word more, whose text has another name
pub next_word : (options : Options) (front new : List Given) (a : Awaited) (words : List (String Global)) (i : ℕ) (w : String Global) (word : List ℕ) (t : Option Given × Awaited) (total : Option (List Given))
    → i < length words → w ≡ get_or words i w → word ≡ string_bytes w → taken options a word ≡ Some t → new ≡ front ++ option_to_list t.0
    → after front (given options a (map string_bytes (drop i words))) ≡ total → after new (given options t.1 (map string_bytes (drop (i + 1) words))) ≡ total
next_word options front new a words i w word t total within is text took pushed so_far =
    ap (λ list. after list (given options t.1 (map string_bytes (drop (i + 1) words)))) pushed
    ∙ one_word options front a words i w t total within is (subst (λ bytes. taken options a bytes ≡ Some t) text took) so_far

-- behind the last word
pub last_word : (options : Options) (front : List Given) (a : Awaited) (words : List (String Global)) (i : ℕ) (total : Option (List Given))
    → length words ≤ i → after front (given options a (map string_bytes (drop i words))) ≡ total → after front (at_end a) ≡ total
last_word options front a words i total past so_far =
    ap (after front) (sym (given-none options a)) ∙ ap (λ ws. after front (given options a (map string_bytes ws))) (sym (drop_all i words past)) ∙ so_far

-- nothing more is given
pub nothing_more : (front : List Given) (total : Option (List Given)) → after front (Some []) ≡ total → total ≡ Some front
nothing_more front total is = sym is ∙ ap Some (append-nil front)
