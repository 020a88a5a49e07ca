-- Mistakes as they are found, shown and told.
use Rattle.std.proofs.Common.{◌≡◌, ℕ, ◌+◌, ◌-◌, ◌<◌, Bool, true, List, [], ◌∷◌, ◌++◌, None, Some, Result, IfOk, codes, drop, get_or, length, string_bytes, take, refl, sym, ap, ◌∙◌, inr, arith, append_assoc}
use Rattle.std.proofs.lemmas.List.{drop_more, length-drop, take_all}
use Rattle.std.proofs.lemmas.Result.{IfOk-weaker}
use Rattle.std.specs.declared.alloc.Global.{Global}
use Rattle.std.specs.declared.string.String.{String}
use Rattle.std.specs.Option.{option_or}
use Rattle.toml.specs.Data.{Members}
use Rattle.toml.specs.Parse.{parse_document}
use Rattle.toml.specs.View.{items_view}
use Rattle.toml.specs.declared.value.Value.{Value}
use Rattle.isle_program_manifest.specs.Manifest.{IsFaultOf, IsRefused, first_mistake, name_twice, programs_of}
use Rattle.isle_program_manifest.specs.Mistakes.{Mistake, in_list, in_paths, message_by, mistake, mistake_in, wanted}
use Rattle.isle_program_manifest.specs.Places.{first_place, is_at, place_from}
use Rattle.isle_program_manifest.specs.declared.manifest.ManifestFault.{ManifestFault}
use Rattle.isle_program_manifest.specs.declared.manifest.ManifestFault.TheVariants as faults
use Rattle.isle_program_manifest.specs.declared.mistakes.Kind.TheVariants as kinds

-- the search ends at the first place of the word
pub found_place : (text word : List ℕ) (inside starts first : Bool) (offset from : ℕ) → offset < length text → starts ≡ true → is_at word (take (length text - offset) (drop offset text)) ≡ true
    → first_place inside word starts offset (drop offset text) ≡ first_place inside word first from (drop from text) → offset ≡ place_from text inside first from word
found_place text word inside starts first offset from within begins here so_far =
    let front = drop_more text offset 0 within in
    let whole : take (length text - offset) (drop offset text) ≡ drop offset text = take_all (length text - offset) (drop offset text) (omega (arith, length-drop offset text)) in
    let is : is_at word (get_or text offset 0 ∷ drop (offset + 1) text) ≡ true = ap (is_at word) (sym front) ∙ (ap (is_at word) (sym whole) ∙ here) in
    let there : first_place inside word starts offset (drop offset text) ≡ Some offset = rw (front, begins, is) refl in
    rw (← so_far, there) refl

-- an empty list is a mistake
pub in_no_paths : (number : ℕ) (paths : List Value) → length paths ≡ 0 → Some (mistake kinds.Empty (codes "files") (Some number)) ≡ in_list number (Some (items_view paths))
in_no_paths number [] none = refl
in_no_paths number (_ ∷ _) none = absurd (omega arith)

-- a list that isn't empty has the mistakes of its paths
pub in_some_paths : (number : ℕ) (paths : List Value) → 0 < length paths → in_paths (Some number) (items_view paths) ≡ in_list number (Some (items_view paths))
in_some_paths number [] some = absurd (omega arith)
in_some_paths number (_ ∷ _) some = refl

-- what a value has to be
pub wanted_said : {E : Type 0} (word what : List ℕ) (result : Result (String Global) E) → what ≡ wanted word
    → IfOk result (λ s. string_bytes s ≡ codes "'" ++ (word ++ (codes "' must be " ++ what))) → IfOk result (λ s. string_bytes s ≡ message_by kinds.WrongType word)
wanted_said word what result is said =
    IfOk-weaker result _ _ (λ s same. same ∙ ap (λ w. codes "'" ++ (word ++ (codes "' must be " ++ w))) is ∙ sym (append_assoc (codes "'" ++ word) (codes "' must be ") (wanted word) ∙ append_assoc (codes "'") word (codes "' must be " ++ wanted word))) said

-- the first mistake is one of the value, or else of the names
pub first_in_value : (value : Members) (m : Mistake) → mistake_in value ≡ Some m → first_mistake value ≡ Some m
first_in_value value m is = ap (λ o. option_or o (name_twice [] (programs_of value))) is

pub first_in_names : (value : Members) (m : Mistake) → mistake_in value ≡ None → name_twice [] (programs_of value) ≡ Some m → first_mistake value ≡ Some m
first_in_names value m right is = ap (λ o. option_or o (name_twice [] (programs_of value))) right ∙ is

-- a text with a mistake is refused for it
pub refused_for : (text : List ℕ) (value : Members) (first : Mistake) (fault : ManifestFault) → parse_document text ≡ Some value → first_mistake value ≡ Some first → IsFaultOf text first fault → IsRefused text fault
refused_for text value first faults.Memory parsed is_first told = tt
refused_for text value first (faults.Rejected offset said) parsed is_first told =
    inr (record { value = value; parsed = parsed; first = first; is_first = is_first; is_there = told.0; is_said = told.1 })
