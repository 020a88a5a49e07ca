-- Programs among texts, some of which they share, and what is told of several.
use Rattle.std.specs.Prelude.{◌≡◌, ℕ, ◌+◌, ◌==◌, List, [], ◌∷◌, ◌++◌, Bool, false, not, ◌&&◌, if◌then◌else◌, codes, length, map, slice_get, string_bytes}
use Rattle.std.specs.List.{list_any}
use Rattle.std.specs.Option.{unwrap_or}
use Rattle.isle_base_source.specs.Source.{Source}
use Rattle.isle_program_findings.specs.declared.programs.Part as part_code
use Rattle.isle_program_findings.specs.declared.programs.Share as share_code

-- a program among texts: its name, and which of them are its own
pub record Part : Type 0 where
  pub name : List ℕ
  pub has : List Bool

abbrev pub part_of : part_code.Part → Part
part_of p = record { name = string_bytes p.name; has = p.has.items }

-- the text of this number is the program's
abbrev pub is_own : (has : List Bool) → ℕ → Bool
is_own has number = unwrap_or (slice_get has number) false

-- a text, or what there is without it
abbrev pub text_if : (is_own : Bool) → Source → Source
text_if is_own source = record { name = source.name; text = if is_own then source.text else [] }

-- the texts from this number on, without what isn't the program's
abbrev pub own : (has : List Bool) → (number : ℕ) → List Source → List Source
own has number [] = []
own has number (source ∷ sources) = text_if (is_own has number) source ∷ own has (number + 1) sources

-- a program with what is told of it
pub record Examined (A : Type 0) : Type 0 where
  pub part : Part
  pub told : List A

-- each program is examined by itself, and this is told of its own texts
abbrev pub AreExamined : {A : Type 0} → (IsTold : List Source → List A → Type 0) → List Source → List Part → List (Examined A) → Type 0
AreExamined IsTold sources [] [] = Unit {0}
AreExamined IsTold sources [] (_ ∷ _) = ⊥
AreExamined IsTold sources (_ ∷ _) [] = ⊥
AreExamined IsTold sources (part ∷ parts) (e ∷ examined) =
    (e.part ≡ part) × IsTold (own part.has 0 sources) e.told × AreExamined IsTold sources parts examined

-- one program more is examined
pub record AddsExamined {A : Type 0} (IsTold : List Source → List A → Type 0) (sources : List Source) (part : Part) (old new : List (Examined A)) : Type 0 where
  pub told : List A
  pub is_told : IsTold (own part.has 0 sources) told
  pub grown : new ≡ old ++ record { part = part; told = told } ∷ []

-- one is added, unless the same is there
abbrev pub added : {A : Type 0} → (is_same : A → A → Bool) → List A → A → List A
added is_same all a = if list_any (is_same a) all then all else all ++ a ∷ []

abbrev pub all_added : {A : Type 0} → (is_same : A → A → Bool) → List A → List A → List A
all_added is_same all [] = all
all_added is_same all (a ∷ more) = all_added is_same (added is_same all a) more

-- what is told of the programs is added, each once
abbrev pub each_once : {A : Type 0} → (is_same : A → A → Bool) → List A → List (Examined A) → List A
each_once is_same all [] = all
each_once is_same all (e ∷ examined) = each_once is_same (all_added is_same all e.told) examined

-- a program, whether it has the file of a finding, and whether the finding is told of it
pub record Share : Type 0 where
  pub name : List ℕ
  pub has_file : Bool
  pub has_finding : Bool

abbrev pub share_of : share_code.Share → Share
share_of s = record { name = s.name.now; has_file = s.has_file; has_finding = s.has_finding }

-- that of a program that is examined in one of these, which is in the file of this number
abbrev pub share_in : {A : Type 0} → (is_same : A → A → Bool) → (file : ℕ) → A → Examined A → Share
share_in is_same file a e = record { name = e.part.name; has_file = is_own e.part.has file; has_finding = list_any (is_same a) e.told }

-- a program has the file of a finding, but not the finding
abbrev pub lacks : Share → Bool
lacks s = s.has_file && not s.has_finding

-- one name more
abbrev pub with_name : (names : List ℕ) → (name : List ℕ) → List ℕ
with_name names name = if length names == 0 then name else names ++ codes ", " ++ name

-- the names of the programs that have a finding, after these
abbrev pub names_after : (names : List ℕ) → List Share → List ℕ
names_after names [] = names
names_after names (s ∷ shares) = names_after (if s.has_finding then with_name names s.name else names) shares

-- nothing for a finding of each program that has its file; for another, the names of the programs that have the finding
abbrev pub tag : List Share → List ℕ
tag shares = if list_any lacks shares then codes " [" ++ (names_after [] shares ++ codes "]") else []
