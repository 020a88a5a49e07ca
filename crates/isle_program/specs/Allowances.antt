-- The comments that turn a lint off for a definition.
use Rattle.std.specs.Prelude.{◌≡◌, ◌<◌, ◌≤◌, ℕ, List, [], ◌∷◌, ◌++◌, Bool, true, false, ◌&&◌, ◌==◌, if◌then◌else◌, Option, None, Some, codes, drop, filter, length, map, nat_le, slice_index_or, slice_range}
use Rattle.std.specs.List.{list_any}
use Rattle.std.specs.Str.{bytes_eq}
use Rattle.isle_base.specs.Bytes.{left_parenthesis, semicolon}
use Rattle.isle_base.specs.Skips.{Inside, Longest, begins_with as begins, in_line, is_blank}
use Rattle.isle_lint_core.specs.Finding.{Found}
use Rattle.isle_lint_core.specs.Lint.{all_lints, name}
use Rattle.isle_lint_core.specs.declared.lint.Lint.{Lint}
use Rattle.isle_program.specs.Openings.{AreOpenings}
use Rattle.isle_program.specs.declared.allowances.Allowed.{Allowed}
use Rattle.isle_program.specs.declared.openings.Opening.{Opening}

abbrev pub begins_with : ℕ → List ℕ → Bool
begins_with byte [] = false
begins_with byte (b ∷ _) = b == byte

-- what follows the semicolons that a line begins with
abbrev pub after_semicolons : List ℕ → List ℕ
after_semicolons [] = []
after_semicolons (b ∷ bs) = if b == 59 then after_semicolons bs else b ∷ bs

-- a line is a comment that turns a lint off
abbrev pub allows : List ℕ → Lint → Bool
allows line lint = begins_with 59 line && bytes_eq (after_semicolons line) (codes " isle-lint: allow " ++ name lint)

abbrev pub one_allows : List (List ℕ) → Lint → Bool
one_allows comments lint = list_any (λ comment. allows comment lint) comments

-- neither a blank nor a comment begins here
pub record IsBare (text : List ℕ) : Type 0 where
  pub no_blank : begins is_blank text ≡ false
  pub no_line : begins_with semicolon text ≡ false
  pub no_block : (inner rest : List ℕ) → text ≡ left_parenthesis ∷ semicolon ∷ inner → Inside inner rest → ⊥

-- The line comments that a text begins with, before its first token, each with its `;`.
pub data Comments : List ℕ → List (List ℕ) → Type 0 where
  blank : {text after : List ℕ} {comments : List (List ℕ)} (b : ℕ) → text ≡ b ∷ after → is_blank b ≡ true → Comments after comments → Comments text comments
  line_comment : {text inner after : List ℕ} {comments : List (List ℕ)} (line : List ℕ) → text ≡ semicolon ∷ inner → Longest in_line inner line after
      → Comments after comments → Comments text ((semicolon ∷ line) ∷ comments)
  block_comment : {text inner after : List ℕ} {comments : List (List ℕ)} → text ≡ left_parenthesis ∷ semicolon ∷ inner → Inside inner after
      → Comments after comments → Comments text comments
  token : {text : List ℕ} → IsBare text → Comments text []

-- comments behind an offset, before the next token, turn these lints off
abbrev pub AreOff : List ℕ → (from : ℕ) → List Lint → Type 0
AreOff text from lints = (comments : List (List ℕ)) × Comments (drop from text) comments × (lints ≡ filter (one_allows comments) all_lints)

-- a definition, by the offset of its `(`, with the lints that are off for it
pub record Allowance : Type 0 where
  pub start : ℕ
  pub lints : List Lint

-- that of the code
abbrev pub allowance_of : Allowed → Allowance
allowance_of a = record { start = a.start; lints = a.lints.items }

-- the definitions with these beginnings
abbrev pub AllowEach : List ℕ → List Opening → List Allowance → Type 0
AllowEach text [] [] = Unit {0}
AllowEach text [] (a ∷ more) = ⊥
AllowEach text (o ∷ os) [] = ⊥
AllowEach text (o ∷ os) (a ∷ more) = (a.start ≡ o.start) × AreOff text o.before a.lints × AllowEach text os more

-- These are the definitions of a text. The comments of each are those behind the definition before it.
abbrev pub AreAllowances : List ℕ → List Allowance → Type 0
AreAllowances text allowances = (all : List Opening) × AreOpenings text all × AllowEach text all allowances

-- the lints that are off at an offset: those of the last definition that begins at or before it; these, if there is none
abbrev pub off_at : List Lint → (offset : ℕ) → List Allowance → List Lint
off_at off offset [] = off
off_at off offset (a ∷ more) = if nat_le a.start offset then off_at a.lints offset more else off

abbrev pub is_off : List Lint → Lint → Bool
is_off lints lint = list_any (λ other. bytes_eq (name other) (name lint)) lints

-- a comment turns a finding off
abbrev pub is_allowed : List Allowance → Found → Bool
is_allowed allowances f = is_off (off_at [] f.pos.offset allowances) f.lint

-- ---- a walk over blanks and comments

-- the line comment from one offset to another, if it is one
abbrev pub line_at : List ℕ → (at end : ℕ) → List (List ℕ)
line_at text at end = if slice_index_or text at 0 == semicolon then slice_range text at end ∷ [] else []

-- the end of the blank or the comment at an offset, if one is there
abbrev pub Passes : List ℕ → (at : ℕ) → Option ℕ → Type 0
Passes text at None = IsBare (drop at text)
Passes text at (Some end) =
    (at < end) × (end ≤ length text) × ((comments : List (List ℕ)) → Comments (drop end text) comments → Comments (drop at text) (line_at text at end ++ comments))
