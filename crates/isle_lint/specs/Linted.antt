-- Findings that are told of programs, and the programs that have a finding.
use Rattle.std.specs.Prelude.{ℕ, ◌==◌, List, Bool, ◌&&◌, map, string_bytes}
use Rattle.std.specs.List.{list_any}
use Rattle.std.specs.Str.{bytes_eq}
use Rattle.isle_lint_core.specs.Finding.{Found}
use Rattle.isle_lint_core.specs.Lint.{name}
use Rattle.isle_program_findings.specs.Programs.{Examined, Share, part_of, share_in, tag}
use Rattle.isle_lint.specs.declared.linted.Told.{Told}
use Rattle.isle_lint.specs.declared.linted.Linted as linted_code

-- a program with the findings that are told of it
abbrev pub Linted : Type 0
Linted = Examined Found

-- those of the code
abbrev pub found_of : Told → Found
found_of t = record { pos = t.pos; lint = t.lint; name = string_bytes t.name }

abbrev pub linted_of : linted_code.Linted → Linted
linted_of l = record { part = part_of l.part.now; told = map found_of l.told.items }

-- two findings are the same: one lint finds one name at one place
abbrev pub is_same : Found → Found → Bool
is_same f g = f.pos.file == g.pos.file && f.pos.offset == g.pos.offset && bytes_eq (name f.lint) (name g.lint) && bytes_eq f.name g.name

abbrev pub is_among : List Found → Found → Bool
is_among all f = list_any (is_same f) all

-- a program, and whether it has the file of a finding, and the finding
abbrev pub share_of_linted : Found → Linted → Share
share_of_linted f l = share_in is_same f.pos.file f l

-- the programs behind a finding
abbrev pub programs_of : Found → List Linted → List ℕ
programs_of f linted = tag (map (share_of_linted f) linted)
