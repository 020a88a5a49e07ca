-- What the program makes of its texts: the print of their expansion and what it may lose, or why there is no print.
use Rattle.std.specs.Prelude.{◌≡◌, ◌≢◌, ◌⊎◌, ℕ, List, None, Option, Some, codes, string_bytes}
use Rattle.std.specs.List.{flat_map}
use Rattle.isle_base.specs.Place.{nowhere}
use Rattle.isle_base_source.specs.Source.{Source}
use Rattle.isle_base_source.specs.declared.error.Error.{Error}
use Rattle.isle_base_source.specs.declared.pos.Pos.{Pos}
use Rattle.isle_ast.specs.Erased.{erase}
use Rattle.isle_ast.specs.Spelt.{IsSpelt}
use Rattle.isle_ast.specs.Tree.{Definition}
use Rattle.isle_printer.specs.Printed.{IsPrinted}
use Rattle.isle_cli.specs.declared.failure.Failure.{Failure}
use Rattle.isle_cli.specs.declared.failure.Failure.TheVariants as failures
use Rattle.isle_expand_core.specs.Depth.{IsFirstDeep}
use Rattle.isle_expand_core.specs.Definitions.{AreExpanded, AreFree}
use Rattle.isle_expand_core.specs.Macros.{macros_in}
use Rattle.isle_expand_core.specs.Misuses.{IsFirstMisuse, MisuseNode, misuse_pos, misuse_text}
use Rattle.isle_expand_warnings.specs.Warnings.{WarningNode, warning_pos, warning_text, warnings_in}
use Rattle.isle_program.specs.Messages.{line_at}
use Rattle.isle_program.specs.Reading.{IsReading, refused_count}
use Rattle.isle_program.specs.reports.Refusals.{told_refusals}
use Rattle.isle_program.specs.declared.reports.format.Format.TheVariants as formats

-- The texts spell this program: each has its one tree, and these are the definitions of all, one text after another.
pub record IsProgramOf (sources : List Source) (tree : List Definition) : Type 0 where
  pub refusals : List (Option Error)
  pub read : IsReading sources tree refusals
  pub none : refused_count refusals ≡ 0

-- These definitions are the one expansion of the program: no use of an extractor is left in them, and no extractor.
pub record IsExpansionOf (sources : List Source) (expansion : List Definition) : Type 0 where
  pub tree : List Definition
  pub of_texts : IsProgramOf sources tree
  pub expanded : AreExpanded tree expansion
  pub only : (es : List Definition) → AreExpanded tree es → es ≡ expansion
  pub free : AreFree (macros_in tree) expansion

-- The print, at this width, of the expansion of the program, which does not nest too deeply. It spells the expansion, positions erased.
pub record IsPrintOfExpansion (width : ℕ) (sources : List Source) (print : List ℕ) : Type 0 where
  pub expansion : List Definition
  pub of_texts : IsExpansionOf sources expansion
  pub printed : IsPrinted width expansion print
  pub read_back : IsSpelt nowhere print (erase expansion)
  pub shallow : IsFirstDeep of_texts.tree None

-- the line of a warning
abbrev pub warning_line : List Source → WarningNode → List ℕ
warning_line sources w = line_at sources (warning_pos w) (codes "warning") (warning_text w)

abbrev pub warning_lines : List Source → List WarningNode → List ℕ
warning_lines sources ws = flat_map (warning_line sources) ws

-- what is shown of an expansion: a line for each warning about it, in order
pub record AreWarnings (sources : List Source) (shown : List ℕ) : Type 0 where
  pub tree : List Definition
  pub of_texts : IsProgramOf sources tree
  pub is : shown ≡ warning_lines sources (warnings_in tree)

-- some of the texts are not read, and this says of each why, at its place
pub record AreRefused (sources : List Source) (shown : List ℕ) : Type 0 where
  pub tree : List Definition
  pub refusals : List (Option Error)
  pub read : IsReading sources tree refusals
  pub some : refused_count refusals ≢ 0
  pub is : shown ≡ told_refusals formats.Human 0 sources refusals

-- the program has no expansion, and this says what the first misuse of an extractor is, at its place
pub record IsMisused (sources : List Source) (shown : List ℕ) : Type 0 where
  pub tree : List Definition
  pub of_texts : IsProgramOf sources tree
  pub none : (expansion : List Definition) → AreExpanded tree expansion → ⊥
  pub misuse : MisuseNode
  pub first : IsFirstMisuse tree misuse
  pub is : shown ≡ line_at sources (misuse_pos misuse) (codes "error") (misuse_text misuse)

-- the line of a definition whose expansion would nest too deeply
abbrev pub deep_line : List Source → Pos → List ℕ
deep_line sources pos = line_at sources pos (codes "error") (codes "more than 500 patterns in one another once extractors are expanded")

-- the expansion of the program would nest too deeply, and this says so of the first definition of which that is so
pub record IsTooDeep (sources : List Source) (shown : List ℕ) : Type 0 where
  pub tree : List Definition
  pub of_texts : IsProgramOf sources tree
  pub pos : Pos
  pub first : IsFirstDeep tree (Some pos)
  pub is : shown ≡ deep_line sources pos

-- nothing is printed of the texts, and this says why: some are not read, or the program has no expansion, or one that nests too deeply
abbrev pub HaveNoPrint : (sources : List Source) (shown : List ℕ) → Type 0
HaveNoPrint sources shown = AreRefused sources shown ⊎ IsTooDeep sources shown ⊎ IsMisused sources shown

-- nothing is printed, with the text that says why, or memory was refused
abbrev pub IsExpandFailure : Failure → List Source → Type 0
IsExpandFailure (failures.Refused shown) sources = HaveNoPrint sources (string_bytes shown)
IsExpandFailure failures.Usage sources = ⊥
IsExpandFailure failures.Input sources = ⊥
IsExpandFailure failures.Memory sources = Unit {0}
IsExpandFailure failures.Output sources = ⊥
