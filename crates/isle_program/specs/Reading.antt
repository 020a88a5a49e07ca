-- What the texts of a program spell.
use Rattle.std.specs.Prelude.{◌≡◌, ◌⊎◌, ℕ, ◌+◌, List, [], ◌∷◌, ◌++◌, Option, None, Some, Result, Ok, Err, codes, count_by, length, map, min, string_bytes}
use Rattle.std.specs.Global.{Vec}
use Rattle.std.specs.List.{flat_map}
use Rattle.std.specs.Option.{is_some}
use Rattle.isle_base_source.specs.Source.{Source}
use Rattle.isle_base_source.specs.declared.error.Error.{Error}
use Rattle.isle_base_source.specs.declared.error.Error.TheVariants as errors
use Rattle.isle_base_source.specs.declared.pos.Pos.{Pos}
use Rattle.isle_base.specs.Place.{in_file}
use Rattle.isle_base.specs.declared.fault.Fault.{Fault}
use Rattle.isle_base.specs.declared.fault.Fault.TheVariants as faults
use Rattle.isle_ast.specs.Spelt.{IsSpelt}
use Rattle.isle_ast.specs.Tree.{Definition}
use Rattle.isle_ast.specs.TreeView.{definitions_of}
use Rattle.isle_ast.specs.declared.ast.Def.{Def}
use Rattle.isle_base.specs.Refusal.{RefusesIn}
use Rattle.isle_base.specs.Steps.{RefusesAt}
use Rattle.isle_program.specs.Nesting.{FirstDeep}
use Rattle.isle_program.specs.declared.trees.Reading.{Reading}

-- the text, as the file of this number, spells this tree, with the positions that its tokens have, and no other
pub record IsTreeOf (file : ℕ) (text : List ℕ) (tree : List Definition) : Type 0 where
  pub spelt : IsSpelt (in_file file) text tree
  pub only : (ds : List Definition) → IsSpelt (in_file file) text ds → ds ≡ tree

-- it spells no tree, and the error stands in it
pub record IsRefusedWith (file : ℕ) (text : List ℕ) (e : Error) : Type 0 where
  pub no_tree : (ds : List Definition) → IsSpelt (in_file file) text ds → ⊥
  pub place : RefusesIn file (length text) e

-- the error says that a text nests too deeply, and stands at this position
abbrev pub IsTooDeep : Pos → Error → Type 0
IsTooDeep pos (errors.ParseError msg span) =
    (string_bytes msg ≡ codes "more than 500 lists in one another, or '@' in one definition") × RefusesAt pos (errors.ParseError msg span)
IsTooDeep pos _ = ⊥

-- the text nests too deeply, and the error says so at the first token that does
pub record IsDeepWith (file : ℕ) (text : List ℕ) (e : Error) : Type 0 where
  pub offset : ℕ
  pub first : FirstDeep text (Some offset)
  pub says : IsTooDeep (in_file file (min offset (length text))) e

-- what comes of a text: its tree, why it has none, or that it nests too deeply to be read
pub data Outcome : Type 0 where
  tree : List Definition → Outcome
  refusal : Error → Outcome
  too_deep : Error → Outcome

abbrev pub IsOutcome : ℕ → List ℕ → Outcome → Type 0
IsOutcome file text (tree ds) = FirstDeep text None × IsTreeOf file text ds
IsOutcome file text (refusal e) = FirstDeep text None × IsRefusedWith file text e
IsOutcome file text (too_deep e) = IsDeepWith file text e

-- what comes of texts, which are the files from this number on
abbrev pub AreOutcomes : ℕ → List Source → List Outcome → Type 0
AreOutcomes file [] [] = Unit {0}
AreOutcomes file [] (o ∷ os) = ⊥
AreOutcomes file (s ∷ ss) [] = ⊥
AreOutcomes file (s ∷ ss) (o ∷ os) = IsOutcome file s.text o × AreOutcomes (file + 1) ss os

abbrev pub tree_of : Outcome → List Definition
tree_of (tree ds) = ds
tree_of (refusal e) = []
tree_of (too_deep e) = []

abbrev pub refusal_of : Outcome → Option Error
refusal_of (tree ds) = None
refusal_of (refusal e) = Some e
refusal_of (too_deep e) = Some e

-- the definitions of the texts that are read as a tree, and of each other text why it isn't
pub record IsReading (sources : List Source) (ds : List Definition) (refusals : List (Option Error)) : Type 0 where
  pub outcomes : List Outcome
  pub each : AreOutcomes 0 sources outcomes
  pub trees : ds ≡ flat_map tree_of outcomes
  pub refused : refusals ≡ map refusal_of outcomes

-- how many texts are not read as a tree
abbrev pub refused_count : List (Option Error) → ℕ
refused_count refusals = count_by is_some refusals

-- what a parser answers of one text
abbrev pub IsReadAs : ℕ → List ℕ → Result (Vec Def) Fault → Type 0
IsReadAs file text (Ok defs) = IsTreeOf file text (definitions_of defs.items)
IsReadAs file text (Err (faults.Error e)) = IsRefusedWith file text e
IsReadAs file text (Err faults.Failed) = Unit {0}
IsReadAs file text (Err faults.Memory) = Unit {0}

-- the same where texts that nest too deeply are not parsed
abbrev pub IsWellReadAs : ℕ → List ℕ → Result (Vec Def) Fault → Type 0
IsWellReadAs file text (Ok defs) = FirstDeep text None × IsTreeOf file text (definitions_of defs.items)
IsWellReadAs file text (Err (faults.Error e)) = (FirstDeep text None × IsRefusedWith file text e) ⊎ IsDeepWith file text e
IsWellReadAs file text (Err faults.Failed) = Unit {0}
IsWellReadAs file text (Err faults.Memory) = Unit {0}

-- a reading that has one text more
abbrev pub Adds : Reading → Result (Vec Def) Fault → Reading → Type 0
Adds old (Ok defs) new =
    (definitions_of new.defs.items ≡ definitions_of old.defs.items ++ definitions_of defs.items) × (new.refusals.items ≡ old.refusals.items ++ None ∷ [])
Adds old (Err (faults.Error e)) new =
    (definitions_of new.defs.items ≡ definitions_of old.defs.items) × (new.refusals.items ≡ old.refusals.items ++ Some e ∷ [])
Adds old (Err faults.Failed) new = ⊥
Adds old (Err faults.Memory) new = ⊥
