-- The results of the parsers, by the rest of a lexer's input.
use Rattle.std.specs.Prelude.{◌≡◌, ℕ, List, Result, Ok, Err, true, false}
use Rattle.std.specs.Global.{Vec}
use Rattle.isle_base_source.specs.declared.error.Error.{Error}
use Rattle.isle_base.specs.declared.fault.Fault.{Fault}
use Rattle.isle_base_source.specs.declared.pos.Pos.{Pos}
use Rattle.isle_base.specs.Steps.{is_failed, IfError}
use Rattle.isle_base.specs.Token.{Feed}
use Rattle.isle_ast.specs.Tree.{Definition}
use Rattle.isle_ast.specs.declared.ast.Def.{Def}
use Rattle.isle_ast.specs.Spelt.{Spells}
use Rattle.isle_ast.specs.TreeView.{definitions_of}
use Rattle.isle_base.specs.Refusal.{RefusesIn}
use Rattle.isle_base.specs.declared.fault.Fault.TheVariants as faults

-- the tokens spell this list of definitions, and no other
pub record SpellsOnly (place : ℕ → Pos) (feed : Feed) (ds : List Definition) : Type 0 where
  pub spelt : Spells place feed ds
  pub only : (es : List Definition) → Spells place feed es → es ≡ ds

-- the tokens spell no list of definitions, and the error is in the text
abbrev pub RefusesWith : (ℕ → Pos) → Feed → Error → Type 0
RefusesWith place feed e = ((ds : List Definition) → Spells place feed ds → ⊥) × RefusesIn feed.file feed.size e

-- An error means that the tokens spell no list of definitions. Running out of memory means nothing.
abbrev pub RefusesText : (ℕ → Pos) → Feed → Fault → Type 0
RefusesText place feed f = IfError (RefusesWith place feed) f

-- a parser returns `Failed` exactly if its lexer had failed
abbrev pub FailsAs : Feed → Fault → Type 0
FailsAs feed (faults.Error e) = is_failed feed ≡ false
FailsAs feed faults.Failed = is_failed feed ≡ true
FailsAs feed faults.Memory = is_failed feed ≡ false

-- the result of a parser, with positions given by `place`
abbrev pub Parses : (ℕ → Pos) → Feed → Result (Vec Def) Fault → Type 0
Parses place feed (Ok defs) = SpellsOnly place feed (definitions_of defs.items)
Parses place feed (Err e) = RefusesText place feed e × FailsAs feed e
