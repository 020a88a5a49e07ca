-- Several texts as one program, and what is written of it.
use Rattle.std.specs.Prelude.{◌≡◌, ◌≢◌, ◌||◌, ℕ, ◌+◌, ◌==◌, List, [], ◌∷◌, ◌++◌, Bool, Result, Ok, Err, IsUtf8, drop, filter, length, not, take}
use Rattle.std.specs.Global.{Vec}
use Rattle.std.specs.List.{All, Contains, flat_map, sum}
use Rattle.isle_ast.specs.Spelt.{IsSpelt}
use Rattle.isle_ast.specs.Tree.{Definition}
use Rattle.isle_ast.specs.TreeView.{definitions_of}
use Rattle.isle_ast.specs.declared.ast.Def.{Def}
use Rattle.isle_base.specs.Place.{in_file}
use Rattle.isle_base.specs.declared.fault.Fault.{Fault}
use Rattle.isle_base.specs.declared.fault.Fault.TheVariants as faults
use Rattle.isle_c.specs.declared.calls.NoAnswer.{NoAnswer}
use Rattle.isle_c.specs.declared.calls.NoAnswer.TheVariants.{Accepted, BadLengths, Memory, NotUtf8, Refused}
use Rattle.isle_encoding.specs.findings.Encoded.{IsEncodedLints, encoded_checks}
use Rattle.isle_lint_core.specs.Lint.{all_lints, is_default}
use Rattle.isle_lint_core.specs.declared.lint.Lint.{Lint}
use Rattle.isle_syntax.specs.Format.{IsRefused}

-- the texts with these lengths, one behind the other
abbrev pub parts : (lengths bytes : List ℕ) → List (List ℕ)
parts [] bytes = []
parts (n ∷ ns) bytes = take n bytes ∷ parts ns (drop n bytes)

-- the text, as the file of this number, spells this tree, and no other
pub record IsTreeOf (file : ℕ) (text : List ℕ) (tree : List Definition) : Type 0 where
  pub spelt : IsSpelt (in_file file) text tree
  pub only : (ds : List Definition) → IsSpelt (in_file file) text ds → ds ≡ tree

-- these are the trees of texts, which are the files from this number on
abbrev pub AreTrees : ℕ → (texts : List (List ℕ)) → (trees : List (List Definition)) → Type 0
AreTrees file [] [] = Unit {0}
AreTrees file [] (d ∷ ds) = ⊥
AreTrees file (t ∷ ts) [] = ⊥
AreTrees file (t ∷ ts) (d ∷ ds) = IsTreeOf file t d × AreTrees (file + 1) ts ds

-- each text spells a tree, and the definitions are those of all of them, in order
pub record IsProgram (texts : List (List ℕ)) (ds : List Definition) : Type 0 where
  pub trees : List (List Definition)
  pub each : AreTrees 0 texts trees
  pub together : ds ≡ flat_map (λ tree. tree) trees

-- the answer is the encoding of all that is found in the program
pub record IsCheck (texts : List (List ℕ)) (answer : List ℕ) : Type 0 where
  pub definitions : List Definition
  pub program : IsProgram texts definitions
  pub written : answer ≡ encoded_checks definitions

-- for 0 a lint is chosen that is on by default, and for any other number each lint
abbrev pub is_chosen : ℕ → Lint → Bool
is_chosen all lint = not (all == 0) || is_default lint

abbrev pub lints_for : ℕ → List Lint
lints_for all = filter (is_chosen all) all_lints

-- the answer is the encoding of what these lints find in the program
pub record IsLint (all : ℕ) (texts : List (List ℕ)) (answer : List ℕ) : Type 0 where
  pub definitions : List Definition
  pub program : IsProgram texts definitions
  pub written : IsEncodedLints (lints_for all) definitions answer

-- one of the texts spells no tree
abbrev pub IsRefusedProgram : (texts : List (List ℕ)) → Type 0
IsRefusedProgram texts = (text : List ℕ) × Contains texts text × IsRefused text

-- why texts are not read as a program
abbrev pub IsReadingFailure : (texts : List (List ℕ)) → NoAnswer → Type 0
IsReadingFailure texts Accepted = ⊥
IsReadingFailure texts Refused = IsRefusedProgram texts
IsReadingFailure texts NotUtf8 = ⊥
IsReadingFailure texts Memory = Unit {0}
IsReadingFailure texts BadLengths = ⊥

-- why bytes are not taken as texts
abbrev pub IsTextsFailure : (texts : List (List ℕ)) → NoAnswer → Type 0
IsTextsFailure texts Accepted = ⊥
IsTextsFailure texts Refused = ⊥
IsTextsFailure texts NotUtf8 = ¬ (All IsUtf8 texts)
IsTextsFailure texts Memory = Unit {0}
IsTextsFailure texts BadLengths = ⊥

-- why there is no answer about a program
abbrev pub IsProgramFailure : (lengths bytes : List ℕ) → NoAnswer → Type 0
IsProgramFailure lengths bytes Accepted = ⊥
IsProgramFailure lengths bytes Refused = (sum lengths ≡ length bytes) × All IsUtf8 (parts lengths bytes) × IsRefusedProgram (parts lengths bytes)
IsProgramFailure lengths bytes NotUtf8 = (sum lengths ≡ length bytes) × (¬ (All IsUtf8 (parts lengths bytes)))
IsProgramFailure lengths bytes Memory = sum lengths ≡ length bytes
IsProgramFailure lengths bytes BadLengths = sum lengths ≢ length bytes

-- these are the definitions, and behind them those of a text that is parsed
abbrev pub Adds : (old : Vec Def) → Result (Vec Def) Fault → (new : Vec Def) → Type 0
Adds old (Ok more) new = definitions_of new.items ≡ definitions_of old.items ++ definitions_of more.items
Adds old (Err fault) new = ⊥

-- why nothing is added
abbrev pub Stops : Result (Vec Def) Fault → NoAnswer → Type 0
Stops (Err (faults.Error e)) Refused = Unit {0}
Stops read Memory = Unit {0}
Stops read why = ⊥
