-- The index of a program, as it grows by one text.
use Rattle.std.proofs.Common.{◌≡◌, ℕ, ◌+◌, length, List, [], ◌∷◌, ◌++◌, Bool, false, refl, sym, subst, arith, append_assoc, Err, inl, inr}
use Rattle.std.proofs.lemmas.List.{append-nil, length-append}
use Rattle.isle_base_source.specs.declared.error.Error.{Error}
use Rattle.isle_ast.specs.Grammar.{SpellsDefinition}
use Rattle.isle_ast.specs.Tree.{Definition}
use Rattle.isle_ast_names.specs.Words.{SpellsAll}
use Rattle.isle_index.specs.Held.{IsIndexOf}
use Rattle.isle_index.specs.declared.Index.{Index}
use Rattle.isle_program.specs.Reading.{IsReadAs, IsTreeOf}
use Rattle.isle_base.specs.Steps.{IfError, RefusesStart, is_failed}
use Rattle.isle_parser.specs.DefinitionReaders.{definition, definitions}
use Rattle.isle_parser.specs.NextDefinition.{LeavesNone, RefusesNext, has_failed}
use Rattle.isle_parser.specs.declared.parser.Parser.{Parser}
use Rattle.isle_parser_cursor.specs.Outcomes.{placing, source, tokens}
use Rattle.isle_parser_cursor.specs.Reading.{ends, many}
use Rattle.isle_parser_cursor.specs.declared.cursor.Cursor.{Cursor}
use Rattle.isle_parser_cursor.proofs.Loops.{behind_front}
use Rattle.isle_parser.proofs.Reading.Definitions.{definition_begins}
use Rattle.isle_base.specs.Lexing.{lexes}
use Rattle.isle_base.specs.Place.{Placed, in_file, placed}
use Rattle.isle_base.specs.Token.{Feed, fault}
use Rattle.isle_base.specs.declared.fault.Fault.{Fault}
use Rattle.isle_base.specs.declared.fault.Fault.TheVariants as faults
use Rattle.isle_parser.specs.Parsed.{Parses, RefusesText, SpellsOnly}
use Rattle.isle_program.proofs.ReadingLemmas.{read-tree, refused-start, refused-tree}
use Rattle.isle_lsp_features.specs.Pieces.{AddsDefinitions, Grows, IsFront}

-- definitions that are spelt one after another, and one more
pub spelt-on : (ds : List Definition) (d : Definition) (all mid rest : List Placed) → SpellsAll SpellsDefinition ds all mid → SpellsDefinition d mid rest → SpellsAll SpellsDefinition (ds ++ d ∷ []) all rest
spelt-on [] d all mid rest is spelt = (rest, subst (λ xs. SpellsDefinition d xs rest) (sym is) spelt, refl)
spelt-on (x ∷ ds) d all mid rest is spelt = (is.0, is.1, spelt-on ds d is.0 mid rest is.2 spelt)

-- of no tokens none is spelt
none-spelt : LeavesNone []
none-spelt d rest spelt = absurd (omega (arith, (definition_begins d [] rest spelt).1))

-- after what a parser refuses none is spelt, or one that takes all tokens
no-more-after : (old : Cursor) (e : Error) → RefusesNext old e → LeavesNone (tokens old)
no-more-after old e h = elim h.because [
  | inl none ↦ λ d rest spelt. absurd (none d rest spelt)
  | inr at_fault ↦ at_fault.1
]

-- what was read of a text, and added, so many definitions
pub record ReadsOn (start now : Parser) (old new : Index) (count : ℕ) : Type 0 where
  pub front : List Definition
  pub same : source now.cursor ≡ source start.cursor
  pub so_far : behind_front front (many ends definition (tokens now.cursor)) ≡ definitions (tokens start.cursor)
  pub live : has_failed now ≡ is_failed start.cursor.scanner
  pub spelt : SpellsAll SpellsDefinition front (tokens start.cursor) (tokens now.cursor)
  pub grows : Grows front old new
  pub counted : count ≡ length front

pub grows-start : (index : Index) → Grows [] index index
grows-start index = λ ds is. subst (λ xs. IsIndexOf xs index) (sym (append-nil ds)) is

pub grows-on : (begun more : List Definition) (old mid new : Index) → Grows begun old mid → Grows more mid new → Grows (begun ++ more) old new
grows-on begun more old mid new first second = λ ds is. subst (λ xs. IsIndexOf xs new) (append_assoc ds begun more) (second (ds ++ begun) (first ds is))

pub one-counted : (begun : List Definition) (d : Definition) (count : ℕ) → count ≡ length begun → count + 1 ≡ length (begun ++ d ∷ [])
one-counted begun d count is = let both = length-append begun (d ∷ []) in omega (arith, is, both)

-- a text that does not lex at its start
pub refused-at-start : (file : ℕ) (text : List ℕ) (f : Fault) (index : Index) (count : ℕ) → count ≡ 0 → IfError (RefusesStart file text) f → AddsDefinitions file text index index count (Err f)
refused-at-start file text (faults.Error e) index count none s =
    ([], (refused-start file text (faults.Error e) s, record { tokens = []; ending = fault s.0; lexed = s.1; rest = []; spelt = refl; no_more = none-spelt }), grows-start index, none)
refused-at-start file text faults.Failed index count none s = tt
refused-at-start file text faults.Memory index count none s = tt

-- a text that is refused after these definitions
failing : (file : ℕ) (text : List ℕ) (f : Fault) (ds : List Definition) (old new : Index) (count : ℕ) → IsReadAs file text (Err f) → IfError (λ e. IsFront file text ds) f → Grows ds old new → count ≡ length ds → AddsDefinitions file text old new count (Err f)
failing file text (faults.Error e) ds old new count is begun grows counted = (ds, (is, begun), grows, counted)
failing file text faults.Failed ds old new count is begun grows counted = tt
failing file text faults.Memory ds old new count is begun grows counted = tt

-- what is known of the parser of a text, at its start
pub record Starts (number : ℕ) (text : List ℕ) (feed : Feed) (start : Parser) : Type 0 where
  pub lexer : start.cursor.scanner ≡ feed
  pub positions : start.cursor.disable_pos ≡ false
  pub file : feed.file ≡ number
  pub size : feed.size ≡ length text
  pub tokens : lexes text feed.coming feed.ending

-- the definitions that were read
front-of : (number : ℕ) (text : List ℕ) (feed : Feed) (start now : Parser) (ds : List Definition) (f : Fault) → Starts number text feed start →
    SpellsAll SpellsDefinition ds (tokens start.cursor) (tokens now.cursor) → IfError (RefusesNext now.cursor) f → IfError (λ e. IsFront number text ds) f
front-of number text feed start now ds (faults.Error e) starts spelt h =
    let Places : Bool → Type 0 = λ b. SpellsAll SpellsDefinition ds (placed (placing b start.cursor.scanner.file) start.cursor.scanner.coming) (tokens now.cursor) in
    let Feeds : Feed → Type 0 = λ s. SpellsAll SpellsDefinition ds (placed (in_file s.file) s.coming) (tokens now.cursor) in
    let Files : ℕ → Type 0 = λ n. SpellsAll SpellsDefinition ds (placed (in_file n) feed.coming) (tokens now.cursor) in
    record {
      tokens = feed.coming;
      ending = feed.ending;
      lexed = starts.tokens;
      rest = tokens now.cursor;
      spelt = subst Files starts.file (subst Feeds starts.lexer (subst Places starts.positions spelt));
      no_more = no-more-after now.cursor e h;
    }
front-of number text feed start now ds faults.Failed starts spelt h = tt
front-of number text feed start now ds faults.Memory starts spelt h = tt

pub stopped : (number : ℕ) (text : List ℕ) (feed : Feed) (start now : Parser) (old new : Index) (count : ℕ) (f : Fault) → Starts number text feed start → ReadsOn start now old new count →
    IfError (RefusesNext now.cursor) f → Parses (placing start.cursor.disable_pos start.cursor.scanner.file) start.cursor.scanner (Err f) → AddsDefinitions number text old new count (Err f)
stopped number text feed start now old new count f starts reads because h =
    let Places : Bool → Type 0 = λ b. RefusesText (placing b start.cursor.scanner.file) start.cursor.scanner f in
    let Feeds : Feed → Type 0 = λ s. RefusesText (in_file s.file) s f in
    let refused : RefusesText (in_file feed.file) feed f = subst Feeds starts.lexer (subst Places starts.positions h.0) in
    failing number text f reads.front old new count (refused-tree number text feed f starts.file starts.size starts.tokens refused)
    (front-of number text feed start now reads.front f starts reads.spelt because) reads.grows reads.counted

pub whole : (number : ℕ) (text : List ℕ) (feed : Feed) (start : Parser) (begun : List Definition) → Starts number text feed start →
    SpellsOnly (placing start.cursor.disable_pos start.cursor.scanner.file) start.cursor.scanner begun → IsTreeOf number text begun
whole number text feed start begun starts h =
    let Places : Bool → Type 0 = λ b. SpellsOnly (placing b start.cursor.scanner.file) start.cursor.scanner begun in
    let Feeds : Feed → Type 0 = λ s. SpellsOnly (in_file s.file) s begun in
    let read : SpellsOnly (in_file feed.file) feed begun = subst Feeds starts.lexer (subst Places starts.positions h) in
    read-tree number text feed begun starts.file starts.tokens read.spelt read.only
