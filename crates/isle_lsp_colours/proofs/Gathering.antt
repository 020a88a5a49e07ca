-- The classes of the names of a text's definitions, as these are read one after another.
use Rattle.std.proofs.Common.{◌≡◌, ℕ, length, List, [], Bool, Option, refl, subst, arith, Err, inl, inr}
use Rattle.isle_base_source.specs.declared.error.Error.{Error}
use Rattle.isle_ast.specs.Grammar.{SpellsDefinition}
use Rattle.isle_ast.specs.Tree.{Definition}
use Rattle.isle_ast_names.specs.Words.{SpellsAll}
use Rattle.isle_program.specs.Reading.{IsReadAs}
use Rattle.isle_base.specs.Steps.{IfError, RefusesStart, is_failed}
use Rattle.isle_parser.specs.DefinitionReaders.{definition, definitions}
use Rattle.isle_parser.specs.NextDefinition.{LeavesNone, RefusesNext, has_failed}
use Rattle.isle_parser.specs.declared.parser.Parser.{Parser}
use Rattle.isle_parser_cursor.specs.Outcomes.{placing, source, tokens}
use Rattle.isle_parser_cursor.specs.Reading.{ends, many}
use Rattle.isle_parser_cursor.specs.declared.cursor.Cursor.{Cursor}
use Rattle.isle_parser_cursor.proofs.Loops.{behind_front}
use Rattle.isle_parser.proofs.Reading.Definitions.{definition_begins}
use Rattle.isle_base.specs.Place.{in_file, placed}
use Rattle.isle_base.specs.Token.{Feed, fault}
use Rattle.isle_base.specs.declared.fault.Fault.{Fault}
use Rattle.isle_base.specs.declared.fault.Fault.TheVariants as faults
use Rattle.isle_parser.specs.Parsed.{Parses, RefusesText}
use Rattle.isle_program.proofs.ReadingLemmas.{refused-start, refused-tree}
use Rattle.isle_lsp_features.specs.Pieces.{IsFront}
use Rattle.isle_lsp_features.proofs.Gathering.{Starts}
use Rattle.isle_lsp_colours.specs.Known.{AddsDefinitions, Grows}
use Rattle.isle_lsp_colours.specs.declared.classes.Class.{Class}
use Rattle.isle_lsp_colours.proofs.Merging.{grows-start}

-- of no tokens none is spelt
none-spelt : LeavesNone []
none-spelt d rest spelt = absurd (omega (arith, (definition_begins d [] rest spelt).1))

-- after what a parser refuses none is spelt, or one that takes all tokens
no-more-after : (old : Cursor) (e : Error) → RefusesNext old e → LeavesNone (tokens old)
no-more-after old e h = elim h.because [
  | inl none ↦ λ d rest spelt. absurd (none d rest spelt)
  | inr at_fault ↦ at_fault.1
]

-- what was read of a text, and added, so many definitions
pub record ReadsOn (start now : Parser) (old new : List (Option Class)) (count : ℕ) : Type 0 where
  pub front : List Definition
  pub same : source now.cursor ≡ source start.cursor
  pub so_far : behind_front front (many ends definition (tokens now.cursor)) ≡ definitions (tokens start.cursor)
  pub live : has_failed now ≡ is_failed start.cursor.scanner
  pub spelt : SpellsAll SpellsDefinition front (tokens start.cursor) (tokens now.cursor)
  pub grows : Grows front old new
  pub counted : count ≡ length front

-- a text that does not lex at its start
pub refused-at-start : (text : List ℕ) (f : Fault) (classes : List (Option Class)) (count : ℕ) → count ≡ 0 → IfError (RefusesStart 0 text) f → AddsDefinitions text classes classes count (Err f)
refused-at-start text (faults.Error e) classes count none s =
    ([], (refused-start 0 text (faults.Error e) s, record { tokens = []; ending = fault s.0; lexed = s.1; rest = []; spelt = refl; no_more = none-spelt }), grows-start classes, none)
refused-at-start text faults.Failed classes count none s = tt
refused-at-start text faults.Memory classes count none s = tt

-- a text that is refused after these definitions
failing : (text : List ℕ) (f : Fault) (ds : List Definition) (old new : List (Option Class)) (count : ℕ) → IsReadAs 0 text (Err f) → IfError (λ e. IsFront 0 text ds) f → Grows ds old new → count ≡ length ds → AddsDefinitions text old new count (Err f)
failing text (faults.Error e) ds old new count is begun grows counted = (ds, (is, begun), grows, counted)
failing text faults.Failed ds old new count is begun grows counted = tt
failing text faults.Memory ds old new count is begun grows counted = tt

-- the definitions that were read
front-of : (text : List ℕ) (feed : Feed) (start now : Parser) (ds : List Definition) (f : Fault) → Starts 0 text feed start →
    SpellsAll SpellsDefinition ds (tokens start.cursor) (tokens now.cursor) → IfError (RefusesNext now.cursor) f → IfError (λ e. IsFront 0 text ds) f
front-of text feed start now ds (faults.Error e) starts spelt h =
    let Places : Bool → Type 0 = λ b. SpellsAll SpellsDefinition ds (placed (placing b start.cursor.scanner.file) start.cursor.scanner.coming) (tokens now.cursor) in
    let Feeds : Feed → Type 0 = λ s. SpellsAll SpellsDefinition ds (placed (in_file s.file) s.coming) (tokens now.cursor) in
    let Files : ℕ → Type 0 = λ n. SpellsAll SpellsDefinition ds (placed (in_file n) feed.coming) (tokens now.cursor) in
    record {
      tokens = feed.coming;
      ending = feed.ending;
      lexed = starts.tokens;
      rest = tokens now.cursor;
      spelt = subst Files starts.file (subst Feeds starts.lexer (subst Places starts.positions spelt));
      no_more = no-more-after now.cursor e h;
    }
front-of text feed start now ds faults.Failed starts spelt h = tt
front-of text feed start now ds faults.Memory starts spelt h = tt

pub stopped : (text : List ℕ) (feed : Feed) (start now : Parser) (old new : List (Option Class)) (count : ℕ) (f : Fault) → Starts 0 text feed start → ReadsOn start now old new count →
    IfError (RefusesNext now.cursor) f → Parses (placing start.cursor.disable_pos start.cursor.scanner.file) start.cursor.scanner (Err f) → AddsDefinitions text old new count (Err f)
stopped text feed start now old new count f starts reads because h =
    let Places : Bool → Type 0 = λ b. RefusesText (placing b start.cursor.scanner.file) start.cursor.scanner f in
    let Feeds : Feed → Type 0 = λ s. RefusesText (in_file s.file) s f in
    let refused : RefusesText (in_file feed.file) feed f = subst Feeds starts.lexer (subst Places starts.positions h.0) in
    failing text f reads.front old new count (refused-tree 0 text feed f starts.file starts.size starts.tokens refused)
    (front-of text feed start now reads.front f starts reads.spelt because) reads.grows reads.counted
