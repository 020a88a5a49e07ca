-- Reading one definition after another: what was read so far, and what is still to be read.
use Rattle.std.proofs.Common.{◌≡◌, ◌↔◌, ℕ, ◌<◌, Bool, true, false, List, [], ◌∷◌, ◌++◌, Option, Result, Err, refl, sym, subst, ap, ◌∙◌, length}
use Rattle.std.proofs.lemmas.Bool.{false≢true}
use Rattle.isle_ast.specs.Erased.{erase}
use Rattle.isle_ast.specs.Tree.{Definition}
use Rattle.isle_ast.specs.declared.ast.Def.{Def}
use Rattle.isle_ast.proofs.Erasing.{text_erased, text_placed}
use Rattle.isle_base.specs.Place.{in_file, nowhere}
use Rattle.isle_base.specs.Lexing.{lexes}
use Rattle.isle_base.specs.Steps.{IfError, is_at_end, is_failed}
use Rattle.isle_base.specs.Token.{Feed}
use Rattle.isle_base.specs.declared.fault.Fault.{Fault}
use Rattle.isle_base.specs.declared.fault.Fault.TheVariants as faults
use Rattle.isle_parser.specs.DefinitionReaders.{definition, definitions}
use Rattle.isle_parser.specs.NextDefinition.{RefusesNext, has_failed}
use Rattle.isle_parser.specs.Parsed.{RefusesText, RefusesWith, SpellsOnly}
use Rattle.isle_parser.specs.declared.parser.Parser.{Parser}
use Rattle.isle_parser.proofs.NextDefinition.{loop_goes_on, loop_starts, loop_stops_at, loop_whole}
use Rattle.isle_parser.proofs.Reading.Definitions.{definition_begins}
use Rattle.isle_parser.proofs.Whole.{IfError-map}
use Rattle.isle_parser_cursor.specs.Outcomes.{placing, source, tokens}
use Rattle.isle_parser_cursor.specs.Reading.{ends, many}
use Rattle.isle_parser_cursor.proofs.Loops.{behind_front}
use Rattle.isle_syntax.specs.Format.{SpellsTree}
use Rattle.isle_syntax.specs.Streaming.{IsAtStart, IsDone, IsRead, IsRefusedWith}
use Rattle.isle_syntax.proofs.FormatLaw.{Spells-IsSpelt, refused_tree}

-- From a parser at its start and one further on: these definitions were read between.
pub record Read (start now : Parser) : Type 0 where
  pub front : List Definition
  pub same : source now.cursor ≡ source start.cursor
  pub so_far : behind_front front (many ends definition (tokens now.cursor)) ≡ definitions (tokens start.cursor)
  pub live : has_failed now ≡ false

-- the same, for an invariant that nothing looks into
pub data HasRead (start now : Parser) : Type 0 where
  has_read : Read start now → HasRead start now

opened : {start now : Parser} → HasRead start now → Read start now
opened (has_read r) = r

abbrev pub nothing_read : (start : Parser) → has_failed start ≡ false → Read start start
nothing_read start live = record { front = []; same = refl; so_far = loop_starts (tokens start.cursor); live = live }

-- one definition more
abbrev pub one_more_read : (start now next : Parser) → Read start now → IsRead now next → Read start next
one_more_read start now next r next_is =
    record {
      front = r.front ++ next_is.definition ∷ [];
      same = next_is.same ∙ r.same;
      so_far = loop_goes_on r.front next_is.definition (tokens now.cursor) (tokens next.cursor) (definitions (tokens start.cursor)) next_is.spelt r.so_far;
      live = next_is.live;
    }

-- and it takes tokens
pub read_takes : (now next : Parser) → IsRead now next → length (tokens next.cursor) < length (tokens now.cursor)
read_takes now next is = (definition_begins is.definition (tokens now.cursor) (tokens next.cursor) is.spelt).1

-- what is read at the end is the text's tree
pub only_read : (text : List ℕ) (start now : Parser) → IsAtStart text start → (r : Read start now) → is_at_end now.cursor.scanner ≡ true
    → SpellsOnly (in_file start.cursor.scanner.file) start.cursor.scanner r.front
only_read text start now s r at_end =
    let feed = start.cursor.scanner in
    subst (λ (b : Bool). SpellsOnly (placing b feed.file) feed r.front) s.positions (loop_whole start.cursor now.cursor r.front r.same r.so_far at_end)

-- a text that is rejected with positions is rejected without
pub refused_erased : (feed : Feed) (f : Fault) → RefusesText (in_file feed.file) feed f → RefusesText nowhere feed f
refused_erased feed f =
    IfError-map (RefusesWith (in_file feed.file) feed) (RefusesWith nowhere feed) f
    (λ e refused. (λ ds spelt. refused.0 (text_placed (in_file feed.file) feed ds spelt).0 (text_placed (in_file feed.file) feed ds spelt).2, refused.1))

-- an answer that is a rejection, for its type
abbrev pub refusal : (T : Type 0) → Fault → Result T Fault
refusal T f = Err f

says_failed : (T : Type 0) (f : Fault) → refusal T f ≡ refusal T faults.Failed → f ≡ faults.Failed
says_failed T (faults.Error e) is = absurd cc
says_failed T faults.Failed is = refl
says_failed T faults.Memory is = absurd cc

-- what one call rejects and another hands on says the same
pub says_failed_too : (S T : Type 0) (f : Fault) → refusal S f ≡ refusal S faults.Failed → refusal T f ≡ refusal T faults.Failed
says_failed_too S T f is = ap (refusal T) (says_failed S f is)

fails_too : (S T : Type 0) (f : Fault) (before : Bool) → (refusal S f ≡ refusal S faults.Failed) ↔ (before ≡ true) → (refusal T f ≡ refusal T faults.Failed) ↔ (before ≡ true)
fails_too S T f before h = (λ is. h.0 (says_failed_too T S f is), λ failed. says_failed_too S T f (h.1 failed))

-- where the next definition is rejected, so is the text
pub refused_read : (text : List ℕ) (start now : Parser) (f : Fault) → IsAtStart text start → Read start now
    → (refusal Bool f ≡ refusal Bool faults.Failed) ↔ (has_failed now ≡ true) → IfError (RefusesNext now.cursor) f → IfError (IsRefusedWith text) f
refused_read text start now f s r fails refused =
    let feed = start.cursor.scanner in
    let stops = loop_stops_at start now r.front f r.same r.so_far (r.live ∙ sym s.live) (fails_too Bool (Option Def) f (has_failed now) fails) refused in
    let placed_refusal = subst (λ (b : Bool). RefusesText (placing b feed.file) feed f) s.positions stops.0 in
    refused_tree text feed f s.file s.size s.lexed (refused_erased feed f placed_refusal)

-- and it isn't for a failure before
pub never_failed_read : (start now : Parser) (f : Fault) → Read start now → (refusal Bool f ≡ refusal Bool faults.Failed) ↔ (has_failed now ≡ true) → refusal (Unit {0}) f ≡ refusal (Unit {0}) faults.Failed → ⊥
never_failed_read start now f r fails is =
    let failed : has_failed now ≡ true = fails.0 (says_failed_too (Unit {0}) Bool f is) in
    false≢true (sym r.live ∙ failed)

-- a parser that is made of a lexer of the text is at its start
pub at_start : (text : List ℕ) (lexer : Feed) (parser : Parser) → parser.cursor.scanner ≡ lexer → parser.cursor.disable_pos ≡ false
    → lexer.file ≡ 0 → lexer.size ≡ length text → is_failed lexer ≡ false → lexes text lexer.coming lexer.ending → IsAtStart text parser
at_start text lexer parser is positions file size live lexed =
    let back = sym is in
    record {
      file = subst (λ (f : Feed). f.file ≡ 0) back file;
      size = subst (λ (f : Feed). f.size ≡ length text) back size;
      live = subst (λ (f : Feed). is_failed f ≡ false) back live;
      lexed = subst (λ (f : Feed). lexes text f.coming f.ending) back lexed;
      positions = positions;
    }

-- The invariant of a loop that reads, from its start to its end.
pub loop_reads_nothing : (start : Parser) → has_failed start ≡ false → HasRead start start
loop_reads_nothing start live = has_read (nothing_read start live)

pub loop_reads_one : (start now next : Parser) → HasRead start now → IsRead now next → HasRead start next
loop_reads_one start now next has is = has_read (one_more_read start now next (opened has) is)

pub loop_reads_tree : (text : List ℕ) (start now next : Parser) → IsAtStart text start → HasRead start now → IsDone now next → SpellsTree text
loop_reads_tree text start now next s has done =
    let r = opened has in
    let feed = start.cursor.scanner in
    let only = only_read text start now s r done.at_end in
    (erase r.front, Spells-IsSpelt text feed (erase r.front) s.lexed (text_erased (in_file feed.file) feed r.front only.spelt))

pub loop_is_refused : (text : List ℕ) (start now : Parser) (f : Fault) → IsAtStart text start → HasRead start now
    → (refusal Bool f ≡ refusal Bool faults.Failed) ↔ (has_failed now ≡ true) → IfError (RefusesNext now.cursor) f → IfError (IsRefusedWith text) f
loop_is_refused text start now f s has fails refused = refused_read text start now f s (opened has) fails refused

pub loop_never_failed : (start now : Parser) (f : Fault) → HasRead start now → (refusal Bool f ≡ refusal Bool faults.Failed) ↔ (has_failed now ≡ true) → refusal (Unit {0}) f ≡ refusal (Unit {0}) faults.Failed → ⊥
loop_never_failed start now f has fails is = never_failed_read start now f (opened has) fails is
