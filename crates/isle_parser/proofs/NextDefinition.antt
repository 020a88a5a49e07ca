-- One definition after another: what the next one says of the whole text.
use Rattle.std.proofs.Common.{◌≡◌, ◌↔◌, ◌||◌, ◌⊎◌, ◌∷◌, ◌++◌, ℕ, Bool, true, false, List, [], Option, Some, None, Result, Ok, Err, refl, sym, subst, ◌∙◌, inl, inr}
use Rattle.isle_ast.specs.Grammar.{SpellsDefinition}
use Rattle.isle_ast.specs.MacroArgs.{definition_has_macro_arg}
use Rattle.isle_ast.specs.Tree.{Definition}
use Rattle.isle_ast.proofs.NoMacroArgs.{spelt_definition_has_no_macro_arg}
use Rattle.isle_base_source.specs.declared.error.Error.{Error}
use Rattle.isle_base.specs.declared.fault.Fault.{Fault}
use Rattle.isle_base.specs.declared.fault.Fault.TheVariants as faults
use Rattle.isle_base_source.specs.declared.pos.Pos.{Pos}
use Rattle.isle_base.specs.Place.{Placed, in_file, placed}
use Rattle.isle_base.specs.Steps.{IfError, Rises, ended_by, failed_by, is_at_end, is_failed}
use Rattle.isle_base.specs.Token.{Ending, Feed, Lexeme, Tok, end, fault}
use Rattle.isle_ast.specs.declared.ast.Def.{Def}
use Rattle.isle_parser.specs.declared.parser.Parser.{Parser}
use Rattle.isle_parser.specs.DefinitionReaders.{definition, definitions}
use Rattle.isle_parser.specs.NextDefinition.{LeavesNone, RefusesNext, SpellsNoDefinition, has_failed}
use Rattle.isle_parser.specs.Parsed.{FailsAs, Parses, RefusesText, RefusesWith, SpellsOnly}
use Rattle.isle_parser.specs.Positions.{OneHasKnownPositions, OneHasPositions}
use Rattle.isle_parser.proofs.Positions.Definitions.{definition_known, definition_positions}
use Rattle.isle_parser.proofs.Reading.Definitions.{definition_begins, definition_not_read, definition_read, definition_shrinks, definition_sound, one_definition}
use Rattle.isle_parser.proofs.Whole.{at_end_ends, fault_spells_nothing, not_parsed, parsed, same_ending, same_text}
use Rattle.isle_parser_cursor.specs.declared.cursor.Cursor.{Cursor}
use Rattle.isle_parser_cursor.specs.Outcomes.{CursorSource, StandsAtFault, left, placing, source, tokens}
use Rattle.isle_base.specs.Refusal.{RefusesIn}
use Rattle.isle_parser_cursor.proofs.Ahead.{left_spent, left_unspent}
use Rattle.isle_parser_cursor.specs.Reading.{ends, is_ahead, many}
use Rattle.isle_parser_cursor.proofs.Loops.{behind_front, loop_begin, loop_end, loop_none, loop_push}
use Rattle.isle_parser_cursor.proofs.Readers.{begins_node}

-- ---- one definition

none_some : {A : Type 0} (x : A) → None ≡ Some x → ⊥
none_some x e = cc

-- where no definition is read, none is spelt
spells_none : (all : List Placed) → definition all ≡ None → SpellsNoDefinition all
spells_none all e d rest h = none_some (d, rest) (sym e ∙ definition_read d all rest h)

same_fault : (s t : CursorSource) (e : Error) → s ≡ t → StandsAtFault s e → StandsAtFault t e
same_fault s t e is h = subst (λ (u : CursorSource). StandsAtFault u e) is h

-- the fault is in the text
stands_within : (s : CursorSource) (e : Error) → StandsAtFault s e → RefusesIn s.file s.size e
stands_within s e h = (h.0, h.2, h.3)

-- a cursor of which no token is taken
abbrev pub fresh : Cursor → Cursor
fresh p = record p { is_spent = false }

fresh_left : (p : Cursor) → left (fresh p) ≡ tokens p
unfolding left
fresh_left p = refl

-- a definition is read, and the token ahead isn't taken
pub read_whole : (old mid new : Cursor) (d : Definition) → definition (left (fresh old)) ≡ Some (d, left mid) → (mid.is_spent ≡ false) × (new ≡ mid) → definition (tokens old) ≡ Some (d, tokens new)
read_whole old mid new d read h =
    let here : definition (tokens old) ≡ Some (d, left mid) = rw (fresh_left old) at read in
    rw h.1 (here ∙ rw (left_unspent mid h.0) refl)

-- a definition that is read up to the fault leaves nothing
leaves_none : (all : List Placed) (d : Definition) → definition all ≡ Some (d, []) → LeavesNone all
leaves_none all d read e rest h = (one_definition e d all rest [] h (definition_sound all [] d read)).1

-- a definition is read, and the lexer rejects its text right after it
pub refused_after : (old mid : Cursor) (d : Definition) (f : Fault) → is_at_end old.scanner ≡ false → source mid ≡ source old → definition (left (fresh old)) ≡ Some (d, left mid) → mid.is_spent ≡ true
    → IfError (StandsAtFault (source mid)) f → IfError (RefusesNext old) f
refused_after old mid d (faults.Error e) before same read spent h =
    let here : definition (tokens old) ≡ Some (d, left mid) = rw (fresh_left old) at read in
    let whole : definition (tokens old) ≡ Some (d, []) = rw (left_spent mid spent) at here in
    let stands = same_fault (source mid) (source old) e same h in
    record {
      because = inr (stands, leaves_none (tokens old) d whole);
      stands = stands_within (source old) e stands;
      before_end = before;
    }
refused_after old mid d faults.Failed before same read spent h = tt
refused_after old mid d faults.Memory before same read spent h = tt

-- no definition is read, and the error is in the text
pub refused_in : (old mid : Cursor) (e : Error) → is_at_end old.scanner ≡ false → source mid ≡ source old → definition (left (fresh old)) ≡ None → RefusesIn mid.scanner.file mid.scanner.size e → RefusesNext old e
refused_in old mid e before same none h =
    record {
      because = inl (spells_none (tokens old) (rw (fresh_left old) at none));
      stands = same_text (source mid) (source old) e same h;
      before_end = before;
    }

-- no definition is read, and the lexer rejects its text before one ends
pub refused_before : (old mid : Cursor) (f : Fault) → is_at_end old.scanner ≡ false → source mid ≡ source old → definition (left (fresh old)) ≡ None → IfError (StandsAtFault (source mid)) f → IfError (RefusesNext old) f
refused_before old mid (faults.Error e) before same none h = refused_in old mid e before same none (stands_within (source mid) e h)
refused_before old mid faults.Failed before same none h = tt
refused_before old mid faults.Memory before same none h = tt

pub next_spelt : (old new : Cursor) (d : Definition) → definition (tokens old) ≡ Some (d, tokens new) → SpellsDefinition d (tokens old) (tokens new)
next_spelt old new d e = definition_sound (tokens old) (tokens new) d e

pub next_only : (old new : Cursor) (d : Definition) → definition (tokens old) ≡ Some (d, tokens new) → (e : Definition) (rest : List Placed) → SpellsDefinition e (tokens old) rest → (e ≡ d) × (rest ≡ tokens new)
next_only old new d read e rest h = one_definition e d (tokens old) rest (tokens new) h (next_spelt old new d read)

in_its_file : (old new : Cursor) (d : Definition) → definition (tokens old) ≡ Some (d, tokens new) → old.disable_pos ≡ false → SpellsDefinition d (placed (in_file old.scanner.file) old.scanner.coming) (tokens new)
in_its_file old new d read keeps = subst (λ (b : Bool). SpellsDefinition d (placed (placing b old.scanner.file) old.scanner.coming) (tokens new)) keeps (next_spelt old new d read)

pub next_positions : (old new : Cursor) (d : Definition) → definition (tokens old) ≡ Some (d, tokens new) → old.disable_pos ≡ false → OneHasPositions old.scanner.file old.scanner.coming d
next_positions old new d read keeps = definition_positions old.scanner.file old.scanner.coming d (tokens new) (in_its_file old new d read keeps)

pub next_known : (old new : Cursor) (d : Definition) → Rises 0 old.scanner.coming → definition (tokens old) ≡ Some (d, tokens new) → old.disable_pos ≡ false → OneHasKnownPositions d
next_known old new d rising read keeps = definition_known old.scanner.file old.scanner.coming d (tokens new) rising (in_its_file old new d read keeps)

pub next_no_macro_arg : (old new : Cursor) (d : Definition) → definition (tokens old) ≡ Some (d, tokens new) → definition_has_macro_arg d ≡ false
next_no_macro_arg old new d read = spelt_definition_has_no_macro_arg d (tokens old) (tokens new) (next_spelt old new d read)

-- ---- what the loop over the definitions returns

-- where nothing is at its end and nothing failed, a token is ahead
ends_not : (xs : List Lexeme) (place : ℕ → Pos) (ending : Ending) → ended_by xs ending ≡ false → failed_by xs ending ≡ false → ends (placed place xs) ≡ false
ends_not [] place end at_end failed = absurd cc
ends_not [] place (fault o) at_end failed = absurd cc
ends_not (x ∷ xs) place ending at_end failed = refl

-- an answer, for its type
abbrev refusal : Fault → Result (Option Def) Fault
refusal f = Err f

abbrev found : Option Def → Result (Option Def) Fault
found x = Ok x

-- where an answer isn't `Failed`, nothing had failed
not_failed : (r : Result (Option Def) Fault) (before : Bool) → (r ≡ refusal faults.Failed → ⊥) → (r ≡ refusal faults.Failed) ↔ (before ≡ true) → before ≡ false
not_failed r true other h = absurd (other (h.1 refl))
not_failed r false other h = refl

found_no_failure : (x : Option Def) → found x ≡ refusal faults.Failed → ⊥
found_no_failure x is = cc

error_no_failure : (e : Error) → refusal (faults.Error e) ≡ refusal faults.Failed → ⊥
error_no_failure e is = cc

memory_no_failure : refusal faults.Memory ≡ refusal faults.Failed → ⊥
memory_no_failure is = cc

-- where a definition is found, nothing had failed
pub found_lives : (x : Option Def) (before : Bool) → (found x ≡ refusal faults.Failed) ↔ (before ≡ true) → before ≡ false
found_lives x before h = not_failed (found x) before (found_no_failure x) h

-- `Failed` is returned exactly where something had failed
fails_as : (f : Fault) (feed : Feed) → (refusal f ≡ refusal faults.Failed) ↔ (is_failed feed ≡ true) → FailsAs feed f
fails_as (faults.Error e) feed h = not_failed (refusal (faults.Error e)) (is_failed feed) (error_no_failure e) h
fails_as faults.Failed feed h = h.0 refl
fails_as faults.Memory feed h = not_failed (refusal faults.Memory) (is_failed feed) memory_no_failure h

-- not one of two, so neither
neither : (a b : Bool) → a || b ≡ false → (a ≡ false) × (b ≡ false)
neither true b e = absurd cc
neither false b e = (refl, e)

pub or_false : (a : Bool) → (a || false) ≡ a
or_false true = refl
or_false false = refl

-- an error in the middle rejects the whole text
loop_refused : (start now : Cursor) (front : List Definition) (e : Error) → is_failed now.scanner ≡ false → source now ≡ source start
    → behind_front front (many ends definition (tokens now)) ≡ definitions (tokens start) → RefusesNext now e → RefusesWith (placing start.disable_pos start.scanner.file) start.scanner e
loop_refused start now front e live same so_far h =
    let place = placing start.disable_pos start.scanner.file in
    let stands = same_text (source now) (source start) e same h.stands in
    elim h.because [
      | inl none ↦
          let here = ends_not now.scanner.coming (placing now.disable_pos now.scanner.file) now.scanner.ending h.before_end live in
          let nothing = loop_none definition ends definition_shrinks front (tokens now) (definitions (tokens start)) here (definition_not_read (tokens now) none) so_far in
          (not_parsed place start.scanner nothing, stands)
      | inr broken ↦
          let there = same_fault (source now) (source start) e same broken.0 in
          (fault_spells_nothing place start.scanner there.0 there.1, stands)
    ]

loop_text : (start now : Parser) (front : List Definition) (f : Fault) → source now.cursor ≡ source start.cursor
    → behind_front front (many ends definition (tokens now.cursor)) ≡ definitions (tokens start.cursor) → (refusal f ≡ refusal faults.Failed) ↔ (has_failed now ≡ true)
    → IfError (RefusesNext now.cursor) f → RefusesText (placing start.cursor.disable_pos start.cursor.scanner.file) start.cursor.scanner f
loop_text start now front (faults.Error e) same so_far fails h =
    let live = not_failed (refusal (faults.Error e)) (has_failed now) (error_no_failure e) fails in
    loop_refused start.cursor now.cursor front e (neither (is_failed now.cursor.scanner) now.refused live).0 same so_far h
loop_text start now front faults.Failed same so_far fails h = tt
loop_text start now front faults.Memory same so_far fails h = tt

-- what the loop returns where the next definition is rejected
pub loop_stops_at : (start now : Parser) (front : List Definition) (f : Fault) → source now.cursor ≡ source start.cursor
    → behind_front front (many ends definition (tokens now.cursor)) ≡ definitions (tokens start.cursor) → has_failed now ≡ is_failed start.cursor.scanner
    → (refusal f ≡ refusal faults.Failed) ↔ (has_failed now ≡ true) → IfError (RefusesNext now.cursor) f
    → Parses (placing start.cursor.disable_pos start.cursor.scanner.file) start.cursor.scanner (Err f)
loop_stops_at start now front f same so_far fails_with fails h =
    let whole = subst (λ (b : Bool). (refusal f ≡ refusal faults.Failed) ↔ (b ≡ true)) fails_with fails in
    (loop_text start now front f same so_far fails h, fails_as f start.cursor.scanner whole)

-- at the start nothing was read
pub loop_starts : (all : List Placed) → behind_front [] (many ends definition all) ≡ definitions all
unfolding definitions
loop_starts all = loop_begin (many ends definition all)

-- the next definition goes after those that were read
ahead_not_ends : (passes : Tok → Bool) (all : List Placed) → is_ahead passes all ≡ true → ends all ≡ false
ahead_not_ends passes [] h = absurd cc
ahead_not_ends passes (x ∷ xs) h = refl

pub loop_goes_on : (front : List Definition) (d : Definition) (all rest : List Placed) (total : Option (List Definition × List Placed)) → SpellsDefinition d all rest
    → behind_front front (many ends definition all) ≡ total → behind_front (front ++ d ∷ []) (many ends definition rest) ≡ total
loop_goes_on front d all rest total h so_far = loop_push definition ends definition_shrinks front all rest d total (ahead_not_ends begins_node all (definition_begins d all rest h).0) (definition_read d all rest h) so_far

-- the list is whole at the end
at_end_is : (xs : List Lexeme) (place : ℕ → Pos) (ending : Ending) → ended_by xs ending ≡ true → ends (placed place xs) ≡ true
at_end_is [] place ending h = refl
at_end_is (x ∷ xs) place ending h = absurd cc

pub loop_whole : (start now : Cursor) (front : List Definition) → source now ≡ source start → behind_front front (many ends definition (tokens now)) ≡ definitions (tokens start)
    → is_at_end now.scanner ≡ true → SpellsOnly (placing start.disable_pos start.scanner.file) start.scanner front
loop_whole start now front same so_far at_end =
    let here = at_end_is now.scanner.coming (placing now.disable_pos now.scanner.file) now.scanner.ending at_end in
    let read = loop_end definition ends definition_shrinks front (tokens now) (definitions (tokens start)) here so_far in
    let ending : start.scanner.ending ≡ end = sym (same_ending (source now) (source start) same) ∙ at_end_ends now.scanner at_end in
    parsed (placing start.disable_pos start.scanner.file) start.scanner front (tokens now) read ending

-- the tokens rise from the first call on
pub risen : (start now : Parser) → (now ≡ start) ⊎ Rises 0 start.cursor.scanner.coming → Rises 0 now.cursor.scanner.coming → Rises 0 start.cursor.scanner.coming
risen start now (inl same) h = subst (λ (p : Parser). Rises 0 p.cursor.scanner.coming) same h
risen start now (inr rising) h = rising
