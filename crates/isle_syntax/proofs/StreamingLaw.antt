-- Formatting one definition after another: what was read so far, and what is written of it.
use Rattle.std.proofs.Common.{◌≡◌, ◌↔◌, ℕ, ◌<◌, Bool, true, false, List, [], length, ◌∙◌}
use Rattle.isle_ast.specs.Erased.{erase}
use Rattle.isle_ast.proofs.Erasing.{text_erased}
use Rattle.isle_ast.proofs.NoMacroArgs.{spelt_has_no_macro_arg}
use Rattle.isle_base.specs.Place.{in_file, placed}
use Rattle.isle_base.specs.Steps.{IfError}
use Rattle.isle_base.specs.declared.fault.Fault.{Fault}
use Rattle.isle_base.specs.declared.fault.Fault.TheVariants as faults
use Rattle.isle_parser.specs.NextDefinition.{RefusesNext, has_failed}
use Rattle.isle_parser.specs.declared.parser.Parser.{Parser}
use Rattle.isle_parser_cursor.specs.Outcomes.{tokens}
use Rattle.isle_printer.specs.Printed.{printed_text}
use Rattle.isle_printer.proofs.Printing.{IsPrinted-from_text}
use Rattle.isle_printer.proofs.PrintLaw.{IsPrinted-erased}
use Rattle.isle_syntax.specs.Format.{IsFormatted}
use Rattle.isle_syntax.specs.Streaming.{IsAtStart, IsDone, IsPut, IsRead, IsRefusedWith}
use Rattle.isle_syntax.proofs.FormatLaw.{formatted}
use Rattle.isle_syntax.proofs.ReadingLaw.{Read, never_failed_read, nothing_read, one_more_read, only_read, read_takes, refusal, refused_read}

-- What was read so far is printed.
pub record Written (width : ℕ) (start now : Parser) (text : List ℕ) : Type 0 where
  read : Read start now
  written : text ≡ printed_text width read.front

-- the same, for an invariant that nothing looks into
pub data HasWritten (width : ℕ) (start now : Parser) (text : List ℕ) : Type 0 where
  has_written : Written width start now text → HasWritten width start now text

opened : {width : ℕ} {start now : Parser} {text : List ℕ} → HasWritten width start now text → Written width start now text
opened (has_written w) = w

pub nothing_written : (width : ℕ) (start : Parser) (text : List ℕ) → text ≡ [] → has_failed start ≡ false → HasWritten width start start text
nothing_written width start text empty live = has_written (record { read = nothing_read start live; written = empty })

-- a definition that is written is read
abbrev put_read : {width : ℕ} {now next : Parser} {before after : List ℕ} → IsPut width now next before after → IsRead now next
put_read put = record { definition = put.definition; spelt = put.spelt; same = put.same; live = put.live }

-- one definition more
pub one_more_written : (width : ℕ) (start now next : Parser) (before after : List ℕ) → HasWritten width start now before → IsPut width now next before after → HasWritten width start next after
one_more_written width start now next before after has put =
    let w = opened has in
    has_written (record { read = one_more_read start now next w.read (put_read put); written = put.written w.read.front w.written })

-- and it takes tokens
pub put_takes : (width : ℕ) (now next : Parser) (before after : List ℕ) → IsPut width now next before after → length (tokens next.cursor) < length (tokens now.cursor)
put_takes width now next before after put = read_takes now next (put_read put)

-- what is written at the end is the print of the text's tree
pub all_written : (width : ℕ) (text answer after : List ℕ) (start now next : Parser) → IsAtStart text start → HasWritten width start now answer → IsDone now next → after ≡ answer → IsFormatted width text after
all_written width text answer after start now next s has done kept =
    let w = opened has in
    let read = w.read.front in
    let feed = start.cursor.scanner in
    let only = only_read text start now s w.read done.at_end in
    let plain = spelt_has_no_macro_arg read (placed (in_file feed.file) feed.coming) only.spelt.1 in
    let is = (IsPrinted-erased width read after).0 (IsPrinted-from_text width read after plain (kept ∙ w.written)) in
    formatted width text after feed (erase read) s.lexed (text_erased (in_file feed.file) feed read only.spelt) is

-- where the next definition is rejected, so is the text
pub refused_next : (width : ℕ) (text answer : List ℕ) (start now : Parser) (f : Fault) → IsAtStart text start → HasWritten width start now answer
    → (refusal Bool f ≡ refusal Bool faults.Failed) ↔ (has_failed now ≡ true) → IfError (RefusesNext now.cursor) f → IfError (IsRefusedWith text) f
refused_next width text answer start now f s has fails refused = refused_read text start now f s (opened has).read fails refused

-- and it isn't for a failure before
pub never_failed : (width : ℕ) (start now : Parser) (text : List ℕ) (f : Fault) → HasWritten width start now text → (refusal Bool f ≡ refusal Bool faults.Failed) ↔ (has_failed now ≡ true) → refusal (Unit {0}) f ≡ refusal (Unit {0}) faults.Failed → ⊥
never_failed width start now text f has fails is = never_failed_read start now f (opened has).read fails is
