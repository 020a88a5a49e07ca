-- Steps through the tokens of a text, up to a place in it.
use Rattle.std.specs.Prelude.{ℕ, List, [], Bool, false, Option, None, Some, nat_lt, if◌then◌else◌}
use Rattle.isle_base.specs.Lexing.{lexes}
use Rattle.isle_base.specs.Token.{Ending, Feed, end, fault}
use Rattle.isle_lsp_text.specs.Definitions.{begins_definition}

-- a scanner has all tokens of a text; without one, a lexical error is before the first token
abbrev pub Scans : List ℕ → Option Feed → Type 0
Scans text (Some scanner) = lexes text scanner.coming scanner.ending
Scans text None = (offset : ℕ) × lexes text [] (fault offset)

abbrev pub is_fault_before : (place : ℕ) → Ending → Bool
is_fault_before place end = false
is_fault_before place (fault offset) = nat_lt offset place

-- the lists that are open before a token at an offset, if these were before: a definition begins in none
unfoldable pub lists_before : {L : Type 0} → List ℕ → (offset : ℕ) → List L → List L
lists_before text offset ls = if begins_definition text offset then [] else ls
