-- The trees of texts and of their tidy texts.
use Rattle.std.proofs.Common.{◌≡◌, ◌↔◌, ℕ, List, Result, Ok, Err, IfOk, sym, subst}
use Rattle.isle_base.specs.Lexing.{lexes}
use Rattle.isle_base.specs.Place.{nowhere, placed}
use Rattle.isle_base.specs.Token.{Lexeme, end}
use Rattle.isle_base.proofs.Complete.{Lexes-unique}
use Rattle.isle_base_source.specs.declared.pos.Pos.{Pos}
use Rattle.isle_ast.specs.Grammar.{SpellsDefinitions}
use Rattle.isle_ast.specs.Spelt.{IsSpelt}
use Rattle.isle_ast.specs.Tree.{Definition}
use Rattle.isle_tidy_core.specs.Refused.{HasDocument}
use Rattle.isle_tidy_core.specs.Tidied.{IsTidyTextOf}
use Rattle.isle_tidy_core.proofs.Existing.{lexed_document}
use Rattle.isle_tidy_core.proofs.TidyTexts.{tidied_tokens}
use Rattle.isle_ast.proofs.Writable.Spelt.{spelt_is_writable}
use Rattle.isle_printer.specs.Printed.{IsPrinted}
use Rattle.isle_syntax.specs.Format.{SpellsTree, OfItsTree}
use Rattle.isle_tidy_laws.proofs.Balanced.{definitions_match}
use Rattle.isle_tidy_laws.proofs.PrintedDefinitions.{definitions_tidy}

pub spelt_document : (place : ℕ → Pos) (text : List ℕ) (ds : List Definition) → IsSpelt place text ds → HasDocument text
spelt_document place text ds s = lexed_document text s.0 s.1 (definitions_match place ds s.0 s.2)

same_tree : (text other : List ℕ) (ds : List Definition) (xs ys : List Lexeme) → lexes text xs end → lexes other ys end → placed nowhere xs ≡ placed nowhere ys → IsSpelt nowhere text ds → IsSpelt nowhere other ds
same_tree text other ds xs ys l m e s =
    let one : s.0 ≡ xs = (Lexes-unique _ text s.0 xs end end s.1 l).0 in
    (ys, m, subst (SpellsDefinitions ds) e (subst (λ ts. SpellsDefinitions ds (placed nowhere ts)) one s.2))

pub tidying_keeps_trees : (text answer : List ℕ) (ds : List Definition) → IsTidyTextOf text answer → IsSpelt nowhere text ds ↔ IsSpelt nowhere answer ds
tidying_keeps_trees text answer ds t =
    let h = tidied_tokens text answer t in
    (same_tree text answer ds h.0 h.1 h.2 h.3 h.4, same_tree answer text ds h.1 h.0 h.3 h.2 (sym h.4))

-- what `format` answers is tidy
pub formatted_tidy : (text answer : List ℕ) (width : ℕ) → SpellsTree text → OfItsTree text (λ tree. IsPrinted width tree answer) → IsTidyTextOf answer answer
formatted_tidy text answer width spelt printed =
    definitions_tidy width spelt.0 answer (spelt_is_writable spelt.0 _ spelt.1.2) (printed spelt.0 spelt.1)

pub format_answers : {T E : Type 0} (bytes : T → List ℕ) (result : Result T E) (text : List ℕ) (width : ℕ) → IfOk result (λ _. SpellsTree text)
    → IfOk result (λ answer. OfItsTree text (λ tree. IsPrinted width tree (bytes answer))) → IfOk result (λ answer. IsTidyTextOf (bytes answer) (bytes answer))
format_answers bytes (Err fault) text width spelt printed = tt
format_answers bytes (Ok answer) text width spelt printed = formatted_tidy text (bytes answer) width spelt printed
