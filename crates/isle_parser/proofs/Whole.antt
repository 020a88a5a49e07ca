-- A whole text: what the parser reads of the tokens to come is the one list that they spell.
use Rattle.std.proofs.Common.{◌≡◌, ℕ, true, false, List, [], ◌∷◌, Some, None, Result, Ok, Err, refl, sym, ap, subst, ◌∙◌}
use Rattle.std.specs.Global.{Vec}
use Rattle.std.specs.Prelude.{IfOk, IfErr}
use Rattle.isle_base_source.specs.declared.error.Error.{Error}
use Rattle.isle_base_source.specs.declared.pos.Pos.{Pos}
use Rattle.isle_base.specs.Place.{Placed, in_file, nowhere, placed}
use Rattle.isle_base.specs.Steps.{IfError, ended_by, is_at_end}
use Rattle.isle_base.specs.Token.{Lexeme, Ending, end, fault, Feed}
use Rattle.isle_base.specs.declared.fault.Fault.{Fault}
use Rattle.isle_ast.specs.Tree.{Definition}
use Rattle.isle_ast.specs.declared.ast.Def.{Def}
use Rattle.isle_ast.specs.Erased.{erase}
use Rattle.isle_ast.specs.MacroArgs.{definitions_have_macro_arg}
use Rattle.isle_ast.specs.TreeView.{definitions_of}
use Rattle.isle_ast.specs.Spelt.{Spells}
use Rattle.isle_parser_cursor.specs.Outcomes.{CursorSource}
use Rattle.isle_base.specs.Refusal.{RefusesIn}
use Rattle.isle_parser.specs.Parsed.{Parses, RefusesText, RefusesWith, SpellsOnly}
use Rattle.isle_parser.specs.DefinitionReaders.{definitions}
use Rattle.isle_ast.proofs.Erasing.{text_erased, text_placed}
use Rattle.isle_ast.proofs.NoMacroArgs.{spelt_has_no_macro_arg}
use Rattle.isle_parser.proofs.Reading.Definitions.{definitions_sound, definitions_complete, one_list}
use Rattle.isle_base.specs.declared.fault.Fault.TheVariants as faults

ended : (xs : List Lexeme) (ending : Ending) → ended_by xs ending ≡ true → ending ≡ end
ended [] end e = refl
ended [] (fault o) e = absurd cc
ended (x ∷ xs) ending e = absurd cc

pub at_end_ends : (feed : Feed) → is_at_end feed ≡ true → feed.ending ≡ end
at_end_ends feed e = ended feed.coming feed.ending e

-- what is read to the end of the text is spelt, and nothing else is
pub parsed : (place : ℕ → Pos) (feed : Feed) (ds : List Definition) (rest : List Placed) → definitions (placed place feed.coming) ≡ Some (ds, rest) → feed.ending ≡ end → SpellsOnly place feed ds
parsed place feed ds rest e whole =
    let spelt = definitions_sound (placed place feed.coming) rest ds e in
    record { spelt = (whole, spelt); only = λ es h. one_list (placed place feed.coming) es ds h.1 spelt }

none_some : {A : Type 0} (x : A) → None ≡ Some x → ⊥
none_some x e = cc

-- where nothing is read, nothing is spelt
pub not_parsed : (place : ℕ → Pos) (feed : Feed) → definitions (placed place feed.coming) ≡ None → (ds : List Definition) → Spells place feed ds → ⊥
not_parsed place feed e ds h = none_some (ds, []) (sym e ∙ definitions_complete ds (placed place feed.coming) h.1)

-- before a fault nothing is spelt
pub fault_spells_nothing : (place : ℕ → Pos) (feed : Feed) (offset : ℕ) → feed.ending ≡ fault offset → (ds : List Definition) → Spells place feed ds → ⊥
fault_spells_nothing place feed offset e ds h =
    let f : end ≡ fault offset = sym h.0 ∙ e in
    absurd cc

-- the text is the same, so what ends it does too
pub same_ending : (s t : CursorSource) → s ≡ t → s.ending ≡ t.ending
same_ending s t e = ap (λ (u : CursorSource). u.ending) e

pub same_text : (s t : CursorSource) (e : Error) → s ≡ t → RefusesIn s.file s.size e → RefusesIn t.file t.size e
same_text s t e is h = subst (λ (u : CursorSource). RefusesIn u.file u.size e) is h

-- what holds of the error makes another thing hold of it
pub IfError-map : (P Q : Error → Type 0) (f : Fault) → ((e : Error) → P e → Q e) → IfError P f → IfError Q f
IfError-map P Q (faults.Error e) step p = step e p
IfError-map P Q faults.Failed step p = tt
IfError-map P Q faults.Memory step p = tt

-- no pattern that is read is, or contains, a macro argument
pub whole_found : (place : ℕ → Pos) (feed : Feed) (r : Result (Vec Def) Fault) → Parses place feed r → IfOk r (λ defs. definitions_have_macro_arg (definitions_of defs.items) ≡ false)
whole_found place feed (Ok defs) h = spelt_has_no_macro_arg (definitions_of defs.items) (placed place feed.coming) h.spelt.1
whole_found place feed (Err e) h = tt

-- ---- without positions

pub erased_found : (feed : Feed) (r : Result (Vec Def) Fault) → Parses nowhere feed r → IfOk r (λ defs. (ds : List Definition) × Spells (in_file feed.file) feed ds × (definitions_of defs.items ≡ erase ds))
erased_found feed (Ok defs) h =
    let d = text_placed (in_file feed.file) feed (definitions_of defs.items) h.spelt in
    (d.0, d.2, sym d.1)
erased_found feed (Err e) h = tt

pub erased_refused : (feed : Feed) (r : Result (Vec Def) Fault) → Parses nowhere feed r → IfErr r (RefusesText (in_file feed.file) feed)
erased_refused feed (Ok defs) h = tt
erased_refused feed (Err f) h =
    IfError-map (RefusesWith nowhere feed) (RefusesWith (in_file feed.file) feed) f
    (λ e refused. (λ ds spelt. refused.0 (erase ds) (text_erased (in_file feed.file) feed ds spelt), refused.1))
    h.0
