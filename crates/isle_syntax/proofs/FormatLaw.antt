-- The print of the one tree that a text spells, from what lexer, parser and printer promise.
use Rattle.std.proofs.Common.{◌≡◌, ℕ, ◌≤◌, length, List, [], refl, sym, subst, arith}
use Rattle.isle_base_source.specs.declared.pos.Pos.{Pos}
use Rattle.isle_base.specs.Lexing.{lexes}
use Rattle.isle_base.specs.Place.{nowhere, placed}
use Rattle.isle_base.specs.Token.{end, fault, Feed}
use Rattle.isle_base.proofs.Complete.{Lexes-unique}
use Rattle.isle_parser.proofs.Reading.Definitions.{one_list}
use Rattle.isle_parser.proofs.Whole.{IfError-map}
use Rattle.isle_ast.specs.Tree.{Definition}
use Rattle.isle_ast.specs.Erased.{erase}
use Rattle.isle_ast.specs.Grammar.{SpellsDefinitions}
use Rattle.isle_ast.specs.Spelt.{Spells, IsSpelt}
use Rattle.isle_ast.proofs.Erasing.{text_erased}
use Rattle.isle_printer.specs.Printed.{IsPrinted}
use Rattle.isle_ast.proofs.Writable.Spelt.{spelt_is_writable}
use Rattle.isle_printer.proofs.Printing.{IsPrinted-text, WiderHasNoMoreLines-from_text}
use Rattle.isle_printer.proofs.PrintLaw.{IsPrinted-ReadsBack, IsPrinted-erased, IsPrinted-tokens}
use Rattle.isle_printer.proofs.ShortLines.Definitions.{IsPrinted-HasShortLines}
use Rattle.isle_parser.specs.Parsed.{RefusesText, RefusesWith}
use Rattle.isle_base.specs.Refusal.{RefusesIn}
use Rattle.isle_base.specs.declared.fault.Fault.{Fault}
use Rattle.isle_base.specs.Steps.{IfError, RefusesStart}
use Rattle.isle_syntax.specs.Format.{IsFormatted, IsRefused, OfItsTree}
use Rattle.isle_syntax.specs.Streaming.{IsRefusedWith}

-- what is spelt in some places is spelt erased
IsSpelt-erased : (place : ℕ → Pos) (text : List ℕ) (ds : List Definition) → IsSpelt place text ds → IsSpelt nowhere text (erase ds)
IsSpelt-erased place text ds s =
    let feed : Feed = record { file = 0; coming = s.0; ending = end; size = 0 } in
    (s.0, s.1, (text_erased place feed ds (refl, s.2)).1)

-- two trees of one text, erased, are one
IsSpelt-one : (text : List ℕ) (ds es : List Definition) → IsSpelt nowhere text ds → IsSpelt nowhere text es → ds ≡ es
IsSpelt-one text ds es s t =
    let same = Lexes-unique (length text) text t.0 s.0 end end t.1 s.1 in
    one_list (placed nowhere s.0) ds es s.2 (subst (λ l. SpellsDefinitions es (placed nowhere l)) same.0 t.2)

-- a tree that is spelt nowhere is erased
erase-spelt : (text : List ℕ) (ds : List Definition) → IsSpelt nowhere text ds → erase ds ≡ ds
erase-spelt text ds s = IsSpelt-one text (erase ds) ds (IsSpelt-erased nowhere text ds s) s

IsPrinted-IsSpelt : (width : ℕ) (place : ℕ → Pos) (text answer : List ℕ) (ds : List Definition) → IsSpelt place text ds → IsPrinted width ds answer → IsSpelt nowhere answer (erase ds)
IsPrinted-IsSpelt width place text answer ds s is = IsPrinted-ReadsBack width ds answer is (placed place s.0) s.2

pub IsFormatted-from : (width : ℕ) (text answer : List ℕ) (tree : List Definition) → IsSpelt nowhere text tree → IsPrinted width tree answer → IsFormatted width text answer
IsFormatted-from width text answer tree s is =
    let erased = erase-spelt text tree s in
    let back : IsSpelt nowhere answer tree =
    subst (λ t. IsSpelt nowhere answer t) erased (IsPrinted-IsSpelt width nowhere text answer tree s is) in
    let writable = spelt_is_writable tree (placed nowhere s.0) s.2 in
    record {
      tree = tree;
      spelt = s;
      only = λ place ds t. IsSpelt-one text (erase ds) tree (IsSpelt-erased place text ds t) s;
      printed = is;
      read_back = back;
      equal_prints = λ place other ds t. (
        λ print. IsSpelt-one answer (erase ds) tree (IsPrinted-IsSpelt width place other answer ds t print) back,
        λ same. (IsPrinted-erased width ds answer).1 (subst (λ d. IsPrinted width d answer) (sym same) is),
      );
      short_lines = λ some. IsPrinted-HasShortLines width tree answer some writable is;
      fewer_lines = WiderHasNoMoreLines-from_text width tree answer (IsPrinted-text width tree answer is);
      other_widths = λ other print also. (
        subst (λ t. IsSpelt nowhere print t) erased (IsPrinted-IsSpelt other nowhere text print tree s also),
        IsPrinted-tokens width other tree answer print writable is also,
      );
    }

pub IsRefused-from : (text : List ℕ) → ((ds : List Definition) → IsSpelt nowhere text ds → ⊥) → IsRefused text
IsRefused-from text none place ds s = none (erase ds) (IsSpelt-erased place text ds s)

-- a text that begins with a fault spells nothing
pub fault_spells_nothing : (text : List ℕ) (offset : ℕ) → lexes text [] (fault offset) → (ds : List Definition) → IsSpelt nowhere text ds → ⊥
fault_spells_nothing text offset l ds s = absurd (cc (Lexes-unique (length text) text s.0 [] end (fault offset) s.1 l).1)

-- a fault stands within its text
pub fault_within : (text : List ℕ) (offset : ℕ) → lexes text [] (fault offset) → offset ≤ length text
fault_within text offset l = omega (arith, l.3)

-- what a lexer of the whole text has to give spells what the text spells
pub Spells-IsSpelt : (text : List ℕ) (feed : Feed) (ds : List Definition) → lexes text feed.coming feed.ending → Spells nowhere feed ds → IsSpelt nowhere text ds
Spells-IsSpelt text feed ds l s = (feed.coming, subst (λ e. lexes text feed.coming e) s.0 l, s.1)

pub IsSpelt-Spells : (text : List ℕ) (feed : Feed) (ds : List Definition) → lexes text feed.coming feed.ending → IsSpelt nowhere text ds → Spells nowhere feed ds
IsSpelt-Spells text feed ds l s =
    let same = Lexes-unique (length text) text s.0 feed.coming end feed.ending s.1 l in
    (sym same.1, subst (λ tokens. SpellsDefinitions ds (placed nowhere tokens)) same.0 s.2)

-- A text that begins with a fault is rejected there.
pub refused_start : (text : List ℕ) (f : Fault) → IfError (RefusesStart 0 text) f → IfError (IsRefusedWith text) f
refused_start text f =
    IfError-map (RefusesStart 0 text) (IsRefusedWith text) f (λ e s. (IsRefused-from text (fault_spells_nothing text s.0 s.1), (s.0, fault_within text s.0 s.1, s.2)))

-- A text of whose lexer the parser makes no tree is rejected where the parser rejects it.
pub refused_tree : (text : List ℕ) (feed : Feed) (f : Fault) → feed.file ≡ 0 → feed.size ≡ length text
    → lexes text feed.coming feed.ending → RefusesText nowhere feed f
    → IfError (IsRefusedWith text) f
refused_tree text feed f file size l =
    IfError-map (RefusesWith nowhere feed) (IsRefusedWith text) f (λ e refused. (
      IsRefused-from text (λ ds spelt. refused.0 ds (IsSpelt-Spells text feed ds l spelt)),
      subst (λ size. RefusesIn 0 size e) size (subst (λ file. RefusesIn file feed.size e) file refused.1),
    ))

-- what holds of the one tree of a text holds of each tree that it spells
pub of_its_tree : {width : ℕ} {text answer : List ℕ} (f : IsFormatted width text answer)
    → (P : List Definition → Type 0) → P f.tree → OfItsTree text P
of_its_tree {text = text} f P p other t = subst P (IsSpelt-one text f.tree other f.spelt t) p

-- the print of the tree
pub formatted : (width : ℕ) (text answer : List ℕ) (feed : Feed) (tree : List Definition)
    → lexes text feed.coming feed.ending → Spells nowhere feed tree → IsPrinted width tree answer
    → IsFormatted width text answer
formatted width text answer feed tree l spelt is =
    IsFormatted-from width text answer tree (Spells-IsSpelt text feed tree l spelt) is
