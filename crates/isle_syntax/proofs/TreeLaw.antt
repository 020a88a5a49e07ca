-- The tree of a text, with its positions, from what lexer and parser promise.
use Rattle.std.proofs.Common.{◌≡◌, ℕ, length, List, sym, subst}
use Rattle.isle_base.specs.declared.fault.Fault.{Fault}
use Rattle.isle_base.specs.Lexing.{lexes}
use Rattle.isle_base.specs.Place.{in_file, placed}
use Rattle.isle_base.specs.Steps.{IfError}
use Rattle.isle_base.specs.Token.{end, Feed}
use Rattle.isle_base.proofs.Complete.{Lexes-unique}
use Rattle.isle_parser.specs.Parsed.{RefusesText}
use Rattle.isle_ast.specs.Grammar.{SpellsDefinitions}
use Rattle.isle_ast.specs.Spelt.{Spells, IsSpelt}
use Rattle.isle_ast.specs.Tree.{Definition}
use Rattle.isle_syntax.specs.Streaming.{IsRefusedWith}
use Rattle.isle_syntax.specs.Trees.{IsTreeOf}
use Rattle.isle_syntax.proofs.FormatLaw.{refused_tree}
use Rattle.isle_syntax.proofs.ReadingLaw.{refused_erased}

-- what a lexer of the whole text has to give spells what the text spells, with its positions
placed-IsSpelt : (text : List ℕ) (feed : Feed) (ds : List Definition) → lexes text feed.coming feed.ending → Spells (in_file 0) feed ds → IsSpelt (in_file 0) text ds
placed-IsSpelt text feed ds l s = (feed.coming, subst (λ e. lexes text feed.coming e) s.0 l, s.1)

IsSpelt-placed : (text : List ℕ) (feed : Feed) (ds : List Definition) → lexes text feed.coming feed.ending → IsSpelt (in_file 0) text ds → Spells (in_file 0) feed ds
IsSpelt-placed text feed ds l s =
    let same = Lexes-unique (length text) text s.0 feed.coming end feed.ending s.1 l in
    (sym same.1, subst (λ tokens. SpellsDefinitions ds (placed (in_file 0) tokens)) same.0 s.2)

-- a text of whose lexer the parser makes no tree is rejected where the parser rejects it
pub refused_text : (text : List ℕ) (feed : Feed) (f : Fault) → feed.file ≡ 0 → feed.size ≡ length text
    → lexes text feed.coming feed.ending → RefusesText (in_file feed.file) feed f → IfError (IsRefusedWith text) f
refused_text text feed f file size l refused = refused_tree text feed f file size l (refused_erased feed f refused)

-- the one tree that a lexer of the whole text spells is that of the text
pub tree-of : (text : List ℕ) (feed : Feed) (ds : List Definition) → feed.file ≡ 0 → lexes text feed.coming feed.ending
    → Spells (in_file feed.file) feed ds → ((es : List Definition) → Spells (in_file feed.file) feed es → es ≡ ds) → IsTreeOf text ds
tree-of text feed ds file l spelt only = record {
  spelt = placed-IsSpelt text feed ds l (subst (λ n. Spells (in_file n) feed ds) file spelt);
  only = λ es t. only es (subst (λ n. Spells (in_file n) feed es) (sym file) (IsSpelt-placed text feed es l t));
}
