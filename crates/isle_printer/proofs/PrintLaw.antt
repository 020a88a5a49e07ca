-- The print of definitions is spelt by them, erased, exactly if they are writable, and at every
-- width it has the same tokens.
use Rattle.std.proofs.Common.{◌≡◌, ℕ, length, List, [], ◌∷◌, ◌++◌, true, sym, ap, ◌∙◌, refl, subst, ◌↔◌}
use Rattle.std.proofs.lemmas.Bool.{false≢true}
use Rattle.std.proofs.lemmas.List.{append_assoc}
use Rattle.isle_base.specs.Place.{nowhere, placed}
use Rattle.isle_base.specs.Skips.{nothing}
use Rattle.isle_base.specs.Token.{Tok}
use Rattle.isle_ast.specs.Tree.{Definition}
use Rattle.isle_ast.proofs.Writable.Erased.{writable-erased}
use Rattle.isle_ast.proofs.NoMacroArgs.{writable_trees_have_no_macro_arg}
use Rattle.isle_ast.proofs.Writable.Spelt.{spelt_is_writable}
use Rattle.isle_ast.specs.Erased.{erase_definition, erase}
use Rattle.isle_ast.specs.Grammar.{SpellsDefinitions}
use Rattle.isle_ast.specs.MacroArgs.{definitions_have_macro_arg}
use Rattle.isle_ast.specs.Spelt.{IsSpelt}
use Rattle.isle_ast.specs.Writable.{AreWritable}
use Rattle.isle_printer.specs.DefinitionShapes.{definition_shape}
use Rattle.isle_printer_layout.specs.Layout.{layout}
use Rattle.isle_printer.specs.Printed.{definition_text, behind_text, printed_text, IsPrinted}
use Rattle.isle_printer_layout.specs.ReadBack.{TokensOf, Reads, unplaced}
use Rattle.isle_printer.specs.ReadBack.{ReadsBack, ReadsBackIfWritable, HaveSameTokens}
use Rattle.isle_printer_layout.proofs.Greedy.{greedy, layout_is_render}
use Rattle.isle_printer.proofs.Printing.{IsPrinted-from_text, IsPrinted-text, IsPrinted-plain}
use Rattle.isle_printer.proofs.Erased.Definitions.{definition_shape-erased, macro_args-erased}
use Rattle.isle_printer_layout.proofs.ReadBackLaw.{Lexes-from_reads, render-reads, tokens-any, Reads-blank, is_blank-10, in_symbol-10}
use Rattle.isle_printer.proofs.ShapeLaw.Definitions.{spell-definition}

-- A text for each width, which reads at every width as the same tokens, and these spell the
-- definitions, erased.
record ReadsDefinitions (text : ℕ → List ℕ) (ds : List Definition) : Type 0 where
  all : List Tok
  reads : (width : ℕ) → Reads (text width) all
  spells : SpellsDefinitions (erase ds) (unplaced all)

-- a definition's lines read as its tokens, and what follows as what follows
definition_text-reads : (width : ℕ) (d : Definition) (text : List ℕ) (all rest : List Tok) → TokensOf (definition_shape d) all rest → Reads text rest → Reads (definition_text width d ++ text) all
definition_text-reads width d text all rest t r =
    subst (λ b. Reads b all)
    (ap (λ b. b ++ (10 ∷ text)) (sym (layout_is_render width (definition_shape d)))
    ∙ sym (append_assoc (layout width (definition_shape d)) (10 ∷ []) text))
    (render-reads (definition_shape d) (greedy width (definition_shape d) 0) 0 all rest (tokens-any (definition_shape d) all rest t) (10 ∷ text) in_symbol-10
    (Reads-blank 10 text rest is_blank-10 r))

-- a definition's lines before a text of definitions
definition-reads : (d : Definition) (ds : List Definition) (text : ℕ → List ℕ) → AreWritable (d ∷ ds) → ReadsDefinitions text ds → ReadsDefinitions (λ width. definition_text width d ++ text width) (d ∷ ds)
definition-reads d ds text is behind =
    let shape = spell-definition d is.0 behind.all in
    record {
      all = shape.all;
      reads = λ width. definition_text-reads width d (text width) shape.all behind.all (first_tokens shape.all behind.all shape.tokens.are) (behind.reads width);
      spells = (unplaced behind.all, shape.spells, behind.spells);
    }
  where
    first_tokens : (all rest : List Tok) → (mid : List Tok) × TokensOf (definition_shape d) all mid × (mid ≡ rest) → TokensOf (definition_shape d) all rest
    first_tokens all rest t = subst (λ r. TokensOf (definition_shape d) all r) t.2 t.1

behind_text-reads : (ds : List Definition) → AreWritable ds → ReadsDefinitions (λ width. behind_text width ds) ds
behind_text-reads [] is = record { all = []; reads = λ width. nothing refl; spells = refl }
behind_text-reads (d ∷ ds) is =
    let s = definition-reads d ds (λ width. behind_text width ds) is (behind_text-reads ds is.1) in
    record {
      all = s.all;
      reads = λ width. Reads-blank 10 (definition_text width d ++ behind_text width ds) s.all is_blank-10 (s.reads width);
      spells = s.spells;
    }

printed_text-reads : (ds : List Definition) → AreWritable ds → ReadsDefinitions (λ width. printed_text width ds) ds
printed_text-reads [] is = record { all = []; reads = λ width. nothing refl; spells = refl }
printed_text-reads (d ∷ ds) is = definition-reads d ds (λ width. behind_text width ds) is (behind_text-reads ds is.1)

-- The print of writable definitions, at any width, is spelt by them, erased.
pub printed_text-spelt : (width : ℕ) (ds : List Definition) → AreWritable ds → IsSpelt nowhere (printed_text width ds) (erase ds)
printed_text-spelt width ds is =
    let r = printed_text-reads ds is in
    let l = Lexes-from_reads (length (printed_text width ds)) (printed_text width ds) r.all (r.reads width) in
    (l.0, l.1, subst (λ p. SpellsDefinitions (erase ds) p) (sym l.2) r.spells)

-- The prints of writable definitions at two widths have the same tokens.
printed_text-tokens : (width other : ℕ) (ds : List Definition) → AreWritable ds → HaveSameTokens (printed_text width ds) (printed_text other ds)
printed_text-tokens width other ds is =
    let r = printed_text-reads ds is in
    let l = Lexes-from_reads (length (printed_text width ds)) (printed_text width ds) r.all (r.reads width) in
    let m = Lexes-from_reads (length (printed_text other ds)) (printed_text other ds) r.all (r.reads other) in
    (l.0, m.0, l.1, m.1, l.2 ∙ sym m.2)

-- So is every text that is the print of writable definitions,
pub IsPrinted-IsSpelt : (width : ℕ) (ds : List Definition) (text : List ℕ) → AreWritable ds → IsPrinted width ds text → IsSpelt nowhere text (erase ds)
IsPrinted-IsSpelt width ds text writable is =
    subst (λ t. IsSpelt nowhere t (erase ds)) (sym (IsPrinted-text width ds text is)) (printed_text-spelt width ds writable)

-- and of no others, since spelt definitions are writable, erased or not.
pub IsPrinted-ReadsBackIfWritable : (width : ℕ) (ds : List Definition) (text : List ℕ) → IsPrinted width ds text → ReadsBackIfWritable ds text
IsPrinted-ReadsBackIfWritable width ds text is = (
  λ spelt. (writable-erased ds).0 (spelt_is_writable (erase ds) (placed nowhere spelt.0) spelt.2),
  λ writable. IsPrinted-IsSpelt width ds text writable is,
)

pub IsPrinted-tokens : (width other : ℕ) (ds : List Definition) (text another : List ℕ) → AreWritable ds → IsPrinted width ds text → IsPrinted other ds another → HaveSameTokens text another
IsPrinted-tokens width other ds text another writable is also =
    let first = sym (IsPrinted-text width ds text is) in
    let second = sym (IsPrinted-text other ds another also) in
    subst (λ t. HaveSameTokens t another) first
    (subst (λ t. HaveSameTokens (printed_text width ds) t) second (printed_text-tokens width other ds writable))

-- What contains a macro argument isn't writable.
pub macro_arg-unwritable : (ds : List Definition) → definitions_have_macro_arg ds ≡ true → AreWritable ds → ⊥
macro_arg-unwritable ds holds writable = false≢true (sym (writable_trees_have_no_macro_arg ds writable) ∙ holds)

-- the print of spelt definitions
pub IsPrinted-ReadsBack : (width : ℕ) (ds : List Definition) (text : List ℕ) → IsPrinted width ds text → ReadsBack ds text
IsPrinted-ReadsBack width ds text is all s = IsPrinted-IsSpelt width ds text (spelt_is_writable ds all s) is

definition_text-erased : (width : ℕ) (d : Definition) → definition_text width (erase_definition d) ≡ definition_text width d
definition_text-erased width d = ap (λ s. layout width s ++ 10 ∷ []) (definition_shape-erased d)

behind_text-erased : (width : ℕ) (ds : List Definition) → behind_text width (erase ds) ≡ behind_text width ds
behind_text-erased width [] = refl
behind_text-erased width (d ∷ ds) =
    ap (λ t. 10 ∷ t ++ behind_text width (erase ds)) (definition_text-erased width d)
    ∙ ap (λ t. 10 ∷ definition_text width d ++ t) (behind_text-erased width ds)

-- The print of definitions is that of the erased ones.
pub printed_text-erased : (width : ℕ) (ds : List Definition) → printed_text width (erase ds) ≡ printed_text width ds
printed_text-erased width [] = refl
printed_text-erased width (d ∷ ds) =
    ap (λ t. t ++ behind_text width (erase ds)) (definition_text-erased width d)
    ∙ ap (λ t. definition_text width d ++ t) (behind_text-erased width ds)

pub IsPrinted-erased : (width : ℕ) (ds : List Definition) (text : List ℕ) → IsPrinted width ds text ↔ IsPrinted width (erase ds) text
IsPrinted-erased width ds text = (
  λ is. IsPrinted-from_text width (erase ds) text
      (macro_args-erased ds ∙ IsPrinted-plain width ds text is)
      (IsPrinted-text width ds text is ∙ sym (printed_text-erased width ds)),
  λ is. IsPrinted-from_text width ds text
      (sym (macro_args-erased ds) ∙ IsPrinted-plain width (erase ds) text is)
      (IsPrinted-text width (erase ds) text is ∙ printed_text-erased width ds),
)
