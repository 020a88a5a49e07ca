-- The atoms of a writable definition's S-expression are atoms of ISLE, so its print is tidy.
use Rattle.std.proofs.Common.{◌≡◌, ℕ, List, [], ◌∷◌, ◌++◌, map, refl, sym, ap, ◌∙◌, subst}
use Rattle.std.proofs.lemmas.List.{append-nil}
use Rattle.isle_ast.specs.Tree.{Definition}
use Rattle.isle_ast.specs.Writable.{AreWritable}
use Rattle.isle_base.specs.Spellings.{Spelling}
use Rattle.isle_base.specs.Token.{Tok, rparen}
use Rattle.isle_tidy_core.specs.Fitting.{IsAtom}
use Rattle.isle_tidy_core.specs.Tidied.{IsTidyTextOf}
use Rattle.isle_tidy_laws.specs.Prints.{print_after, print_of, HasAtoms, HaveAtoms, AllHaveAtoms}
use Rattle.isle_tidy_laws.proofs.PlainShapes.{definitions_plain}
use Rattle.isle_tidy_laws.proofs.PrintDocuments.{print_tidy}
use Rattle.isle_printer.specs.DefinitionShapes.{definition_shape}
use Rattle.isle_printer.specs.Printed.{definition_text, behind_text, printed_text, IsPrinted}
use Rattle.isle_printer.proofs.Printing.{IsPrinted-text}
use Rattle.isle_printer.proofs.ShapeLaw.Definitions.{spell-definition}
use Rattle.isle_printer_layout.specs.ReadBack.{IsWordToken, ReadsAs, TokensOf, TokensOfItems}
use Rattle.isle_printer_layout.specs.Sexp.{Sexp, Sexps, atom, binding, list, none, more}

-- what reads as a symbol or as an integer is an atom
atom_of : (text : List ℕ) (token : Tok) → IsWordToken token → ReadsAs text token → IsAtom text
atom_of text token is reads = (token, is, subst (λ t. Spelling t token []) (append-nil text) (reads [] refl))

mutual
  has_atoms : (s : Sexp) (all rest : List Tok) → TokensOf s all rest → HasAtoms s
  has_atoms (atom text) all rest t = atom_of text t.0 t.1 t.2
  has_atoms (binding name s) all rest t = (atom_of name t.0 t.2 t.3, has_atoms s t.1 rest t.5)
  has_atoms (list ss) all rest t = have_atoms ss t.0 (rparen ∷ rest) t.2

  have_atoms : (ss : Sexps) (all rest : List Tok) → TokensOfItems ss all rest → HaveAtoms ss
  have_atoms none all rest t = tt
  have_atoms (more s ss) all rest t = (has_atoms s all t.0 t.1, have_atoms ss t.0 rest t.2)

definitions_have_atoms : (ds : List Definition) → AreWritable ds → AllHaveAtoms (map definition_shape ds)
definitions_have_atoms [] is = tt
definitions_have_atoms (d ∷ ds) is =
    let shape = spell-definition d is.0 [] in
    (has_atoms (definition_shape d) shape.all shape.tokens.are.0 shape.tokens.are.1, definitions_have_atoms ds is.1)

-- the print of definitions is that of their S-expressions
after_print : (width : ℕ) (ds : List Definition) → print_after width (map definition_shape ds) ≡ behind_text width ds
after_print width [] = refl
after_print width (d ∷ ds) = ap (λ t. 10 ∷ definition_text width d ++ t) (after_print width ds)

definitions_print : (width : ℕ) (ds : List Definition) → print_of width (map definition_shape ds) ≡ printed_text width ds
definitions_print width [] = refl
definitions_print width (d ∷ ds) = ap (λ t. definition_text width d ++ t) (after_print width ds)

pub definitions_tidy : (width : ℕ) (ds : List Definition) (text : List ℕ) → AreWritable ds → IsPrinted width ds text → IsTidyTextOf text text
definitions_tidy width ds text writable is =
    let same : print_of width (map definition_shape ds) ≡ text = definitions_print width ds ∙ sym (IsPrinted-text width ds text is) in
    subst (λ t. IsTidyTextOf t t) same (print_tidy width (map definition_shape ds) (definitions_have_atoms ds writable) (definitions_plain ds))
