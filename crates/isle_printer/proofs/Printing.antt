-- The printed text: the relation and the function are one, and a greater width has no more lines.
use Rattle.std.proofs.Common.{◌≡◌, ℕ, ◌+◌, ◌≤◌, List, [], ◌∷◌, ◌++◌, Bool, true, false, ◌||◌, length, length-append, refl, sym, ap, ◌∙◌, subst, arith}
use Rattle.std.proofs.lemmas.Bool.{false≢true}
use Rattle.std.proofs.lemmas.List.{append-nil, append_assoc}
use Rattle.isle_ast.specs.Tree.{Definition}
use Rattle.isle_ast.specs.MacroArgs.{definition_has_macro_arg, definitions_have_macro_arg}
use Rattle.isle_printer_layout.specs.Layout.{layout}
use Rattle.isle_printer_layout.specs.Lines.{line_end_count}
use Rattle.isle_printer.specs.Lines.{WiderHasNoMoreLines}
use Rattle.isle_printer.specs.Printed.{ArePrintedLines, IsPrintedBehind, IsPrinted, definition_text, behind_text, printed_text}
use Rattle.isle_printer.specs.DefinitionShapes.{definition_shape}
use Rattle.isle_printer_layout.proofs.Greedy.{layout-IsLayout}
use Rattle.isle_printer_layout.proofs.Least.{IsLayout-layout, layout-line_end_count}
use Rattle.isle_printer_layout.proofs.LineEnds.{line_end_count-append}

-- where neither holds, both fail
neither : (a b : Bool) → (a || b) ≡ false → (a ≡ false) × (b ≡ false)
neither true b e = absurd (false≢true (sym e))
neither false b e = (refl, e)

definition_text-ArePrintedLines : (width : ℕ) (d : Definition) → definition_has_macro_arg d ≡ false → ArePrintedLines width d (definition_text width d)
definition_text-ArePrintedLines width d plain =
    (plain, layout width (definition_shape d), layout-IsLayout width (definition_shape d), refl)

behind_text-IsPrintedBehind : (width : ℕ) (ds : List Definition) → definitions_have_macro_arg ds ≡ false → IsPrintedBehind width ds (behind_text width ds)
behind_text-IsPrintedBehind width [] plain = refl
behind_text-IsPrintedBehind width (d ∷ ds) plain =
    let p = neither _ _ plain in
    (definition_text width d, behind_text width ds, definition_text-ArePrintedLines width d p.0, behind_text-IsPrintedBehind width ds p.1, refl)

printed_text-IsPrinted : (width : ℕ) (ds : List Definition) → definitions_have_macro_arg ds ≡ false → IsPrinted width ds (printed_text width ds)
printed_text-IsPrinted width [] plain = refl
printed_text-IsPrinted width (d ∷ ds) plain =
    let p = neither _ _ plain in
    (definition_text width d, behind_text width ds, definition_text-ArePrintedLines width d p.0, behind_text-IsPrintedBehind width ds p.1, refl)

-- a text that is the function's is printed, where there is a print
pub IsPrinted-from_text : (width : ℕ) (ds : List Definition) (text : List ℕ) → definitions_have_macro_arg ds ≡ false → text ≡ printed_text width ds → IsPrinted width ds text
IsPrinted-from_text width ds text plain e = subst (λ t. IsPrinted width ds t) (sym e) (printed_text-IsPrinted width ds plain)

-- what has a print contains no macro argument

IsPrintedBehind-plain : (width : ℕ) (ds : List Definition) (text : List ℕ) → IsPrintedBehind width ds text → definitions_have_macro_arg ds ≡ false
IsPrintedBehind-plain width [] text is = refl
IsPrintedBehind-plain width (d ∷ ds) text (lines, behind, first, rest, e) =
    ap (λ t. t || definitions_have_macro_arg ds) first.0 ∙ IsPrintedBehind-plain width ds behind rest

pub IsPrinted-plain : (width : ℕ) (ds : List Definition) (text : List ℕ) → IsPrinted width ds text → definitions_have_macro_arg ds ≡ false
IsPrinted-plain width [] text is = refl
IsPrinted-plain width (d ∷ ds) text (lines, behind, first, rest, e) =
    ap (λ t. t || definitions_have_macro_arg ds) first.0 ∙ IsPrintedBehind-plain width ds behind rest

ArePrintedLines-text : (width : ℕ) (d : Definition) (text : List ℕ) → ArePrintedLines width d text → text ≡ definition_text width d
ArePrintedLines-text width d text (plain, lines, is, e) = e ∙ ap (λ l. l ++ 10 ∷ []) (IsLayout-layout width (definition_shape d) lines is)

IsPrintedBehind-text : (width : ℕ) (ds : List Definition) (text : List ℕ) → IsPrintedBehind width ds text → text ≡ behind_text width ds
IsPrintedBehind-text width [] text is = is
IsPrintedBehind-text width (d ∷ ds) text (lines, behind, first, rest, e) =
    e
    ∙ ap (λ l. 10 ∷ l ++ behind) (ArePrintedLines-text width d lines first)
    ∙ ap (λ l. 10 ∷ definition_text width d ++ l) (IsPrintedBehind-text width ds behind rest)

-- a printed text is the function's
pub IsPrinted-text : (width : ℕ) (ds : List Definition) (text : List ℕ) → IsPrinted width ds text → text ≡ printed_text width ds
IsPrinted-text width [] text is = is
IsPrinted-text width (d ∷ ds) text (lines, behind, first, rest, e) =
    e
    ∙ ap (λ l. l ++ behind) (ArePrintedLines-text width d lines first)
    ∙ ap (λ l. definition_text width d ++ l) (IsPrintedBehind-text width ds behind rest)

definition_text-line_end_count : (narrow wide : ℕ) (d : Definition) → narrow ≤ wide → line_end_count (definition_text wide d) ≤ line_end_count (definition_text narrow d)
definition_text-line_end_count narrow wide d le =
    let s = definition_shape d in
    omega (arith, layout-line_end_count narrow wide s le, line_end_count-append (layout wide s) (10 ∷ []), line_end_count-append (layout narrow s) (10 ∷ []))

line_end_count-more : (text : List ℕ) → line_end_count (10 ∷ text) ≡ 1 + line_end_count text
line_end_count-more text = line_end_count-append (10 ∷ []) text

behind_text-line_end_count : (narrow wide : ℕ) (ds : List Definition) → narrow ≤ wide → line_end_count (behind_text wide ds) ≤ line_end_count (behind_text narrow ds)
behind_text-line_end_count narrow wide [] le = omega arith
behind_text-line_end_count narrow wide (d ∷ ds) le =
    omega (
      arith,
      definition_text-line_end_count narrow wide d le,
      behind_text-line_end_count narrow wide ds le,
      line_end_count-append (10 ∷ definition_text wide d) (behind_text wide ds),
      line_end_count-append (10 ∷ definition_text narrow d) (behind_text narrow ds),
      line_end_count-more (definition_text wide d),
      line_end_count-more (definition_text narrow d),
    )

printed_text-line_end_count : (narrow wide : ℕ) (ds : List Definition) → narrow ≤ wide → line_end_count (printed_text wide ds) ≤ line_end_count (printed_text narrow ds)
printed_text-line_end_count narrow wide [] le = omega arith
printed_text-line_end_count narrow wide (d ∷ ds) le =
    omega (
      arith,
      definition_text-line_end_count narrow wide d le,
      behind_text-line_end_count narrow wide ds le,
      line_end_count-append (definition_text wide d) (behind_text wide ds),
      line_end_count-append (definition_text narrow d) (behind_text narrow ds),
    )

pub WiderHasNoMoreLines-from_text : (width : ℕ) (ds : List Definition) (text : List ℕ) → text ≡ printed_text width ds → WiderHasNoMoreLines width ds text
WiderHasNoMoreLines-from_text width ds text e wide other le printed =
    omega (arith, printed_text-line_end_count width wide ds le, ap line_end_count e, ap line_end_count (IsPrinted-text wide ds other printed))

-- ---- one definition more

-- the end of a list of definitions, one definition further
behind_text-push : (width : ℕ) (ds : List Definition) (d : Definition) → behind_text width (ds ++ d ∷ []) ≡ behind_text width ds ++ 10 ∷ definition_text width d
behind_text-push width [] d = append-nil (10 ∷ definition_text width d)
behind_text-push width (e ∷ ds) d =
    ap (λ t. 10 ∷ definition_text width e ++ t) (behind_text-push width ds d)
    ∙ sym (append_assoc (10 ∷ definition_text width e) (behind_text width ds) (10 ∷ definition_text width d))

-- the first definition stands where nothing is written
pub printed_text-first : (width : ℕ) (before : List Definition) (text : List ℕ) (d : Definition) → text ≡ printed_text width before → length text ≡ 0 → text ++ definition_text width d ≡ printed_text width (before ++ d ∷ [])
printed_text-first width [] text d e empty = ap (λ t. t ++ definition_text width d) e ∙ sym (append-nil (definition_text width d))
printed_text-first width (b ∷ ds) text d e empty =
    let whole = ap length e in
    let parts = length-append (definition_text width b) (behind_text width ds) in
    let first = length-append (layout width (definition_shape b)) (10 ∷ []) in
    absurd (omega (arith, empty, whole, parts, first))

-- any other comes after an empty line
pub printed_text-next : (width : ℕ) (before : List Definition) (text : List ℕ) (d : Definition) → text ≡ printed_text width before → (length text ≡ 0 → ⊥) → text ++ 10 ∷ definition_text width d ≡ printed_text width (before ++ d ∷ [])
printed_text-next width [] text d e some = absurd (some (ap length e))
printed_text-next width (b ∷ ds) text d e some =
    ap (λ t. t ++ 10 ∷ definition_text width d) e
    ∙ append_assoc (definition_text width b) (behind_text width ds) (10 ∷ definition_text width d)
    ∙ ap (λ t. definition_text width b ++ t) (sym (behind_text-push width ds d))
