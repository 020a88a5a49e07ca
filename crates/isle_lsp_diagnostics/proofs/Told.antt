-- What the check tells of a text and those behind it.
use Rattle.std.proofs.Common.{◌≡◌, ℕ, ◌+◌, ◌-◌, ◌<◌, ◌≤◌, List, [], ◌∷◌, ◌++◌, ap, append_assoc, arith, drop, false, get_or, inl, inr, length, map, refl, subst, sym, take, ◌∙◌}
use Rattle.std.specs.List.{flat_map}
use Rattle.std.proofs.Math.Seq.{drop-append_seam}
use Rattle.std.proofs.lemmas.List.{append-nil, map-append}
use Rattle.std.proofs.lemmas.List.{take_rest}
use Rattle.std.proofs.lemmas.List.Folds.{list_any-append}
use Rattle.isle_base.specs.Place.{in_file, placed}
use Rattle.isle_base_source.specs.Source.{Source}
use Rattle.isle_ast.proofs.NoMacroArgs.{writable_trees_have_no_macro_arg}
use Rattle.isle_ast.proofs.Writable.Spelt.{spelt_is_writable}
use Rattle.isle_ast.specs.MacroArgs.{definition_has_macro_arg, definitions_have_macro_arg}
use Rattle.isle_ast.specs.Tree.{Definition}
use Rattle.isle_ast.specs.TreeView.{definition_of, definitions_of}
use Rattle.isle_ast.specs.declared.ast.Def.{Def}
use Rattle.isle_check_core.specs.Findings.{findings}
use Rattle.isle_lsp_features.specs.Programs.{text_of}
use Rattle.isle_lsp_features.specs.declared.Text.{Text}
use Rattle.isle_lsp_diagnostics.specs.Checked.{AreToldAfter, HasTree, Told, all_told, source_of, sources_of}

-- what a text spells holds no argument of a macro
tree_plain : (number : ℕ) (text : List ℕ) (ds : List Definition) → HasTree number text ds → definitions_have_macro_arg ds ≡ false
tree_plain number text ds has = writable_trees_have_no_macro_arg ds (spelt_is_writable ds (placed (in_file number) has.1.spelt.0) has.1.spelt.2)

-- nor do definitions with those of a text behind them
pub joined_plain : (number : ℕ) (text : List ℕ) (before own joined : List Def) → HasTree number text (definitions_of own) →
    definitions_have_macro_arg (definitions_of before) ≡ false → joined ≡ before ++ own → definitions_have_macro_arg (definitions_of joined) ≡ false
joined_plain number text before own joined has plain join =
    rw (join, map-append definition_of before own, list_any-append definition_has_macro_arg (definitions_of before) (definitions_of own), plain)
    (tree_plain number text (definitions_of own) has)

-- what stood behind the definitions is taken off again
pub taken_off : (before own joined tail : List Def) (start : ℕ) → joined ≡ before ++ own → start ≡ length before → tail ≡ drop start joined → tail ≡ own
taken_off before own joined tail start join from off = off ∙ (ap (λ n. drop n joined) from ∙ (ap (λ xs. drop (length before) xs) join ∙ drop-append_seam before own))

told_step : (before own : List Definition) (number : ℕ) (s : Source) (ss : List Source) (all : List Told) → HasTree number s.text own →
    AreToldAfter (before ++ own) (number + 1) ss all → AreToldAfter before number (s ∷ ss) all
told_step before own number s ss all has (inl found) =
    inl record {
      definitions = own ++ found.definitions;
      trees = (own, found.definitions, has, found.trees, refl);
      are = found.are ∙ ap (λ ds. flat_map all_told (findings ds)) (append_assoc before own found.definitions);
    }
told_step before own number s ss all has (inr none) = inr (inr none.0, none.1)

-- what is told of definitions with those of a text behind them is told of the text and of those behind it
pub told_text : (before own joined : List Def) (number : ℕ) (text : List ℕ) (program : List Text) (all : List Told) (t : Text) → 1 ≤ length program →
    text ≡ (get_or program 0 t).text.now → HasTree number text (definitions_of own) → joined ≡ before ++ own →
    AreToldAfter (definitions_of joined) (number + 1) (sources_of (map text_of (take (length program - 1) (drop 1 program)))) all →
    AreToldAfter (definitions_of before) number (sources_of (map text_of program)) all
told_text before own joined number text [] all t some same has join told = absurd (omega (arith, some))
told_text before own joined number text (x ∷ xs) all t some same has join told =
    told_step (definitions_of before) (definitions_of own) number (source_of (text_of x)) (sources_of (map text_of xs)) all
    (subst (λ bytes. HasTree number bytes (definitions_of own)) same has)
    (subst (λ ds. AreToldAfter ds (number + 1) (sources_of (map text_of xs)) all) (ap definitions_of join ∙ map-append definition_of before own)
    (subst (λ ts. AreToldAfter (definitions_of joined) (number + 1) (sources_of (map text_of ts)) all) (take_rest (x ∷ xs) 1) told))

-- with no text behind the definitions, it is what the findings of these tell
pub told_none : (before : List Def) (number : ℕ) (program : List Text) (all : List Told) → length program < 1 →
    all ≡ flat_map all_told (findings (definitions_of before)) → AreToldAfter (definitions_of before) number (sources_of (map text_of program)) all
told_none before number [] all few told =
    inl record {
      definitions = [];
      trees = refl;
      are = told ∙ ap (λ ds. flat_map all_told (findings ds)) (sym (append-nil (definitions_of before)));
    }
told_none before number (x ∷ xs) all few told = absurd (omega (arith, few))
