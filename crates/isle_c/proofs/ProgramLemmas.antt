-- The tree of a text, from what lexer and parser promise; and programs, as they grow by one text.
use Rattle.std.proofs.Common.{◌≡◌, ℕ, ◌+◌, ◌<◌, ◌≤◌, append_assoc, false, suc, length, get_or, take, List, [], ◌∷◌, ◌++◌, Result, Ok, Err, IfOk, IfErr, IsUtf8, drop, map, refl, sym, ap, subst, ◌∙◌, arith}
use Rattle.std.specs.Borrow.{Bor}
use Rattle.std.specs.Global.{Vec}
use Rattle.std.specs.List.{All, Contains, flat_map, sum}
use Rattle.std.proofs.lemmas.Grind.{flat_map-append}
use Rattle.std.proofs.lemmas.List.{append-nil, drop_all, drop_more, get_or-map, length-drop, length-map, length-take-le, map_more, take_all}
use Rattle.std.proofs.lemmas.List.Elements.{All-cons, All-head, All-nil, All-push, All-same, All-tail}
use Rattle.std.proofs.lemmas.List.Folds.{list_any-append}
use Rattle.std.proofs.lemmas.List.Sums.{sum_by-drop_more}
use Rattle.isle_ast.specs.MacroArgs.{definition_has_macro_arg, definitions_have_macro_arg}
use Rattle.isle_ast.specs.Spelt.{Spells}
use Rattle.isle_ast.specs.Tree.{Definition}
use Rattle.isle_ast.specs.TreeView.{definitions_of}
use Rattle.isle_ast.specs.declared.ast.Def.{Def}
use Rattle.isle_base.specs.Lexing.{lexes}
use Rattle.isle_base.specs.Place.{in_file}
use Rattle.isle_base.specs.Steps.{IfError}
use Rattle.isle_base.specs.Token.{Feed}
use Rattle.isle_base.specs.declared.fault.Fault.{Fault}
use Rattle.isle_base.specs.declared.fault.Fault.TheVariants as faults
use Rattle.isle_c.specs.Programs.{Adds, AreTrees, IsProgram, IsReadingFailure, IsTextsFailure, IsTreeOf, Stops, parts}
use Rattle.isle_c.specs.declared.calls.NoAnswer.{NoAnswer}
use Rattle.isle_c.specs.declared.calls.NoAnswer.TheVariants as reasons
use Rattle.isle_c.proofs.ParsingLaw.{IsSpelt-placed, placed-IsSpelt, refused_parse}
use Rattle.isle_parser.specs.Parsed.{RefusesText}
use Rattle.isle_syntax.specs.Format.{IsRefused}

-- what a parser gives of a lexer of the whole text
pub tree_read : (file : ℕ) (text : List ℕ) (feed : Feed) (r : Result (Vec Def) Fault) → feed.file ≡ file → lexes text feed.coming feed.ending
    → IfOk r (λ defs. Spells (in_file feed.file) feed (definitions_of defs.items))
    → IfOk r (λ defs. (es : List Definition) → Spells (in_file feed.file) feed es → es ≡ definitions_of defs.items)
    → IfOk r (λ defs. IsTreeOf file text (definitions_of defs.items))
tree_read file text feed (Ok defs) is l spelt only = record {
  spelt = placed-IsSpelt file text feed _ l (subst (λ n. Spells (in_file n) feed (definitions_of defs.items)) is spelt);
  only = λ es t. only es (subst (λ n. Spells (in_file n) feed es) (sym is) (IsSpelt-placed file text feed es l t));
}
tree_read file text feed (Err f) is l spelt only = tt

-- and why there is none
pub tree_refused : (file : ℕ) (text : List ℕ) (feed : Feed) (r : Result (Vec Def) Fault) → lexes text feed.coming feed.ending
    → IfErr r (RefusesText (in_file feed.file) feed) → IfErr r (IfError (λ _. IsRefused text))
tree_refused file text feed (Ok defs) l refused = tt
tree_refused file text feed (Err f) l refused = refused_parse text feed f l refused

one_on : (file n : ℕ) → file + suc n ≡ (file + 1) + n
one_on file n = omega arith

-- the trees of one text more
trees_push : (file : ℕ) (ts : List (List ℕ)) (ds : List (List Definition)) (t : List ℕ) (d : List Definition)
    → AreTrees file ts ds → IsTreeOf (file + length ts) t d → AreTrees file (ts ++ t ∷ []) (ds ++ d ∷ [])
trees_push file [] [] t d each last = let At : ℕ → Type 0 = λ n. IsTreeOf n t d in let none : file + 0 ≡ file = omega arith in (subst At none last, tt)
trees_push file [] (e ∷ ds) t d each last = absurd each
trees_push file (s ∷ ts) [] t d each last = absurd each
trees_push file (s ∷ ts) (e ∷ ds) t d each last =
    let At : ℕ → Type 0 = λ n. IsTreeOf n t d in
    (each.0, trees_push (file + 1) ts ds t d each.1 (subst At (one_on file (length ts)) last))

together_push : (trees : List (List Definition)) (d : List Definition) → flat_map (λ tree. tree) trees ++ d ≡ flat_map (λ tree. tree) (trees ++ d ∷ [])
together_push trees d =
    ap (λ ds. flat_map (λ tree. tree) trees ++ ds) (sym (append-nil d)) ∙ sym (flat_map-append (λ tree. tree) trees (d ∷ []))

program_push : (ts : List (List ℕ)) (t : List ℕ) (ds more es : List Definition) → IsProgram ts ds → IsTreeOf (length ts) t more → es ≡ ds ++ more → IsProgram (ts ++ t ∷ []) es
program_push ts t ds more es p last grown =
    let At : ℕ → Type 0 = λ n. IsTreeOf n t more in
    let first : length ts ≡ 0 + length ts = omega arith in
    record {
      trees = p.trees ++ more ∷ [];
      each = trees_push 0 ts p.trees t more p.each (subst At first last);
      together = grown ∙ ap (λ l. l ++ more) p.together ∙ together_push p.trees more;
    }

-- no definition of them holds an argument of a macro
plain_more : (ds more es : List Definition) → definitions_have_macro_arg ds ≡ false → definitions_have_macro_arg more ≡ false → es ≡ ds ++ more
    → definitions_have_macro_arg es ≡ false
plain_more ds more es plain last grown = rw grown (rw (list_any-append definition_has_macro_arg ds more, plain, last) refl)

pub plain_step : (old new : Vec Def) (read : Result (Vec Def) Fault) → definitions_have_macro_arg (definitions_of old.items) ≡ false
    → IfOk read (λ defs. definitions_have_macro_arg (definitions_of defs.items) ≡ false) → Adds old read new
    → definitions_have_macro_arg (definitions_of new.items) ≡ false
plain_step old new (Ok more) plain last grown = plain_more (definitions_of old.items) (definitions_of more.items) (definitions_of new.items) plain last grown
plain_step old new (Err f) plain last grown = absurd grown

-- where a text is refused
reading_fails : (texts : List (List ℕ)) (text : List ℕ) (read : Result (Vec Def) Fault) (why : NoAnswer) → Contains texts text
    → IfErr read (IfError (λ _. IsRefused text)) → Stops read why → IsReadingFailure texts why
reading_fails texts text (Err (faults.Error e)) reasons.Refused one refused stops = (text, one, refused)
reading_fails texts text read reasons.Memory one refused stops = tt
reading_fails texts text read why one refused stops = absurd stops

-- a step of a loop over the texts
module _ (xs : List (Bor (List ℕ))) (i : ℕ) (d : Bor (List ℕ)) (within : i < length xs) where
  grown_texts : map (λ text. text.now) (take i xs) ++ (get_or xs i d).now ∷ [] ≡ map (λ text. text.now) (take (i + 1) xs)
  grown_texts =
      let view : Bor (List ℕ) → List ℕ = λ text. text.now in
      sym (map_more view xs i d within)

  front_length : i ≡ length (map (λ text. text.now) (take i xs))
  front_length = let view : Bor (List ℕ) → List ℕ = λ text. text.now in sym (length-map (take i xs) view ∙ length-take-le i xs (omega arith))

  pub program_step : (old new : Vec Def) (read : Result (Vec Def) Fault) → IsProgram (map (λ text. text.now) (take i xs)) (definitions_of old.items)
      → IfOk read (λ defs. IsTreeOf i (get_or xs i d).now (definitions_of defs.items)) → Adds old read new
      → IsProgram (map (λ text. text.now) (take (i + 1) xs)) (definitions_of new.items)
  program_step old new (Ok more) p last grown =
      let At : ℕ → Type 0 = λ n. IsTreeOf n (get_or xs i d).now (definitions_of more.items) in
      let Of : List (List ℕ) → Type 0 = λ texts. IsProgram texts (definitions_of new.items) in
      subst Of grown_texts
      (program_push (map (λ text. text.now) (take i xs)) (get_or xs i d).now (definitions_of old.items) (definitions_of more.items) (definitions_of new.items)
      p (subst At front_length last) grown)
  program_step old new (Err f) p last grown = absurd grown

  -- this text is one of them
  one : Contains (map (λ text. text.now) xs) (get_or xs i d).now
  one =
      let view : Bor (List ℕ) → List ℕ = λ text. text.now in
      (i, omega (arith, length-map xs view), get_or-map view xs i d (get_or xs i d).now within)

  pub reading_stops : (read : Result (Vec Def) Fault) (why : NoAnswer) → IfErr read (IfError (λ _. IsRefused (get_or xs i d).now)) → Stops read why
      → IsReadingFailure (map (λ text. text.now) xs) why
  reading_stops read why refused stops = reading_fails (map (λ text. text.now) xs) (get_or xs i d).now read why one refused stops

-- where all texts are read
pub program_end : (xs : List (Bor (List ℕ))) (i : ℕ) (ds : List Definition) → length xs ≤ i → IsProgram (map (λ text. text.now) (take i xs)) ds
    → IsProgram (map (λ text. text.now) xs) ds
program_end xs i ds past p =
    let Of : List (Bor (List ℕ)) → Type 0 = λ ys. IsProgram (map (λ text. text.now) ys) ds in
    subst Of (take_all i xs past) p

-- texts as a call sees them
pub seen_texts : (shown items : List (Bor (List ℕ))) (texts : List (List ℕ)) → shown ≡ items → map (λ text. text.now) items ≡ texts
    → map (λ text. text.now) shown ≡ texts
seen_texts shown items texts is same = let views : List (Bor (List ℕ)) → List (List ℕ) = λ ys. map (λ text. text.now) ys in ap views is ∙ same

all_behind : {X : Type 0} (P : X → Type 0) (xs ys : List X) → All P (xs ++ ys) → All P ys
all_behind P [] ys all = all
all_behind P (x ∷ xs) ys all = all_behind P xs ys (All-tail P x (xs ++ ys) all)

-- if one of the texts is not UTF-8, not all are
texts_fail : (whole front : List (List ℕ)) (text : List ℕ) (more : List (List ℕ)) (why : NoAnswer)
    → front ++ text ∷ more ≡ whole → IsTextsFailure (text ∷ []) why → IsTextsFailure whole why
texts_fail whole front text more reasons.Accepted same said = said
texts_fail whole front text more reasons.Refused same said = said
texts_fail whole front text more reasons.NotUtf8 same said =
    λ all. said (All-cons IsUtf8 text [] (All-head IsUtf8 text more (all_behind IsUtf8 front (text ∷ more) (subst (All IsUtf8) (sym same) all))) (All-nil IsUtf8))
texts_fail whole front text more reasons.Memory same said = said
texts_fail whole front text more reasons.BadLengths same said = said

-- a step of a loop over the lengths: a text, and what is behind it
module _ (lengths rest : List ℕ) (i n d : ℕ) (text behind : List ℕ) (within : i < length lengths) (is : n ≡ get_or lengths i d)
    (front : text ≡ take n rest) (back : behind ≡ drop n rest) where
  one_read : parts (drop i lengths) rest ≡ text ∷ parts (drop (i + 1) lengths) behind
  one_read =
      ap (λ ns. parts ns rest) (drop_more lengths i d within)
      ∙ ap (λ t. t ∷ parts (drop (i + 1) lengths) (drop (get_or lengths i d) rest)) (sym (front ∙ ap (λ k. take k rest) is))
      ∙ ap (λ b. text ∷ parts (drop (i + 1) lengths) b) (sym (back ∙ ap (λ k. drop k rest) is))

  pub texts_stop : (before whole : List (List ℕ)) (why : NoAnswer) → before ++ parts (drop i lengths) rest ≡ whole → IsTextsFailure (text ∷ []) why
      → IsTextsFailure whole why
  texts_stop before whole why so_far said =
      texts_fail whole before text (parts (drop (i + 1) lengths) behind) why (ap (λ l. before ++ l) (sym one_read) ∙ so_far) said

  pub texts_step : (before after whole : List (List ℕ)) → after ≡ before ++ text ∷ [] → before ++ parts (drop i lengths) rest ≡ whole
      → after ++ parts (drop (i + 1) lengths) behind ≡ whole
  texts_step before after whole grown so_far =
      let more = parts (drop (i + 1) lengths) behind in
      ap (λ l. l ++ more) grown ∙ append_assoc before (text ∷ []) more ∙ ap (λ l. before ++ l) (sym one_read) ∙ so_far

  pub left_step : sum (drop i lengths) ≡ length rest → sum (drop (i + 1) lengths) ≡ length behind
  left_step left =
      let first : sum (drop i lengths) ≡ get_or lengths i d + sum (drop (i + 1) lengths) = sum_by-drop_more (λ n. n) lengths i d within in
      omega (arith, first, left, ap (λ l. length l) back, length-drop n rest)

pub utf8_step : (before after : List (List ℕ)) (text : List ℕ) → after ≡ before ++ text ∷ [] → All IsUtf8 before → IsUtf8 text → All IsUtf8 after
utf8_step before after text grown all last = All-same IsUtf8 after (before ++ text ∷ []) grown (All-push IsUtf8 before text all last)

-- where no text is left
pub texts_whole : (lengths rest : List ℕ) (i : ℕ) (before whole : List (List ℕ)) → length lengths ≤ i → before ++ parts (drop i lengths) rest ≡ whole → before ≡ whole
texts_whole lengths rest i before whole past so_far =
    let none : parts (drop i lengths) rest ≡ [] = ap (λ ns. parts ns rest) (drop_all i lengths past) in
    sym (append-nil before) ∙ ap (λ l. before ++ l) (sym none) ∙ so_far

pub texts_end : (lengths rest : List ℕ) (i : ℕ) (before whole : List (List ℕ)) → length lengths ≤ i → before ++ parts (drop i lengths) rest ≡ whole
    → All IsUtf8 before → All IsUtf8 whole
texts_end lengths rest i before whole past so_far all = subst (All IsUtf8) (texts_whole lengths rest i before whole past so_far) all
