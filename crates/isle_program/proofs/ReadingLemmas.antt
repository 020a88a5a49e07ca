-- The tree of a text, and its refusal, from what lexer and parser promise; and readings, as they grow by one text.
use Rattle.std.proofs.Common.{◌≡◌, ℕ, ◌+◌, ◌<◌, suc, length, get_or, take, List, [], ◌∷◌, ◌++◌, Option, None, inl, inr, Result, Ok, Err, IfOk, IfErr, map, refl, sym, ap, subst, ◌∙◌, arith}
use Rattle.std.specs.Global.{Vec}
use Rattle.std.specs.List.{flat_map}
use Rattle.std.proofs.lemmas.Grind.{flat_map-append, take_at_read}
use Rattle.std.proofs.lemmas.List.{length-map, length-take-le, map-append}
use Rattle.isle_base_source.specs.Source as files
use Rattle.isle_base_source.specs.declared.error.Error.{Error}
use Rattle.isle_base.specs.declared.fault.Fault.{Fault}
use Rattle.isle_base.specs.declared.fault.Fault.TheVariants as faults
use Rattle.isle_base.specs.Lexing.{lexes}
use Rattle.isle_base.specs.Place.{in_file, placed}
use Rattle.isle_base.specs.Steps.{IfError, RefusesStart}
use Rattle.isle_base.specs.Token.{end, fault, Feed}
use Rattle.isle_base.proofs.Complete.{Lexes-unique}
use Rattle.isle_parser.specs.Parsed.{RefusesText}
use Rattle.isle_base.specs.Refusal.{RefusesIn}
use Rattle.isle_ast.specs.Grammar.{SpellsDefinitions}
use Rattle.isle_ast.specs.Spelt.{Spells, IsSpelt}
use Rattle.isle_ast.specs.Tree.{Definition}
use Rattle.isle_ast.specs.TreeView.{definitions_of}
use Rattle.isle_ast.specs.declared.ast.Def.{Def}
use Rattle.isle_cli.specs.Sources.{source_of}
use Rattle.isle_cli.specs.declared.sources.Source.{Source}
use Rattle.isle_program.specs.Reading.{Adds, AreOutcomes, IsOutcome, IsReadAs, IsReading, IsTreeOf, IsWellReadAs, Outcome, refusal, refusal_of, too_deep, tree, tree_of}
use Rattle.isle_program.specs.Nesting.{FirstDeep}
use Rattle.isle_program.specs.declared.trees.Reading.{Reading}

-- what a lexer of the whole text has to give spells what the text spells
Spells-IsSpelt : (file : ℕ) (text : List ℕ) (feed : Feed) (ds : List Definition) → lexes text feed.coming feed.ending → Spells (in_file file) feed ds → IsSpelt (in_file file) text ds
Spells-IsSpelt file text feed ds l s = (feed.coming, subst (λ e. lexes text feed.coming e) s.0 l, s.1)

IsSpelt-Spells : (file : ℕ) (text : List ℕ) (feed : Feed) (ds : List Definition) → lexes text feed.coming feed.ending → IsSpelt (in_file file) text ds → Spells (in_file file) feed ds
IsSpelt-Spells file text feed ds l s =
    let same = Lexes-unique (length text) text s.0 feed.coming end feed.ending s.1 l in
    (sym same.1, subst (λ tokens. SpellsDefinitions ds (placed (in_file file) tokens)) same.0 s.2)

-- a text that begins with a fault is refused there
pub refused-start : (file : ℕ) (text : List ℕ) (f : Fault) → IfError (RefusesStart file text) f → IsReadAs file text (Err f)
refused-start file text (faults.Error e) s = record {
  no_tree = λ ds t. absurd (cc (Lexes-unique (length text) text t.0 [] end (fault s.0) t.1 s.1).1);
  place = (s.0, omega (arith, (s.1).3), s.2);
}
refused-start file text faults.Failed s = tt
refused-start file text faults.Memory s = tt

-- what a parser answers of a lexer of the whole text
pub read-tree : (file : ℕ) (text : List ℕ) (feed : Feed) (ds : List Definition) → feed.file ≡ file → lexes text feed.coming feed.ending
    → Spells (in_file feed.file) feed ds → ((es : List Definition) → Spells (in_file feed.file) feed es → es ≡ ds) → IsTreeOf file text ds
read-tree file text feed ds is l spelt only = record {
  spelt = Spells-IsSpelt file text feed ds l (subst (λ n. Spells (in_file n) feed ds) is spelt);
  only = λ es t. only es (subst (λ n. Spells (in_file n) feed es) (sym is) (IsSpelt-Spells file text feed es l t));
}

pub refused-tree : (file : ℕ) (text : List ℕ) (feed : Feed) (f : Fault) → feed.file ≡ file → feed.size ≡ length text
    → lexes text feed.coming feed.ending → RefusesText (in_file feed.file) feed f → IsReadAs file text (Err f)
refused-tree file text feed (faults.Error e) is size l refused = record {
  no_tree = λ ds spelt. refused.0 ds (subst (λ n. Spells (in_file n) feed ds) (sym is) (IsSpelt-Spells file text feed ds l spelt));
  place = subst (λ n. RefusesIn file n e) size (subst (λ n. RefusesIn n feed.size e) is refused.1);
}
refused-tree file text feed faults.Failed is size l refused = tt
refused-tree file text feed faults.Memory is size l refused = tt

append-none : {A : Type 0} (xs : List A) → xs ++ [] ≡ xs
append-none [] = refl
append-none (x ∷ xs) = ap (λ l. x ∷ l) (append-none xs)

-- the same of any answer of the parser
pub read-parsed : (file : ℕ) (text : List ℕ) (feed : Feed) (r : Result (Vec Def) Fault) → feed.file ≡ file → feed.size ≡ length text
    → lexes text feed.coming feed.ending → IfOk r (λ defs. Spells (in_file feed.file) feed (definitions_of defs.items))
    → IfOk r (λ defs. (es : List Definition) → Spells (in_file feed.file) feed es → es ≡ definitions_of defs.items)
    → IfErr r (RefusesText (in_file feed.file) feed) → IsReadAs file text r
read-parsed file text feed (Ok defs) is size l spelt only refused = read-tree file text feed (definitions_of defs.items) is l spelt only
read-parsed file text feed (Err f) is size l spelt only refused = refused-tree file text feed f is size l refused

one-on : (file n : ℕ) → file + suc n ≡ (file + 1) + n
one-on file n = omega arith

-- what comes of one text more
outcomes-push : (file : ℕ) (ss : List files.Source) (os : List Outcome) (s : files.Source) (o : Outcome) →
    AreOutcomes file ss os → IsOutcome (file + length ss) s.text o → AreOutcomes file (ss ++ s ∷ []) (os ++ o ∷ [])
outcomes-push file [] [] s o each last = let At : ℕ → Type 0 = λ n. IsOutcome n s.text o in let none : file + 0 ≡ file = omega arith in (subst At none last, tt)
outcomes-push file [] (p ∷ os) s o each last = absurd each
outcomes-push file (r ∷ ss) [] s o each last = absurd each
outcomes-push file (r ∷ ss) (p ∷ os) s o each last =
    let At : ℕ → Type 0 = λ n. IsOutcome n s.text o in
    (each.0, outcomes-push (file + 1) ss os s o each.1 (subst At (one-on file (length ss)) last))

-- a reading that has one outcome more
reading-push : (ss : List files.Source) (s : files.Source) (ds es : List Definition) (rs qs : List (Option Error)) (o : Outcome) →
    IsReading ss ds rs → IsOutcome (length ss) s.text o → es ≡ ds ++ tree_of o → qs ≡ rs ++ refusal_of o ∷ [] → IsReading (ss ++ s ∷ []) es qs
reading-push ss s ds es rs qs o reading last trees refused =
    let At : ℕ → Type 0 = λ n. IsOutcome n s.text o in
    let first : length ss ≡ 0 + length ss = omega arith in
    let alone : flat_map tree_of (o ∷ []) ≡ tree_of o = append-none (tree_of o) in
    record {
      outcomes = reading.outcomes ++ o ∷ [];
      each = outcomes-push 0 ss reading.outcomes s o reading.each (subst At first last);
      trees = trees ∙ ap (λ l. l ++ tree_of o) reading.trees ∙ ap (λ l. flat_map tree_of reading.outcomes ++ l) (sym alone) ∙ sym (flat_map-append tree_of reading.outcomes (o ∷ []));
      refused = refused ∙ ap (λ l. l ++ refusal_of o ∷ []) reading.refused ∙ sym (map-append refusal_of reading.outcomes (o ∷ []));
    }

none-more : (ds : List Definition) → ds ≡ ds ++ []
none-more ds = sym (append-none ds)

-- a text that is not parsed, since it nests too deeply, or is refused by the parser
refused-more : (ss : List files.Source) (s : files.Source) (old new : Reading) (e : Error) →
    IsReading ss (definitions_of old.defs.items) old.refusals.items → IsWellReadAs (length ss) s.text (Err (faults.Error e)) →
    Adds old (Err (faults.Error e)) new → IsReading (ss ++ s ∷ []) (definitions_of new.defs.items) new.refusals.items
refused-more ss s old new e reading (inl is) adds =
    reading-push ss s _ _ _ _ (refusal e) reading is (adds.0 ∙ none-more (definitions_of old.defs.items)) adds.1
refused-more ss s old new e reading (inr is) adds =
    reading-push ss s _ _ _ _ (too_deep e) reading is (adds.0 ∙ none-more (definitions_of old.defs.items)) adds.1

-- a reading that has one text more
reading-more : (ss : List files.Source) (s : files.Source) (old new : Reading) (read : Result (Vec Def) Fault) →
    IsReading ss (definitions_of old.defs.items) old.refusals.items → IsWellReadAs (length ss) s.text read → Adds old read new →
    IsReading (ss ++ s ∷ []) (definitions_of new.defs.items) new.refusals.items
reading-more ss s old new (Ok defs) reading is adds = reading-push ss s _ _ _ _ (tree (definitions_of defs.items)) reading is adds.0 adds.1
reading-more ss s old new (Err (faults.Error e)) reading is adds = refused-more ss s old new e reading is adds
reading-more ss s old new (Err faults.Failed) reading is adds = absurd adds
reading-more ss s old new (Err faults.Memory) reading is adds = absurd adds

-- the same in a loop over the texts
pub reading-step : (xs : List Source) (i : ℕ) (x : Source) (old new : Reading) (read : Result (Vec Def) Fault) →
    i < length xs → x ≡ get_or xs i x →
    IsReading (map source_of (take i xs)) (definitions_of old.defs.items) old.refusals.items → IsWellReadAs i (source_of x).text read → Adds old read new →
    IsReading (map source_of (take (i + 1) xs)) (definitions_of new.defs.items) new.refusals.items
reading-step xs i x old new read within is reading reads adds =
    let count : i ≡ length (map source_of (take i xs)) = sym (length-map (take i xs) source_of ∙ length-take-le i xs (omega arith)) in
    let At : ℕ → Type 0 = λ n. IsWellReadAs n (source_of x).text read in
    let Of : List files.Source → Type 0 = λ ss. IsReading ss (definitions_of new.defs.items) new.refusals.items in
    let grown : map source_of (take i xs) ++ source_of x ∷ [] ≡ map source_of (take (i + 1) xs) =
    ap (λ y. map source_of (take i xs) ++ source_of y ∷ []) is
    ∙ sym (map-append source_of (take i xs) (get_or xs i x ∷ []))
    ∙ ap (λ ys. map source_of ys) (sym (take_at_read xs i x within).1) in
    subst Of grown (reading-more (map source_of (take i xs)) (source_of x) old new read reading (subst At count reads) adds)

-- what a parser answers of a text that does not nest too deeply
pub read-shallow : (file : ℕ) (text : List ℕ) (r : Result (Vec Def) Fault) → FirstDeep text None → IsReadAs file text r → IsWellReadAs file text r
read-shallow file text (Ok defs) first is = (first, is)
read-shallow file text (Err (faults.Error e)) first is = inl (first, is)
read-shallow file text (Err faults.Failed) first is = tt
read-shallow file text (Err faults.Memory) first is = tt
