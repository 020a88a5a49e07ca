-- Texts in which a name gets a new text spell the renamed definitions.
use Rattle.std.proofs.Common.{◌≡◌, ◌⊎◌, inl, inr, ℕ, ◌+◌, ◌≤◌, List, [], ◌∷◌, ◌++◌, Bool, true, false, cond, not, Option, None, Some, filter, refl, sym, ap, subst, ◌∙◌, length, arith, ⊎_elim}
use Rattle.std.proofs.lemmas.Bool.{and_parts}
use Rattle.std.proofs.lemmas.List.{append-nil}
use Rattle.std.proofs.lemmas.List.Sorted.{sum_by-IsPermutation}
use Rattle.std.proofs.lemmas.List.Sums.{sum_by-cons}
use Rattle.std.specs.List.{AllByRecursion, cons_option, filter_map, list_any, sum_by}
use Rattle.std.specs.List.Sorted.{IsSorted}
use Rattle.isle_base.specs.Lexing.{lexes}
use Rattle.isle_base.specs.Place.{Placed, in_file, nowhere, placed}
use Rattle.isle_base.specs.Token.{Feed, Lexeme, end, symbol}
use Rattle.isle_base.proofs.Complete.{Lexes-unique}
use Rattle.isle_base_source.specs.PositionOrder.{position_cmp}
use Rattle.isle_base_source.specs.declared.pos.Pos.{Pos}
use Rattle.isle_ast_names.specs.Erased.{erase_tokens}
use Rattle.isle_ast_names.specs.Tree.{Name}
use Rattle.isle_ast.specs.Erased.{erase}
use Rattle.isle_ast.specs.Grammar.{SpellsDefinitions}
use Rattle.isle_ast.specs.Spelt.{IsSpelt}
use Rattle.isle_ast.specs.Tree.{Definition}
use Rattle.isle_ast.proofs.Erasing.{text_placed}
use Rattle.isle_ast.proofs.Lawful.Definitions.{definitions_lawful}
use Rattle.isle_resolve.specs.Event.{EventNode}
use Rattle.isle_resolve.specs.Events.{events}
use Rattle.isle_resolve.specs.Mapped.{map_definitions}
use Rattle.isle_resolve.specs.Names.{NameNode, name_text}
use Rattle.isle_index.specs.Renamed.{are_apart, front, places_of, replaced, same_place}
use Rattle.isle_index.specs.Renaming.{IsAccepted, Part, changed_places, changes, is_new_name, members, part_of, part_text, position}
use Rattle.isle_resolve.specs.Scopes.{SeenNode, seen}
use Rattle.isle_index.proofs.Texts.{or-left, or-right}
use Rattle.isle_index_laws.specs.RenamedTokens.{as_written, is_constant, lead, positions, renamed_tokens}
use Rattle.isle_index_laws.specs.SpeltTexts.{AreSpelt, AreSpeltWith, SpeltText, definitions_of}
use Rattle.isle_index_laws.proofs.Apart.{events_of_both, names_at, none_elsewhere, program_apart, text_names, tokens_apart}
use Rattle.isle_index_laws.proofs.Marks.{events_at, one_if}
use Rattle.isle_index_laws.proofs.Programs.{program_spells}
use Rattle.isle_index_laws.proofs.RenamedTokens.{apart, names_at_most, once, places_at}
use Rattle.isle_index_laws.specs.edits.EditedTexts.{AreNamed, AreNotGlued, AreSpeltEdited, BeginsWith, SpellsUpToPositions, edited_text, edited_tokens}
use Rattle.isle_index_laws.proofs.edits.Accepted.{AnyNamed, named, new_name}
use Rattle.isle_index_laws.proofs.edits.Edited.{edited_lexes, edited_renamed}
use Rattle.isle_index_laws.proofs.KeptNames.{clash}
use Rattle.isle_index_laws.proofs.NewNames.{not-false}
use Rattle.isle_index_laws.proofs.edits.Positions.{same_self}
use Rattle.isle_index_laws.proofs.edits.Tokened.{Has, has_token, named_at, written}

-- the positions that change are apart

one_more : (C : SeenNode → Bool) (p : Pos) (ss : List SeenNode) (o : Option Pos) → places_at p (filter_map (λ x. position x.event) (filter C ss)) ≤ places_at p (places_of ss) →
    places_at p (cons_option o (filter_map (λ x. position x.event) (filter C ss))) ≤ places_at p (cons_option o (places_of ss))
one_more C p ss None h = h
one_more C p ss (Some q) h = omega arith

none_more : (C : SeenNode → Bool) (p : Pos) (ss : List SeenNode) (o : Option Pos) → places_at p (filter_map (λ x. position x.event) (filter C ss)) ≤ places_at p (places_of ss) →
    places_at p (filter_map (λ x. position x.event) (filter C ss)) ≤ places_at p (cons_option o (places_of ss))
none_more C p ss None h = h
none_more C p ss (Some q) h = omega arith

filtered : (C : SeenNode → Bool) (p : Pos) (s : SeenNode) (ss : List SeenNode) (b : Bool) →
    places_at p (filter_map (λ x. position x.event) (filter C ss)) ≤ places_at p (places_of ss) →
    places_at p (filter_map (λ x. position x.event) (cond b (s ∷ filter C ss) (filter C ss))) ≤ places_at p (places_of (s ∷ ss))
filtered C p s ss true fewer = one_more C p ss (position s.event) fewer
filtered C p s ss false fewer = none_more C p ss (position s.event) fewer

fewer : (C : SeenNode → Bool) (p : Pos) (ss : List SeenNode) → places_at p (filter_map (λ x. position x.event) (filter C ss)) ≤ places_at p (places_of ss)
fewer C p [] = omega arith
fewer C p (s ∷ ss) = filtered C p s ss (C s) (fewer C p ss)

-- as a sum
summed : (p : Pos) (qs : List Pos) → places_at p qs ≡ sum_by (λ q. one_if (same_place p q)) qs
summed p [] = refl
summed p (q ∷ qs) = let more = summed p qs in let sum = sum_by-cons (λ r. one_if (same_place p r)) q qs in omega arith

pub changed_apart : (es : List EventNode) (given : NameNode) (new : List ℕ) (places : List Pos) → are_apart (places_of (seen es)) ≡ true → IsAccepted given new (seen es) places → are_apart places ≡ true
changed_apart es given new places away ok =
    apart places
    (λ p.
    let least = once (places_of (seen es)) away p in
    let some = fewer (changes (members (name_text given) (seen es)) given) p (seen es) in
    let same = sum_by-IsPermutation (λ q. one_if (same_place p q)) (changed_places given (seen es)) places ok.exact in
    let one = summed p places in
    let other = summed p (changed_places given (seen es)) in
    omega arith)

-- the tokens at the positions that change

pub all_of : (Q : Pos → Type 0) (ps : List Pos) → ((p : Pos) → list_any (same_place p) ps ≡ true → Q p) → AllByRecursion Q ps
all_of Q [] h = tt
all_of Q (p ∷ ps) h =
    (h p (or-left (same_place p p) (list_any (same_place p) ps) (same_self p)), all_of Q ps (λ q there. h q (or-right (same_place q p) (list_any (same_place q) ps) there)))

has_place : (ts : List Placed) (t : Placed) → Has ts t → list_any (same_place t.pos) (positions ts) ≡ true
has_place [] t h = absurd h
has_place (u ∷ ts) t (inl is) = or-left (same_place t.pos u.pos) (list_any (same_place t.pos) (positions ts)) (ap (λ v. same_place t.pos v.pos) is ∙ same_self t.pos)
has_place (u ∷ ts) t (inr later) = or-right (same_place t.pos u.pos) (list_any (same_place t.pos) (positions ts)) (has_place ts t later)

-- at each position is at most one token
only : (ts : List Placed) (t u : Placed) → are_apart (positions ts) ≡ true → Has ts t → Has ts u → t.pos ≡ u.pos → t ≡ u
only [] t u away h k same = absurd h
only (v ∷ ts) t u away (inl is) (inl was) same = sym is ∙ was
only (v ∷ ts) t u away (inl is) (inr later) same =
    let both = and_parts (not (list_any (same_place v.pos) (positions ts))) (are_apart (positions ts)) away in
    let there : list_any (same_place v.pos) (positions ts) ≡ true = ap (λ p. list_any (same_place p) (positions ts)) (ap (λ w. w.pos) is ∙ same) ∙ has_place ts u later in
    clash (list_any (same_place v.pos) (positions ts)) there (not-false (list_any (same_place v.pos) (positions ts)) both.0)
only (v ∷ ts) t u away (inr later) (inl was) same =
    let both = and_parts (not (list_any (same_place v.pos) (positions ts))) (are_apart (positions ts)) away in
    let there : list_any (same_place v.pos) (positions ts) ≡ true = ap (λ p. list_any (same_place p) (positions ts)) (ap (λ w. w.pos) was ∙ sym same) ∙ has_place ts t later in
    clash (list_any (same_place v.pos) (positions ts)) there (not-false (list_any (same_place v.pos) (positions ts)) both.0)
only (v ∷ ts) t u away (inr later) (inr more) same =
    only ts t u (and_parts (not (list_any (same_place v.pos) (positions ts))) (are_apart (positions ts)) away).1 later more same

all_tokens : (Q : Placed → Type 0) (ts : List Placed) → ((t : Placed) → Has ts t → Q t) → AllByRecursion Q ts
all_tokens Q [] h = tt
all_tokens Q (t ∷ ts) h = (h t (inl refl), all_tokens Q ts (λ u there. h u (inr there)))

in_it : (file : ℕ) (xs : List Lexeme) (t : Placed) → Has (placed (in_file file) xs) t → t.pos.file ≡ file
in_it file [] t h = absurd h
in_it file (x ∷ xs) t (inl is) = ap (λ u. u.pos.file) (sym is)
in_it file (x ∷ xs) t (inr later) = in_it file xs t later

-- at each position of the file stands an event of its text
abbrev pub Stand : Bool → Part → List Pos → ℕ → List EventNode → Type 0
Stand c part places file es = (p : Pos) → list_any (same_place p) places ≡ true → p.file ≡ file → AnyNamed c part p es

pub written_both : (c : Bool) (stay old behind : List ℕ) → as_written c ((stay ++ old) ++ behind) ≡ (as_written c stay ++ old) ++ behind
written_both true stay old behind = refl
written_both false stay old behind = refl

begins : (c : Bool) (stay old : List ℕ) (n : Name) (t : Placed) → t ≡ written c n → (behind : List ℕ) × (n.text ≡ (stay ++ old) ++ behind) → BeginsWith (as_written c stay ++ old) t.token
begins c stay old n t is b = (b.0, ap (λ u. u.token) is ∙ ap (λ text. symbol (as_written c text)) b.1 ∙ ap symbol (written_both c stay old b.0))

are_named : (file : ℕ) (places : List Pos) (given : NameNode) (part : Part) (ds : List Definition) (xs : List Lexeme) → SpellsDefinitions ds (placed (in_file file) xs) → are_apart (positions (placed (in_file file) xs)) ≡ true →
    Stand (is_constant given) part places file (events ds) → AreNamed file places given part (placed (in_file file) xs)
are_named file places given part ds xs h away stand =
    let ts : List Placed = placed (in_file file) xs in
    let c : Bool = is_constant given in
    record {
      stand = all_of (λ p. p.file ≡ file → list_any (same_place p) (positions ts) ≡ true) places
          (λ p there inside.
          let e = stand p there inside in
          let t = has_token ds ts e.0 c e.2.0 h away e.1 e.2.1 in
          ap (λ q. list_any (same_place q) (positions ts)) (sym e.2.2) ∙ has_place ts (written c e.2.0) t);
      begin = all_tokens (λ t. list_any (same_place t.pos) places ≡ true → BeginsWith (lead c part t.pos ++ part_text part) t.token) ts
          (λ t here there.
          let e = stand t.pos there (in_it file xs t here) in
          let u = has_token ds ts e.0 c e.2.0 h away e.1 e.2.1 in
          begins c (front part t.pos) (part_text part) e.2.0 t (only ts t (written c e.2.0) away here u (sym e.2.2)) (e.2.3.0, e.2.3.1));
    }

-- texts

split_named : (c : Bool) (part : Part) (p : Pos) (es fs : List EventNode) → AnyNamed c part p (es ++ fs) → AnyNamed c part p es ⊎ AnyNamed c part p fs
split_named c part p [] fs h = inr h
split_named c part p (e ∷ es) fs (d, inl is, n) = inl (d, inl is, n)
split_named c part p (e ∷ es) fs (d, inr later, n) =
    ⊎_elim (λ one. inl (one.0, inr one.1, one.2)) (λ other. inr other) (split_named c part p es fs (d, later, n))

count : (c : Bool) (part : Part) (p : Pos) (es : List EventNode) → AnyNamed c part p es → 1 ≤ events_at c p es
count c part p es h = subst (λ q. 1 ≤ events_at c q es) h.2.2 (named_at es h.0 c h.2.0 h.1 h.2.1)

among : (c : Bool) (p : Pos) (es : List EventNode) → events_at c p es ≤ names_at p es
among true p es = omega arith
among false p es = omega arith

-- a text that lexes to tokens that spell definitions up to positions
spelt_as : (place : ℕ → Pos) (text : List ℕ) (ds : List Definition) (xs : List Lexeme) (ts : List Placed) → lexes text xs end → placed nowhere xs ≡ erase_tokens ts → SpellsDefinitions ds ts →
    SpellsUpToPositions place text ds
spelt_as place text ds xs ts l same h =
    let feed : Feed = record { file = 0; coming = xs; ending = end; size = length text } in
    let bare : SpellsDefinitions (erase ds) (placed nowhere xs) = subst (SpellsDefinitions (erase ds)) (sym same) ((definitions_lawful ds).erased ts [] h) in
    let whole = text_placed place feed (erase ds) (refl, bare) in
    (whole.0, (xs, l, whole.2.1), whole.1)

-- at each position of a text's file stands an event of it
abbrev pub EachStands : Bool → Part → List Pos → ℕ → List SpeltText → Type 0
EachStands c part places file [] = Unit {0}
EachStands c part places file (t ∷ ts) = Stand c part places file (events t.definitions) × EachStands c part places (file + 1) ts

each_stands : (c : Bool) (part : Part) (places : List Pos) (file : ℕ) (ts : List SpeltText) → AreSpelt file ts →
    ((p : Pos) → list_any (same_place p) places ≡ true → file ≤ p.file → AnyNamed c part p (events (definitions_of ts))) → EachStands c part places file ts
each_stands c part places file [] spelt stand = tt
each_stands c part places file (t ∷ ts) spelt stand =
    let tokens : List Lexeme = spelt.0.0 in
    let each : (p : Pos) → list_any (same_place p) places ≡ true → file ≤ p.file → AnyNamed c part p (events t.definitions) ⊎ AnyNamed c part p (events (definitions_of ts)) =
    λ p there past. split_named c part p (events t.definitions) (events (definitions_of ts)) (subst (AnyNamed c part p) (events_of_both t.definitions (definitions_of ts)) (stand p there past)) in (
      λ p there inside.
          ⊎_elim (λ one. one)
          (λ other.
          let number = count c part p (events (definitions_of ts)) other in
          let none = (text_names p (file + 1) ts spelt.1).1 (omega arith) in
          let most = among c p (events (definitions_of ts)) in
          absurd (omega arith))
          (each p there (omega arith)),
      each_stands c part places (file + 1) ts spelt.1
          (λ p there past.
          ⊎_elim
          (λ one.
          let number = count c part p (events t.definitions) one in
          let most = names_at_most t.definitions (placed (in_file file) tokens) spelt.0.2 p in
          let some = among c p (events t.definitions) in
          let none = none_elsewhere p file tokens (λ e. omega arith) in
          absurd (omega arith))
          (λ other. other)
          (each p there (omega arith))),
    )

pub accepted_stands : (file : ℕ) (ts : List SpeltText) (given : NameNode) (new : List ℕ) (places : List Pos) → AreSpelt file ts → IsAccepted given new (seen (events (definitions_of ts))) places →
    EachStands (is_constant given) (part_of given (seen (events (definitions_of ts)))) places file ts
accepted_stands file ts given new places spelt ok =
    each_stands (is_constant given) (part_of given (seen (events (definitions_of ts)))) places file ts spelt
    (λ p there _. named (events (definitions_of ts)) given new places (program_apart file ts spelt) ok p there)

texts_spelt : (places : List Pos) (given : NameNode) (part : Part) (new : List ℕ) → is_new_name new ≡ true → IsSorted position_cmp places → are_apart places ≡ true → (file : ℕ) (ts : List SpeltText) → AreSpelt file ts →
    AreSpeltWith (replaced places part new) (renamed_tokens places given part new) file ts → EachStands (is_constant given) part places file ts → AreSpeltEdited places given part new file ts
texts_spelt places given part new fresh up away file [] spelt turned stand = tt
texts_spelt places given part new fresh up away file (t ∷ ts) spelt turned stand =
    let tokens : List Lexeme = spelt.0.0 in
    let apart_here = tokens_apart file (length t.text) t.text tokens spelt.0.1 (omega arith) in
    let same : turned.0.0 ≡ tokens = (Lexes-unique (length t.text) t.text turned.0.0 tokens end end turned.0.1 spelt.0.1).0 in
    let renamed : SpellsDefinitions (map_definitions (replaced places part new) t.definitions) (renamed_tokens places given part new (placed (in_file file) tokens)) =
    subst (λ xs. SpellsDefinitions (map_definitions (replaced places part new) t.definitions) (renamed_tokens places given part new (placed (in_file file) xs))) same turned.0.2 in (
      λ free.
          spelt_as (in_file file) (edited_text file places given part new t.text) (map_definitions (replaced places part new) t.definitions) (edited_tokens file places given part new tokens) (renamed_tokens places given part new (placed (in_file file) tokens))
          (edited_lexes file places t.text tokens given part new spelt.0.1 fresh up away (are_named file places given part t.definitions tokens spelt.0.2 apart_here stand.0) free)
          (edited_renamed file places given part new tokens) renamed,
      texts_spelt places given part new fresh up away (file + 1) ts spelt.1 turned.1 stand.1,
    )

pub edited_program_spells : (file : ℕ) (ts : List SpeltText) (given : NameNode) (new : List ℕ) (places : List Pos) → AreSpelt file ts → IsAccepted given new (seen (events (definitions_of ts))) places →
    AreSpeltEdited places given (part_of given (seen (events (definitions_of ts)))) new file ts
edited_program_spells file ts given new places spelt ok =
    let ds : List Definition = definitions_of ts in
    texts_spelt places given (part_of given (seen (events ds))) new (new_name given new (seen (events ds)) ok.accepted) ok.in_order (changed_apart (events ds) given new places (program_apart file ts spelt) ok) file ts spelt
    (program_spells file ts given new places spelt ok) (accepted_stands file ts given new places spelt ok)

-- the same of one text
pub edited_text_spells : (file : ℕ) (text : List ℕ) (ds : List Definition) (given : NameNode) (new : List ℕ) (places : List Pos) → IsSpelt (in_file file) text ds → IsAccepted given new (seen (events ds)) places →
    AreNotGlued file places given (part_of given (seen (events ds))) text →
    SpellsUpToPositions (in_file file) (edited_text file places given (part_of given (seen (events ds))) new text) (map_definitions (replaced places (part_of given (seen (events ds))) new) ds)
edited_text_spells file text ds given new places spelt ok free =
    let one : List SpeltText = record { text = text; definitions = ds } ∷ [] in
    let same : ds ≡ definitions_of one = sym (append-nil ds) in
    let Spells : List Definition → Type 0 = λ es.
    AreNotGlued file places given (part_of given (seen (events es))) text →
    SpellsUpToPositions (in_file file) (edited_text file places given (part_of given (seen (events es))) new text) (map_definitions (replaced places (part_of given (seen (events es))) new) ds) in
    subst Spells (sym same) (edited_program_spells file one given new places (spelt, tt) (subst (λ es. IsAccepted given new (seen (events es)) places) same ok)).0 free
