-- The names of texts stand apart.
use Rattle.std.proofs.Common.{◌≡◌, ℕ, ◌+◌, ◌-◌, ◌<◌, ◌≤◌, List, [], ◌∷◌, ◌++◌, Bool, true, false, not, ◌&&◌, ◌||◌, ◌==◌, refl, sym, ap, ◌∙◌, ⊎_elim, length, append_assoc, arith}
use Rattle.std.proofs.lemmas.Bool.{and_from, cases_lt, ne_eqb}
use Rattle.std.specs.List.{list_any}
use Rattle.isle_base.specs.Lexing.{Lexes}
use Rattle.isle_base.specs.Place.{in_file, placed}
use Rattle.isle_base.specs.Token.{Lexeme, end}
use Rattle.isle_base.proofs.Complete.{Skip-le, Spelling-shorter}
use Rattle.isle_base_source.specs.declared.pos.Pos.{Pos}
use Rattle.isle_ast.specs.Tree.{Definition}
use Rattle.isle_resolve.specs.Event.{EventNode}
use Rattle.isle_resolve.specs.Events.{definition_events, events}
use Rattle.isle_index.specs.Renamed.{are_apart, places_of, same_place}
use Rattle.isle_resolve.specs.Scopes.{seen}
use Rattle.isle_index_laws.specs.RenamedTokens.{positions}
use Rattle.isle_index_laws.specs.SpeltTexts.{AreSpelt, SpeltText, definitions_of}
use Rattle.isle_index_laws.proofs.Marks.{events_at, events_in_turn, one_if}
use Rattle.isle_index_laws.proofs.RenamedTokens.{apart, each_event, names_at_most, once, places_at}

second : (a b : Bool) → b ≡ false → a && b ≡ false
second true b h = h
second false b h = refl

-- another place has another offset, or another file
other_offset : (p : Pos) (file offset : ℕ) → (p.offset ≡ offset → ⊥) → same_place p (in_file file offset) ≡ false
other_offset p file offset h = second (p.file == file) (p.offset == offset) (ne_eqb p.offset offset h)

other_file : (p : Pos) (file offset : ℕ) → (p.file ≡ file → ⊥) → same_place p (in_file file offset) ≡ false
other_file p file offset h = ap (λ b. b && (p.offset == offset)) (ne_eqb p.file file h)

-- tokens come one behind another
none_before : (file size : ℕ) (text : List ℕ) (xs : List Lexeme) → Lexes size text xs end → length text ≤ size → (p : Pos) → p.offset < size - length text → list_any (same_place p) (positions (placed (in_file file) xs)) ≡ false
none_before file size text [] l fits p less = refl
none_before file size text (x ∷ xs) l fits p less =
    let skip = Skip-le l.2 in
    let shorter = Spelling-shorter l.0 x.token l.1 l.3 in
    let place : x.offset ≡ size - length l.0 = l.4 in
    let away : p.offset ≡ x.offset → ⊥ = λ (e : p.offset ≡ x.offset). omega arith in
    ap (λ b. b || list_any (same_place p) (positions (placed (in_file file) xs))) (other_offset p file x.offset away)
    ∙ none_before file size l.1 xs l.6 (omega arith) p (omega arith)

pub tokens_apart : (file size : ℕ) (text : List ℕ) (xs : List Lexeme) → Lexes size text xs end → length text ≤ size → are_apart (positions (placed (in_file file) xs)) ≡ true
tokens_apart file size text [] l fits = refl
tokens_apart file size text (x ∷ xs) l fits =
    let skip = Skip-le l.2 in
    let shorter = Spelling-shorter l.0 x.token l.1 l.3 in
    let place : x.offset ≡ size - length l.0 = l.4 in
    and_from (not (list_any (same_place (in_file file x.offset)) (positions (placed (in_file file) xs)))) (are_apart (positions (placed (in_file file) xs)))
    (ap not (none_before file size l.1 xs l.6 (omega arith) (in_file file x.offset) (omega arith)))
    (tokens_apart file size l.1 xs l.6 (omega arith))

-- in another file there is no token of this one
pub none_elsewhere : (p : Pos) (file : ℕ) (xs : List Lexeme) → (p.file ≡ file → ⊥) → places_at p (positions (placed (in_file file) xs)) ≡ 0
none_elsewhere p file [] h = refl
none_elsewhere p file (x ∷ xs) h =
    let first : one_if (same_place p (in_file file x.offset)) ≡ 0 = ap one_if (other_file p file x.offset h) in
    let others = none_elsewhere p file xs h in
    omega arith

-- how many names stand at a place
abbrev pub names_at : Pos → List EventNode → ℕ
names_at p es = events_at false p es + events_at true p es

pub events_of_both : (ds es : List Definition) → events (ds ++ es) ≡ events ds ++ events es
events_of_both [] es = refl
events_of_both (d ∷ ds) es =
    ap (λ xs. definition_events d ++ xs) (events_of_both ds es) ∙ sym (append_assoc (definition_events d) (events ds) (events es))

names_of_both : (p : Pos) (ds es : List Definition) → names_at p (events (ds ++ es)) ≡ names_at p (events ds) + names_at p (events es)
names_of_both p ds es =
    let one = events_in_turn false p (events ds) (events es) in
    let other = events_in_turn true p (events ds) (events es) in
    ap (names_at p) (events_of_both ds es) ∙ (omega arith)

-- at most one name at a place of these texts, and none in a file before them
abbrev pub Bounded : Pos → ℕ → ℕ → Type 0
Bounded p file n = (n ≤ 1) × (p.file < file → n ≡ 0)

bounded : (p : Pos) (file n m : ℕ) → n ≤ 1 → ((p.file ≡ file → ⊥) → n ≡ 0) → Bounded p (file + 1) m → Bounded p file (n + m)
bounded p file n m one none later =
    ⊎_elim
    (λ before. let here : n ≡ 0 = none (λ e. omega arith) in let there = later.1 (omega arith) in (omega arith, λ less. omega arith))
    (λ past. ⊎_elim
    (λ inside. let there = later.1 (omega arith) in (omega arith, λ less. absurd (omega arith)))
    (λ beyond. let here : n ≡ 0 = none (λ e. omega arith) in let there = later.0 in (omega arith, λ less. absurd (omega arith)))
    (cases_lt p.file (file + 1)))
    (cases_lt p.file file)

pub text_names : (p : Pos) (file : ℕ) (ts : List SpeltText) → AreSpelt file ts → Bounded p file (names_at p (events (definitions_of ts)))
text_names p file [] spelt = (omega arith, λ less. refl)
text_names p file (t ∷ ts) spelt =
    let tokens = spelt.0.0 in
    let most = names_at_most t.definitions (placed (in_file file) tokens) spelt.0.2 p in
    let single = once (positions (placed (in_file file) tokens)) (tokens_apart file (length t.text) t.text tokens spelt.0.1 (omega arith)) p in
    let both = names_of_both p t.definitions (definitions_of ts) in
    let all = bounded p file (names_at p (events t.definitions)) (names_at p (events (definitions_of ts))) (omega arith)
    (λ away. let none = none_elsewhere p file tokens away in omega arith)
    (text_names p (file + 1) ts spelt.1) in
    (omega arith, λ less. both ∙ all.1 less)

pub program_apart : (file : ℕ) (ts : List SpeltText) → AreSpelt file ts → are_apart (places_of (seen (events (definitions_of ts)))) ≡ true
program_apart file ts spelt =
    apart (places_of (seen (events (definitions_of ts))))
    (λ p. let most = (text_names p file ts spelt).0 in let number = each_event p 0 [] (events (definitions_of ts)) in omega arith)
