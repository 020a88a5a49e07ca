-- The texts of a program in which a name gets a new text.
use Rattle.std.proofs.Common.{◌≡◌, ℕ, ◌+◌, ◌≤◌, List, [], ◌∷◌, ◌++◌, ◌==◌, Bool, true, false, eq-eqb, refl, ap, subst, length, arith}
use Rattle.std.proofs.lemmas.Bool.{eqb-true}
use Rattle.std.specs.List.{list_any}
use Rattle.isle_base.specs.Place.{in_file, placed}
use Rattle.isle_base.specs.Token.{Lexeme}
use Rattle.isle_base_source.specs.declared.pos.Pos.{Pos}
use Rattle.isle_ast_names.specs.Tree.{Name}
use Rattle.isle_resolve.specs.Event.{EventNode}
use Rattle.isle_resolve.specs.Events.{events}
use Rattle.isle_resolve.specs.Names.{NameNode}
use Rattle.isle_index.specs.Renamed.{replaced, same_place}
use Rattle.isle_index.specs.Renaming.{IsAccepted, Part, part_of}
use Rattle.isle_resolve.specs.Scopes.{seen}
use Rattle.isle_index_laws.specs.Kept.{AreKept}
use Rattle.isle_index_laws.specs.RenamedTokens.{is_constant, positions, renamed_tokens}
use Rattle.isle_index_laws.specs.SpeltTexts.{AreSpelt, AreSpeltWith, SpeltText, definitions_of}
use Rattle.isle_index_laws.proofs.Apart.{events_of_both, names_at, none_elsewhere, program_apart, text_names, tokens_apart}
use Rattle.isle_index_laws.proofs.Follows.{split}
use Rattle.isle_index_laws.proofs.KeptNames.{clash}
use Rattle.isle_index_laws.proofs.Marks.{events_at, events_in_turn}
use Rattle.isle_index_laws.proofs.RenamedTokens.{changed_names, names_at_most, places_at, tokens_spell}
use Rattle.isle_index_laws.proofs.Renamings.{replacing_kept}

-- names of one kind are among all
among_names : (c : Bool) (p : Pos) (es : List EventNode) → events_at c p es ≤ names_at p es
among_names true p es = omega arith
among_names false p es = omega arith

-- at each place that changes, in these files, stands a name of this kind
abbrev Hits : Bool → List Pos → ℕ → List SpeltText → Type 0
Hits c places file ts = (p : Pos) → file ≤ p.file → list_any (same_place p) places ≡ true → 1 ≤ events_at c p (events (definitions_of ts))

-- a token of a text is in its file
in_this_by : (p : Pos) (file : ℕ) (tokens : List Lexeme) (b : Bool) → p.file == file ≡ b → 1 ≤ places_at p (positions (placed (in_file file) tokens)) → p.file ≡ file
in_this_by p file tokens true is here = eqb-true p.file file is
in_this_by p file tokens false is here =
    let none = none_elsewhere p file tokens (λ e. clash (p.file == file) (eq-eqb p.file file e) is) in
    absurd (omega arith)

in_this : (p : Pos) (file : ℕ) (tokens : List Lexeme) → 1 ≤ places_at p (positions (placed (in_file file) tokens)) → p.file ≡ file
in_this p file tokens here = in_this_by p file tokens (p.file == file) refl here

texts_spell : (given : NameNode) (part : Part) (new : List ℕ) (places : List Pos) (file : ℕ) (ts : List SpeltText) → AreSpelt file ts →
    AreKept (replaced places part new) (events (definitions_of ts)) → Hits (is_constant given) places file ts →
    AreSpeltWith (replaced places part new) (renamed_tokens places given part new) file ts
texts_spell given part new places file [] spelt kept hits = tt
texts_spell given part new places file (t ∷ ts) spelt kept hits =
    let f : Name → Name = replaced places part new in
    let c : Bool = is_constant given in
    let others = definitions_of ts in
    let tokens = spelt.0.0 in
    let both = split f (events t.definitions) (events others) (subst (AreKept f) (events_of_both t.definitions others) kept) in
    let away = tokens_apart file (length t.text) t.text tokens spelt.0.1 (omega arith) in
    let hits_of : (p : Pos) → file ≤ p.file → list_any (same_place p) places ≡ true → 1 ≤ events_at c p (events t.definitions) + events_at c p (events others) = λ p past there.
    let all = hits p past there in
    let number = events_in_turn c p (events t.definitions) (events others) in
    let same : events_at c p (events (definitions_of (t ∷ ts))) ≡ events_at c p (events t.definitions ++ events others) = ap (events_at c p) (events_of_both t.definitions others) in
    omega arith in (
      (
        tokens,
        spelt.0.1,
        tokens_spell t.definitions (placed (in_file file) tokens) given part new places spelt.0.2 away both.0
            (λ p here there.
            let inside : p.file ≡ file = in_this p file tokens here in
            let later = (text_names p (file + 1) ts spelt.1).1 (omega arith) in
            let among = among_names c p (events others) in
            let all = hits_of p (omega arith) there in
            omega arith),
      ),
      texts_spell given part new places (file + 1) ts spelt.1 both.1
          (λ p past there.
          let none = none_elsewhere p file tokens (λ e. omega arith) in
          let most = names_at_most t.definitions (placed (in_file file) tokens) spelt.0.2 p in
          let among = among_names c p (events t.definitions) in
          let all = hits_of p (omega arith) there in
          omega arith),
    )

pub program_spells : (file : ℕ) (ts : List SpeltText) (given : NameNode) (new : List ℕ) (places : List Pos) → AreSpelt file ts → IsAccepted given new (seen (events (definitions_of ts))) places →
    AreSpeltWith (replaced places (part_of given (seen (events (definitions_of ts)))) new) (renamed_tokens places given (part_of given (seen (events (definitions_of ts)))) new) file ts
program_spells file ts given new places spelt ok =
    texts_spell given (part_of given (seen (events (definitions_of ts)))) new places file ts spelt (replacing_kept (definitions_of ts) given new places (program_apart file ts spelt) ok)
    (λ p _ there. changed_names (definitions_of ts) given new places ok p there)
