-- The text of a name is a range where it changes.
use Rattle.std.proofs.Common.{◌≡◌, inl, inr, ℕ, ◌+◌, List, [], ◌∷◌, ◌++◌, Bool, true, false, cond, ◌==◌, IsUtf8, codes, filter, map, refl, sym, ap, subst, ◌∙◌, length, arith}
use Rattle.std.proofs.lemmas.Bool.{eqb-true}
use Rattle.std.specs.List.{AllByRecursion, list_any}
use Rattle.isle_base.specs.Bytes.{dollar, dot}
use Rattle.isle_base.specs.Lexing.{lexes}
use Rattle.isle_base.specs.Place.{Placed, in_file, placed, placed_at}
use Rattle.isle_base.specs.Token.{Lexeme, end, symbol}
use Rattle.isle_base_source.specs.declared.pos.Pos.{Pos}
use Rattle.isle_ast.specs.Grammar.{SpellsDefinitions}
use Rattle.isle_ast.specs.Tree.{Definition}
use Rattle.isle_resolve.specs.Events.{events}
use Rattle.isle_resolve.specs.Names.{NameNode}
use Rattle.isle_index.specs.Renamed.{front, same_place}
use Rattle.isle_index.specs.Renaming.{IsAccepted, Part, behind_type, part_of, part_text, whole_text}
use Rattle.isle_resolve.specs.Scopes.{seen}
use Rattle.isle_index_laws.specs.RenamedTokens.{as_written, is_constant, lead}
use Rattle.isle_index_laws.specs.SpeltTexts.{AreSpelt, SpeltText, definitions_of}
use Rattle.isle_index_laws.proofs.Apart.{tokens_apart}
use Rattle.isle_index_laws.specs.edits.EditedTexts.{offsets_in}
use Rattle.isle_index_laws.specs.edits.Ranges.{AreRanges, IsRange}
use Rattle.isle_index_laws.proofs.edits.Parsed.{EachStands, Stand, accepted_stands, all_of, written_both}
use Rattle.isle_index_laws.proofs.edits.Tokened.{Has, has_token, written}
use Rattle.isle_index_laws.proofs.edits.Whole.{EndsPlain, range, spot}

-- what stays in front of a name's part

dot_last : (c : Bool) (owner : List ℕ) → as_written c (owner ++ codes ".") ≡ as_written c owner ++ (dot ∷ [])
dot_last true owner = refl
dot_last false owner = refl

alone_plain : (c : Bool) → EndsPlain (as_written c [])
alone_plain true = inr ([], dollar, refl, omega arith)
alone_plain false = inl refl

either_plain : (c : Bool) (owner : List ℕ) (b : Bool) → EndsPlain (as_written c (cond b [] (owner ++ codes ".")))
either_plain c owner true = alone_plain c
either_plain c owner false = inr (as_written c owner, dot, dot_last c owner, omega arith)

ends_plain : (c : Bool) (part : Part) (p : Pos) → EndsPlain (lead c part p)
ends_plain c (whole_text text) p = alone_plain c
ends_plain c (behind_type owner text alone) p = either_plain c owner (list_any (same_place p) alone)

-- the token of a text that is this one
token_of : (file : ℕ) (xs : List Lexeme) (t : Placed) → Has (placed (in_file file) xs) t → (x : Lexeme) × Has xs x × (placed_at (in_file file) x ≡ t)
token_of file [] t h = absurd h
token_of file (x ∷ xs) t (inl is) = (x, inl refl, is)
token_of file (x ∷ xs) t (inr later) = let more = token_of file xs t later in (more.0, inr more.1, more.2)

-- at each position in the file
range_there : (file : ℕ) (places : List Pos) (given : NameNode) (part : Part) (text : List ℕ) (ds : List Definition) (xs : List Lexeme) → IsUtf8 text → lexes text xs end → SpellsDefinitions ds (placed (in_file file) xs) →
    Stand (is_constant given) part places file (events ds) → (p : Pos) → list_any (same_place p) places ≡ true → p.file ≡ file →
    IsRange text (length (part_text part)) (p.offset + length (lead (is_constant given) part p))
range_there file places given part text ds xs utf8 l h stand p there inside =
    let c : Bool = is_constant given in
    let old : List ℕ = part_text part in
    let stay : List ℕ = lead c part p in
    let away = tokens_apart file (length text) text xs l (omega arith) in
    let e = stand p there inside in
    let n = e.2.0 in
    let x = token_of file xs (written c n) (has_token ds (placed (in_file file) xs) e.0 c n h away e.1 e.2.1) in
    let here : x.0.offset ≡ p.offset = ap (λ t. t.pos.offset) x.2 ∙ ap (λ q. q.offset) e.2.2 in
    let name : x.0.token ≡ symbol ((stay ++ old) ++ e.2.3.0) = ap (λ t. t.token) x.2 ∙ ap (λ zs. symbol (as_written c zs)) e.2.3.1 ∙ ap symbol (written_both c (front part p) old e.2.3.0) in
    subst (λ o. IsRange text (length old) (o + length stay)) here (range text x.0 stay old e.2.3.0 (spot text [] text xs refl utf8 l x.0 x.1) (ends_plain c part p) name e.2.3.2)

ranges_by : (file : ℕ) (c : Bool) (part : Part) (Q : ℕ → Type 0) (p : Pos) (ps : List Pos) (b : Bool) → (b ≡ true → Q (p.offset + length (lead c part p))) → AllByRecursion Q (offsets_in file c part ps) →
    AllByRecursion Q (map (λ q. q.offset + length (lead c part q)) (cond b (p ∷ filter (λ q. file == q.file) ps) (filter (λ q. file == q.file) ps)))
ranges_by file c part Q p ps true here more = (here refl, more)
ranges_by file c part Q p ps false here more = more

ranges_in : (file : ℕ) (c : Bool) (part : Part) (Q : ℕ → Type 0) (ps : List Pos) → AllByRecursion (λ p. p.file ≡ file → Q (p.offset + length (lead c part p))) ps → AllByRecursion Q (offsets_in file c part ps)
ranges_in file c part Q [] h = tt
ranges_in file c part Q (p ∷ ps) h = ranges_by file c part Q p ps (file == p.file) (λ e. h.0 (sym (eqb-true file p.file e))) (ranges_in file c part Q ps h.1)

all_ranges : (places : List Pos) (given : NameNode) (part : Part) (file : ℕ) (ts : List SpeltText) → AreSpelt file ts → EachStands (is_constant given) part places file ts → AreRanges places given part file ts
all_ranges places given part file [] spelt stand = tt
all_ranges places given part file (t ∷ ts) spelt stand = (
  λ utf8.
      let c : Bool = is_constant given in
      let Q : ℕ → Type 0 = IsRange t.text (length (part_text part)) in
      ranges_in file c part Q places
      (all_of (λ p. p.file ≡ file → Q (p.offset + length (lead c part p))) places
      (λ p there inside. range_there file places given part t.text t.definitions spelt.0.0 utf8 spelt.0.1 spelt.0.2 stand.0 p there inside)),
  all_ranges places given part (file + 1) ts spelt.1 stand.1,
)

pub edits_are_ranges : (file : ℕ) (ts : List SpeltText) (given : NameNode) (new : List ℕ) (places : List Pos) → AreSpelt file ts → IsAccepted given new (seen (events (definitions_of ts))) places →
    AreRanges places given (part_of given (seen (events (definitions_of ts)))) file ts
edits_are_ranges file ts given new places spelt ok = all_ranges places given (part_of given (seen (events (definitions_of ts)))) file ts spelt (accepted_stands file ts given new places spelt ok)
