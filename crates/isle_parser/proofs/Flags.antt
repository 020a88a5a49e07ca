-- The flags of a declaration: which are read, and which term can stand after them.
use Rattle.std.proofs.Common.{◌≡◌, ℕ, ◌≤◌, Bool, true, false, List, length, refl, sym, ap, ◌∙◌, arith}
use Rattle.std.proofs.lemmas.Bool.{and_parts}
use Rattle.std.specs.Prelude.{codes, ◌&&◌, ◌||◌, not}
use Rattle.std.specs.Str.{bytes_eq}
use Rattle.isle_base.specs.Place.{Placed}
use Rattle.isle_ast_names.specs.Words.{SpellsFlag, SpellsName, demands}
use Rattle.isle_ast_names.specs.Tree.{Name}
use Rattle.isle_ast.specs.Tree.{Declaration}
use Rattle.isle_ast.specs.TermGrammar.{term_is_no_flag}
use Rattle.isle_parser_cursor.specs.Reading.{is_ahead, is_symbol_of}
use Rattle.isle_parser_cursor.proofs.Flags.{ReadsFlag, name_ahead}

pub flag_shorter : (word : List ℕ) (b : Bool) (all rest : List Placed) → SpellsFlag word b all rest → length rest ≤ length all
flag_shorter word true all rest h = rw h.1 (omega arith)
flag_shorter word false all rest h = rw h (omega arith)

-- ---- what is ahead

-- the word of a flag isn't ahead where another flag or what follows is
pub unset_ahead : (word other : List ℕ) (b : Bool) (all rest : List Placed) → bytes_eq other word ≡ false → SpellsFlag other b all rest → (b ≡ false → is_ahead (is_symbol_of word) rest ≡ false) → is_ahead (is_symbol_of word) all ≡ false
unset_ahead word other true all rest apart h behind = rw h.1 apart
unset_ahead word other false all rest apart h behind = rw h (behind refl)

-- ---- what a term demands

or-true : (b : Bool) → (b || true) ≡ true
or-true true = refl
or-true false = refl

or-false : (a b : Bool) → (a || b) ≡ false → (a ≡ false) × (b ≡ false)
or-false true b e = absurd cc
or-false false b e = (refl, e)

not-true : (b : Bool) → (not b || false) ≡ true → b ≡ false
not-true true e = absurd cc
not-true false e = refl

-- a demand is met where no flag is set only if the text is another word
pub demand_met : (text word : List ℕ) (any : Bool) → (any ≡ false → bytes_eq text word ≡ false) → demands text word any ≡ true
demand_met text word true h = or-true (not (bytes_eq text word))
demand_met text word false h = rw (h refl) refl

pub demand_unset : (text word : List ℕ) (any : Bool) → demands text word any ≡ true → any ≡ false → bytes_eq text word ≡ false
demand_unset text word true h e = absurd cc
demand_unset text word false h e = not-true (bytes_eq text word) h

any_two : (a b : Bool) → a ≡ false → b ≡ false → (a || b) ≡ false
any_two a b e f = rw (e, f) refl

-- ---- all four

-- what a reader finds of the flags and the term
pub record ReadsFront (d : Declaration) (all m p r t rest : List Placed) : Type 0 where
  pub pure : ReadsFlag (codes "pure") d.pure all m
  pub multi : ReadsFlag (codes "multi") d.multi m p
  pub partial : ReadsFlag (codes "partial") d.partial p r
  pub rec : ReadsFlag (codes "rec") d.rec r t
  pub term : SpellsName d.term t rest

-- a word that isn't ahead, and no flag before the term: then the term is another word
other_term : (word : List ℕ) (n : Name) (i t rest : List Placed) → SpellsName n t rest → i ≡ t → is_ahead (is_symbol_of word) i ≡ false → bytes_eq n.text word ≡ false
other_term word n i t rest h is unset = sym (name_ahead word n t rest h) ∙ ap (is_ahead (is_symbol_of word)) (sym is) ∙ unset

front_demands : (d : Declaration) (all m p r t rest : List Placed) → ReadsFront d all m p r t rest → term_is_no_flag d ≡ true
front_demands d all m p r t rest f =
    let by_rec : demands d.term.text (codes "rec") d.rec ≡ true = demand_met d.term.text (codes "rec") d.rec (λ r0. other_term (codes "rec") d.term r t rest f.term (f.rec.unset r0).0 (f.rec.unset r0).1) in
    let by_partial : demands d.term.text (codes "partial") (d.partial || d.rec) ≡ true =
    demand_met d.term.text (codes "partial") (d.partial || d.rec) (λ any.
    let pr = or-false d.partial d.rec any in
    other_term (codes "partial") d.term p t rest f.term ((f.partial.unset pr.0).0 ∙ (f.rec.unset pr.1).0) (f.partial.unset pr.0).1) in
    let by_multi : demands d.term.text (codes "multi") (d.multi || d.partial || d.rec) ≡ true =
    demand_met d.term.text (codes "multi") (d.multi || d.partial || d.rec) (λ any.
    let mpr = or-false (d.multi || d.partial) d.rec any in
    let mp = or-false d.multi d.partial mpr.0 in
    other_term (codes "multi") d.term m t rest f.term ((f.multi.unset mp.0).0 ∙ (f.partial.unset mp.1).0 ∙ (f.rec.unset mpr.1).0) (f.multi.unset mp.0).1) in
    let by_pure : demands d.term.text (codes "pure") (d.pure || d.multi || d.partial || d.rec) ≡ true =
    demand_met d.term.text (codes "pure") (d.pure || d.multi || d.partial || d.rec) (λ any.
    let umpr = or-false (d.pure || d.multi || d.partial) d.rec any in
    let ump = or-false (d.pure || d.multi) d.partial umpr.0 in
    let um = or-false d.pure d.multi ump.0 in
    other_term (codes "pure") d.term all t rest f.term ((f.pure.unset um.0).0 ∙ (f.multi.unset um.1).0 ∙ (f.partial.unset ump.1).0 ∙ (f.rec.unset umpr.1).0) (f.pure.unset um.0).1) in
    rw (by_pure, by_multi, by_partial, by_rec) refl

-- the flags and the term as they are spelt
pub record Front (d : Declaration) (all m p r t rest : List Placed) : Type 0 where
  pub demands : term_is_no_flag d ≡ true
  pub pure : SpellsFlag (codes "pure") d.pure all m
  pub multi : SpellsFlag (codes "multi") d.multi m p
  pub partial : SpellsFlag (codes "partial") d.partial p r
  pub rec : SpellsFlag (codes "rec") d.rec r t
  pub term : SpellsName d.term t rest

pub front_sound : (d : Declaration) (all m p r t rest : List Placed) → ReadsFront d all m p r t rest → Front d all m p r t rest
front_sound d all m p r t rest f =
    record {
      demands = front_demands d all m p r t rest f;
      pure = f.pure.spelt;
      multi = f.multi.spelt;
      partial = f.partial.spelt;
      rec = f.rec.spelt;
      term = f.term;
    }

-- where a flag isn't set, its word isn't ahead of what follows
pub record Unset (d : Declaration) (m p r t : List Placed) : Type 0 where
  pub pure : d.pure ≡ false → is_ahead (is_symbol_of (codes "pure")) m ≡ false
  pub multi : d.multi ≡ false → is_ahead (is_symbol_of (codes "multi")) p ≡ false
  pub partial : d.partial ≡ false → is_ahead (is_symbol_of (codes "partial")) r ≡ false
  pub rec : d.rec ≡ false → is_ahead (is_symbol_of (codes "rec")) t ≡ false

term_ahead : (word : List ℕ) (n : Name) (t rest : List Placed) (any : Bool) → SpellsName n t rest → demands n.text word any ≡ true → any ≡ false → is_ahead (is_symbol_of word) t ≡ false
term_ahead word n t rest any h demand none = name_ahead word n t rest h ∙ demand_unset n.text word any demand none

pub front_unset : (d : Declaration) (all m p r t rest : List Placed) → Front d all m p r t rest → Unset d m p r t
front_unset d all m p r t rest f =
    let text = d.term.text in
    let umpr = and_parts (demands text (codes "pure") (d.pure || d.multi || d.partial || d.rec) && demands text (codes "multi") (d.multi || d.partial || d.rec) && demands text (codes "partial")
    (d.partial || d.rec)) (demands text (codes "rec") d.rec) f.demands in
    let ump = and_parts (demands text (codes "pure") (d.pure || d.multi || d.partial || d.rec) && demands text (codes "multi") (d.multi || d.partial || d.rec)) (demands text (codes "partial") (d.partial || d.rec)) umpr.0 in
    let um = and_parts (demands text (codes "pure") (d.pure || d.multi || d.partial || d.rec)) (demands text (codes "multi") (d.multi || d.partial || d.rec)) ump.0 in
    record {
      pure = λ u0.
          unset_ahead (codes "pure") (codes "multi") d.multi m p refl f.multi (λ m0.
          unset_ahead (codes "pure") (codes "partial") d.partial p r refl f.partial (λ p0.
          unset_ahead (codes "pure") (codes "rec") d.rec r t refl f.rec (λ r0.
          term_ahead (codes "pure") d.term t rest (d.pure || d.multi || d.partial || d.rec) f.term um.0 (any_two (d.pure || d.multi || d.partial) d.rec (any_two (d.pure || d.multi) d.partial (any_two d.pure d.multi u0 m0) p0) r0))));
      multi = λ m0.
          unset_ahead (codes "multi") (codes "partial") d.partial p r refl f.partial (λ p0.
          unset_ahead (codes "multi") (codes "rec") d.rec r t refl f.rec (λ r0.
          term_ahead (codes "multi") d.term t rest (d.multi || d.partial || d.rec) f.term um.1 (any_two (d.multi || d.partial) d.rec (any_two d.multi d.partial m0 p0) r0)));
      partial = λ p0.
          unset_ahead (codes "partial") (codes "rec") d.rec r t refl f.rec (λ r0. term_ahead (codes "partial") d.term t rest (d.partial || d.rec) f.term ump.1 (any_two d.partial d.rec p0 r0));
      rec = λ r0. term_ahead (codes "rec") d.term t rest d.rec f.term umpr.1 r0;
    }
