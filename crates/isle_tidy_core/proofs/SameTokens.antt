-- Documents with the same lexemes, but for the ends of line comments and the line ends of block comments, have the
-- same tokens.
use Rattle.std.proofs.Common.{◌≡◌, ℕ, ◌-◌, List, [], ◌∷◌, ◌++◌, map, true, ◌||◌, length, refl, sym, ap, subst, append-nil}
use Rattle.isle_base.specs.Lexing.{Lexes}
use Rattle.isle_base.specs.Place.{nowhere, placed, placed_at}
use Rattle.isle_base.specs.Skips.{Skip, nothing, line_comment as line_skip, block_comment as block_skip}
use Rattle.isle_base.specs.Spellings.{Spelling}
use Rattle.isle_base.specs.Token.{Tok, lparen, rparen, at_sign as at_token, is_int, is_symbol, Lexeme as Token, end}
use Rattle.isle_tidy_core.specs.Ends.{lexeme_with}
use Rattle.isle_tidy_core.specs.Grammar.{Spells, SpellsEntries, lexemes}
use Rattle.isle_tidy_core.specs.declared.ends.LineEnd.{LineEnd}
use Rattle.isle_tidy_core.specs.declared.ends.LineEnd.TheVariants.{Lf}
use Rattle.isle_tidy_core.proofs.Atoms.{Spelling-unique}
use Rattle.isle_tidy_core.proofs.Existing.{blanks_skip, lexes_after}
use Rattle.isle_tidy_core.proofs.Moved.{atom_moves}
use Rattle.isle_tidy_layout.specs.Entries.{Lexeme, opening, closing, at_sign, atom, line_comment, block_comment, Entry}
use Rattle.isle_tidy_layout.specs.Placing.{tidied}
use Rattle.isle_tidy_layout.specs.declared.entries.Gap.{Gap}
use Rattle.isle_tidy_layout.specs.declared.entries.Gap.TheVariants.{Beside}

-- a lexeme of the tidy text
abbrev pub changed : LineEnd → Lexeme → Lexeme
changed e x = lexeme_with e (tidied (lexeme_with Lf x))

module _ (e : LineEnd) (size other_size : ℕ) where
  abbrev pub Both : List ℕ → List ℕ → Type 0
  Both text other =
      (xs : List Token) × (ys : List Token) × Lexes size text xs end × Lexes other_size other ys end × (placed nowhere xs ≡ placed nowhere ys)

  both_after : (text from other there : List ℕ) → Skip text from → Skip other there → Both from there → Both text other
  both_after text from other there s t h = (h.0, h.1, lexes_after size text from h.0 s h.2, lexes_after other_size other there h.1 t h.3, h.4)

  pub both_more : (t : Tok) (text after other rest : List ℕ) → Spelling text t after → Spelling other t rest → Both after rest → Both text other
  both_more t text after other rest p q h =
      let x : Token = record { offset = size - length text; token = t; after = size - length after } in
      let y : Token = record { offset = other_size - length other; token = t; after = other_size - length rest } in (
        x ∷ h.0,
        y ∷ h.1,
        (text, after, nothing refl, p, refl, refl, h.2),
        (other, rest, nothing refl, q, refl, refl, h.3),
        ap (λ zs. placed_at nowhere x ∷ zs) h.4,
      )

  one_token : (t u : Tok) (bs text after other rest : List ℕ) → (is_symbol t || is_int t) ≡ true → (is_symbol u || is_int u) ≡ true
      → Spelling text t after → Spelling other u rest → text ≡ bs ++ after → other ≡ bs ++ rest → t ≡ u
  one_token t u bs text after other rest i j p q d e =
      (Spelling-unique (bs ++ []) t u [] [] (atom_moves t bs text after [] i refl p d) (atom_moves u bs other rest [] j refl q e)).0

  both_lexeme : (x : Lexeme) (text after other rest : List ℕ) → Spells x text after → Spells (changed e x) other rest → Both after rest → Both text other
  both_lexeme opening text after other rest s t h = both_more lparen text after other rest s t h
  both_lexeme closing text after other rest s t h = both_more rparen text after other rest s t h
  both_lexeme at_sign text after other rest s t h = both_more at_token text after other rest s t h
  both_lexeme (atom bs) text after other rest s t h =
      let same : t.0 ≡ s.0 = one_token t.0 s.0 bs other rest text after t.1 s.1 t.2 s.2 t.3 s.3 in
      both_more s.0 text after other rest s.2 (subst (λ u. Spelling other u rest) same t.2) h
  both_lexeme (line_comment bs) text after other rest s t h =
      both_after text after other rest (line_skip bs s.1 s.2 (nothing refl)) (line_skip _ t.1 t.2 (nothing refl)) h
  both_lexeme (block_comment bs) text after other rest s t h =
      both_after text after other rest (block_skip s.1 s.3 (nothing refl)) (block_skip t.1 t.3 (nothing refl)) h

  pub both_entries : (es fs : List Entry) (gap next : Gap) (text other : List ℕ) → SpellsEntries gap es text → SpellsEntries next fs other
      → lexemes fs ≡ map (changed e) (lexemes es) → Both text other
  both_entries [] [] gap next text other s t same =
      ([], [], blanks_skip text text [] (sym (append-nil text)) s, blanks_skip other other [] (sym (append-nil other)) t, refl)
  both_entries [] (y ∷ ys) gap next text other s t same = cc
  both_entries (x ∷ xs) [] gap next text other s t same = cc
  both_entries (x ∷ xs) (y ∷ ys) gap next text other s t same =
      let first : y.lexeme ≡ changed e x.lexeme = cc in
      let others : lexemes ys ≡ map (changed e) (lexemes xs) = cc in
      both_after text s.1 other t.1 (blanks_skip text s.0 s.1 s.3.split s.3.each) (blanks_skip other t.0 t.1 t.3.split t.3.each)
      (both_lexeme x.lexeme s.1 s.2 t.1 t.2 s.5 (subst (λ z. Spells z t.1 t.2) first t.5)
      (both_entries xs ys (Beside 0) (Beside 0) s.2 t.2 s.6 t.6 others))
