-- The loop that reads the clauses of a spec: what they said before, with what is still read, is what all of
-- them say, joined by kind.
use Rattle.std.proofs.Common.{◌≡◌, ℕ, true, false, cond, List, [], ◌∷◌, ◌++◌, Option, Some, None, inl, inr, refl, sym, ap, ◌∙◌, append_assoc, arith}
use Rattle.std.proofs.lemmas.List.{append-nil}
use Rattle.std.specs.Prelude.{codes}
use Rattle.std.specs.Str.{bytes_eq}
use Rattle.isle_base.specs.Place.{Placed}
use Rattle.isle_base.specs.Token.{is_symbol}
use Rattle.isle_ast_verification.specs.Tree.{ModifiedState, SpecNode}
use Rattle.isle_ast_verification.specs.SpecDefinitionGrammar.{SpecClause, provide_clause, require_clause, match_clause, modifies_clause, provided, required, matched, modified}
use Rattle.isle_parser_cursor.specs.declared.cursor.Stop.{Stop}
use Rattle.isle_parser_cursor.specs.Outcomes.{CursorSource, Stops}
use Rattle.isle_parser_cursor.specs.Reading.{Reader, ◌>>=◌, at_rparen, is_ahead, many, text}
use Rattle.isle_parser_cursor.specs.NameReaders.{name, optional_name}
use Rattle.isle_parser_verification.specs.SpecDefinitionReaders.{Joined, behind_clause_word, clause, clause_inside, joined, joined_clauses, modified_state}
use Rattle.isle_parser_verification.specs.SpecReaders.{spec_expression}
use Rattle.isle_parser_cursor.proofs.ReaderSteps.{bound}
use Rattle.isle_parser_cursor.proofs.Names.{name_shrinks}
use Rattle.isle_parser_cursor.proofs.Readers.{Shrinks, chosen, many_step}
use Rattle.isle_parser_verification.proofs.Reading.Shrinks.{Keeps, keeps, enclosed_shrinks, made_here, many_keeps, spec_shrinks, text_shrinks}
use Rattle.isle_parser_cursor.specs.declared.cursor.Stop.TheVariants as stops

-- ---- a clause leaves fewer tokens

optional_name_keeps : Keeps optional_name
unfolding optional_name
optional_name_keeps all rest x e =
    elim (chosen (is_ahead is_symbol all) (name all >>= λ n. Some (Some n.0, n.1)) (Some (None, all)) (Some (x, rest)) e) [
      | inl h ↦
          let a = bound h.1 in
          omega (arith, name_shrinks all a.0.1 a.0.0 a.1, made_here a.2)
      | inr h ↦ made_here h.1
    ]

modified_keeps : Keeps modified_state
unfolding modified_state
modified_keeps all rest x e =
    let a = bound e in
    let b = bound a.2 in
    omega (arith, name_shrinks all a.0.1 a.0.0 a.1, optional_name_keeps a.0.1 b.0.1 b.0.0 b.1, made_here b.2)

-- expressions up to `)`, and a clause made of them
abbrev list : (List SpecNode → SpecClause) → Reader SpecClause
list make all = many at_rparen spec_expression all >>= λ xs. Some (make xs.0, xs.1)

list_keeps : (make : List SpecNode → SpecClause) → Keeps (list make)
list_keeps make all rest x e =
    let a = bound e in
    omega (arith, many_keeps spec_expression at_rparen (keeps spec_shrinks) all a.0.1 a.0.0 a.1, made_here {x = make a.0.0} {y = x} {i = a.0.1} {j = rest} a.2)

abbrev change : Reader SpecClause
change all = modified_state all >>= λ m. Some (modifies_clause m.0, m.1)

change_keeps : Keeps change
change_keeps all rest x e =
    let a = bound e in
    omega (arith, modified_keeps all a.0.1 a.0.0 a.1, made_here {x = modifies_clause a.0.0} {y = x} {i = a.0.1} {j = rest} a.2)

-- this word and its clause, or else another
abbrev when : List ℕ → List ℕ → Reader SpecClause → Reader SpecClause → Reader SpecClause
when word text read other all = cond (bytes_eq word text) (read all) (other all)

when_keeps : (word text : List ℕ) (read other : Reader SpecClause) → Keeps read → Keeps other → Keeps (when word text read other)
when_keeps word text read other k h all rest x e =
    elim (chosen (bytes_eq word text) (read all) (other all) (Some (x, rest)) e) [
      | inl a ↦ k all rest x a.1
      | inr a ↦ h all rest x a.1
    ]

abbrev no_clause : Reader SpecClause
no_clause all = None

nothing_keeps : Keeps no_clause
nothing_keeps all rest x e = absurd cc

abbrev changes_or_none : List ℕ → Reader SpecClause
changes_or_none word = when word (codes "modifies") change no_clause

abbrev matches_or_other : List ℕ → Reader SpecClause
matches_or_other word = when word (codes "match") (list match_clause) (changes_or_none word)

abbrev requires_or_other : List ℕ → Reader SpecClause
requires_or_other word = when word (codes "require") (list require_clause) (matches_or_other word)

behind_word_keeps : (word : List ℕ) → Keeps (behind_clause_word word)
unfolding behind_clause_word
behind_word_keeps word all rest x e =
    when_keeps word (codes "provide") (list provide_clause) (requires_or_other word) (list_keeps provide_clause)
    (when_keeps word (codes "require") (list require_clause) (matches_or_other word) (list_keeps require_clause)
    (when_keeps word (codes "match") (list match_clause) (changes_or_none word) (list_keeps match_clause)
    (when_keeps word (codes "modifies") change no_clause change_keeps nothing_keeps)))
    all rest x e

inside_keeps : Keeps clause_inside
unfolding clause_inside
inside_keeps all rest x e =
    let a = bound e in
    omega (arith, text_shrinks all a.0.1 a.0.0 a.1, behind_word_keeps a.0.0 a.0.1 rest x a.2)

pub clause_shrinks : Shrinks clause
unfolding clause
clause_shrinks = enclosed_shrinks clause_inside inside_keeps

-- ---- clauses, joined

-- what clauses say, with what is said before them
abbrev pub behind_joined : Joined → Option (List SpecClause × List Placed) → Option (Joined × List Placed)
behind_joined j read =
    read >>= λ cs. Some (
      record {
        provides = j.provides ++ provided cs.0;
        requires_ = j.requires_ ++ required cs.0;
        matches = j.matches ++ matched cs.0;
        modifies = j.modifies ++ modified cs.0;
      },
      cs.1,
    )

-- what is said, and then this clause
abbrev pub with_clause : Joined → SpecClause → Joined
with_clause j (provide_clause xs) = record { provides = j.provides ++ xs; requires_ = j.requires_; matches = j.matches; modifies = j.modifies }
with_clause j (require_clause xs) = record { provides = j.provides; requires_ = j.requires_ ++ xs; matches = j.matches; modifies = j.modifies }
with_clause j (match_clause xs) = record { provides = j.provides; requires_ = j.requires_; matches = j.matches ++ xs; modifies = j.modifies }
with_clause j (modifies_clause m) = record { provides = j.provides; requires_ = j.requires_; matches = j.matches; modifies = j.modifies ++ m ∷ [] }

regroup : (j : Joined) (c : SpecClause) (read : Option (List SpecClause × List Placed)) → behind_joined j (read >>= λ cs. Some (c ∷ cs.0, cs.1)) ≡ behind_joined (with_clause j c) read
regroup j c None = refl
regroup j (provide_clause xs) (Some cs) = ap (λ (ys : List SpecNode). Some (
  record
      { provides = ys; requires_ = j.requires_ ++ required cs.0; matches = j.matches ++ matched cs.0; modifies = j.modifies ++ modified cs.0 },
  cs.1,
)) (simp append_assoc)
regroup j (require_clause xs) (Some cs) = ap (λ (ys : List SpecNode). Some (
  record
      { provides = j.provides ++ provided cs.0; requires_ = ys; matches = j.matches ++ matched cs.0; modifies = j.modifies ++ modified cs.0 },
  cs.1,
)) (simp append_assoc)
regroup j (match_clause xs) (Some cs) = ap (λ (ys : List SpecNode). Some (
  record
      { provides = j.provides ++ provided cs.0; requires_ = j.requires_ ++ required cs.0; matches = ys; modifies = j.modifies ++ modified cs.0 },
  cs.1,
)) (simp append_assoc)
regroup j (modifies_clause m) (Some cs) = ap (λ (ys : List ModifiedState). Some (
  record
      { provides = j.provides ++ provided cs.0; requires_ = j.requires_ ++ required cs.0; matches = j.matches ++ matched cs.0; modifies = ys },
  cs.1,
)) (simp append_assoc)

-- the clauses go on with this one
pub clauses_push : (j : Joined) (all rest : List Placed) (c : SpecClause) (total : Option (Joined × List Placed)) → at_rparen all ≡ false → clause all ≡ Some (c, rest)
    → behind_joined j (many at_rparen clause all) ≡ total → behind_joined (with_clause j c) (many at_rparen clause rest) ≡ total
clauses_push j all rest c total here e so_far =
    let one : behind_joined j (many at_rparen clause all) ≡ behind_joined (with_clause j c) (many at_rparen clause rest) = rw (many_step clause at_rparen clause_shrinks all, here, e) (regroup j c (many at_rparen clause rest)) in
    sym one ∙ so_far

-- the next clause isn't read
clauses_none : (j : Joined) (all : List Placed) (total : Option (Joined × List Placed)) → at_rparen all ≡ false → clause all ≡ None → behind_joined j (many at_rparen clause all) ≡ total → total ≡ None
clauses_none j all total here e so_far =
    let one : behind_joined j (many at_rparen clause all) ≡ None = rw (many_step clause at_rparen clause_shrinks all, here, e) refl in
    sym so_far ∙ one

pub clauses_stop : (j : Joined) (all : List Placed) (total : Option (Joined × List Placed)) (s : CursorSource) (e : Stop) → at_rparen all ≡ false → Stops (clause all) s e
    → behind_joined j (many at_rparen clause all) ≡ total → Stops total s e
clauses_stop j all total s (stops.Parser e) here h so_far = (clauses_none j all total here h.0 so_far, h.1)
clauses_stop j all total s stops.Memory here h so_far = tt

-- the clauses end here
pub clauses_end : (j : Joined) (all : List Placed) (total : Option (Joined × List Placed)) → at_rparen all ≡ true → behind_joined j (many at_rparen clause all) ≡ total → total ≡ Some (j, all)
clauses_end j all total here so_far =
    let one : behind_joined j (many at_rparen clause all) ≡ Some (j, all) = rw (many_step clause at_rparen clause_shrinks all, here, append-nil j.provides, append-nil j.requires_, append-nil j.matches, append-nil j.modifies) refl in
    sym so_far ∙ one

abbrev joined_read : Option (List SpecClause × List Placed) → Option (Joined × List Placed)
joined_read read = read >>= λ cs. Some (joined cs.0, cs.1)

nothing_before : (read : Option (List SpecClause × List Placed)) → behind_joined (record { provides = []; requires_ = []; matches = []; modifies = [] }) read ≡ joined_read read
nothing_before None = refl
nothing_before (Some cs) = refl

pub clauses_begin : (all : List Placed) → behind_joined (record { provides = []; requires_ = []; matches = []; modifies = [] }) (many at_rparen clause all) ≡ joined_clauses all
clauses_begin all = nothing_before (many at_rparen clause all)
