-- What is placed can be written.
use Rattle.std.proofs.Common.{◌≡◌, ℕ, zero, suc, List, [], ◌∷◌, true, ◌||◌, refl, sym, subst, eqb}
use Rattle.std.proofs.lemmas.Bool.{and_parts, cond_both}
use Rattle.std.specs.List.{list_all}
use Rattle.isle_base.specs.Skips.{in_line}
use Rattle.isle_tidy_layout.specs.Entries.{Lexeme, opening, closing, at_sign, atom, line_comment, block_comment, Entry}
use Rattle.isle_tidy_layout.specs.declared.entries.Gap.{Gap}
use Rattle.isle_tidy_layout.specs.declared.entries.Gap.TheVariants.{Beside, Tabbed, Below}
use Rattle.isle_tidy_core.specs.Fitting.{IsLexeme, AreEntries, follows, may_touch, fits, AreFit}
use Rattle.isle_tidy_layout.specs.Placing.{before_trimmed, trimmed, tidied, kind_of, closings, some, result_width, room, Here, placed_gap, reached, passed, placed_after, text_start, placed}
use Rattle.isle_tidy_layout.specs.declared.placing.Kind.{Kind}
use Rattle.isle_tidy_layout.specs.declared.placing.Kind.TheVariants.{Start, Open, Close, At, Atom, LineComment, BlockComment}
use Rattle.isle_tidy_layout.proofs.Again.{kind_tidied}

-- Lexemes.

before_in_line : (b : ℕ) (bs : List ℕ) → in_line b ≡ true → list_all in_line bs ≡ true → list_all in_line (before_trimmed b bs) ≡ true
before_in_line b [] h k =
    cond_both (eqb b 32 || eqb b 9) [] (b ∷ []) (λ xs. list_all in_line xs ≡ true) (λ _. refl) (λ _. rw h refl)
before_in_line b (c ∷ cs) h k = rw h k

trimmed_in_line : (bs : List ℕ) → list_all in_line bs ≡ true → list_all in_line (trimmed bs) ≡ true
trimmed_in_line [] h = refl
trimmed_in_line (b ∷ bs) h =
    let parts = and_parts (in_line b) (list_all in_line bs) h in before_in_line b (trimmed bs) parts.0 (trimmed_in_line bs parts.1)

tidied_lexeme : (x : Lexeme) → IsLexeme x → IsLexeme (tidied x)
tidied_lexeme (line_comment bytes) s = trimmed_in_line bytes s
tidied_lexeme opening s = s
tidied_lexeme closing s = s
tidied_lexeme at_sign s = s
tidied_lexeme (atom bytes) s = s
tidied_lexeme (block_comment bytes) s = s

-- Gaps.

touching : (before kind : Kind) (width : ℕ) → may_touch before kind ≡ true → follows before (Beside 1) ≡ true → fits before (Beside width) kind ≡ true
touching before kind zero h k = h
touching before kind (suc width) h k = k

apart : (before kind : Kind) (width : ℕ) → follows before (Beside 1) ≡ true → fits before (Beside (result_width some width)) kind ≡ true
apart before kind zero k = k
apart before kind (suc width) k = k

beside_fits : (before kind : Kind) (width : ℕ) → follows before (Beside width) ≡ true → fits before (Beside (result_width (room before kind) width)) kind ≡ true
beside_fits Start kind width h = cc
beside_fits LineComment kind width h = cc
beside_fits Open LineComment width h = apart Open LineComment width refl
beside_fits Open kind width h = touching Open kind (result_width (room Open kind) width) refl refl
beside_fits Close kind width h = touching Close kind (result_width (room Close kind) width) refl refl
beside_fits At kind width h = touching At kind (result_width (room At kind) width) refl refl
beside_fits Atom Atom width h = apart Atom Atom width refl
beside_fits Atom kind width h = touching Atom kind (result_width (room Atom kind) width) refl refl
beside_fits BlockComment kind width h = touching BlockComment kind (result_width (room BlockComment kind) width) refl refl

follows_alike : (before : Kind) (width : ℕ) → follows before (Tabbed width) ≡ true → follows before (Beside 1) ≡ true
follows_alike Start width h = h
follows_alike LineComment width h = h
follows_alike _ width h = refl

gap_fits : (here : Here) (gap : Gap) (kind : Kind) (inner : ℕ) → follows here.before gap ≡ true → fits here.before (placed_gap here gap kind inner) kind ≡ true
gap_fits here (Beside width) kind inner h = beside_fits here.before kind width h
gap_fits here (Tabbed width) kind inner h = beside_fits here.before kind 1 (follows_alike here.before width h)
gap_fits here (Below empty column) kind inner h = refl

-- Entries.

placed_fits : (es : List Entry) (here : Here) → AreEntries here.before es → AreFit here.before (placed_after here es)
placed_fits [] here are = tt
placed_fits (e ∷ es) here are =
    let kind = kind_of e.lexeme in
    let gap = placed_gap here e.gap kind (closings es) in
    let there = passed (reached here kind e.gap gap) e.lexeme in (
      tidied_lexeme e.lexeme are.0,
      subst (λ k. fits here.before gap k ≡ true) (sym (kind_tidied e.lexeme)) (gap_fits here e.gap kind (closings es) are.1),
      subst (λ k. AreFit k (placed_after there es)) (sym (kind_tidied e.lexeme)) (placed_fits es there are.2),
    )

pub placed_document_fits : (es : List Entry) → AreEntries Start es → AreFit Start (placed es)
placed_document_fits es are = placed_fits es text_start are
