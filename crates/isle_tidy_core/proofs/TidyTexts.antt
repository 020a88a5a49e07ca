-- The tidy text of a text, and what it keeps.
use Rattle.std.proofs.Common.{◌≡◌, ⊎_elim, ℕ, List, [], ◌∷◌, ◌++◌, ◌-◌, ◌<◌, map, drop, take, length, true, eqb, IsUtf8, length-drop, arith, refl, sym, ap, subst, ◌∙◌}
use Rattle.std.proofs.lemmas.Bool.{eqb-true, or_cases}
use Rattle.std.proofs.lemmas.List.{take_all}
use Rattle.std.proofs.lemmas.Str.{IsCharBoundary-before_ascii, IsUtf8-drop, IsUtf8-nil}
use Rattle.isle_base.specs.Spellings.{Spelling}
use Rattle.isle_base.specs.Token.{symbol}
use Rattle.isle_tidy_core.specs.Ends.{body_of, entries_with, lexeme_with, line_end_of, mark_of, mark_size, stands_apart, with_ends}
use Rattle.isle_tidy_core.specs.Grammar.{IsDocument, lexemes}
use Rattle.isle_tidy_core.specs.Outside.{Outside, ends_without_blank, has_few_lines}
use Rattle.isle_tidy_core.specs.Refused.{HasDocument}
use Rattle.isle_tidy_core.specs.Streams.{IsPlain}
use Rattle.isle_tidy_core.specs.Tidied.{IsLaidOut, IsTidyTextOf}
use Rattle.isle_tidy_core.specs.Tokens.{HaveSameTokens}
use Rattle.isle_tidy_core.specs.declared.ends.LineEnd.{LineEnd}
use Rattle.isle_tidy_core.specs.declared.ends.LineEnd.TheVariants.{Lf}
use Rattle.isle_tidy_core.proofs.Again.{lexemes_stay}
use Rattle.isle_tidy_core.proofs.EndedDocuments.{document_kept, lexemes_kept}
use Rattle.isle_tidy_core.proofs.Keeps.{placed_keeps}
use Rattle.isle_tidy_core.proofs.LineEnds.{ends_again, ends_back, ends_twice, none_left, plain_line_end, plain_stays}
use Rattle.isle_tidy_core.proofs.Marks.{IsMarked, apart_kept, apart_written, behind_mark, mark_here, mark_kept, mark_spelt, marked, placed_no_mark}
use Rattle.isle_tidy_core.proofs.Outside.{no_blank_at_an_end, tidy_has_few_lines}
use Rattle.isle_tidy_core.proofs.Plain.{HasNoReturn, entries_stay, placed_plain, spelt_plain}
use Rattle.isle_tidy_core.proofs.SameTokens.{Both, both_entries, both_more, changed}
use Rattle.isle_tidy_core.proofs.Unique.{IsDocument-unique}
use Rattle.isle_tidy_layout.specs.Entries.{Lexeme, Entry}
use Rattle.isle_tidy_layout.specs.Placing.{placed, tidied}
use Rattle.isle_tidy_layout.specs.Writing.{written}
use Rattle.isle_tidy_layout.specs.declared.entries.Gap.TheVariants.{Below}
use Rattle.isle_tidy_layout.proofs.Again.{placed_again}

-- A mark.

no_mark_of : (text : List ℕ) → mark_size text ≡ 0 → (mark_of text ≡ []) × (body_of text ≡ text)
no_mark_of text none = (ap (λ n. take n text) none, ap (λ n. drop n text) none)

the_mark_of : (text rest : List ℕ) → IsMarked text rest → (mark_of text ≡ 239 ∷ 187 ∷ 191 ∷ []) × (body_of text ≡ rest)
the_mark_of text rest is =
    let size : mark_size text ≡ 3 = ap mark_size is.0 ∙ mark_here rest is.1 in
    (ap (λ n. take n text) size ∙ ap (take 3) is.0, ap (λ n. drop n text) size ∙ ap (drop 3) is.0)

-- Tidy texts of texts that are laid out.

-- that of a plain text
pub plain_tidy : (text answer : List ℕ) → IsPlain text → IsLaidOut text answer → IsTidyTextOf text answer
plain_tidy text answer plain laid =
    let d = laid.document in
    let none = no_mark_of text plain.1 in
    let no_returns = spelt_plain (Below 0 0) d text laid.is_document.0 plain.0 in
    let same : entries_with Lf d ≡ d = entries_stay d no_returns in
    let stays : with_ends Lf (written (placed d)) ≡ written (placed d) = plain_stays (written (placed d)) (placed_plain d no_returns) in
    record {
      document = d;
      is_document = subst (λ xs. IsDocument xs d) (sym none.1) laid.is_document;
      is_written = laid.is_written ∙ sym stays ∙ ap (λ es. with_ends Lf (written (placed es))) (sym same)
          ∙ ap (λ e. with_ends e (written (placed (entries_with Lf d)))) (sym (plain_line_end text plain.0))
          ∙ ap (λ xs. xs ++ with_ends (line_end_of text) (written (placed (entries_with Lf d)))) (sym none.0);
    }

-- what is behind the mark has a document
pub body_document : (text : List ℕ) → HasDocument text → HasDocument (body_of text)
body_document text d =
    ⊎_elim (λ none. subst HasDocument (sym (no_mark_of text none).1) d)
    (λ is. subst HasDocument (sym (the_mark_of text is.0 is.1).1) (behind_mark is.0 is.1.1 (subst HasDocument is.1.0 d))) (marked text)

pub ended_document : (text : List ℕ) → HasDocument text → HasDocument (with_ends Lf (body_of text))
ended_document text d = let b = body_document text d in (entries_with Lf b.0, document_kept Lf (body_of text) b.0 b.1)

-- that of any text, which is laid out with LF
pub made_tidy : (text laid answer : List ℕ) → HasDocument text → IsLaidOut (with_ends Lf (body_of text)) laid → answer ≡ mark_of text ++ with_ends (line_end_of text) laid → IsTidyTextOf text answer
made_tidy text laid answer d is put =
    let b = body_document text d in
    let ended = document_kept Lf (body_of text) b.0 b.1 in
    let same : is.document ≡ entries_with Lf b.0 = IsDocument-unique (with_ends Lf (body_of text)) is.document (entries_with Lf b.0) is.is_document ended in
    record {
      document = b.0;
      is_document = b.1;
      is_written = put ∙ ap (λ xs. mark_of text ++ with_ends (line_end_of text) xs) (is.is_written ∙ ap (λ es. written (placed es)) same);
    }

-- What the tidy text is made of: with LF, it is what is written of the text with LF.
module _ (text answer : List ℕ) (t : IsTidyTextOf text answer) where
  abbrev pub here : List Entry
  here = entries_with Lf t.document

  abbrev pub with_feeds : List ℕ
  with_feeds = written (placed here)

  pub is_here : IsDocument (with_ends Lf (body_of text)) here
  is_here = document_kept Lf (body_of text) t.document t.is_document

  pub is_laid_out : IsLaidOut (with_ends Lf (body_of text)) with_feeds
  is_laid_out = record { document = here; is_document = is_here; is_written = refl }

  pub no_returns : HasNoReturn with_feeds
  no_returns = placed_plain here (spelt_plain (Below 0 0) here (with_ends Lf (body_of text)) is_here.0 (none_left (body_of text)))

  -- the mark of the tidy text, what is behind it, and its line end
  abbrev Parts : Type 0
  Parts = (mark_of answer ≡ mark_of text) × (body_of answer ≡ with_ends (line_end_of text) with_feeds) × (line_end_of answer ≡ line_end_of (with_ends (line_end_of text) with_feeds))

  parts_without : mark_size text ≡ 0 → Parts
  parts_without none =
      let e = line_end_of text in
      let whole : answer ≡ with_ends e with_feeds = t.is_written ∙ ap (λ xs. xs ++ with_ends e with_feeds) (no_mark_of text none).0 in
      let size : mark_size answer ≡ 0 = ap mark_size whole ∙ mark_kept e with_feeds ∙ placed_no_mark (with_ends Lf (body_of text)) here is_here in
      let new = no_mark_of answer size in
      (new.0 ∙ sym (no_mark_of text none).0, new.1 ∙ whole, ap line_end_of whole)

  still_marked : (rest : List ℕ) → IsMarked text rest → IsMarked answer (with_ends (line_end_of text) with_feeds)
  still_marked rest is =
      let e = line_end_of text in
      let old = the_mark_of text rest is in
      let body : stands_apart (with_ends Lf (body_of text)) ≡ true = apart_kept Lf (body_of text) ∙ ap stands_apart old.1 ∙ is.1 in (
        t.is_written ∙ ap (λ xs. xs ++ with_ends e with_feeds) old.0,
        apart_kept e with_feeds ∙ apart_written (with_ends Lf (body_of text)) here is_here body,
      )

  parts_with : (rest : List ℕ) → IsMarked text rest → Parts
  parts_with rest is =
      let still = still_marked rest is in
      let new = the_mark_of answer (with_ends (line_end_of text) with_feeds) still in
      (new.0 ∙ sym (the_mark_of text rest is).0, new.1, ap line_end_of still.0)

  pub parts : Parts
  parts = ⊎_elim parts_without (λ is. parts_with is.0 is.1) (marked text)

  -- a marked text stays marked
  pub marked_again : (rest : List ℕ) → IsMarked text rest → IsMarked answer (body_of answer)
  marked_again rest is = subst (IsMarked answer) (sym parts.1) (still_marked rest is)

  -- the tidy text behind its mark, with LF
  pub feeds_again : with_ends Lf (body_of answer) ≡ with_feeds
  feeds_again = ap (with_ends Lf) parts.1 ∙ ends_back (line_end_of text) with_feeds no_returns

  -- its document
  pub its_document : IsDocument (body_of answer) (entries_with (line_end_of text) (placed here))
  its_document =
      subst (λ xs. IsDocument xs (entries_with (line_end_of text) (placed here))) (sym parts.1)
      (document_kept (line_end_of text) with_feeds (placed here) (placed_keeps (with_ends Lf (body_of text)) here is_here))

pub tidy_again : (text answer again : List ℕ) → IsTidyTextOf text answer → IsTidyTextOf answer again → again ≡ answer
tidy_again text answer again s t =
    let e = line_end_of text in
    let feeds = with_feeds text answer s in
    let p = parts text answer s in
    let first : IsDocument feeds (entries_with Lf t.document) = subst (λ xs. IsDocument xs (entries_with Lf t.document)) (feeds_again text answer s) (document_kept Lf (body_of answer) t.document t.is_document) in
    let second : IsDocument feeds (placed (entries_with Lf s.document)) = placed_keeps (with_ends Lf (body_of text)) (entries_with Lf s.document) (is_here text answer s) in
    let same : entries_with Lf t.document ≡ placed (entries_with Lf s.document) = IsDocument-unique feeds (entries_with Lf t.document) (placed (entries_with Lf s.document)) first second in
    let stays : written (placed (entries_with Lf t.document)) ≡ feeds = ap (λ es. written (placed es)) same ∙ ap written (placed_again (entries_with Lf s.document)) in
    t.is_written
    ∙ ap (λ xs. mark_of answer ++ with_ends (line_end_of answer) xs) stays
    ∙ ap (λ k. mark_of answer ++ with_ends k feeds) p.2
    ∙ ap (λ xs. mark_of answer ++ xs) (ends_again e feeds (no_returns text answer s))
    ∙ ap (λ xs. xs ++ with_ends e feeds) p.0
    ∙ sym s.is_written

-- its mark, and its line ends

pub tidy_mark : (text answer : List ℕ) → IsTidyTextOf text answer → mark_of answer ≡ mark_of text
tidy_mark text answer t = (parts text answer t).0

pub tidy_line_ends : (text answer : List ℕ) → IsTidyTextOf text answer → with_ends (line_end_of text) (body_of answer) ≡ body_of answer
tidy_line_ends text answer t =
    let e = line_end_of text in
    let feeds = with_feeds text answer t in
    let body = (parts text answer t).1 in
    ap (with_ends e) body ∙ ends_twice e feeds ∙ sym body

-- its lines, with LF

pub tidy_no_blank : (text answer : List ℕ) → IsTidyTextOf text answer → Outside ends_without_blank (with_ends Lf (body_of answer))
tidy_no_blank text answer t = subst (Outside ends_without_blank) (sym (feeds_again text answer t)) (no_blank_at_an_end (with_ends Lf (body_of text)) (with_feeds text answer t) (is_laid_out text answer t))

pub tidy_few_lines : (text answer : List ℕ) → IsTidyTextOf text answer → Outside has_few_lines (with_ends Lf (body_of answer))
tidy_few_lines text answer t = subst (Outside has_few_lines) (sym (feeds_again text answer t)) (tidy_has_few_lines (with_ends Lf (body_of text)) (with_feeds text answer t) (is_laid_out text answer t))

-- Tokens.

changed_lexemes : (e : LineEnd) (xs : List Lexeme) → map (lexeme_with e) (map tidied (map (lexeme_with Lf) xs)) ≡ map (changed e) xs
changed_lexemes e [] = refl
changed_lexemes e (x ∷ xs) = ap (λ ys. changed e x ∷ ys) (changed_lexemes e xs)

pub tidy_lexemes : (e : LineEnd) (es : List Entry) → lexemes (entries_with e (placed (entries_with Lf es))) ≡ map (changed e) (lexemes es)
tidy_lexemes e es =
    lexemes_kept e (placed (entries_with Lf es)) ∙ ap (map (lexeme_with e)) (lexemes_stay (entries_with Lf es) ∙ ap (map tidied) (lexemes_kept Lf es)) ∙ changed_lexemes e (lexemes es)

same_without : (text answer : List ℕ) (t : IsTidyTextOf text answer) → mark_size text ≡ 0 → Both (line_end_of text) (length text) (length answer) (body_of text) (body_of answer) → HaveSameTokens text answer
same_without text answer t none both =
    let old = no_mark_of text none in
    let e = line_end_of text in
    let whole : body_of answer ≡ answer = (parts text answer t).1 ∙ sym (t.is_written ∙ ap (λ xs. xs ++ with_ends e (with_feeds text answer t)) old.0) in
    subst (Both e (length text) (length answer) text) whole (subst (λ xs. Both e (length text) (length answer) xs (body_of answer)) old.1 both)

same_with : (text answer : List ℕ) (t : IsTidyTextOf text answer) (rest : List ℕ) → IsMarked text rest → Both (line_end_of text) (length text) (length answer) (body_of text) (body_of answer) → HaveSameTokens text answer
same_with text answer t rest is both =
    let e = line_end_of text in
    let new = marked_again text answer t rest is in
    let old = (the_mark_of text rest is).1 in
    both_more e (length text) (length answer) (symbol (239 ∷ 187 ∷ 191 ∷ [])) text (body_of text) answer (body_of answer)
    (subst (λ xs. Spelling xs (symbol (239 ∷ 187 ∷ 191 ∷ [])) (body_of text)) (sym (is.0 ∙ ap (λ xs. 239 ∷ 187 ∷ 191 ∷ xs) (sym old))) (mark_spelt (body_of text) (ap stands_apart old ∙ is.1)))
    (subst (λ xs. Spelling xs (symbol (239 ∷ 187 ∷ 191 ∷ [])) (body_of answer)) (sym new.0) (mark_spelt (body_of answer) new.1)) both

pub tidied_tokens : (text answer : List ℕ) → IsTidyTextOf text answer → HaveSameTokens text answer
tidied_tokens text answer t =
    let e = line_end_of text in
    let new = its_document text answer t in
    let bodies = both_entries e (length text) (length answer) t.document (entries_with e (placed (entries_with Lf t.document))) (Below 0 0) (Below 0 0) (body_of text) (body_of answer) t.is_document.0 new.0 (tidy_lexemes e t.document) in
    ⊎_elim (λ none. same_without text answer t none bodies) (λ is. same_with text answer t is.0 is.1 bodies) (marked text)

-- How it is made.

mark_utf8 : (rest : List ℕ) → stands_apart rest ≡ true → IsUtf8 (239 ∷ 187 ∷ 191 ∷ rest) → IsUtf8 rest
mark_utf8 [] h utf8 = IsUtf8-nil
mark_utf8 (b ∷ bs) h utf8 =
    let ascii : b < 128 = ⊎_elim (λ is. let same = eqb-true b 40 is in omega arith) (λ is. let same = eqb-true b 59 is in omega arith) (or_cases (eqb b 40) (eqb b 59) h) in
    IsUtf8-drop (239 ∷ 187 ∷ 191 ∷ b ∷ bs) 3 utf8 (IsCharBoundary-before_ascii (239 ∷ 187 ∷ 191 ∷ b ∷ bs) 3 (omega arith) ascii)

-- a character begins behind the mark
pub body_utf8 : (text : List ℕ) (mark : ℕ) → mark ≡ mark_size text → IsUtf8 text → IsUtf8 (drop mark text)
body_utf8 text mark size utf8 =
    ⊎_elim (λ none. subst (λ n. IsUtf8 (drop n text)) (sym (size ∙ none)) utf8)
    (λ is. subst (λ n. IsUtf8 (drop n text)) (sym size) (subst IsUtf8 (sym (the_mark_of text is.0 is.1).1) (mark_utf8 is.0 is.1.1 (subst IsUtf8 is.1.0 utf8)))) (marked text)

pub ended_body : (text bytes none plain : List ℕ) (mark : ℕ) → mark ≡ mark_size text → bytes ≡ take (length text - mark) (drop mark text) → none ≡ [] → plain ≡ none ++ with_ends Lf bytes → plain ≡ with_ends Lf (body_of text)
ended_body text bytes none plain mark size is empty put =
    let whole : take (length text - mark) (drop mark text) ≡ drop mark text = take_all (length text - mark) (drop mark text) (omega (arith, length-drop mark text)) in
    put ∙ ap (λ xs. xs ++ with_ends Lf bytes) empty ∙ ap (with_ends Lf) (is ∙ whole) ∙ ap (λ n. with_ends Lf (drop n text)) size

pub made_text : (text laid bytes none front line read answer : List ℕ) (mark : ℕ) (e : LineEnd) → HasDocument text → IsLaidOut (with_ends Lf (body_of text)) laid → mark ≡ mark_size text → bytes ≡ take (mark - 0) (drop 0 text)
    → none ≡ [] → front ≡ none ++ bytes → e ≡ line_end_of line → line ≡ text → read ≡ laid → answer ≡ front ++ with_ends e read → IsTidyTextOf text answer
made_text text laid bytes none front line read answer mark e d is size part empty put decided same shown ended =
    let count : mark - 0 ≡ mark = omega arith in
    made_tidy text laid answer d is
    (ended ∙ ap (λ k. front ++ with_ends k read) (decided ∙ ap line_end_of same) ∙ ap (λ xs. front ++ with_ends (line_end_of text) xs) shown
    ∙ ap (λ xs. xs ++ with_ends (line_end_of text) laid) (put ∙ ap (λ xs. xs ++ bytes) empty ∙ part ∙ ap (λ n. take n text) (count ∙ size)))
