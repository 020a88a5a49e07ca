-- Laying out a text entry by entry: what is written so far, and then the entries to come, placed, is the
-- text of a document that is placed.
use Rattle.std.proofs.Common.{◌≡◌, ℕ, List, [], ◌∷◌, ◌++◌, drop, length, ◌+◌, ◌≤◌, ◌<◌, ◌-◌, IsUtf8, None, refl, sym, ap, subst, ◌∙◌, arith, append_assoc}
use Rattle.isle_tidy_layout.specs.declared.entries.Entry.{Entry as Written}
use Rattle.isle_tidy_layout.specs.declared.entries.Gap.{Gap}
use Rattle.isle_tidy_layout.specs.declared.entries.Gap.TheVariants.{Beside, Below}
use Rattle.isle_tidy_layout.specs.declared.placing.Kind.{Kind}
use Rattle.isle_tidy_layout.specs.declared.placing.Kind.TheVariants.{Start}
use Rattle.isle_tidy_core.specs.declared.reader.Step.TheVariants.{More, End, Refused}
use Rattle.isle_tidy_layout.specs.Entries.{Lexeme, opening, closing, at_sign, atom, line_comment, block_comment, Entry}
use Rattle.isle_tidy_layout.specs.EntriesView.{lexeme_of, entry_of}
use Rattle.isle_tidy_core.specs.Finds.{FindsCanonicalGap, FindsEntry, FindsGap, part}
use Rattle.isle_tidy_core.specs.Pending.{IsPending, Puts}
use Rattle.isle_tidy_core.specs.declared.output.PendingRange.{PendingRange}
use Rattle.isle_tidy_core.specs.declared.reader.Span.{Span}
use Rattle.isle_tidy_core.specs.Grammar.{SpellsEntries}
use Rattle.isle_tidy_layout.specs.Placing.{tidied, kind_of, closings, Here, placed_gap, reached, passed, placed_after, text_start, placed}
use Rattle.isle_tidy_core.specs.Streams.{IsWritten, HasLaidOut, LaysMore, LaysLast, text_from, gap_text_from, entry_text}
use Rattle.isle_tidy_layout.specs.Writing.{spelling, written, written_after}
use Rattle.isle_tidy_core.proofs.Appending.{last_appended, more_appended, nothing_appended}
use Rattle.isle_tidy_core.proofs.Listing.{gap_utf8, one_more, goes_on}
use Rattle.isle_tidy_core.proofs.Unique.{SpellsEntries-unique}
use Rattle.isle_tidy_core.specs.Refused.{HasDocument}
use Rattle.isle_tidy_core.specs.Sizes.{size_of}
use Rattle.isle_tidy_core.specs.Tidied.{IsLaidOut}
use Rattle.isle_tidy_core.specs.declared.tidying.Tidying.{Tidying}
use Rattle.isle_tidy_layout.specs.PlacerView.{IsAt}

pub nothing_written : (text : List ℕ) → IsWritten text (Below 0 0) 0 text_start []
nothing_written text = λ es s. (es, s, refl)

text_after : (x : Lexeme) (es : List Entry) → text_from (kind_of x) es ≡ written_after es
text_after opening es = refl
text_after closing es = refl
text_after at_sign es = refl
text_after (atom bs) es = refl
text_after (line_comment bs) es = refl
text_after (block_comment bs) es = refl

text_more : (before : Kind) (e : Entry) (es : List Entry) → text_from before (e ∷ es) ≡ gap_text_from before e.gap ++ (spelling e.lexeme ++ written_after es)
text_more Start e es = refl
text_more _ e es = refl

-- one entry more
pub one_written : (text : List ℕ) (gap : Gap) (at count : ℕ) (e : Written) (span : Span) (here : Here) (placed_to : Gap) (old new : List ℕ)
    → IsWritten text gap at here old
    → FindsEntry text gap at (More e span)
    → ((es : List Entry) → SpellsEntries (Beside 0) es (drop span.end text)
    → placed_gap here e.gap (kind_of (lexeme_of e.lexeme)) (closings es) ≡ placed_gap here e.gap (kind_of (lexeme_of e.lexeme)) count)
    → placed_to ≡ placed_gap here e.gap (kind_of (lexeme_of e.lexeme)) count
    → new ≡ old ++ entry_text here.before placed_to (tidied (lexeme_of e.lexeme))
    → IsWritten text (Beside 0) span.end (passed (reached here (kind_of (lexeme_of e.lexeme)) e.gap placed_to) (lexeme_of e.lexeme)) new
one_written text gap at count e span here placed_to old new so_far found ahead is put = λ es s.
    let x = lexeme_of e.lexeme in
    let kind = kind_of x in
    let whole = so_far (entry_of e ∷ es) (one_more text gap at e span found es s) in
    let gaps : placed_gap here e.gap kind (closings es) ≡ placed_to = ahead es s ∙ sym is in
    let there = passed (reached here kind e.gap placed_to) x in
    let more = placed_after there es in
    let front = gap_text_from here.before placed_to in
    let first : placed_after here (entry_of e ∷ es) ≡ record { gap = placed_to; lexeme = tidied x } ∷ more =
    ap (λ (g : Gap). let r : Entry = record { gap = g; lexeme = tidied x } in r ∷ placed_after (passed (reached here kind e.gap g) x) es) gaps in
    let text_is : text_from here.before (placed_after here (entry_of e ∷ es)) ≡ front ++ (spelling (tidied x) ++ written_after more) =
    ap (text_from here.before) first ∙ text_more here.before (record { gap = placed_to; lexeme = tidied x }) more in
    let grouped : old ++ (front ++ (spelling (tidied x) ++ written_after more)) ≡ new ++ written_after more =
    ap (λ xs. old ++ xs) (sym (append_assoc front (spelling (tidied x)) (written_after more)))
    ∙ sym (append_assoc old (front ++ spelling (tidied x)) (written_after more))
    ∙ ap (λ xs. xs ++ written_after more) (sym put) in
    (whole.0, whole.1, whole.2 ∙ ap (λ xs. old ++ xs) text_is ∙ grouped ∙ ap (λ xs. new ++ xs) (sym (text_after x more)))

-- The same, of a text that is laid out.

abbrev on_text : (text out : List ℕ) (t : Tidying) → HasLaidOut text out t → HasLaidOut t.text.now out t
on_text text out t h = subst (λ xs. HasLaidOut xs out t) (sym h.same_text) h

pub has_begun : (t : Tidying) → HasDocument t.text.now → IsUtf8 t.text.now → IsAt t.placer text_start → t.gap ≡ Below 0 0 → t.at ≡ 0 → t.pending ≡ 0 → t.made ≡ None → HasLaidOut t.text.now [] t
has_begun t d utf8 at gap start none not_made = record {
  same_text = refl;
  document = d;
  here = text_start;
  is_here = at;
  so_far = subst (λ xs. IsWritten t.text.now t.gap t.at text_start xs) (sym (ap (λ n. part t.text.now t.pending n) start ∙ ap (λ n. part t.text.now n 0) none))
      (subst (λ g. IsWritten t.text.now g t.at text_start []) (sym gap) (subst (λ n. IsWritten t.text.now (Below 0 0) n text_start []) (sym start) (nothing_written t.text.now)));
  to_come = (d.0, subst (λ g. SpellsEntries g d.0 (drop t.at t.text.now)) (sym gap) (subst (λ n. SpellsEntries (Below 0 0) d.0 (drop n t.text.now)) (sym start) d.1.0));
  within = omega (arith, start);
  utf8 = subst (λ n. IsUtf8 (drop n t.text.now)) (sym start) utf8;
  no_gap = ap size_of gap;
  pending = omega (arith, start, none);
  pending_utf8 = subst (λ n. IsUtf8 (drop n t.text.now)) (sym none) utf8;
  not_made = not_made;
}

-- what is pending of a text behind what was written
abbrev kept_of : Tidying → PendingRange
kept_of t = record { from = t.pending; to = t.at }

pub are_kept : (t : Tidying) (text out : List ℕ) → HasLaidOut text out t → IsPending t.text.now (kept_of t)
are_kept t text out has =
    let h = on_text text out t has in
    record { order = h.pending; within = h.within; first = h.pending_utf8; last = h.utf8 }

-- what was pending, and what is put, go on as what is pending now
regrouped : (out pending more put now : List ℕ) → put ++ now ≡ pending ++ more → (out ++ pending) ++ more ≡ (out ++ put) ++ now
regrouped out pending more put now e = append_assoc out pending more ∙ ap (λ xs. out ++ xs) (sym e) ∙ sym (append_assoc out put now)

pub lays_more : (t new : Tidying) (e : Written) (span : Span) (count : ℕ) (placed_to : Gap) (before after : List ℕ)
    → FindsEntry t.text.now t.gap t.at (More e span)
    → ((here : Here) (es : List Entry) → SpellsEntries (Beside 0) es (drop span.end t.text.now)
    → placed_gap here e.gap (kind_of (lexeme_of e.lexeme)) (closings es) ≡ placed_gap here e.gap (kind_of (lexeme_of e.lexeme)) count)
    → ((here : Here) → IsAt t.placer here
    → (placed_to ≡ placed_gap here e.gap (kind_of (lexeme_of e.lexeme)) count)
    × IsAt new.placer (passed (reached here (kind_of (lexeme_of e.lexeme)) e.gap placed_to) (lexeme_of e.lexeme)))
    → Puts t.text.now (kept_of t) new.pending span.end before after (entry_text t.placer.before placed_to (tidied (lexeme_of e.lexeme)))
    → new.text.now ≡ t.text.now → new.gap ≡ Beside 0 → new.at ≡ span.end → new.made ≡ t.made
    → LaysMore t new before after
lays_more t new e span count placed_to before after found ahead goes puts same gap at made = λ text out has.
    let h = on_text text out t has in
    let x = lexeme_of e.lexeme in
    let there = passed (reached h.here (kind_of x) e.gap placed_to) x in
    let went = goes h.here h.is_here in
    let pending = part t.text.now t.pending t.at in
    let more = entry_text h.here.before placed_to (tidied x) in
    let more_is : entry_text t.placer.before placed_to (tidied x) ≡ more = ap (λ k. entry_text k placed_to (tidied x)) h.is_here.before in
    let now : (out ++ pending) ++ more ≡ (out ++ puts.put) ++ part t.text.now new.pending new.at =
    regrouped out pending more puts.put (part t.text.now new.pending span.end) (puts.same ∙ ap (λ xs. pending ++ xs) more_is) ∙ ap (λ n. (out ++ puts.put) ++ part t.text.now new.pending n) (sym at) in
    let written_more : IsWritten t.text.now (Beside 0) span.end there ((out ++ pending) ++ more) =
    one_written t.text.now t.gap t.at count e span h.here placed_to (out ++ pending) ((out ++ pending) ++ more) h.so_far found (ahead h.here) went.0 refl in
    let others = goes_on t.text.now t.gap t.at e span found h.to_come.0 h.to_come.1 in
    let there_has : HasLaidOut t.text.now (out ++ puts.put) new = record {
      same_text = same;
      document = h.document;
      here = there;
      is_here = went.1;
      so_far = subst (λ g. IsWritten t.text.now g new.at there ((out ++ puts.put) ++ part t.text.now new.pending new.at)) (sym gap)
          (subst (λ n. IsWritten t.text.now (Beside 0) n there ((out ++ puts.put) ++ part t.text.now new.pending new.at)) (sym at)
          (subst (λ xs. IsWritten t.text.now (Beside 0) span.end there xs) now written_more));
      to_come = (others.0, subst (λ g. SpellsEntries g others.0 (drop new.at t.text.now)) (sym gap) (subst (λ n. SpellsEntries (Beside 0) others.0 (drop n t.text.now)) (sym at) others.1));
      within = subst (λ n. n ≤ length t.text.now) (sym at) found.1.2;
      utf8 = subst (λ n. IsUtf8 (drop n t.text.now)) (sym at) found.1.3;
      no_gap = ap size_of gap;
      pending = subst (λ n. new.pending ≤ n) (sym at) puts.order;
      pending_utf8 = puts.first;
      not_made = made ∙ h.not_made;
    } in
    (puts.put, puts.appended, subst (λ xs. HasLaidOut xs (out ++ puts.put) new) has.same_text there_has)

pub lays_last : (t : Tidying) (before after : List ℕ) → FindsEntry t.text.now t.gap t.at End
    → after ≡ before ++ (part t.text.now t.pending t.at ++ text_from t.placer.before []) → LaysLast t before after
lays_last t before after found put = λ text out has.
    let h = on_text text out t has in
    let pending = part t.text.now t.pending t.at in
    let last = text_from h.here.before [] in
    let whole = h.so_far [] found in
    let d = h.document in
    let same : whole.0 ≡ d.0 = SpellsEntries-unique (Below 0 0) whole.0 d.0 t.text.now whole.1 d.1.0 in
    let laid : IsLaidOut t.text.now (out ++ (pending ++ last)) = record {
      document = d.0;
      is_document = d.1;
      is_written = sym (append_assoc out pending last) ∙ sym whole.2 ∙ ap (λ es. written (placed es)) same;
    } in (
      pending ++ last,
      put ∙ ap (λ k. before ++ (pending ++ text_from k [])) h.is_here.before,
      subst (λ xs. IsLaidOut xs (out ++ (pending ++ last))) has.same_text laid,
    )

pub never_refused : (t : Tidying) (text out : List ℕ) → HasLaidOut text out t → FindsEntry t.text.now t.gap t.at Refused → ⊥
never_refused t text out has found = let h = on_text text out t has in found h.to_come.0 h.to_come.1

pub laid_further : (t new : Tidying) (text out before after : List ℕ) → HasLaidOut text out t → LaysMore t new before after → t.at < new.at → length text - new.at < length text - t.at
laid_further t new text out before after has more moves =
    let there = (more text out has).2 in
    let within : new.at ≤ length text = there.within in
    omega arith

pub all_laid : (t : Tidying) (text before after : List ℕ) → HasLaidOut text before t → LaysLast t before after → IsLaidOut text after
all_laid t text before after has last = let whole = last text before has in subst (λ xs. IsLaidOut text xs) (sym whole.1) whole.2

pub entry_utf8 : (t : Tidying) (text out : List ℕ) (e : Written) (span : Span) → HasLaidOut text out t → FindsEntry t.text.now t.gap t.at (More e span) → IsUtf8 (drop span.start t.text.now)
entry_utf8 t text out e span has found =
    let h = on_text text out t has in gap_utf8 t.text.now t.at span.start t.gap e.gap found.0 h.utf8

-- a character begins behind one space or none
pub near_utf8 : (t : Tidying) (text out bytes : List ℕ) (width : ℕ) → HasLaidOut text out t → bytes ≡ t.text.now → (t.at + width < length bytes) × FindsCanonicalGap bytes t.at (Beside width) (t.at + width) → IsUtf8 (drop (t.at + width) t.text.now)
near_utf8 t text out bytes width has same found =
    let h = on_text text out t has in
    let canonical : FindsCanonicalGap bytes t.at (Beside width) (t.at + width) = found.1 in
    gap_utf8 t.text.now t.at (t.at + width) (Beside 0) (Beside width) (subst (λ xs. FindsGap xs (Beside 0) t.at (Beside width) (t.at + width)) same canonical.0) h.utf8

-- what is written so far begins all that is written
pub begins_laid : (t : Tidying) (text out : List ℕ) → HasLaidOut text out t → (rest : List ℕ) × IsLaidOut text (out ++ rest)
begins_laid t text out has =
    let pending = part text t.pending t.at in
    let here = has.here in
    let es = has.to_come.0 in
    let last = text_from here.before (placed_after here es) in
    let whole = has.so_far es has.to_come.1 in
    let d = has.document in
    let same : whole.0 ≡ d.0 = SpellsEntries-unique (Below 0 0) whole.0 d.0 text whole.1 d.1.0 in (
      pending ++ last,
      record {
        document = d.0;
        is_document = d.1;
        is_written = sym (append_assoc out pending last) ∙ sym whole.2 ∙ ap (λ es. written (placed es)) same;
      },
    )

-- Several entries, one after another.

pub nothing_laid : (t : Tidying) (before : List ℕ) → LaysMore t t before before
nothing_laid t before = nothing_appended HasLaidOut t before

pub more_laid : (t mid new : Tidying) (before now after : List ℕ) → LaysMore t mid before now → LaysMore mid new now after → LaysMore t new before after
more_laid = more_appended HasLaidOut

pub last_laid : (t mid : Tidying) (before now after : List ℕ) → LaysMore t mid before now → LaysLast mid now after → LaysLast t before after
last_laid = last_appended HasLaidOut IsLaidOut
