-- What is written of a text so far, and of the entries to come.
use Rattle.std.specs.Prelude.{◌≡◌, ◌≤◌, ℕ, List, ◌++◌, drop, length, IsUtf8, Option, Some, None, true, string_bytes}
use Rattle.std.specs.List.{list_all}
use Rattle.std.specs.declared.alloc.Global.{Global}
use Rattle.std.specs.declared.string.String.{String}
use Rattle.isle_tidy_core.specs.Ends.{is_no_return, mark_size}
use Rattle.isle_tidy_core.specs.Finds.{part}
use Rattle.isle_tidy_core.specs.Grammar.{SpellsEntries, IsDocument}
use Rattle.isle_tidy_core.specs.Sizes.{size_of}
use Rattle.isle_tidy_core.specs.Tidied.{IsLaidOut, IsTidyTextOf}
use Rattle.isle_tidy_core.specs.declared.tidying.Tidying.{Tidying}
use Rattle.isle_tidy_layout.specs.Entries.{Lexeme, Entry}
use Rattle.isle_tidy_layout.specs.PlacerView.{IsAt}
use Rattle.isle_tidy_layout.specs.Placing.{Here, placed, placed_after}
use Rattle.isle_tidy_layout.specs.Writing.{gap_text, start_text, spelling, written, written_after}
use Rattle.isle_tidy_layout.specs.declared.entries.Gap.{Gap}
use Rattle.isle_tidy_layout.specs.declared.entries.Gap.TheVariants.{Below}
use Rattle.isle_tidy_layout.specs.declared.placing.Kind.{Kind}
use Rattle.isle_tidy_layout.specs.declared.placing.Kind.TheVariants.{Start}

-- after the start of a text, or after an entry of this kind
abbrev pub text_from : Kind → List Entry → List ℕ
text_from Start es = written es
text_from _ es = written_after es

abbrev pub gap_text_from : Kind → Gap → List ℕ
gap_text_from Start gap = start_text gap
gap_text_from _ gap = gap_text gap

abbrev pub entry_text : Kind → Gap → Lexeme → List ℕ
entry_text before gap x = gap_text_from before gap ++ spelling x

-- Whatever entries are spelt from an offset on, they end the entries of the text, and what is written of
-- these, placed, is what is written and then those entries, placed.
abbrev pub IsWritten : (text : List ℕ) (gap : Gap) (at : ℕ) → Here → (out : List ℕ) → Type 0
IsWritten text gap at here out =
    (es : List Entry) → SpellsEntries gap es (drop at text)
    → (all : List Entry) × SpellsEntries (Below 0 0) all text × (written (placed all) ≡ out ++ text_from here.before (placed_after here es))

-- The text has a document, its entries go on here, and so much is written of it, but for bytes that are
-- pending: they are next as they are in the text.
pub record HasLaidOut (text out : List ℕ) (t : Tidying) : Type 0 where
  pub same_text : t.text.now ≡ text
  pub document : (d : List Entry) × IsDocument text d
  pub here : Here
  pub is_here : IsAt t.placer here
  pub so_far : IsWritten text t.gap t.at here (out ++ part text t.pending t.at)
  pub to_come : (es : List Entry) × SpellsEntries t.gap es (drop t.at text)
  pub within : t.at ≤ length text
  pub utf8 : IsUtf8 (drop t.at text)
  pub no_gap : size_of t.gap ≡ 0
  pub pending : t.pending ≤ t.at
  pub pending_utf8 : IsUtf8 (drop t.pending text)
  pub not_made : t.made ≡ None

-- more of what is written of the text is appended to these bytes
abbrev pub LaysMore : (old new : Tidying) → (before after : List ℕ) → Type 0
LaysMore old new before after =
    (text out : List ℕ) → HasLaidOut text out old → (put : List ℕ) × (after ≡ before ++ put) × HasLaidOut text (out ++ put) new

-- the rest of it is
abbrev pub LaysLast : (old : Tidying) → (before after : List ℕ) → Type 0
LaysLast old before after =
    (text out : List ℕ) → HasLaidOut text out old → (put : List ℕ) × (after ≡ before ++ put) × IsLaidOut text (out ++ put)

-- No CR is in the text, and no mark stands apart before it: its tidy text is what is written of it.
abbrev pub IsPlain : List ℕ → Type 0
IsPlain text = (list_all is_no_return text ≡ true) × (mark_size text ≡ 0)

-- the tidy text, made beforehand unless the text is plain
abbrev pub IsMade : List ℕ → Option (String Global) → Type 0
IsMade text None = IsPlain text
IsMade text (Some made) = IsTidyTextOf text (string_bytes made)

-- Of a plain text so much is written; of another one nothing, since all of its tidy text is made.
abbrev pub IsBegun : (text out : List ℕ) → Tidying → Option (String Global) → Type 0
IsBegun text out t None = IsPlain text × HasLaidOut text out t
IsBegun text out t (Some made) = IsTidyTextOf text (out ++ string_bytes made)

-- so much of the tidy text is written
pub record HasWritten (text out : List ℕ) (t : Tidying) : Type 0 where
  pub same_text : t.text.now ≡ text
  pub within : t.at ≤ length text
  pub begun : IsBegun text out t t.made

-- more of the tidy text is appended to these bytes
abbrev pub PutsMore : (old new : Tidying) → (before after : List ℕ) → Type 0
PutsMore old new before after =
    (text out : List ℕ) → HasWritten text out old → (put : List ℕ) × (after ≡ before ++ put) × HasWritten text (out ++ put) new

-- the rest of the tidy text is
abbrev pub PutsLast : (old : Tidying) → (before after : List ℕ) → Type 0
PutsLast old before after =
    (text out : List ℕ) → HasWritten text out old → (put : List ℕ) × (after ≡ before ++ put) × IsTidyTextOf text (out ++ put)
