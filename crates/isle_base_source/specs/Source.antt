-- A file: its name and its text, as bytes.
use Rattle.std.specs.Prelude.{ℕ, Bool, List, [], nat_eq, string_bytes, slice_index_or}
use Rattle.std.specs.Cmp.{IsEquivalence, and_equiv, on_equiv}
use Rattle.std.specs.Cmp.Lexicographic.{nat_list_eq_equiv, pointwise}
use Rattle.std.specs.Ordering.{eq_of_both, on}
use Rattle.std.specs.declared.string.String.{String}
use Rattle.std.specs.declared.alloc.Global.{Global}

pub record Source : Type 0 where
  pub name : List ℕ
  pub text : List ℕ

-- the file with this name and text
abbrev pub source_of : String Global × String Global → Source
source_of pair = record { name = string_bytes pair.0; text = string_bytes pair.1 }

-- the file with this index; an unknown index stands for an empty file
abbrev pub source_at : List Source → ℕ → Source
source_at files file = slice_index_or files file (record { name = []; text = [] })

-- two files have the same name and the same text
abbrev pub is_same_source : Source → Source → Bool
is_same_source = eq_of_both (on (λ source. source.name) (pointwise nat_eq)) (on (λ source. source.text) (pointwise nat_eq))

pub is_same_source_equiv : IsEquivalence is_same_source
is_same_source_equiv = and_equiv (on_equiv (λ source. source.name) nat_list_eq_equiv) (on_equiv (λ source. source.text) nat_list_eq_equiv)
