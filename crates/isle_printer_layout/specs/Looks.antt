-- The nodes of an S-expression, and looks at them.
use Rattle.std.specs.Prelude.{ℕ, ◌+◌, ◌≤◌, OnOk}
use Rattle.std.specs.declared.result.Result.{Result}
use Rattle.isle_printer_layout.specs.Sexp.{Sexp, Sexps, atom, binding, list, none, more}

-- An atom is one node. A binding is one, and the nodes of its S-expression. A list is one, and the
-- nodes of its items.
abbrev mutual
  pub nodes : Sexp → ℕ
  nodes (atom text) = 1
  nodes (binding name s) = 1 + nodes s
  nodes (list items) = 1 + nodes_of_items items

  pub nodes_of_items : Sexps → ℕ
  nodes_of_items none = 0
  nodes_of_items (more s ss) = nodes s + nodes_of_items ss

-- On success each of these nodes adds a look. There are never more, and none is taken away, even if
-- memory runs out.
abbrev pub AddsLooks : {T E : Type 0} → Result T E → (nodes old new : ℕ) → Type 0
AddsLooks result nodes old new = OnOk result (old + nodes ≤ new) × (new ≤ old + nodes) × (old ≤ new)

-- the same, if the first of these nodes has been looked at before
abbrev pub AddsOtherLooks : {T E : Type 0} → Result T E → (nodes old new : ℕ) → Type 0
AddsOtherLooks result nodes old new =
    OnOk result (old + nodes ≤ new + 1) × (new + 1 ≤ old + nodes) × (old ≤ new)
