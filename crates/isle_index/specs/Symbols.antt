-- The names that files define.
use Rattle.std.specs.Prelude.{ℕ, List, Option, None, Some, length, filter, string_bytes, ◌==◌}
use Rattle.std.specs.List.{filter_map}
use Rattle.isle_base_source.specs.declared.pos.Pos.{Pos}
use Rattle.isle_resolve.specs.declared.event.Kind.{Kind}
use Rattle.isle_resolve.specs.declared.event.Kind.TheVariants as kinds
use Rattle.isle_resolve.specs.Event.{EventNode, defines, uses, defines_variant, occurs, binds, reads, closes, ends}
use Rattle.isle_resolve.specs.Scopes.{SeenNode}
use Rattle.isle_resolve.specs.Names.{joined}
use Rattle.isle_index.specs.Occurrences.{written_len}
use Rattle.isle_index.specs.declared.symbols.Symbol.{Symbol}
use Rattle.isle_index.specs.declared.symbols.SymbolKind.{SymbolKind}
use Rattle.isle_index.specs.declared.symbols.SymbolKind.TheVariants as symbol_kinds

pub record SymbolNode : Type 0 where
  pub kind : SymbolKind
  pub text : List ℕ
  pub pos : Pos
  pub len : ℕ

abbrev pub symbol_of : Symbol → SymbolNode
symbol_of s = record { kind = s.kind; text = string_bytes s.text; pos = s.pos; len = s.len }

abbrev pub kind_of : Kind → SymbolKind
kind_of kinds.Term = symbol_kinds.Term
kind_of kinds.Type = symbol_kinds.Type
kind_of kinds.Constant = symbol_kinds.Constant

-- the global name that an event defines
abbrev pub symbol : EventNode → Option SymbolNode
symbol (defines kind name) = Some (record { kind = kind_of kind; text = name.text; pos = name.pos; len = written_len kind name })
symbol (uses _ _) = None
symbol (defines_variant owner member) =
    Some (record { kind = symbol_kinds.Variant; text = joined owner.text member.text; pos = member.pos; len = length member.text })
symbol (occurs _ _) = None
symbol (binds _) = None
symbol (reads _) = None
symbol closes = None
symbol ends = None

-- the names that a file defines, in order
abbrev pub symbols : ℕ → List SeenNode → List SymbolNode
symbols file ss = filter (λ s. s.pos.file == file) (filter_map (λ s. symbol s.event) ss)
