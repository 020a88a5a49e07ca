use Rattle.std.proofs.Common.{◌≡◌, ◌+◌, ◌≤◌, drop, map}
use Rattle.isle_lsp_actions.specs.Names.{count_in, name_of}
use Rattle.isle_lsp_actions.proofs.names.count_in.Given as goal

abbrev pub invariant-loop-name : goal.invariant-loop-name
invariant-loop-name l = record {
  small : l.count ≤ l.name-index;
  left : l.count + count_in l.list l.text (map name_of (drop l.name-index l.names)) ≡ count_in l.list l.text (map name_of l.names);
}
