use Rattle.std.proofs.Common.{◌≡◌, drop, map, option_map, string_bytes}
use Rattle.std.specs.List.{list_all}
use Rattle.isle_lsp_actions.specs.Told.{is_text}
use Rattle.isle_lsp_actions.proofs.expansions.are_all.Given as goal

abbrev pub invariant-loop-other : goal.invariant-loop-other
invariant-loop-other l =
    list_all (is_text l.text) (map (option_map string_bytes) (drop l.other-index l.others)) ≡ list_all (is_text l.text) (map (option_map string_bytes) l.others)
