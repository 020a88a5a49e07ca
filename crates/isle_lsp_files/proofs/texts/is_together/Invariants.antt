use Rattle.std.proofs.Common.{◌≡◌, ◌&&◌, drop, map}
use Rattle.std.specs.List.{list_any}
use Rattle.std.specs.Prelude.{string_bytes}
use Rattle.isle_program_manifest.specs.Membership.{has_file}
use Rattle.isle_lsp_files.proofs.texts.is_together.Given as goal

abbrev pub invariant-loop-program : goal.invariant-loop-program
invariant-loop-program l =
    list_any (λ p. has_file (string_bytes l.view.file) p && has_file l.file p) (map (λ p. map string_bytes p.items) (drop l.program-index l.view.programs.items))
    ≡ list_any (λ p. has_file (string_bytes l.view.file) p && has_file l.file p) (map (λ p. map string_bytes p.items) l.view.programs.items)
