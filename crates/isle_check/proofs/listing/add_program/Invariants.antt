use Rattle.std.proofs.Common.{◌≡◌, ◌++◌, drop, map, string_bytes}
use Rattle.isle_check.specs.Listing.{file_lines, program_lines, program_of}
use Rattle.isle_check.proofs.listing.add_program.Given as goal

abbrev pub invariant-loop-path : goal.invariant-loop-path
invariant-loop-path l =
    string_bytes l.text ++ file_lines (program_of l.program) (map string_bytes (drop l.path-index l.program.listed.paths.items))
    ≡ string_bytes l.fn.text ++ program_lines (program_of l.program)
