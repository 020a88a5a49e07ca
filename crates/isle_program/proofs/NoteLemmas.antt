-- Where nothing is written, nothing but a note is.
use Rattle.std.proofs.Common.{ℕ, List, [], Option, None, Some, append-nil, refl, sym, ◌∙◌}
use Rattle.std.specs.Io.KnownBytes.{Keeps}
use Rattle.isle_cli.specs.Streams.{AppendsBeginning, WritesBeginning}
use Rattle.isle_program.specs.SeveralPrograms.{IsNote}

kept-begun : (faults faults' : Option (List ℕ)) → Keeps faults faults' → AppendsBeginning faults faults' []
kept-begun None faults' kept = (0, tt)
kept-begun (Some old) None kept = absurd kept
kept-begun (Some old) (Some new) kept = (0, kept ∙ sym (append-nil old))

-- there is no note on no texts
pub kept-noted : (faults faults' : Option (List ℕ)) → Keeps faults faults' → WritesBeginning faults faults' IsNote
kept-noted faults faults' kept = ([], ([], [], refl), kept-begun faults faults' kept)
