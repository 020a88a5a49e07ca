-- The S-expressions on the tape are the last ones.
use Rattle.std.proofs.Common.{◌≡◌, drop}
use Rattle.isle_printer_layout.specs.Pieces.{put_before}
use Rattle.isle_printer_layout.specs.SexpView.{sexps_of}
use Rattle.isle_printer_layout.proofs.sexprs.+put_sexpr.Given as goal

abbrev pub invariant-put_sexprs-loop-at : goal.invariant-put_sexprs-loop-at
invariant-put_sexprs-loop-at l = l.tape ≡ put_before (sexps_of (drop l.at l.sexprs.items)) l.fn.tape
