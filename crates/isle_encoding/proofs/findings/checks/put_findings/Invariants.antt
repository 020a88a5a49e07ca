use Rattle.std.proofs.Common.{◌≡◌, ◌++◌, drop, flat_map, map, string_bytes}
use Rattle.isle_check_core.specs.Views.{findings_of}
use Rattle.isle_encoding.specs.findings.Encoded.{encoded, finding, told}
use Rattle.isle_encoding.proofs.findings.checks.put_findings.Given as goal

abbrev pub invariant-loop-one : goal.invariant-loop-one
invariant-loop-one l =
    string_bytes l.out ++ flat_map finding (map told (findings_of (drop l.one-index l.found)))
    ≡ string_bytes l.fn.out ++ encoded (map told (findings_of l.found))
