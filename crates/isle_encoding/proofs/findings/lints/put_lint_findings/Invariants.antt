use Rattle.std.proofs.Common.{◌≡◌, ◌++◌, drop, flat_map, map, string_bytes}
use Rattle.isle_lint_core.specs.Finding.{finding_of}
use Rattle.isle_encoding.specs.findings.Encoded.{encoded, finding, told_lint}
use Rattle.isle_encoding.proofs.findings.lints.put_lint_findings.Given as goal

abbrev pub invariant-loop-one : goal.invariant-loop-one
invariant-loop-one l =
    string_bytes l.out ++ flat_map finding (map told_lint (map finding_of (drop l.one-index l.found)))
    ≡ string_bytes l.fn.out ++ encoded (map told_lint (map finding_of l.found))
