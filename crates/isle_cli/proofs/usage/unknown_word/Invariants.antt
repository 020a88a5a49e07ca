-- No word so far is unknown.
use Rattle.std.proofs.Common.{◌≡◌, drop, map, string_bytes}
use Rattle.isle_cli.specs.Arguments.{anything_awaited}
use Rattle.isle_cli.specs.Usage.{awaited_next, unknown_word}
use Rattle.isle_cli.proofs.usage.unknown_word.Given as goal

abbrev pub invariant-loop-word : goal.invariant-loop-word
invariant-loop-word l =
    unknown_word l.options (awaited_next l.now) (map string_bytes (drop l.word-index l.words)) ≡ unknown_word l.options anything_awaited (map string_bytes l.words)
