-- What the words so far give, and then what the others give, is what all give.
use Rattle.std.proofs.Common.{◌≡◌, drop, map, string_bytes}
use Rattle.isle_cli.specs.Arguments.{anything_awaited, awaited_of, given, given_of}
use Rattle.isle_cli.proofs.ArgumentLemmas.{after}
use Rattle.isle_cli.proofs.arguments.arguments_of.Given as goal

abbrev pub invariant-loop-word : goal.invariant-loop-word
invariant-loop-word l =
    after (map given_of l.arguments.items) (given l.options (awaited_of l.awaited) (map string_bytes (drop l.word-index l.words)))
    ≡ given l.options anything_awaited (map string_bytes l.words)
