-- Tokens, one after another.
use Rattle.std.proofs.Common.{append_assoc}

pub ruleset appended = (append_assoc)
