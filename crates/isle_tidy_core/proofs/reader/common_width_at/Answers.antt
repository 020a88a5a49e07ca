use Rattle.std.proofs.Common.{arith}
use Rattle.isle_tidy_core.proofs.CanonicalBlanks.{canonical_none, canonical_one}
use Rattle.isle_tidy_core.proofs.reader.common_width_at.Goals as goal

pub returns-then-bytes-from-gt32 : goal.returns-then-bytes-from-gt32
returns-then-bytes-from-gt32 c = (omega arith, canonical_none c.args.bytes.now c.args.from _ (omega arith) (omega arith) (omega arith))

pub returns-then-bytes-from-gt32-2 : goal.returns-then-bytes-from-gt32-2
returns-then-bytes-from-gt32-2 c = (omega arith, canonical_one c.args.bytes.now c.args.from (omega arith) (omega arith) (omega arith))
