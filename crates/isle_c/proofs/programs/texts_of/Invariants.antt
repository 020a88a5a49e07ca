use Rattle.std.proofs.Common.{◌≡◌, ◌++◌, IsUtf8, drop, length, map}
use Rattle.std.specs.List.{All, sum}
use Rattle.isle_c.specs.Programs.{parts}
use Rattle.isle_c.proofs.programs.texts_of.Given as goal

abbrev pub invariant-loop-len : goal.invariant-loop-len
invariant-loop-len l = record {
  so_far : map (λ text. text.now) l.texts.items ++ parts (drop l.len-index l.lengths) l.rest ≡ parts l.lengths l.bytes;
  utf8 : All IsUtf8 (map (λ text. text.now) l.texts.items);
  left : sum (drop l.len-index l.lengths) ≡ length l.rest;
}
