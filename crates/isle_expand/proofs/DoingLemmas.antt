-- What the program does, from what its parts do.
use Rattle.std.proofs.Common.{◌≡◌, ◌≢◌, ◌⊎◌, ◌≤◌, ℕ, List, [], Option, inl, inr, map, string_bytes, sym, subst, arith}
use Rattle.std.specs.Io.KnownBytes.{Keeps}
use Rattle.isle_base_source.specs.Source.{Source}
use Rattle.isle_cli.specs.Arguments.{Given}
use Rattle.isle_cli.specs.Failure.{status_of}
use Rattle.isle_cli.specs.Sources.{source_of}
use Rattle.isle_cli.specs.Streams.{AppendsBeginning, Writes, WritesBeginning}
use Rattle.isle_cli.specs.declared.failure.Failure.{Failure}
use Rattle.isle_cli.specs.declared.failure.Failure.TheVariants as failures
use Rattle.isle_cli.specs.declared.program.Program.{Program}
use Rattle.isle_expand.specs.Doing.{CutsTexts, Ends, EndsAs, EndsTexts, ExpandsTexts, Explains, ExplainsAs, ExplainsTexts, Reads, Takes}
use Rattle.isle_expand.specs.Expansion.{AreWarnings, HaveNoPrint, IsPrintOfExpansion}
use Rattle.isle_expand.specs.Program.{GivesWidth, given_width}
use Rattle.isle_expand.specs.declared.program.Taken.{Taken}

module _ (program : Program) (given : List Given) (input input' output output' faults faults' : Option (List ℕ)) where
  module _ (read : Taken) (took : Takes program given input input' read) where
    abbrev sources : List Source
    sources = map source_of read.sources.list.items

    -- what is said of what was read is said of the texts
    reads : (Holds : List Source → List ℕ → Type 0) → Holds sources (string_bytes read.sources.faults) → Reads program given input input' Holds
    reads Holds holds =
        let all = took.1 in
        record {
          width = all.width;
          sources = all.sources;
          faults = all.faults;
          read = all.read;
          holds = subst (λ ss. Holds ss all.faults) (sym all.holds.0) (subst (Holds sources) (sym all.holds.1) holds);
        }

    pub ended : (status : ℕ) → EndsAs status read output output' faults faults' → Ends program given status input input' output output' faults faults'
    ended status (inl done) =
        inl (
          done.0,
          reads (λ ss ls. (ls ≡ []) × Writes output output' (IsPrintOfExpansion (given_width given) ss) × WritesBeginning faults faults' (AreWarnings ss))
              (done.1, subst (λ width. Writes output output' (IsPrintOfExpansion width sources)) took.0 done.2, done.3),
        )
    ended status (inr missed) =
        inr (missed.0, reads (λ ss ls. (ls ≢ []) × AppendsBeginning faults faults' ls) (missed.1, missed.2), missed.3)

    pub explained : (failure : Failure) → ExplainsAs failure read output output' → Explains failure program given input input' output output'
    explained (failures.Refused shown) why = (reads (λ ss ls. (ls ≡ []) × HaveNoPrint ss (string_bytes shown)) (why.0, why.1.0), why.1.1)
    explained failures.Usage why = absurd why.1
    explained failures.Input why = absurd why.1
    explained failures.Memory why = why.1
    explained failures.Output why =
        reads (λ ss ls. (ls ≡ []) × WritesBeginning output output' (IsPrintOfExpansion (given_width given) ss))
        (why.0, subst (λ width. WritesBeginning output output' (IsPrintOfExpansion width sources)) took.0 why.1)

-- ---- the programs of a manifest

pub texts-statuses : (given : List Given) (status : ℕ) (a b : Option (List ℕ)) → EndsTexts given status a b → status ≤ 3
texts-statuses given status a b (inl (low, high, kept)) = high
texts-statuses given status a b (inr (zero, expands)) = omega (arith, zero)

pub texts-expanded : (given : List Given) (status : ℕ) (a b : Option (List ℕ)) → EndsTexts given status a b → status ≡ 0 → ExpandsTexts given a b
texts-expanded given status a b (inl (low, high, kept)) zero = absurd (omega (arith, low, zero))
texts-expanded given status a b (inr (zero, expands)) same = expands

pub texts-unwritten : (given : List Given) (status : ℕ) (a b : Option (List ℕ)) → EndsTexts given status a b → status ≢ 0 → Keeps a b
texts-unwritten given status a b (inl (low, high, kept)) some = kept
texts-unwritten given status a b (inr (zero, expands)) some = absurd (some zero)

pub texts-failed : (given : List Given) (failure : Failure) (status : ℕ) (a b : Option (List ℕ)) → ExplainsTexts failure given a b → status ≡ status_of failure → (1 ≤ status) × (status ≤ 5)
texts-failed given (failures.Refused _) status a b why is = (omega (arith, is), omega (arith, is))
texts-failed given failures.Usage status a b why is = (omega (arith, is), omega (arith, is))
texts-failed given failures.Input status a b why is = absurd why
texts-failed given failures.Memory status a b why is = (omega (arith, is), omega (arith, is))
texts-failed given failures.Output status a b why is = (omega (arith, is), omega (arith, is))

pub texts-cut : (given : List Given) (failure : Failure) (status : ℕ) (a b : Option (List ℕ)) → ExplainsTexts failure given a b → status ≡ status_of failure → status ≡ 5 → CutsTexts given a b
texts-cut given (failures.Refused _) status a b why is five = absurd (omega (arith, is, five))
texts-cut given failures.Usage status a b why is five = absurd (omega (arith, is, five))
texts-cut given failures.Input status a b why is five = absurd why
texts-cut given failures.Memory status a b why is five = absurd (omega (arith, is, five))
texts-cut given failures.Output status a b why is five = why

pub texts-kept : (given : List Given) (failure : Failure) (status : ℕ) (a b : Option (List ℕ)) → ExplainsTexts failure given a b → status ≡ status_of failure → status ≢ 5 → Keeps a b
texts-kept given (failures.Refused _) status a b why is other = why
texts-kept given failures.Usage status a b why is other = why
texts-kept given failures.Input status a b why is other = absurd why
texts-kept given failures.Memory status a b why is other = why
texts-kept given failures.Output status a b why is other = absurd (other is)

-- what comes of the texts that were read
pub texts-ended : (given : List Given) (read : Taken) (status : ℕ) (a b p q : Option (List ℕ)) → GivesWidth given → read.width ≡ given_width given → EndsAs status read a b p q → EndsTexts given status a b
texts-ended given read status a b p q gives width (inl (zero, none, prints, warns)) =
    inr (zero, (map source_of read.sources.list.items, gives, subst (λ n. Writes a b (IsPrintOfExpansion n (map source_of read.sources.list.items))) width prints))
texts-ended given read status a b p q gives width (inr (three, some, told, kept)) = inl (omega (arith, three), omega (arith, three), kept)

pub texts-explained : (given : List Given) (read : Taken) (failure : Failure) (a b : Option (List ℕ)) → GivesWidth given → read.width ≡ given_width given → ExplainsAs failure read a b → ExplainsTexts failure given a b
texts-explained given read (failures.Refused _) a b gives width (none, put) = put.1
texts-explained given read failures.Usage a b gives width why = absurd why.1
texts-explained given read failures.Input a b gives width why = absurd why.1
texts-explained given read failures.Memory a b gives width why = why.1
texts-explained given read failures.Output a b gives width why =
    (map source_of read.sources.list.items, gives, subst (λ n. WritesBeginning a b (IsPrintOfExpansion n (map source_of read.sources.list.items))) width why.1)
