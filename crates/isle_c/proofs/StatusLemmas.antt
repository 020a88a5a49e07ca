-- What the number of a call that writes nothing says of the text.
use Rattle.std.proofs.Common.{◌≡◌, ◌≢◌, ◌≤◌, ◌↔◌, ℕ, List, IsUtf8, arith, length, refl, subst}
use Rattle.std.specs.List.{All, sum}
use Rattle.isle_c.specs.NoAnswers.{IsFormatFailure, IsRefusalFailure, IsTidyFailure, status_of}
use Rattle.isle_c.specs.declared.TheConstants.{BAD_LENGTHS, NOT_UTF8, REFUSED}
use Rattle.isle_c.specs.Programs.{IsProgramFailure, IsReadingFailure, IsRefusedProgram, IsTextsFailure, parts}
use Rattle.isle_c.specs.declared.calls.NoAnswer.{NoAnswer}
use Rattle.isle_c.specs.declared.calls.NoAnswer.TheVariants as reasons
use Rattle.isle_tidy_core.specs.Refused.{HasNoDocument}
use Rattle.isle_syntax.specs.Format.{IsRefused}

pub refused_format : (text : List ℕ) (why : NoAnswer) → IsFormatFailure text why → status_of why ≡ REFUSED → IsRefused text
refused_format text reasons.Accepted said is = absurd said
refused_format text reasons.Refused said is = said.1
refused_format text reasons.NotUtf8 said is = absurd (cc is)
refused_format text reasons.Memory said is = absurd (cc is)
refused_format text reasons.BadLengths said is = absurd said

pub refused_refusal : (text : List ℕ) (why : NoAnswer) → IsRefusalFailure text why → status_of why ≡ REFUSED → IsRefused text
refused_refusal text reasons.Accepted said is = absurd (cc is)
refused_refusal text reasons.Refused said is = absurd said
refused_refusal text reasons.NotUtf8 said is = absurd (cc is)
refused_refusal text reasons.Memory said is = absurd (cc is)
refused_refusal text reasons.BadLengths said is = absurd said

pub refused_tidy : (text : List ℕ) (why : NoAnswer) → IsTidyFailure text why → status_of why ≡ REFUSED → HasNoDocument text
refused_tidy text reasons.Accepted said is = absurd said
refused_tidy text reasons.Refused said is = said.1
refused_tidy text reasons.NotUtf8 said is = absurd (cc is)
refused_tidy text reasons.Memory said is = absurd (cc is)
refused_tidy text reasons.BadLengths said is = absurd said

-- of a program
pub refused_program : (lengths bytes : List ℕ) (why : NoAnswer) → IsProgramFailure lengths bytes why → status_of why ≡ REFUSED → IsRefusedProgram (parts lengths bytes)
refused_program lengths bytes reasons.Accepted said is = absurd said
refused_program lengths bytes reasons.Refused said is = said.2
refused_program lengths bytes reasons.NotUtf8 said is = absurd (cc is)
refused_program lengths bytes reasons.Memory said is = absurd (cc is)
refused_program lengths bytes reasons.BadLengths said is = absurd (cc is)

pub no_text : (lengths bytes : List ℕ) (why : NoAnswer) → IsProgramFailure lengths bytes why → status_of why ≡ NOT_UTF8 → ¬ (All IsUtf8 (parts lengths bytes))
no_text lengths bytes reasons.Accepted said is = absurd said
no_text lengths bytes reasons.Refused said is = absurd (cc is)
no_text lengths bytes reasons.NotUtf8 said is = said.1
no_text lengths bytes reasons.Memory said is = absurd (cc is)
no_text lengths bytes reasons.BadLengths said is = absurd (cc is)

pub texts_of_program : (lengths bytes : List ℕ) (why : NoAnswer) → IsProgramFailure lengths bytes why → status_of why ≤ REFUSED → All IsUtf8 (parts lengths bytes)
texts_of_program lengths bytes reasons.Accepted said is = absurd said
texts_of_program lengths bytes reasons.Refused said is = said.1
texts_of_program lengths bytes reasons.NotUtf8 said is = absurd (omega (arith, is))
texts_of_program lengths bytes reasons.Memory said is = absurd (omega (arith, is))
texts_of_program lengths bytes reasons.BadLengths said is = absurd (omega (arith, is))

pub bad_lengths : (lengths bytes : List ℕ) (why : NoAnswer) → IsProgramFailure lengths bytes why → (status_of why ≡ BAD_LENGTHS) ↔ (sum lengths ≢ length bytes)
bad_lengths lengths bytes reasons.Accepted said = absurd said
bad_lengths lengths bytes reasons.Refused said = ((λ is. absurd (cc is)), (λ differ. absurd (differ said.0)))
bad_lengths lengths bytes reasons.NotUtf8 said = ((λ is. absurd (cc is)), (λ differ. absurd (differ said.0)))
bad_lengths lengths bytes reasons.Memory said = ((λ is. absurd (cc is)), (λ differ. absurd (differ said)))
bad_lengths lengths bytes reasons.BadLengths said = ((λ is. said), (λ differ. refl))

-- why there is no answer, by what is done in order
pub texts_failure : (lengths bytes : List ℕ) (why : NoAnswer) → sum lengths ≡ length bytes → IsTextsFailure (parts lengths bytes) why → IsProgramFailure lengths bytes why
texts_failure lengths bytes reasons.Accepted add_up said = said
texts_failure lengths bytes reasons.Refused add_up said = absurd said
texts_failure lengths bytes reasons.NotUtf8 add_up said = (add_up, said)
texts_failure lengths bytes reasons.Memory add_up said = add_up
texts_failure lengths bytes reasons.BadLengths add_up said = absurd said

pub reading_failure : (lengths bytes : List ℕ) (texts : List (List ℕ)) (why : NoAnswer) → sum lengths ≡ length bytes → All IsUtf8 (parts lengths bytes)
    → texts ≡ parts lengths bytes → IsReadingFailure texts why → IsProgramFailure lengths bytes why
reading_failure lengths bytes texts reasons.Accepted add_up utf8 same said = said
reading_failure lengths bytes texts reasons.Refused add_up utf8 same said = (add_up, utf8, subst IsRefusedProgram same said)
reading_failure lengths bytes texts reasons.NotUtf8 add_up utf8 same said = absurd said
reading_failure lengths bytes texts reasons.Memory add_up utf8 same said = add_up
reading_failure lengths bytes texts reasons.BadLengths add_up utf8 same said = absurd said
