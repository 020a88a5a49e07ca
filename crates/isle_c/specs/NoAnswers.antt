-- Why a call writes nothing: the number of each reason, and what it says.
use Rattle.std.specs.Prelude.{ℕ, List, IsUtf8}
use Rattle.isle_c.specs.declared.TheConstants.{ACCEPTED, BAD_LENGTHS, MEMORY, NOT_UTF8, REFUSED}
use Rattle.isle_c.specs.declared.calls.NoAnswer.{NoAnswer}
use Rattle.isle_c.specs.declared.calls.NoAnswer.TheVariants.{Accepted, BadLengths, Memory, NotUtf8, Refused}
use Rattle.isle_tidy_core.specs.Refused.{HasDocument, HasNoDocument}
use Rattle.isle_syntax.specs.Format.{IsRefused, SpellsTree}

abbrev pub status_of : NoAnswer → ℕ
status_of Accepted = ACCEPTED
status_of Refused = REFUSED
status_of NotUtf8 = NOT_UTF8
status_of Memory = MEMORY
status_of BadLengths = BAD_LENGTHS

-- why a text isn't formatted
abbrev pub IsFormatFailure : List ℕ → NoAnswer → Type 0
IsFormatFailure text Accepted = ⊥
IsFormatFailure text Refused = IsUtf8 text × IsRefused text
IsFormatFailure text NotUtf8 = ¬ (IsUtf8 text)
IsFormatFailure text Memory = IsUtf8 text
IsFormatFailure text BadLengths = ⊥

-- why a text has no refusal
abbrev pub IsRefusalFailure : List ℕ → NoAnswer → Type 0
IsRefusalFailure text Accepted = IsUtf8 text × SpellsTree text
IsRefusalFailure text Refused = ⊥
IsRefusalFailure text NotUtf8 = ¬ (IsUtf8 text)
IsRefusalFailure text Memory = IsUtf8 text
IsRefusalFailure text BadLengths = ⊥

-- why a text has no diagnostic, where its file has this name
abbrev pub IsDiagnosticFailure : List ℕ → List ℕ → NoAnswer → Type 0
IsDiagnosticFailure name text Accepted = (IsUtf8 name × IsUtf8 text) × SpellsTree text
IsDiagnosticFailure name text Refused = ⊥
IsDiagnosticFailure name text NotUtf8 = ¬ (IsUtf8 name × IsUtf8 text)
IsDiagnosticFailure name text Memory = IsUtf8 name × IsUtf8 text
IsDiagnosticFailure name text BadLengths = ⊥

-- why a text isn't tidied
abbrev pub IsTidyFailure : List ℕ → NoAnswer → Type 0
IsTidyFailure text Accepted = ⊥
IsTidyFailure text Refused = IsUtf8 text × HasNoDocument text
IsTidyFailure text NotUtf8 = ¬ (IsUtf8 text)
IsTidyFailure text Memory = IsUtf8 text
IsTidyFailure text BadLengths = ⊥

-- why a text has no refusal to be tidied
abbrev pub IsTidyRefusalFailure : List ℕ → NoAnswer → Type 0
IsTidyRefusalFailure text Accepted = IsUtf8 text × HasDocument text
IsTidyRefusalFailure text Refused = ⊥
IsTidyRefusalFailure text NotUtf8 = ¬ (IsUtf8 text)
IsTidyRefusalFailure text Memory = IsUtf8 text
IsTidyRefusalFailure text BadLengths = ⊥
