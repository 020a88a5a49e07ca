-- A diagnostic is one of equal texts.
use Rattle.std.proofs.Common.{◌≡◌, ℕ, List, subst}
use Rattle.isle_base_source.specs.declared.error.Error.{Error}
use Rattle.isle_c.specs.Refusals.{IsDiagnosticOf}
use Rattle.isle_base.specs.Diagnostics.{refusal_text}
use Rattle.isle_syntax.specs.Streaming.{IsRefusedWith}

pub diagnostic_of_bytes : (name name' text text' shown : List ℕ) (e : Error) → name ≡ name' → text ≡ text' → IsRefusedWith text e
    → shown ≡ refusal_text name text e → IsDiagnosticOf name' text' shown
diagnostic_of_bytes name name' text text' shown e same_name same_text refused is =
    subst (λ bytes. IsDiagnosticOf bytes text' shown) same_name
    (subst (λ bytes. IsDiagnosticOf name bytes shown) same_text (refused.0, (e, refused.1, is)))
