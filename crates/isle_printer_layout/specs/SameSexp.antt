-- Equality of S-expressions. `==` computes it, and the laws of `==` follow from it.
use Rattle.std.specs.Prelude.{◌≡◌, Bool, true, false, ◌&&◌}
use Rattle.std.specs.Bool.{Decides}
use Rattle.std.specs.Cmp.{IsEquivalence, decided, on_equiv}
use Rattle.std.specs.Ordering.{on}
use Rattle.std.specs.Str.{bytes_eq}
use Rattle.std.proofs.Common.{refl, sym, ap, subst}
use Rattle.std.proofs.lemmas.Bool.{true≢false, and_parts, and_from}
use Rattle.std.proofs.lemmas.Slice.Eq.{bytes_eq-Decides}
use Rattle.isle_printer_layout.specs.Sexp.{Sexp, Sexps, atom, binding, list, none, more}
use Rattle.isle_printer_layout.specs.SexpView.{sexp_of}

abbrev mutual
  pub same_sexp : Sexp → Sexp → Bool
  same_sexp (atom text) (atom other) = bytes_eq text other
  same_sexp (binding name s) (binding other t) = bytes_eq name other && same_sexp s t
  same_sexp (list ss) (list ts) = same_sexps ss ts
  same_sexp _ _ = false

  pub same_sexps : Sexps → Sexps → Bool
  same_sexps none none = true
  same_sexps (more s ss) (more t ts) = same_sexp s t && same_sexps ss ts
  same_sexps _ _ = false

-- The test is true exactly of equal S-expressions.

mutual
  pub sexp_same : (s t : Sexp) → same_sexp s t ≡ true → s ≡ t
  sexp_same (atom text) (atom other) h = ap atom ((bytes_eq-Decides text other).0 h)
  sexp_same (binding name s) (binding other t) h =
      let all = and_parts (bytes_eq name other) (same_sexp s t) h in
      λ i. binding ((bytes_eq-Decides name other).0 all.0 i) (sexp_same s t all.1 i)
  sexp_same (list ss) (list ts) h = ap list (sexps_same ss ts h)
  sexp_same _ _ h = absurd (true≢false (sym h))

  pub sexps_same : (ss ts : Sexps) → same_sexps ss ts ≡ true → ss ≡ ts
  sexps_same none none h = refl
  sexps_same (more s ss) (more t ts) h =
      let all = and_parts (same_sexp s t) (same_sexps ss ts) h in
      λ i. more (sexp_same s t all.0 i) (sexps_same ss ts all.1 i)
  sexps_same _ _ h = absurd (true≢false (sym h))

mutual
  pub sexp_self : (s : Sexp) → same_sexp s s ≡ true
  sexp_self (atom text) = (bytes_eq-Decides text text).1 refl
  sexp_self (binding name s) =
      and_from (bytes_eq name name) (same_sexp s s) ((bytes_eq-Decides name name).1 refl) (sexp_self s)
  sexp_self (list ss) = sexps_self ss

  pub sexps_self : (ss : Sexps) → same_sexps ss ss ≡ true
  sexps_self none = refl
  sexps_self (more s ss) = and_from (same_sexp s s) (same_sexps ss ss) (sexp_self s) (sexps_self ss)

pub sexp-Decides : (s t : Sexp) → Decides (same_sexp s t) (s ≡ t)
sexp-Decides s t = (sexp_same s t, λ e. subst (λ z. same_sexp s z ≡ true) e (sexp_self s))

pub s_expressions_equiv : IsEquivalence (on sexp_of same_sexp)
s_expressions_equiv = on_equiv sexp_of (decided same_sexp sexp-Decides)
