-- What a name may do, its new text may do too.
use Rattle.std.proofs.Common.{◌≡◌, ◌≢◌, ℕ, List, [], ◌∷◌, Bool, true, false, not, ◌||◌, bytes_eq, codes, refl, sym, ap, ◌∙◌, ⊎_elim}
use Rattle.std.proofs.lemmas.Bool.{eqb-true}
use Rattle.isle_base.specs.Bytes.{dollar}
use Rattle.isle_base.specs.Skips.{begins_with}
use Rattle.isle_ast_names.specs.Tree.{Name}
use Rattle.isle_ast_names.specs.Words.{demands, is_dollar}
use Rattle.isle_ast_names.specs.Writable.{IsNot}
use Rattle.isle_ast_rules.specs.Writable.{HasNoDollar, IsPatternVariable, IsExpressionVariable}
use Rattle.isle_index.specs.Renaming.{is_reserved}
use Rattle.isle_resolve.proofs.Texts.{bytes-false}
use Rattle.isle_index_laws.specs.Kept.{CanReplace}

pub clash : {A : Type 0} (b : Bool) → b ≡ true → b ≡ false → A
clash b holds fails = absurd (cc)

-- a reserved word that the old text isn't, the new one isn't either
pub no_word : (old new word : List ℕ) → CanReplace old new → is_reserved word ≡ true → old ≢ word → new ≢ word
no_word old new word k reserved other e =
    ⊎_elim (λ same. other (sym same ∙ e)) (λ p. clash (is_reserved new) (ap is_reserved e ∙ reserved) p.0) k.plain

pub not_named : (m n : Name) (word : List ℕ) → CanReplace m.text n.text → is_reserved word ≡ true → IsNot m word → IsNot n word
not_named m n word k reserved other = no_word m.text n.text word k reserved other

-- the same as a test
pub not_word : (old new word : List ℕ) → CanReplace old new → is_reserved word ≡ true → bytes_eq old word ≡ false → bytes_eq new word ≡ false
not_word old new word k reserved other =
    ⊎_elim
    (λ same. ap (λ t. bytes_eq t word) same ∙ other)
    (λ p. bytes-false new word (λ e. clash (is_reserved new) (ap is_reserved e ∙ reserved) p.0))
    k.plain

-- a flag that the old text demands
pub demands_kept : (old new word : List ℕ) (flag : Bool) → CanReplace old new → is_reserved word ≡ true → demands old word flag ≡ true → demands new word flag ≡ true
demands_kept old new word flag k reserved h =
    ⊎_elim
    (λ same. ap (λ t. demands t word flag) same ∙ h)
    (λ p. ap (λ b. not b || flag) (bytes-false new word (λ e. clash (is_reserved new) (ap is_reserved e ∙ reserved) p.0)))
    k.plain

dollar_first : (text : List ℕ) → begins_with is_dollar text ≡ true → (behind : List ℕ) × (text ≡ dollar ∷ behind)
dollar_first [] h = let never : false ≡ true = h in absurd (cc)
dollar_first (b ∷ bs) h = (bs, ap (λ a. a ∷ bs) (eqb-true b dollar h))

-- what begins with no `$` begins with none after
pub no_sign : (old new : Bool) → (new ≡ true → old ≡ true) → old ≡ false → new ≡ false
no_sign old true kept plain = clash old (kept refl) plain
no_sign old false kept plain = refl

pub no_dollar : (m n : Name) → CanReplace m.text n.text → HasNoDollar m → HasNoDollar n
no_dollar m n k h behind e =
    ⊎_elim (λ same. h behind (sym same ∙ e)) (λ p. let first = dollar_first m.text (p.1 (ap (begins_with is_dollar) e)) in h first.0 first.1) k.plain

pub pattern_variable : (m n : Name) → CanReplace m.text n.text → IsPatternVariable m → IsPatternVariable n
pattern_variable m n k v = record {
  name = k.name v.name;
  not_wildcard = not_named m n (codes "_") k refl v.not_wildcard;
  not_true = not_named m n (codes "true") k refl v.not_true;
  not_false = not_named m n (codes "false") k refl v.not_false;
  not_constant = no_dollar m n k v.not_constant;
}

pub expression_variable : (m n : Name) → CanReplace m.text n.text → IsExpressionVariable m → IsExpressionVariable n
expression_variable m n k v = record {
  name = k.name v.name;
  not_true = not_named m n (codes "true") k refl v.not_true;
  not_false = not_named m n (codes "false") k refl v.not_false;
  not_constant = no_dollar m n k v.not_constant;
}
