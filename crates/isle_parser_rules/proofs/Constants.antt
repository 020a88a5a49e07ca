-- A constant is read with its `$`.
use Rattle.std.proofs.Common.{◌≡◌, ℕ, false, ◌==◌, List, [], ◌∷◌, Some, None, refl, ap}
use Rattle.std.proofs.lemmas.Bool.{ne_eqb}
use Rattle.isle_ast_names.specs.Tree.{Name}
use Rattle.isle_base_source.specs.declared.pos.Pos.{Pos}
use Rattle.isle_base.specs.Place.{Placed}
use Rattle.isle_parser_cursor.specs.declared.cursor.Stop.{Stop}
use Rattle.isle_parser_cursor.specs.Outcomes.{IsParserRefusal, CursorSource, Stops}
use Rattle.isle_parser_cursor.specs.NameReaders.{name}
use Rattle.isle_parser_rules.specs.ConstantReaders.{behind_dollar, constant}
use Rattle.isle_parser_cursor.proofs.Ahead.{stopped}

-- a name that does not begin with `$`
nothing_behind : (text : List ℕ) (place : Pos) → ((rest : List ℕ) → text ≡ 36 ∷ rest → ⊥) → behind_dollar (record { text = text; pos = place }) ≡ None
nothing_behind [] place h = refl
nothing_behind (b ∷ bs) place h =
    let other : (b == 36) ≡ false = ne_eqb b 36 (λ is. h bs (ap (λ (n : ℕ). n ∷ bs) is)) in
    rw other refl

-- a name that doesn't begin with `$` is no constant
pub no_dollar : (all : List Placed) (n : Name) (rest : List Placed) (s : CursorSource) (e : Stop) → name all ≡ Some (n, rest) → ((bytes : List ℕ) → n.text ≡ 36 ∷ bytes → ⊥) → IsParserRefusal s e → Stops (constant all) s e
unfolding constant
no_dollar all n rest s e read h refused =
    stopped (constant all) s e (rw (read, nothing_behind n.text n.pos h) refl) refused
