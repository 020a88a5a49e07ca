-- The names of constants are read as the grammar spells them.
use Rattle.std.proofs.Common.{[], ◌≡◌, ℕ, List, ◌∷◌, Some, refl, ap, subst, ◌∙◌}
use Rattle.std.specs.Prelude.{◌==◌}
use Rattle.std.proofs.lemmas.Bool.Decides.{Decides-eqb}
use Rattle.isle_base_source.specs.declared.pos.Pos.{Pos}
use Rattle.isle_base.specs.Place.{Placed}
use Rattle.isle_ast_names.specs.Tree.{Name}
use Rattle.isle_ast_names.specs.Words.{SpellsName, SpellsConstant}
use Rattle.isle_parser_cursor.specs.Reading.{◌>>=◌}
use Rattle.isle_parser_cursor.specs.NameReaders.{name}
use Rattle.isle_parser_rules.specs.ConstantReaders.{behind_dollar, constant}
use Rattle.isle_parser_cursor.proofs.Names.{name_sound, name_read}
use Rattle.isle_parser_cursor.proofs.Readers.{Sound, bind_some, chosen_some, done, done_is, moved}

-- ---- constants

some_same : {x y : Name} → done x ≡ done y → x ≡ y
some_same e = cc

dollar : (t : List ℕ) (place : Pos) (n : Name) → behind_dollar (record { text = t; pos = place }) ≡ Some n → ◌≡◌ {A = Name} (record { text = t; pos = place }) (record { text = 36 ∷ n.text; pos = n.pos })
dollar [] place n e = absurd cc
dollar (b ∷ bs) place n e =
    let c = chosen_some (b == 36) (record { text = bs; pos = place }) n e in
    let m : Name = record { text = bs; pos = place } in
    let is : m ≡ n = some_same c.1 in
    ap (λ (x : ℕ). record { text = x ∷ bs; pos = place }) ((Decides-eqb b 36).0 c.0) ∙ ap (λ (m : Name). record { text = 36 ∷ m.text; pos = m.pos }) is

pub constant_sound : Sound SpellsConstant constant
unfolding constant
constant_sound all rest n e =
    let w = bind_some (name all) (λ w. behind_dollar w.0 >>= λ n. Some (n, w.1)) (n, rest) e in
    let m = bind_some (behind_dollar w.0.0) (λ n. Some (n, w.0.1)) (n, rest) w.2 in
    let is = done_is m.0 n w.0.1 rest m.2 in
    let whole = dollar w.0.0.text w.0.0.pos m.0 m.1 in
    let spelt : SpellsConstant m.0 all w.0.1 = subst (λ (x : Name). SpellsName x all w.0.1) whole (name_sound all w.0.1 w.0.0 w.1) in
    moved SpellsConstant m.0 n all w.0.1 rest is spelt

pub constant_complete : (n : Name) (all rest : List Placed) → SpellsConstant n all rest → constant all ≡ Some (n, rest)
unfolding constant
constant_complete n all rest h = rw (name_read (record { text = 36 ∷ n.text; pos = n.pos }) all rest h) refl
