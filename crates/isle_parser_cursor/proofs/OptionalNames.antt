-- A name that may be absent is read as the grammar spells it, where no symbol follows an absent one.
use Rattle.std.proofs.Common.{◌≡◌, inl, inr, true, false, List, Option, Some, None, refl, ap, subst}
use Rattle.isle_base.specs.Place.{Placed}
use Rattle.isle_base.specs.Token.{is_symbol}
use Rattle.isle_ast_names.specs.Tree.{Name}
use Rattle.isle_ast_names.specs.Words.{SpellsName, SpellsOptional}
use Rattle.isle_parser_cursor.specs.Reading.{◌>>=◌, is_ahead}
use Rattle.isle_parser_cursor.specs.NameReaders.{name, optional_name}
use Rattle.isle_parser_cursor.proofs.ReaderSteps.{made_of}
use Rattle.isle_parser_cursor.proofs.Names.{name_sound, name_read}
use Rattle.isle_parser_cursor.proofs.Readers.{Sound, chosen, done_is, moved}

-- a name as it is read: where there is none, no symbol is ahead
abbrev pub ReadsName : Option Name → List Placed → List Placed → Type 0
ReadsName None all rest = (all ≡ rest) × (is_ahead is_symbol all ≡ false)
ReadsName (Some n) all rest = SpellsName n all rest

pub optional_name_sound : Sound ReadsName optional_name
unfolding optional_name
optional_name_sound all rest n e =
    elim (chosen (is_ahead is_symbol all) (name all >>= λ n. Some (Some n.0, n.1)) (Some (None, all)) (Some (n, rest)) e) [
      | inl h ↦
          let m = made_of (λ (m : Name). Some m) h.1 in
          subst (λ (n : Option Name). ReadsName n all rest) m.2 (name_sound all rest m.0 m.1)
      | inr h ↦ moved ReadsName None n all all rest (done_is None n all rest h.1) (refl, h.0)
    ]

pub optional_name_complete : (n : Option Name) (all rest : List Placed) → ReadsName n all rest → optional_name all ≡ Some (n, rest)
unfolding optional_name
optional_name_complete None all rest h = rw h.1 (ap (λ (r : List Placed). Some (None, r)) h.0)
optional_name_complete (Some n) all rest h =
    let here : is_ahead is_symbol all ≡ true = rw h.1 refl in
    rw (here, name_read n all rest h) refl

pub name_spelt : (n : Option Name) (all rest : List Placed) → ReadsName n all rest → SpellsOptional SpellsName n all rest
name_spelt None all rest h = h.0
name_spelt (Some n) all rest h = h
