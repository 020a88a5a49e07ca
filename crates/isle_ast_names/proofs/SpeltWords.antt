-- What the words of the grammar say of a spelt node, as the conditions of writable trees say it.
use Rattle.std.proofs.Common.{◌≡◌, ◌≢◌, ℕ, List, [], ◌∷◌, false, sym, ◌∙◌, Option, None, Some, IfSome, codes}
use Rattle.std.proofs.lemmas.Bool.{false≢true, or_parts}
use Rattle.std.proofs.lemmas.Slice.Eq.{bytes_eq-Decides}
use Rattle.std.specs.Str.{bytes_eq}
use Rattle.isle_base.specs.Place.{Placed}
use Rattle.isle_ast_names.specs.Tree.{Name}
use Rattle.isle_ast_names.specs.Words.{SpellsAll, SpellsName, SpellsOptional, is_bool_word}
use Rattle.isle_ast_names.specs.Writable.{IsName, Each, IsNot}

-- each element of a spelt list
pub Each-spelt : {A : Type 0} → (P : A → Type 0) (Spells : A → List Placed → List Placed → Type 0) → ((x : A) (all rest : List Placed) → Spells x all rest → P x) → (xs : List A) (all rest : List Placed) → SpellsAll Spells xs all rest → Each P xs
Each-spelt P Spells one [] all rest s = tt
Each-spelt P Spells one (x ∷ xs) all rest s = (one x all s.0 s.1, Each-spelt P Spells one xs s.0 rest s.2)

pub names-spelt : (ns : List Name) (all rest : List Placed) → SpellsAll SpellsName ns all rest → Each IsName ns
names-spelt = Each-spelt IsName SpellsName (λ n all rest s. s.0)

-- a text that isn't a word
pub differs : (text word : List ℕ) → bytes_eq text word ≡ false → text ≢ word
differs text word h e = false≢true (sym h ∙ (bytes_eq-Decides text word).1 e)

pub no_bool_word : (n : Name) → is_bool_word n.text ≡ false → IsNot n (codes "true") × IsNot n (codes "false")
no_bool_word n h =
    let both = or_parts (bytes_eq n.text (codes "true")) (bytes_eq n.text (codes "false")) h in
    (differs n.text (codes "true") both.0, differs n.text (codes "false") both.1)

-- rules

pub optional_name-spelt : (o : Option Name) (all rest : List Placed) → SpellsOptional SpellsName o all rest → IfSome o IsName
optional_name-spelt None all rest s = tt
optional_name-spelt (Some n) all rest s = s.0
