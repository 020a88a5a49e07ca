-- What it means that each position of a node that is spelt is that of a token.
use Rattle.std.proofs.Common.{◌≡◌, ◌⊎◌, inl, inr, ℕ, List, [], ◌∷◌, refl, Bool, true, false}
use Rattle.std.specs.List.{AllByRecursion}
use Rattle.isle_base_source.specs.declared.pos.Pos.{Pos}
use Rattle.isle_base.specs.Place.{Placed}
use Rattle.isle_base.specs.Token.{Tok}
use Rattle.isle_ast_names.specs.Words.{SpellsToken, SpellsFlag, BeginsAt, SpellsAll, InParentheses, BehindWord, SpellsName, SpellsConstant}
use Rattle.isle_parser_cursor.specs.Positions.{OfName}
use Rattle.isle_parser_cursor.proofs.Readers.{Spelling}

abbrev pub Among : List Placed → Pos → Type 0
Among [] pos = ⊥
Among (x ∷ xs) pos = (pos ≡ x.pos) ⊎ Among xs pos

-- all of the positions of these tokens are such
abbrev pub Into : List Placed → (Pos → Type 0) → Type 0
Into all P = (pos : Pos) → Among all pos → P pos

-- Where the positions of all tokens are such, those of a node are, and so are those of the tokens after it.
abbrev pub Stands : {A : Type 0} → Spelling A → ((Pos → Type 0) → A → Type 0) → Type 1
Stands {A} R Each = (x : A) (all rest : List Placed) → R x all rest → (P : Pos → Type 0) → Into all P → Each P x × Into rest P

pub token_stands : {token : Tok} {all rest : List Placed} → SpellsToken token all rest → (P : Pos → Type 0) → Into all P → Into rest P
token_stands h P into pos a = into pos (rw h.1 (inr a))

pub begins_stands : {pos : Pos} {all : List Placed} → BeginsAt pos all → (P : Pos → Type 0) → Into all P → P pos
begins_stands {pos = pos} h P into = into pos (rw h.2 (inl refl))

pub same_stands : {all rest : List Placed} → all ≡ rest → (P : Pos → Type 0) → Into all P → Into rest P
same_stands h P into pos a = into pos (rw h a)

pub flag_stands : (word : List ℕ) (b : Bool) (all rest : List Placed) → SpellsFlag word b all rest → (P : Pos → Type 0) → Into all P → Into rest P
flag_stands word true all rest h P into = token_stands h P into
flag_stands word false all rest h P into = same_stands h P into

pub name_stands : Stands SpellsName OfName
name_stands n all rest h P into = (into n.pos (rw h.1 (inl refl)), λ pos a. into pos (rw h.1 (inr a)))

pub constant_stands : Stands SpellsConstant OfName
constant_stands n all rest h P into = (into n.pos (rw h.1 (inl refl)), λ pos a. into pos (rw h.1 (inr a)))

pub list_stands : {A : Type 0} (R : Spelling A) (Each : (Pos → Type 0) → A → Type 0) → Stands R Each → Stands (SpellsAll R) (λ P xs. AllByRecursion (Each P) xs)
list_stands R Each stands [] all rest h P into = (tt, same_stands h P into)
list_stands R Each stands (x ∷ xs) all rest h P into =
    let one = stands x all h.0 h.1 P into in
    let others = list_stands R Each stands xs h.0 rest h.2 P one.1 in
    ((one.0, others.0), others.1)

pub enclosed_stands : {A : Type 0} (R : Spelling A) (Each : (Pos → Type 0) → A → Type 0) → Stands R Each → Stands (λ x. InParentheses (R x)) Each
enclosed_stands R Each stands x all rest h P into =
    let inner = stands x h.0 h.1 h.3 P (token_stands h.2 P into) in
    (inner.0, token_stands h.4 P inner.1)

pub behind_stands : {A : Type 0} (word : List ℕ) (R : Spelling A) (Each : (Pos → Type 0) → A → Type 0) → Stands R Each → Stands (λ x. BehindWord word (R x)) Each
behind_stands word R Each stands x all rest h P into = stands x h.0 rest h.2 P (token_stands h.1 P into)

pub tagged_stands : {A : Type 0} (word : List ℕ) (R : Spelling A) (Each : (Pos → Type 0) → A → Type 0) → Stands R Each → Stands (λ x. InParentheses (BehindWord word (R x))) Each
tagged_stands word R Each stands = enclosed_stands (λ x. BehindWord word (R x)) Each (behind_stands word R Each stands)
