-- Definitions made of models of types: `model`, `form` and `instantiate`.
use Rattle.std.specs.Prelude.{◌≡◌, List, [], Option, None, Some, codes}
use Rattle.isle_base.specs.Place.{Placed}
use Rattle.isle_ast_names.specs.Tree.{Name}
use Rattle.isle_ast.specs.Tree.{TermSignature, FormDefinition, TermInstantiation, ModelContent, type_model, const_model, ModelDefinition}
use Rattle.isle_ast_names.specs.Words.{BeginsAt, SpellsAll, InParentheses, BehindWord, SpellsName, IsNonEmpty}
use Rattle.isle_ast_verification.specs.SpecGrammar.{SpellsSpec}
use Rattle.isle_ast_verification.specs.TypeModelGrammar.{SpellsTypeModel}

-- `((args MODEL..) (ret MODEL))`, at the position of the token after its `(`
abbrev pub SpellsSignature : TermSignature → List Placed → List Placed → Type 0
SpellsSignature s all rest =
    InParentheses
    (λ inner close. BeginsAt s.pos inner × (mid : List Placed)
    × InParentheses (BehindWord (codes "args") (SpellsAll SpellsTypeModel s.args)) inner mid
    × InParentheses (BehindWord (codes "ret") (SpellsTypeModel s.ret)) mid close)
    all
    rest

-- the name, the signatures
pub record SpellsForm (f : FormDefinition) (all rest : List Placed) : Type 0 where
  pub position : BeginsAt f.pos all
  pub behind_name : List Placed
  pub name : SpellsName f.name all behind_name
  pub signatures : SpellsAll SpellsSignature f.signatures behind_name rest

-- `(tag I)`
abbrev pub SpellsTag : Name → List Placed → List Placed → Type 0
SpellsTag name = InParentheses (BehindWord (codes "tag") (SpellsName name))

-- Without a form, one or more signatures and no tags. With a form, its name, any number of tags,
-- and no signatures.
abbrev pub SpellsInstances : Option Name → List TermSignature → List Name → List Placed → List Placed → Type 0
SpellsInstances None signatures tags all rest =
    IsNonEmpty signatures × (tags ≡ []) × SpellsAll SpellsSignature signatures all rest
SpellsInstances (Some form) signatures tags all rest =
    (signatures ≡ []) × (mid : List Placed) × SpellsName form all mid × SpellsAll SpellsTag tags mid rest

pub record SpellsInstantiation (i : TermInstantiation) (all rest : List Placed) : Type 0 where
  pub position : BeginsAt i.pos all
  pub behind_term : List Placed
  pub term : SpellsName i.term all behind_term
  pub instances : SpellsInstances i.form i.signatures i.tags behind_term rest

-- `(type MODEL)` or `(const E)`
abbrev pub SpellsModelContent : ModelContent → List Placed → List Placed → Type 0
SpellsModelContent (type_model ty) = InParentheses (BehindWord (codes "type") (SpellsTypeModel ty))
SpellsModelContent (const_model value) = InParentheses (BehindWord (codes "const") (SpellsSpec value))

-- the name, the content; a model has no position of its own
pub record SpellsModel (m : ModelDefinition) (all rest : List Placed) : Type 0 where
  pub behind_name : List Placed
  pub name : SpellsName m.name all behind_name
  pub val : SpellsModelContent m.val behind_name rest
