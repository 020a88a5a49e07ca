-- The definitions of terms: `decl`, `attr`, `extern` and `convert`.
use Rattle.std.specs.Prelude.{◌≡◌, List, Bool, true, false, ◌&&◌, ◌||◌, codes}
use Rattle.std.specs.Str.{bytes_eq}
use Rattle.isle_base.specs.Place.{Placed}
use Rattle.isle_ast_names.specs.Tree.{Name}
use Rattle.isle_ast.specs.Tree.{Declaration, Conversion, Attribute, AttributeTarget, term_target, rule_target, AttributeKind, chain_kind, priority_kind, tag_kind, ExternDefinition, extern_extractor, extern_constructor, extern_const}
use Rattle.isle_ast_names.specs.Words.{SpellsWord, BeginsAt, SpellsAll, InParentheses, BehindWord, SpellsName, SpellsFlag, demands, SpellsConstant}

-- A term named like a flag is read as that flag if no later flag is set. So it needs its own flag
-- or a later one.
abbrev pub term_is_no_flag : Declaration → Bool
term_is_no_flag d =
    demands d.term.text (codes "pure") (d.pure || d.multi || d.partial || d.rec)
    && demands d.term.text (codes "multi") (d.multi || d.partial || d.rec)
    && demands d.term.text (codes "partial") (d.partial || d.rec)
    && demands d.term.text (codes "rec") d.rec

-- the flags in this order, the term, the argument types in parentheses, the return type
pub record SpellsDeclaration (d : Declaration) (all rest : List Placed) : Type 0 where
  pub term_is_no_flag : term_is_no_flag d ≡ true
  pub position : BeginsAt d.pos all
  pub behind_pure : List Placed
  pub pure : SpellsFlag (codes "pure") d.pure all behind_pure
  pub behind_multi : List Placed
  pub multi : SpellsFlag (codes "multi") d.multi behind_pure behind_multi
  pub behind_partial : List Placed
  pub partial : SpellsFlag (codes "partial") d.partial behind_multi behind_partial
  pub behind_rec : List Placed
  pub rec : SpellsFlag (codes "rec") d.rec behind_partial behind_rec
  pub behind_term : List Placed
  pub term : SpellsName d.term behind_rec behind_term
  pub behind_arg_tys : List Placed
  pub arg_tys : InParentheses (SpellsAll SpellsName d.arg_tys) behind_term behind_arg_tys
  pub ret_ty : SpellsName d.ret_ty behind_arg_tys rest

-- the inner type, the outer type, the term
pub record SpellsConversion (c : Conversion) (all rest : List Placed) : Type 0 where
  pub position : BeginsAt c.pos all
  pub behind_inner : List Placed
  pub inner_ty : SpellsName c.inner_ty all behind_inner
  pub behind_outer : List Placed
  pub outer_ty : SpellsName c.outer_ty behind_inner behind_outer
  pub term : SpellsName c.term behind_outer rest

-- `(veri chain)`, `(veri priority)` or `(tag I)`
abbrev pub SpellsAttributeKind : AttributeKind → List Placed → List Placed → Type 0
SpellsAttributeKind chain_kind = InParentheses (BehindWord (codes "veri") (SpellsWord (codes "chain")))
SpellsAttributeKind priority_kind = InParentheses (BehindWord (codes "veri") (SpellsWord (codes "priority")))
SpellsAttributeKind (tag_kind name) = InParentheses (BehindWord (codes "tag") (SpellsName name))

-- A term is alone, so it is not named `rule`. A rule comes after that word.
abbrev pub SpellsAttributeTarget : AttributeTarget → List Placed → List Placed → Type 0
SpellsAttributeTarget (term_target name) all rest =
    (bytes_eq name.text (codes "rule") ≡ false) × SpellsName name all rest
SpellsAttributeTarget (rule_target name) all rest = BehindWord (codes "rule") (SpellsName name) all rest

-- the target and the attributes
pub record SpellsAttribute (a : Attribute) (all rest : List Placed) : Type 0 where
  pub position : BeginsAt a.pos all
  pub behind_target : List Placed
  pub target : SpellsAttributeTarget a.target all behind_target
  pub kinds : SpellsAll SpellsAttributeKind a.kinds behind_target rest

-- two names
abbrev pub SpellsPair : Name → Name → List Placed → List Placed → Type 0
SpellsPair first second all rest =
    (mid : List Placed) × SpellsName first all mid × SpellsName second mid rest

-- The position is that of the word after `extern`, and for a constant that of the constant. A term
-- named `infallible` is read as the flag if that is not set, so it needs the flag.
abbrev pub SpellsExtern : ExternDefinition → List Placed → List Placed → Type 0
SpellsExtern (extern_extractor term func pos infallible) all rest =
    (demands term.text (codes "infallible") infallible ≡ true) × BeginsAt pos all
    × BehindWord
    (codes "extractor")
    (λ inner close. (mid : List Placed) × SpellsFlag (codes "infallible") infallible inner mid × SpellsPair term func mid close)
    all
    rest
SpellsExtern (extern_constructor term func pos) all rest =
    BeginsAt pos all × BehindWord (codes "constructor") (SpellsPair term func) all rest
SpellsExtern (extern_const name ty pos) all rest =
    (pos ≡ name.pos)
    × BehindWord
    (codes "const")
    (λ inner close. (mid : List Placed) × SpellsConstant name inner mid × SpellsName ty mid close)
    all
    rest
