-- What the expansion may lose of a program: the implicit conversions that the compiler puts in where a term has another
-- type than is wanted at its place.
use Rattle.std.specs.Prelude.{List, [], ◌∷◌, ◌++◌, ℕ, Bool, true, false, ◌&&◌, if◌then◌else◌, Option, None, Some, codes, filter, map}
use Rattle.std.specs.List.{filter_map, flat_map, list_any}
use Rattle.std.specs.Option.{option_and_then}
use Rattle.std.specs.Str.{bytes_eq}
use Rattle.isle_base_source.specs.declared.pos.Pos.{Pos}
use Rattle.isle_ast_names.specs.Tree.{Name}
use Rattle.isle_ast_names.specs.TreeView.{name_of}
use Rattle.isle_ast_rules.specs.Roots.{root_term}
use Rattle.isle_ast_rules.specs.Tree.{PatternNode, ExtractorDefinition}
use Rattle.isle_ast.specs.Tree.{Conversion, Definition, extractor, converter}
use Rattle.isle_expand_warnings.specs.Placed.{PlacedTerm, Wanted, unsaid, argument, value, placed_in}
use Rattle.isle_expand_warnings.specs.Types.{argument_type, value_type}
use Rattle.isle_expand_warnings.specs.declared.conversions.Risk as declared
use Rattle.isle_expand_warnings.specs.declared.conversions.Warning.{Warning}
use Rattle.isle_expand_warnings.specs.declared.conversions.Warning.TheVariants as warnings

-- the use of an extractor whose conversion may be lost; or a conversion that is lost, since its own term is an extractor
pub data WarningNode : Type 0 where
  lossy_use : Name → WarningNode
  lost_conversion : Name → WarningNode

-- an extractor whose template is no term of the type with which the extractor is declared
pub record Risk : Type 0 where
  pub term : List ℕ
  pub ty : List ℕ

abbrev pub is_text : List ℕ → Option (List ℕ) → Bool
is_text text None = false
is_text text (Some t) = bytes_eq t text

-- there is a term, and it is declared with this type
abbrev pub is_of_type : List Definition → List ℕ → Option Name → Bool
is_of_type ds ty None = false
is_of_type ds ty (Some term) = is_text ty (value_type ds term.text)

-- a pattern is such a term
abbrev pub has_type : List Definition → List ℕ → PatternNode → Bool
has_type ds ty p = is_of_type ds ty (root_term p)

abbrev pub risk_of : List Definition → ExtractorDefinition → List ℕ → Option Risk
risk_of ds e ty = if has_type ds ty e.template then None else Some (record { term = e.term.text; ty = ty })

abbrev pub extractor_risk : List Definition → ExtractorDefinition → Option Risk
extractor_risk ds e = option_and_then (risk_of ds e) (value_type ds e.term.text)

abbrev pub risk_in : List Definition → Definition → Option Risk
risk_in ds (extractor e) = extractor_risk ds e
risk_in ds d = None

abbrev pub risks : List Definition → List Risk
risks ds = filter_map (risk_in ds) ds

-- the type that is wanted at a place, if the definitions say it
abbrev pub wanted_type : List Definition → Wanted → Option (List ℕ)
wanted_type ds unsaid = None
wanted_type ds (argument term number) = argument_type ds term number
wanted_type ds (value term) = value_type ds term

-- a type may be the wanted one: it is, or it isn't known
abbrev pub may_be : Option (List ℕ) → List ℕ → Bool
may_be None ty = true
may_be (Some wanted) ty = bytes_eq ty wanted

-- a conversion from a type gives what is wanted
abbrev pub converts_to : List ℕ → Option (List ℕ) → Conversion → Bool
converts_to ty wanted c = bytes_eq c.inner_ty.text ty && may_be wanted c.outer_ty.text

abbrev pub is_conversion : List ℕ → Option (List ℕ) → Definition → Bool
is_conversion ty wanted (converter c) = converts_to ty wanted c
is_conversion ty wanted d = false

abbrev pub converts : List Definition → List ℕ → Option (List ℕ) → Bool
converts ds ty wanted = list_any (is_conversion ty wanted) ds

-- a term at its place is such an extractor, and a conversion from its type may be put in there
abbrev pub is_lossy_by : List Definition → PlacedTerm → Risk → Bool
is_lossy_by ds p r = bytes_eq r.term p.term.text && converts ds r.ty (wanted_type ds p.wanted)

abbrev pub is_lossy : List Definition → List Risk → PlacedTerm → Bool
is_lossy ds rs p = list_any (is_lossy_by ds p) rs

abbrev pub use_warnings : List Definition → List Risk → List PlacedTerm → List WarningNode
use_warnings ds rs ps = map (λ p. lossy_use p.term) (filter (is_lossy ds rs) ps)

-- a term has an extractor
abbrev pub gives_extractor : List ℕ → Definition → Bool
gives_extractor text (extractor e) = bytes_eq e.term.text text
gives_extractor text d = false

abbrev pub conversion_warnings : List Definition → Conversion → List WarningNode
conversion_warnings ds c = if list_any (gives_extractor c.term.text) ds then lost_conversion c.term ∷ [] else []

-- those of one definition, and of all, in order
abbrev pub definition_warnings : List Definition → List Risk → Definition → List WarningNode
definition_warnings ds rs (converter c) = conversion_warnings ds c
definition_warnings ds rs d = use_warnings ds rs (placed_in d)

abbrev pub warnings_in : List Definition → List WarningNode
warnings_in ds = flat_map (definition_warnings ds (risks ds)) ds

-- where a warning stands, and what it says
abbrev pub warning_pos : WarningNode → Pos
warning_pos (lossy_use term) = term.pos
warning_pos (lost_conversion term) = term.pos

abbrev pub warning_text : WarningNode → List ℕ
warning_text (lossy_use term) = codes "implicit conversion of '" ++ term.text ++ codes "' may be lost"
warning_text (lost_conversion term) = codes "implicit conversion by '" ++ term.text ++ codes "' is lost"

-- those of the code
abbrev pub risk_view : declared.Risk → Risk
risk_view r = record { term = (name_of r.term.now).text; ty = (name_of r.ty.now).text }

abbrev pub warning_of : Warning → WarningNode
warning_of (warnings.LossyUse term) = lossy_use (name_of term.now)
warning_of (warnings.LostConversion term) = lost_conversion (name_of term.now)

abbrev pub warnings_of : List Warning → List WarningNode
warnings_of ws = map warning_of ws
