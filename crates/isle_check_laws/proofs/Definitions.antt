-- The definitions that the parts of a program come from, and what they give to an environment.
use Rattle.std.proofs.Common.{◌≡◌, inl, inr, ℕ, List, [], ◌∷◌, ◌++◌, Contains, ap, sym, subst}
use Rattle.std.specs.List.{flat_map}
use Rattle.std.proofs.lemmas.List.Elements.{Contains-append_cases}
use Rattle.isle_ast_names.specs.Tree.{Name}
use Rattle.isle_ast_rules.specs.Roots.{pattern_pos}
use Rattle.isle_ast_rules.specs.Tree.{ExtractorDefinition, RuleDefinition}
use Rattle.isle_ast.specs.Roots.{full_name}
use Rattle.isle_ast.specs.Tree.{Declaration, Definition, EnumVariant, ExternDefinition, TypeContent, TypeDefinition, decl, enum_type, extern_const, extern_constructor, extern_extractor, external, extractor, primitive_type, rule, struct_type, type_def}
use Rattle.isle_check_declarations.specs.TermFaults.{variants_of}
use Rattle.isle_check_environment.specs.Parts.{ConstantNode, constant_in, constants_in, decl_in, decls_in, extractor_in, extractors_in, rule_in, type_in, types_in}
use Rattle.isle_check_environment.specs.Terms.{content_names, extern_in, full_names, name_list, ruled_name, template_name, variant_names}
use Rattle.isle_check_environment.specs.signatures.Entries.{Entry, entry}
use Rattle.isle_check_environment.specs.signatures.Signatures.{TermNode, constant_entry, constructor_name, content_entries, declared_entry, declared_term, extractor_name, template_entry, variant_entries, variant_entry, variants_entries}
use Rattle.isle_check_laws.specs.BrokenExterns.{HasRule}
use Rattle.isle_check_laws.specs.BrokenExtractors.{HasExtractor}
use Rattle.isle_check_laws.specs.BrokenRecursions.{template_of}
use Rattle.isle_check_laws.specs.Environments.{HasConstructor, HasExternalExtractor, IsTermOf}
use Rattle.isle_check_laws.specs.Named.{HasVariantOf, IsNameOf}
use Rattle.isle_check_laws.proofs.Lists.{either, first_or_later, here, in_part, later, no_element, only, part_in}

-- the definition of a part

decl_is : (def : Definition) (d : Declaration) → Contains (decl_in def) d → def ≡ decl d
decl_is (decl e) d among = ap (λ x. decl x) (only e d among)
decl_is _ d among = absurd (no_element d among)

type_is : (def : Definition) (t : TypeDefinition) → Contains (type_in def) t → def ≡ type_def t
type_is (type_def u) t among = ap (λ x. type_def x) (only u t among)
type_is _ t among = absurd (no_element t among)

extractor_is : (def : Definition) (x : ExtractorDefinition) → Contains (extractor_in def) x → def ≡ extractor x
extractor_is (extractor y) x among = ap (λ z. extractor z) (only y x among)
extractor_is _ x among = absurd (no_element x among)

rule_is : (def : Definition) (r : RuleDefinition) → Contains (rule_in def) r → def ≡ rule r
rule_is (rule q) r among = ap (λ z. rule z) (only q r among)
rule_is _ r among = absurd (no_element r among)

extern_is : (def : Definition) (x : ExternDefinition) → Contains (extern_in def) x → def ≡ external x
extern_is (external y) x among = ap (λ z. external z) (only y x among)
extern_is _ x among = absurd (no_element x among)

-- what each definition gives is given by the program
given : {X Y : Type 0} (part : Definition → List X) (gives : Definition → List Y) (def : X → Definition) →
    ((d : Definition) (x : X) → Contains (part d) x → d ≡ def x) → (ds : List Definition) (x : X) (y : Y) → Contains (flat_map part ds) x →
    Contains (gives (def x)) y → Contains (flat_map gives ds) y
given part gives def from ds x y among inside =
    let at = in_part part ds x among in
    part_in gives ds at.0 y at.1 (subst (λ d. Contains (gives d) y) (sym (from at.0 x at.2)) inside)

-- declared terms

pub declared_given : (ds : List Definition) (d : Declaration) → Contains (decls_in ds) d →
    Contains (flat_map declared_entry ds) (entry d.term.text (declared_term d))
declared_given ds d among =
    given decl_in declared_entry (λ x. decl x) decl_is ds d (entry d.term.text (declared_term d)) among (here (entry d.term.text (declared_term d)) [])

declared_by : (def : Definition) (e : Entry TermNode) → Contains (declared_entry def) e →
    (d : Declaration) × Contains (decl_in def) d × (entry d.term.text (declared_term d) ≡ e)
declared_by (decl d) e among = (d, here d [], only (entry d.term.text (declared_term d)) e among)
declared_by _ e among = absurd (no_element e among)

-- variants

entry_in : (enum : Name) (vs : List EnumVariant) (v : EnumVariant) → Contains vs v → Contains (variants_entries enum vs) (variant_entry enum v)
entry_in enum [] v among = absurd (no_element v among)
entry_in enum (w ∷ vs) v among =
    either (λ same. subst (λ x. Contains (variants_entries enum (w ∷ vs)) (variant_entry enum x)) same (here (variant_entry enum w) (variants_entries enum vs)))
    (λ more. later (variant_entry enum w) (variants_entries enum vs) (variant_entry enum v) (entry_in enum vs v more)) (first_or_later w vs v among)

content_entry : (enum : Name) (c : TypeContent) (v : EnumVariant) → Contains (variants_of c) v → Contains (content_entries enum c) (variant_entry enum v)
content_entry enum (enum_type vs _) v among = entry_in enum vs v among
content_entry enum (primitive_type _ _) v among = absurd (no_element v among)
content_entry enum (struct_type _ _) v among = absurd (no_element v among)

pub variant_given : (ds : List Definition) (t : TypeDefinition) (v : EnumVariant) → Contains (types_in ds) t → Contains (variants_of t.ty) v →
    Contains (flat_map variant_entries ds) (variant_entry t.name v)
variant_given ds t v among inside =
    given type_in variant_entries (λ x. type_def x) type_is ds t (variant_entry t.name v) among (content_entry t.name t.ty v inside)

entry_from : (enum : Name) (vs : List EnumVariant) (e : Entry TermNode) → Contains (variants_entries enum vs) e →
    (v : EnumVariant) × Contains vs v × (variant_entry enum v ≡ e)
entry_from enum [] e among = absurd (no_element e among)
entry_from enum (v ∷ vs) e among =
    either (λ same. (v, here v vs, same)) (λ more. let at = entry_from enum vs e more in (at.0, later v vs at.0 at.1, at.2))
    (first_or_later (variant_entry enum v) (variants_entries enum vs) e among)

content_from : (enum : Name) (c : TypeContent) (e : Entry TermNode) → Contains (content_entries enum c) e →
    (v : EnumVariant) × Contains (variants_of c) v × (variant_entry enum v ≡ e)
content_from enum (enum_type vs _) e among = entry_from enum vs e among
content_from enum (primitive_type _ _) e among = absurd (no_element e among)
content_from enum (struct_type _ _) e among = absurd (no_element e among)

variant_by : (def : Definition) (e : Entry TermNode) → Contains (variant_entries def) e →
    (t : TypeDefinition) × (v : EnumVariant) × Contains (type_in def) t × Contains (variants_of t.ty) v × (variant_entry t.name v ≡ e)
variant_by (type_def t) e among = let at = content_from t.name t.ty e among in (t, at.0, here t [], at.1, at.2)
variant_by _ e among = absurd (no_element e among)

-- an entry of a term is one of a declaration or of a variant
pub term_by : (ds : List Definition) (e : Entry TermNode) → Contains (flat_map variant_entries ds ++ flat_map declared_entry ds) e → IsTermOf ds e.text e.value
term_by ds e among =
    either
    (λ variant.
    let at = in_part variant_entries ds e variant in
    let t = variant_by at.0 e at.2 in
    inr (t.0, t.1, part_in type_in ds at.0 t.0 at.1 t.2, t.3, ap (λ (x : Entry TermNode). x.text) t.4, ap (λ (x : Entry TermNode). x.value) t.4))
    (λ declared.
    let at = in_part declared_entry ds e declared in
    let d = declared_by at.0 e at.2 in
    inl (d.0, part_in decl_in ds at.0 d.0 at.1 d.1, ap (λ (x : Entry TermNode). x.text) d.2, ap (λ (x : Entry TermNode). x.value) d.2))
    (Contains-append_cases (flat_map variant_entries ds) (flat_map declared_entry ds) e among)

name_in : (enum : Name) (vs : List EnumVariant) (v : EnumVariant) → Contains vs v → Contains (full_names enum vs) (full_name enum v.name)
name_in enum [] v among = absurd (no_element v among)
name_in enum (w ∷ vs) v among =
    either (λ same. subst (λ (x : EnumVariant). Contains (full_names enum (w ∷ vs)) (full_name enum x.name)) same (here (full_name enum w.name) (full_names enum vs)))
    (λ more. later (full_name enum w.name) (full_names enum vs) (full_name enum v.name) (name_in enum vs v more)) (first_or_later w vs v among)

content_name : (enum : Name) (c : TypeContent) (v : EnumVariant) → Contains (variants_of c) v → Contains (content_names enum c) (full_name enum v.name)
content_name enum (enum_type vs _) v among = name_in enum vs v among
content_name enum (primitive_type _ _) v among = absurd (no_element v among)
content_name enum (struct_type _ _) v among = absurd (no_element v among)

pub variant_named : (ds : List Definition) (text : List ℕ) → HasVariantOf (types_in ds) text → IsNameOf (flat_map variant_names ds) text
variant_named ds text h =
    let t = h.0 in
    let v = h.2.0 in (
      full_name t.name v.name,
      given type_in variant_names (λ x. type_def x) type_is ds t (full_name t.name v.name) h.1 (content_name t.name t.ty v h.2.1),
      h.2.2,
    )

-- rules and extractors

pub rule_named : (ds : List Definition) (text : List ℕ) → HasRule ds text → IsNameOf (flat_map ruled_name ds) text
rule_named ds text h = (
  h.1,
  given rule_in ruled_name (λ x. rule x) rule_is ds h.0 h.1 h.2 (subst (λ o. Contains (name_list o) h.1) (sym h.3) (here h.1 [])),
  h.4,
)

pub extractor_named : (ds : List Definition) (text : List ℕ) → HasExtractor (extractors_in ds) text → IsNameOf (flat_map template_name ds) text
extractor_named ds text h =
    let n : Name = record { text = h.0.term.text; pos = pattern_pos h.0.template } in
    (n, given extractor_in template_name (λ x. extractor x) extractor_is ds h.0 n h.1 (here n []), h.2)

pub template_given : (ds : List Definition) (x : ExtractorDefinition) → Contains (extractors_in ds) x →
    Contains (flat_map template_entry ds) (entry x.term.text (template_of x))
template_given ds x among =
    given extractor_in template_entry (λ y. extractor y) extractor_is ds x (entry x.term.text (template_of x)) among (here (entry x.term.text (template_of x)) [])

-- external definitions

pub constructor_named : (ds : List Definition) (text : List ℕ) → HasConstructor ds text → IsNameOf (flat_map constructor_name ds) text
constructor_named ds text h =
    let is : h.0 ≡ extern_constructor h.1 h.4.0 h.2 = h.4.1 in (
      h.1,
      given extern_in constructor_name (λ x. external x) extern_is ds h.0 h.1 h.3
          (subst (λ x. Contains (constructor_name (external x)) h.1) (sym is) (here h.1 [])),
      h.5,
    )

pub external_named : (ds : List Definition) (text : List ℕ) → HasExternalExtractor ds text → IsNameOf (flat_map extractor_name ds) text
external_named ds text h =
    let is : h.0 ≡ extern_extractor h.1 h.4.0 h.2 h.4.1 = h.4.2 in (
      h.1,
      given extern_in extractor_name (λ x. external x) extern_is ds h.0 h.1 h.3
          (subst (λ x. Contains (extractor_name (external x)) h.1) (sym is) (here h.1 [])),
      h.5,
    )

-- constants

constant_is : (def : Definition) (c : ConstantNode) → Contains (constant_in def) c → def ≡ external (extern_const c.name c.ty c.pos)
constant_is (external (extern_const name ty pos)) c among =
    ap (λ (x : ConstantNode). external (extern_const x.name x.ty x.pos)) (only (record { name = name; ty = ty; pos = pos }) c among)
constant_is (external (extern_constructor _ _ _)) c among = absurd (no_element c among)
constant_is (external (extern_extractor _ _ _ _)) c among = absurd (no_element c among)
constant_is _ c among = absurd (no_element c among)

pub constant_given : (ds : List Definition) (c : ConstantNode) → Contains (constants_in ds) c → Contains (flat_map constant_entry ds) (entry c.name.text c.ty.text)
constant_given ds c among =
    given constant_in constant_entry (λ x. external (extern_const x.name x.ty x.pos)) constant_is ds c (entry c.name.text c.ty.text) among
    (here (entry c.name.text c.ty.text) [])

constant_by : (def : Definition) (e : Entry (List ℕ)) → Contains (constant_entry def) e →
    (c : ConstantNode) × Contains (constant_in def) c × (c.name.text ≡ e.text) × (c.ty.text ≡ e.value)
constant_by (external (extern_const name ty pos)) e among =
    let c : ConstantNode = record { name = name; ty = ty; pos = pos } in
    let same = only (entry name.text ty.text) e among in
    (c, here c [], ap (λ (x : Entry (List ℕ)). x.text) same, ap (λ (x : Entry (List ℕ)). x.value) same)
constant_by (external (extern_constructor _ _ _)) e among = absurd (no_element e among)
constant_by (external (extern_extractor _ _ _ _)) e among = absurd (no_element e among)
constant_by _ e among = absurd (no_element e among)

pub constant_from : (ds : List Definition) (e : Entry (List ℕ)) → Contains (flat_map constant_entry ds) e →
    (c : ConstantNode) × Contains (constants_in ds) c × (c.name.text ≡ e.text) × (c.ty.text ≡ e.value)
constant_from ds e among =
    let at = in_part constant_entry ds e among in
    let c = constant_by at.0 e at.2 in
    (c.0, part_in constant_in ds at.0 c.0 at.1 c.1, c.2, c.3)
