-- The errors of external constructors and extractors. `terms` says what a text means as the name of
-- a term.
use Rattle.std.specs.Prelude.{ℕ, List, [], ◌∷◌, ◌++◌, Bool, Option, None, Some, if◌then◌else◌}
use Rattle.std.specs.List.{flat_map}
use Rattle.isle_base_source.specs.declared.pos.Pos.{Pos}
use Rattle.isle_ast_names.specs.Tree.{Name}
use Rattle.isle_ast.specs.Tree.{ExternDefinition, extern_extractor, extern_constructor, extern_const, Definition}
use Rattle.isle_check_environment.specs.Names.{has, place_of}
use Rattle.isle_check_environment.specs.Parts.{extractors_in}
use Rattle.isle_check_environment.specs.Terms.{externs_in, ruled_name}
use Rattle.isle_check_declarations.specs.Faults.{KindNode, FaultNode, fault, constructor_unknown, constructor_variant, constructor_ruled, constructor_again, external_unknown, external_variant, external_internal, internal_before, external_again, external_before}
use Rattle.isle_check_declarations.specs.Terms.{TermNode, unknown_term, variant_term, declared_term, terms}
use Rattle.isle_check_declarations.specs.naming.Extractors.{reached, template_names}

-- what is known of texts as the names of terms: the term, whether it has rules, and the place of the
-- template that it has
pub record KnownNode : Type 0 where
  pub terms : List ℕ → TermNode
  pub ruled : List ℕ → Bool
  pub templates : List ℕ → Option Pos

abbrev pub known_by : (List ℕ → TermNode) → List Definition → KnownNode
known_by terms ds =
    record {
      terms = terms;
      ruled = has (flat_map ruled_name ds);
      templates = place_of (template_names terms [] (reached terms (extractors_in ds)));
    }

abbrev pub known : List Definition → KnownNode
known ds = known_by (terms ds) ds

-- a term with an external constructor is declared, and has neither rules nor an earlier one
abbrev pub constructor_kind_of : TermNode → (ruled again : Bool) → Name → Option KindNode
constructor_kind_of unknown_term ruled again term = Some (constructor_unknown term)
constructor_kind_of variant_term ruled again term = Some (constructor_variant term)
constructor_kind_of (declared_term _) ruled again term =
    if ruled then Some (constructor_ruled term) else if again then Some (constructor_again term) else None

abbrev pub constructor_kind : KnownNode → (earlier : List Name) → Name → Option KindNode
constructor_kind k earlier term =
    constructor_kind_of (k.terms term.text) (k.ruled term.text) (has earlier term.text) term

abbrev pub faults_at : Option KindNode → Pos → List FaultNode
faults_at None pos = []
faults_at (Some kind) pos = fault kind pos ∷ []

abbrev pub wrong_constructor : KnownNode → (earlier : List Name) → Name → Pos → List FaultNode
wrong_constructor k earlier term pos = faults_at (constructor_kind k earlier term) pos

-- a term that is right is added
abbrev pub added : Option KindNode → (earlier : List Name) → Name → Pos → List Name
added None earlier term pos = earlier ++ record { text = term.text; pos = pos } ∷ []
added (Some _) earlier term pos = earlier

abbrev pub with_constructor : KnownNode → (earlier : List Name) → Name → Pos → List Name
with_constructor k earlier term pos = added (constructor_kind k earlier term) earlier term pos

-- a term with an external extractor has neither an internal one nor an earlier one, at these places
abbrev pub doubled_external : (internal external : Option Pos) → Name → Pos → List FaultNode
doubled_external (Some before) external term pos =
    fault (external_internal term) pos ∷ fault (internal_before term) before ∷ []
doubled_external None (Some before) term pos = fault (external_again term) pos ∷ fault (external_before term) before ∷ []
doubled_external None None term pos = []

abbrev pub new_external : (internal external : Option Pos) → Name → Pos → List Name
new_external (Some before) external term pos = []
new_external None (Some before) term pos = []
new_external None None term pos = record { text = term.text; pos = pos } ∷ []

-- it is declared
abbrev pub wrong_extractor_of : TermNode → (internal external : Option Pos) → Name → Pos → List FaultNode
wrong_extractor_of unknown_term internal external term pos = fault (external_unknown term) pos ∷ []
wrong_extractor_of variant_term internal external term pos = fault (external_variant term) pos ∷ []
wrong_extractor_of (declared_term _) internal external term pos = doubled_external internal external term pos

abbrev pub wrong_extractor : KnownNode → (earlier : List Name) → Name → Pos → List FaultNode
wrong_extractor k earlier term pos =
    wrong_extractor_of (k.terms term.text) (k.templates term.text) (place_of earlier term.text) term pos

abbrev pub with_extractor_of : TermNode → (internal external : Option Pos) → (earlier : List Name) → Name → Pos → List Name
with_extractor_of unknown_term internal external earlier term pos = earlier
with_extractor_of variant_term internal external earlier term pos = earlier
with_extractor_of (declared_term _) internal external earlier term pos = earlier ++ new_external internal external term pos

abbrev pub with_extractor : KnownNode → (earlier : List Name) → Name → Pos → List Name
with_extractor k earlier term pos =
    with_extractor_of (k.terms term.text) (k.templates term.text) (place_of earlier term.text) earlier term pos

-- the errors of an external definition, by the terms that have an external constructor or extractor before it
abbrev pub wrong_extern : KnownNode → (constructors extractors : List Name) → ExternDefinition → List FaultNode
wrong_extern k constructors extractors (extern_constructor term _ pos) = wrong_constructor k constructors term pos
wrong_extern k constructors extractors (extern_extractor term _ pos _) = wrong_extractor k extractors term pos
wrong_extern k constructors extractors (extern_const _ _ _) = []

abbrev pub with_extern_constructor : KnownNode → (constructors : List Name) → ExternDefinition → List Name
with_extern_constructor k constructors (extern_constructor term _ pos) = with_constructor k constructors term pos
with_extern_constructor k constructors (extern_extractor _ _ _ _) = constructors
with_extern_constructor k constructors (extern_const _ _ _) = constructors

abbrev pub with_extern_extractor : KnownNode → (extractors : List Name) → ExternDefinition → List Name
with_extern_extractor k extractors (extern_constructor _ _ _) = extractors
with_extern_extractor k extractors (extern_extractor term _ pos _) = with_extractor k extractors term pos
with_extern_extractor k extractors (extern_const _ _ _) = extractors

abbrev pub wrong_externs : KnownNode → (constructors extractors : List Name) → List ExternDefinition → List FaultNode
wrong_externs k constructors extractors [] = []
wrong_externs k constructors extractors (x ∷ xs) =
    wrong_extern k constructors extractors x
    ++ wrong_externs k (with_extern_constructor k constructors x) (with_extern_extractor k extractors x) xs

-- the errors of a program's external constructors and extractors
abbrev pub extern_faults_by : (List ℕ → TermNode) → List Definition → List FaultNode
extern_faults_by terms ds = wrong_externs (known_by terms ds) [] [] (externs_in ds)

abbrev pub extern_faults : List Definition → List FaultNode
extern_faults ds = extern_faults_by (terms ds) ds
