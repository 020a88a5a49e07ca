-- What holds of texts that are not read: each has lists, and definitions that implement names.
use Rattle.std.proofs.Common.{◌≡◌, ◌∙◌, ◌++◌, ◌==◌, ℕ, List, [], ◌∷◌, Option, None, Some, false, ap, arith, filter, flat_map, if◌then◌else◌, length, refl, slice_get, subst, sym}
use Rattle.std.proofs.lemmas.Bool.{or_parts}
use Rattle.std.specs.List.{filter_map, list_any}
use Rattle.isle_base.proofs.Exists.{computed_sound}
use Rattle.isle_base.specs.Computed.{computed}
use Rattle.serde_json.specs.Data.{Data}
use Rattle.isle_index.specs.Occurrences.{occurrences}
use Rattle.isle_index.specs.declared.occurrences.Occurrence.{Occurrence}
use Rattle.isle_lsp_calls.proofs.Following.{call_of, calls_to}
use Rattle.isle_lsp_calls.specs.Incoming.{AreIncomingIn, by_caller, incoming_in}
use Rattle.isle_lsp_calls.specs.Items.{InOrder, IsFirstItem, IsItemAt, item_of, pos, term_at}
use Rattle.isle_lsp_calls.specs.Outgoing.{IsCallOf}
use Rattle.isle_lsp_calls.specs.Ranges.{calls_in, is_in}
use Rattle.isle_lsp_calls.specs.Sources.{Source}
use Rattle.isle_lsp_text.specs.Calls.{AreCallers, caller_at, is_definition}
use Rattle.isle_lsp_text.specs.Implementations.{AreImplemented, implemented_from}
use Rattle.isle_lsp_text.specs.Lists.{AreLists, lists_of}
use Rattle.isle_lsp_text.specs.declared.calls.Caller.{Caller}
use Rattle.isle_lsp_text.specs.declared.implementations.DefinitionPart.TheVariants.{Keyword}
use Rattle.isle_lsp_text.specs.declared.lists.ListSpan.{ListSpan}
use Rattle.isle_lsp_text.specs.declared.positions.Range.{Range}
use Rattle.isle_resolve.specs.Names.{NameNode, global}
use Rattle.isle_resolve.specs.Scopes.{SeenNode}
use Rattle.isle_resolve.specs.declared.event.Kind.TheVariants as kinds
use Rattle.isle_lsp_text.specs.declared.positions.PositionEncoding.{PositionEncoding}

abbrev lists_in : List ℕ → List ListSpan
lists_in text = lists_of [] (computed (length text) (length text) text).tokens

lists_are : (text : List ℕ) → AreLists text (lists_in text)
lists_are text = record {
  tokens = (computed (length text) (length text) text).tokens;
  ending = (computed (length text) (length text) text).ending;
  lexed = computed_sound (length text) (length text) text (omega arith);
  are = refl;
}

-- the names that a text implements
abbrev pub marks_in : List ℕ → List ℕ
marks_in text = implemented_from text 0 Keyword (computed (length text) (length text) text).tokens

pub marks_are : (text : List ℕ) → AreImplemented text (marks_in text)
marks_are text = record {
  tokens = (computed (length text) (length text) text).tokens;
  ending = (computed (length text) (length text) text).ending;
  lexed = computed_sound (length text) (length text) text (omega arith);
  are = refl;
}

some_callers : (text : List ℕ) → (callers : List Caller) × AreCallers text callers
some_callers text =
    let definitions = filter (is_definition text) (lists_in text) in
    (filter_map (caller_at definitions) (marks_in text), (marks_in text, definitions, marks_are text, (lists_in text, lists_are text, refl), refl))

-- ---- incoming calls

none_called : (enc : PositionEncoding) (number : ℕ) (text : List ℕ) (callers : List Caller) (found : List Occurrence) → list_any (is_in number) found ≡ false → calls_in enc number text callers found ≡ []
none_called enc number text callers [] h = refl
none_called enc number text callers (o ∷ os) h =
    let both = or_parts (is_in number o) (list_any (is_in number) os) h in
    rw both.0 (none_called enc number text callers os both.1)

none_by : (number : ℕ) (s : Source) (all : List SeenNode) (found : List Occurrence) (c : Caller) → calls_in s.encoding number s.text (c ∷ []) found ≡ [] → incoming_in number s all found c ≡ []
none_by number s all found c none =
    let given : List Range → List Data = λ rs. if length rs == 0 then [] else by_caller s c (term_at (pos number c.name) all) rs in
    ap given none

none_by_all : (number : ℕ) (s : Source) (all : List SeenNode) (found : List Occurrence) (callers : List Caller) → list_any (is_in number) found ≡ false
    → flat_map (incoming_in number s all found) callers ≡ []
none_by_all number s all found [] h = refl
none_by_all number s all found (c ∷ cs) h =
    ap (λ ds. ds ++ flat_map (incoming_in number s all found) cs) (none_by number s all found c (none_called s.encoding number s.text (c ∷ []) found h))
    ∙ none_by_all number s all found cs h

-- in a text without an occurrence nothing calls
pub none_incoming : (number : ℕ) (s : Source) (all : List SeenNode) (found : List Occurrence) → list_any (is_in number) found ≡ false → AreIncomingIn number s all found []
none_incoming number s all found h = let some = some_callers s.text in (some.0, some.1, sym (none_by_all number s all found some.0 h))

-- ---- outgoing calls

some_item_at : (s : Option Source) (name : NameNode) (o : Occurrence) → (item : Option Data) × IsItemAt s name o item
some_item_at None name o = (None, refl)
some_item_at (Some s) name o =
    let item = item_of s (lists_in s.text) name o in
    (Some item, (item, (lists_in s.text, lists_are s.text, refl), refl))

some_item : (program : List Source) (name : NameNode) (o : Option Occurrence) → (item : Option Data) × IsFirstItem program name o item
some_item program name None = (None, refl)
some_item program name (Some o) = some_item_at (slice_get program o.pos.file) name o

none_to : (item : Option Data) → calls_to item [] ≡ []
none_to None = refl
none_to (Some to) = refl

pub empty : {X : Type 0} (xs : List X) → length xs ≡ 0 → xs ≡ []
empty [] e = refl
empty (x ∷ xs) e = absurd (omega (arith, e))

-- a term that is not called, whatever its item
pub none_outgoing : (enc : PositionEncoding) (program : List Source) (number : ℕ) (text : List ℕ) (callers : List Caller) (all : List SeenNode) (word spelled : List ℕ) (found : List Occurrence)
    → spelled ≡ word → InOrder (occurrences (global kinds.Term spelled) all) found → calls_in enc number text callers found ≡ [] → IsCallOf enc program number text callers all word []
none_outgoing enc program number text callers all word spelled found same order none =
    let some = some_item program (global kinds.Term spelled) (slice_get (filter (λ o. o.is_definition) found) 0) in
    subst (IsCallOf enc program number text callers all word) (ap (calls_to some.0) none ∙ none_to some.0) (call_of enc program number text callers all word spelled found some.0 same order some.1)
