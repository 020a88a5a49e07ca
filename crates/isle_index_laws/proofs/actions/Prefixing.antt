-- The text after `_` is put before a name lexes to its tokens, with a `_` more in that name.
use Rattle.std.proofs.Common.{◌≡◌, ◌⊎◌, inl, inr, ℕ, zero, suc, ◌+◌, ◌-◌, ◌<◌, ◌≤◌, ◌&&◌, ◌==◌, Bool, true, false, if◌then◌else◌, List, [], ◌∷◌, Option, None, Some, length, map, not, take, refl, sym, ap, subst, ◌∙◌, arith}
use Rattle.std.proofs.lemmas.Bool.{and_parts, cases_lt, eqb-true, ne_eqb}
use Rattle.std.proofs.lemmas.Bool.Decides.{nat_tests}
use Rattle.std.proofs.lemmas.List.{get_or-take, length-take-le}
use Rattle.std.proofs.lemmas.Option.{slice_get-get_or, slice_get_past}
use Rattle.std.specs.List.{AllByRecursion, slice_get}
use Rattle.isle_base.specs.Bytes.{underscore}
use Rattle.isle_base.specs.Lexing.{Lexes, lexes}
use Rattle.isle_base.specs.Literals.{begins_literal}
use Rattle.isle_base.specs.Skips.{begins_with, is_blank}
use Rattle.isle_base.specs.Spellings.{begins_symbol, in_symbol}
use Rattle.isle_base.specs.Token.{Lexeme, end}
use Rattle.isle_lsp_actions.specs.Actions.{Action, can_become, is_unused, prefix_of, prefixing, prefixing_of}
use Rattle.isle_lsp_actions.specs.Insertions.{is_apart, is_apart_from, is_mark, stands_apart}
use Rattle.isle_lsp_actions.specs.Names.{count_in, name_at, names_of}
use Rattle.isle_lsp_actions.specs.declared.told.Told.{Told}
use Rattle.isle_index_laws.specs.actions.Prefixed.{IsPrefixed, acted, prefixed}
use Rattle.isle_index_laws.proofs.actions.Found.{chain, found, mark, marks, no_lead}
use Rattle.isle_lsp_text.specs.Numbers.{ends_number, ends_number_at, is_behind_number}
use Rattle.isle_lsp_text.specs.declared.lists.ListSpan.{ListSpan}
use Rattle.isle_index_laws.specs.edits.Edits.{edited}
use Rattle.isle_index_laws.proofs.edits.Lexed.{Apart, IsFront, edits_lex}

-- no number ends with a byte behind which a name stands apart
apart_ends_none : (b : ℕ) → is_apart b ≡ true → ends_number b ≡ false
unfolding is_blank
apart_ends_none b h = grind (arith, nat_tests)

-- a name that stands apart does not directly follow a number
behind_none_by : (text : List ℕ) (n : ℕ) → stands_apart text (suc n) ≡ true → (length text < suc n) ⊎ (suc n ≤ length text) → ends_number_at (slice_get text n) ≡ false
behind_none_by text n apart (inl past) = ap ends_number_at (slice_get_past text n (omega arith))
behind_none_by text n apart (inr within) =
    let len : length (take (suc n) text) ≡ suc n = length-take-le (suc n) text within in
    let last : length (take (suc n) text) - 1 ≡ n = omega arith in
    let byte = get_or-take (suc n) text n 0 (omega arith) in
    let before : slice_get (take (suc n) text) n ≡ slice_get text n =
    slice_get-get_or (take (suc n) text) n 0 (omega arith) ∙ ap Some byte ∙ sym (slice_get-get_or text n 0 (omega arith)) in
    let is : is_apart_from (slice_get text n) ≡ true = sym (ap is_apart_from (ap (slice_get (take (suc n) text)) last ∙ before)) ∙ apart in
    let there = slice_get-get_or text n 0 (omega arith) in
    ap ends_number_at there ∙ apart_ends_none _ (sym (ap is_apart_from there) ∙ is)

behind_none : (text : List ℕ) (offset : ℕ) → stands_apart text offset ≡ true → is_behind_number text offset ≡ false
behind_none text zero apart = refl
behind_none text (suc n) apart =
    let some : (suc n == 0) ≡ false = ne_eqb (suc n) 0 (λ e. omega arith) in
    let before : suc n - 1 ≡ n = omega arith in
    ap (λ b. if b then false else ends_number_at (slice_get text (suc n - 1))) some
    ∙ ap (λ m. ends_number_at (slice_get text m)) before
    ∙ behind_none_by text n apart (cases_lt (length text) (suc n))

none_glued : (text : List ℕ) (at : ℕ) → stands_apart text at ≡ true → Apart text (marks at) no_lead [] mark
none_glued text at apart = λ offset on.
    let here : offset ≡ at = eqb-true offset at on in
    let there : offset + 0 ≡ at = omega arith in
    ap (is_behind_number text) there ∙ behind_none text at apart

front : IsFront mark
unfolding begins_symbol in_symbol begins_literal is_blank
front = record { first = underscore; further = []; split = refl; begins = refl; stays = refl; each = refl }

one_prefixed : (text : List ℕ) (tokens : List Lexeme) (t : Told) (name : List ℕ) → lexes text tokens end → name_at t.from (names_of tokens) ≡ Some name
    → stands_apart text t.from ≡ true → IsPrefixed text tokens (prefix_of t name)
one_prefixed text tokens t name lexed named apart =
    let f = found text t.from (length text - length text) tokens name (chain (length text) text tokens end lexed (omega arith)) named in
    let e = edits_lex text (marks t.from) no_lead [] mark (none_glued text t.from apart) front (λ offset. tt) [] text tokens refl lexed f.written in
    let other : acted (prefix_of t name) text ≡ e.other = sym (ap (λ os. edited [] mark os text) f.started) ∙ e.edits in
    let grows = e.grows in
    let lexes_other : Lexes (length e.other) e.other (map (prefixed t.from) tokens) end =
    subst (λ xs. Lexes (length e.other) e.other xs end) f.moves (e.lexed (length e.other) 0 (omega arith) (omega arith)) in
    subst (λ xs. lexes xs (map (prefixed t.from) tokens) end) (sym other) lexes_other

is_fourth : (a b c d e f : Bool) → (a && (b && c && d && e && f)) ≡ true → d ≡ true
is_fourth a b c d e f h =
    (and_parts (b && c) d (and_parts (b && c && d) e (and_parts (b && c && d && e) f (and_parts a (b && c && d && e && f) h).1).0).0).1

if_prefixed : (text : List ℕ) (tokens : List Lexeme) (a : Action) (b : Bool) → (b ≡ true → IsPrefixed text tokens a) → AllByRecursion (IsPrefixed text tokens) (if b then a ∷ [] else [])
if_prefixed text tokens a true h = (h refl, tt)
if_prefixed text tokens a false h = tt

prefixed_by : (text : List ℕ) (tokens : List Lexeme) (t : Told) (definition : ListSpan) → lexes text tokens end → (o : Option (List ℕ)) → name_at t.from (names_of tokens) ≡ o
    → AllByRecursion (IsPrefixed text tokens) (prefixing_of text (names_of tokens) t definition o)
prefixed_by text tokens t definition lexed None e = tt
prefixed_by text tokens t definition lexed (Some name) e =
    if_prefixed text tokens (prefix_of t name) (is_unused t.lint && can_become text (names_of tokens) t definition name (underscore ∷ name))
    (λ h. one_prefixed text tokens t name lexed e (is_fourth (is_unused t.lint) (t.from + length name == t.to) (not (begins_with is_mark name)) (stands_apart text t.from)
    (count_in definition name (names_of tokens) == 1) (count_in definition (underscore ∷ name) (names_of tokens) == 0) h))

pub all_prefixed : (text : List ℕ) (tokens : List Lexeme) (t : Told) (definition : ListSpan) → lexes text tokens end
    → AllByRecursion (IsPrefixed text tokens) (prefixing text (names_of tokens) t definition)
all_prefixed text tokens t definition lexed = prefixed_by text tokens t definition lexed (name_at t.from (names_of tokens)) refl
