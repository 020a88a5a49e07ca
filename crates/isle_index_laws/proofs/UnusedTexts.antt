-- For each list of events there is a text with which none of its names begins.
use Rattle.std.proofs.Common.{◌≡◌, ℕ, zero, suc, ◌+◌, ◌<◌, ◌≤◌, Decides, List, [], ◌∷◌, ◌++◌, codes, true, not, ◌&&◌, None, length, refl, ap, ◌∙◌, length-append, arith}
use Rattle.std.proofs.lemmas.Str.{IsUtf8-from_ascii, chars-IsAscii}
use Rattle.std.specs.List.{list_all}
use Rattle.std.specs.Str.{IsAscii}
use Rattle.isle_base.specs.Skips.{begins_with}
use Rattle.isle_ast_names.specs.Identifier.{are_identifier, continues_identifier, is_identifier}
use Rattle.isle_ast_names.specs.Words.{is_dollar}
use Rattle.isle_resolve.specs.Event.{EventNode, defines, uses, defines_variant, occurs, binds, reads, closes, ends}
use Rattle.isle_resolve.specs.Scopes.{seen}
use Rattle.isle_resolve.specs.Names.{NameNode, joined}
use Rattle.isle_index.specs.Renaming.{Part, behind_type, can_be_renamed, is_new_name, is_reserved, part_of, refusal, whole_text, with_part}
use Rattle.isle_index_laws.specs.Fresh.{BeginsNot, IsFresh, IsNotIn}
use Rattle.isle_index_laws.proofs.Fits.{accepted_can_be}
use Rattle.isle_index_laws.proofs.FreshTexts.{fresh_accepted}
use Rattle.isle_index_laws.proofs.NewNames.{put_together}

-- how long the names of events are together

abbrev size : EventNode → ℕ
size (defines _ name) = length name.text
size (uses _ name) = length name.text
size (defines_variant owner member) = length (joined owner.text member.text)
size (occurs _ name) = length name.text
size (binds name) = length name.text
size (reads name) = length name.text
size closes = 0
size ends = 0

abbrev sizes : List EventNode → ℕ
sizes [] = 0
sizes (e ∷ es) = size e + sizes es

-- a longer text is at the front of none of them

shorter : (new text : List ℕ) → length text < length new → BeginsNot new text
shorter new text less rest is =
    let long : length text ≡ length new + length rest = ap length is ∙ length-append new rest in
    omega arith

event-apart : (new : List ℕ) (e : EventNode) → size e < length new → IsNotIn new e
event-apart new (defines k n) less = shorter new n.text less
event-apart new (uses k n) less = shorter new n.text less
event-apart new (defines_variant o m) less = shorter new (joined o.text m.text) less
event-apart new (occurs role n) less = shorter new n.text less
event-apart new (binds n) less = shorter new n.text less
event-apart new (reads n) less = shorter new n.text less
event-apart new closes less = tt
event-apart new ends less = tt

longer-fresh : (new : List ℕ) (es : List EventNode) → sizes es < length new → IsFresh new es
longer-fresh new [] less = tt
longer-fresh new (e ∷ es) less =
    let first : size e < length new = omega arith in
    let rest : sizes es < length new = omega arith in
    (event-apart new e first, longer-fresh new es rest)

-- the letter `x`, so often

abbrev letter : ℕ
letter = 120

abbrev letters : ℕ → List ℕ
letters zero = []
letters (suc n) = letter ∷ letters n

letters-long : (n : ℕ) → length (letters n) ≡ n
letters-long zero = refl
letters-long (suc n) = ap suc (letters-long n)

letters-ascii : (n : ℕ) → IsAscii (letters n)
letters-ascii zero i = omega arith
letters-ascii (suc n) zero = omega arith
letters-ascii (suc n) (suc i) = letters-ascii n i

letters-go_on : (n : ℕ) → list_all continues_identifier (letters n) ≡ true
letters-go_on zero = refl
letters-go_on (suc n) = letters-go_on n

letters-identifier : (n : ℕ) → is_identifier (letters (suc n)) ≡ true
letters-identifier n =
    put_together (letters (suc n)) (IsUtf8-from_ascii (letters (suc n)) (letters-ascii (suc n)))
    (ap are_identifier (chars-IsAscii (letters (suc n)) (letters-ascii (suc n))) ∙ letters-go_on n)

letters-new : (n : ℕ) → is_new_name (letters (suc n)) ≡ true
letters-new n = ap (λ b. b && not (begins_with is_dollar (letters (suc n))) && not (is_reserved (letters (suc n)))) (letters-identifier n)

-- a text that is new to these events
abbrev unused : List EventNode → List ℕ
unused es = letters (suc (sizes es))

-- as a name's part it makes a name that is as long at least
as-long : (part : Part) (text : List ℕ) → length text ≤ length (with_part part text)
as-long (whole_text old) text = omega arith
as-long (behind_type owner old alone) text = omega (arith, length-append (owner ++ codes ".") text)

unused-fresh : (part : Part) (es : List EventNode) → IsFresh (with_part part (unused es)) es
unused-fresh part es =
    let long : length (unused es) ≡ suc (sizes es) = letters-long (suc (sizes es)) in
    let more = as-long part (unused es) in
    let less : sizes es < length (with_part part (unused es)) = omega arith in
    longer-fresh (with_part part (unused es)) es less

pub some_accepted : (name : NameNode) (es : List EventNode) → Decides (can_be_renamed name (seen es)) ((new : List ℕ) × (refusal name new (seen es) ≡ None))
some_accepted name es = (
  λ can. (unused es, fresh_accepted name (unused es) es can (letters-new (sizes es)) (unused-fresh (part_of name (seen es)) es)),
  λ some. accepted_can_be name some.0 (seen es) some.1,
)
