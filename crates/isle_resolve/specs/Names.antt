-- Names, and which events name which.
use Rattle.std.specs.Prelude.{ℕ, List, ◌++◌, Bool, true, false, ◌&&◌, ◌==◌, Option, None, Some, option_map, codes, string_bytes}
use Rattle.std.specs.Str.{bytes_eq}
use Rattle.isle_resolve.specs.declared.event.Kind.{Kind}
use Rattle.isle_resolve.specs.declared.event.Kind.TheVariants as kinds
use Rattle.isle_resolve.specs.Event.{EventNode, defines, uses, defines_variant, occurs, binds, reads, closes, ends}
use Rattle.isle_resolve.specs.declared.names.Name.TheVariants as names
use Rattle.isle_resolve.specs.Scopes.{SeenNode}
use Rattle.isle_resolve.specs.declared.names.Name as code

pub data NameNode : Type 0 where
  -- a name of this kind that is visible in the whole program
  global : Kind → List ℕ → NameNode
  -- the variable that the event of this number binds
  variable : (binder : ℕ) → List ℕ → NameNode

abbrev pub named_of : code.Name → NameNode
named_of (names.Global kind text) = global kind (string_bytes text)
named_of (names.Variable binder text) = variable binder (string_bytes text)

-- the name of a variant as a term
abbrev pub joined : List ℕ → List ℕ → List ℕ
joined owner member = owner ++ codes "." ++ member

-- the name of an event, whose variable is bound by the event of this number
abbrev pub meaning : EventNode → Option ℕ → Option NameNode
meaning (defines kind name) binder = Some (global kind name.text)
meaning (uses kind name) binder = Some (global kind name.text)
meaning (defines_variant owner member) binder = Some (global kinds.Term (joined owner.text member.text))
meaning (occurs _ name) binder = option_map (λ b. variable b name.text) binder
meaning (binds name) binder = option_map (λ b. variable b name.text) binder
meaning (reads name) binder = option_map (λ b. variable b name.text) binder
meaning closes binder = None
meaning ends binder = None

abbrev pub same_kind : Kind → Kind → Bool
same_kind kinds.Term kinds.Term = true
same_kind kinds.Type kinds.Type = true
same_kind kinds.Constant kinds.Constant = true
same_kind _ _ = false

-- whether an event defines or uses the global name of this kind and text
abbrev pub gives : Kind → List ℕ → EventNode → Bool
gives kind text (defines k name) = same_kind kind k && bytes_eq name.text text
gives kind text (uses k name) = same_kind kind k && bytes_eq name.text text
gives kind text (defines_variant owner member) = same_kind kind kinds.Term && bytes_eq (joined owner.text member.text) text
gives kind text (occurs _ _) = false
gives kind text (binds _) = false
gives kind text (reads _) = false
gives kind text closes = false
gives kind text ends = false

abbrev pub is_number : ℕ → Option ℕ → Bool
is_number n None = false
is_number n (Some m) = m == n

-- whether an event is one of this name
abbrev pub is_of : NameNode → SeenNode → Bool
is_of (global kind text) s = gives kind text s.event
is_of (variable binder _) s = is_number binder s.binder

-- the text of a name
abbrev pub name_text : NameNode → List ℕ
name_text (global _ text) = text
name_text (variable _ text) = text
