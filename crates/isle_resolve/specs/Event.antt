-- Events: each says that a name is defined, used or bound, or that a scope ends.
use Rattle.isle_ast_names.specs.Tree.{Name}
use Rattle.isle_resolve.specs.declared.event.Kind.{Kind}
use Rattle.isle_resolve.specs.declared.event.Role.{Role}

pub data EventNode : Type 0 where
  -- a `decl`, a type or an outside constant gives a name of this kind
  defines : Kind → Name → EventNode
  -- a name of this kind is used
  uses : Kind → Name → EventNode
  -- the type gives a variant, which is the term `OWNER.MEMBER`
  defines_variant : (owner member : Name) → EventNode
  -- a variable of a pattern, or a parameter: it binds where nothing has bound it, and else it uses
  occurs : Role → Name → EventNode
  -- a `let` binds a variable
  binds : Name → EventNode
  -- an expression uses a variable
  reads : Name → EventNode
  -- the scope of the last variable that a `let` bound ends
  closes : EventNode
  -- the scope of a rule or of an extractor ends
  ends : EventNode
