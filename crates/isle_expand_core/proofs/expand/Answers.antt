use Rattle.std.proofs.Common.{◌≡◌, None, Some, length, map, option_map, ap, sym, subst, ◌∙◌, rules}
use Rattle.std.proofs.lemmas.List.{length-map}
use Rattle.isle_ast.specs.TreeView.{definitions_of}
use Rattle.isle_expand_core.specs.Definitions.{expand_definitions}
use Rattle.isle_expand_core.specs.Macros.{macros_in}
use Rattle.isle_expand_core.specs.Mentions.{mentions}
use Rattle.isle_expand_core.specs.Order.{IsClosed, callees_in, expand_places}
use Rattle.isle_expand_warnings.specs.First.{first}
use Rattle.isle_expand_core.specs.Search.{mention_misuse}
use Rattle.isle_expand_core.specs.Views.{begun_of, macros_of, misuse_of}
use Rattle.isle_expand_core.proofs.Expanding.{IsWhole}
use Rattle.isle_expand_core.proofs.Free.{expanded_free}
use Rattle.isle_expand_core.proofs.Growth.{expanded_one}
use Rattle.isle_expand_core.proofs.Misused.{misused_lacks}
use Rattle.isle_expand_core.proofs.Whole.{first_found, whole_found}
use Rattle.isle_expand_core.proofs.expand.Goals as goal

pub returns-in-Some-clause-first : goal.returns-in-Some-clause-first
returns-in-Some-clause-first c =
    let ds = definitions_of c.args.defs.now in
    let base = map begun_of c.deref.result.now in
    let flags = c.in_ok-order.order.ends.items in
    let same : base ≡ macros_in ds = ap (map begun_of) c.deref.ensures.value ∙ c.in_ok-templates.ensures in
    let closed : IsClosed (callees_in base) flags (length base) = subst (IsClosed (callees_in base) flags) (sym (length-map c.deref.result.now begun_of)) c.in_ok-order.ensures.closed in
    let searched : first (mention_misuse base flags) (mentions 0 ds) ≡ option_map misuse_of c.in_ok-misuse.field-0 =
    ap (λ x. first (mention_misuse (map begun_of x) flags) (mentions 0 ds)) (c.deref.ensures.value ∙ sym c.deref-2.ensures.value)
    ∙ ap (λ y. first (mention_misuse (map begun_of c.deref-2.result.now) y) (mentions 0 ds)) (sym c.deref-3.ensures.value) ∙ sym c.in_ok-misuse.ensures in
    first_found ds base flags c.in_ok-order.order.places.items same c.in_ok-order.ensures.order closed (misuse_of c.in-Some.misuse) (searched ∙ ap (option_map misuse_of) c.in-Some.is)

pub returns-in-Some-clause-refused : goal.returns-in-Some-clause-refused
returns-in-Some-clause-refused c = λ es expanded. misused_lacks (definitions_of c.args.defs.now) (misuse_of c.in-Some.misuse) (returns-in-Some-clause-first c) es expanded

pub returns-in-Ok-clause-expansion : goal.returns-in-Ok-clause-expansion
returns-in-Ok-clause-expansion c =
    let ds = definitions_of c.args.defs.now in
    let base = map begun_of c.deref.result.now in
    let flags = c.in_ok-order.order.ends.items in
    let places = c.in_ok-order.order.places.items in
    let ks = macros_of c.deref-6.result.now in
    let same : base ≡ macros_in ds = ap (map begun_of) c.deref.ensures.value ∙ c.in_ok-templates.ensures in
    let closed : IsClosed (callees_in base) flags (length base) = subst (IsClosed (callees_in base) flags) (sym (length-map c.deref.result.now begun_of)) c.in_ok-order.ensures.closed in
    let searched : first (mention_misuse base flags) (mentions 0 ds) ≡ option_map misuse_of c.in_ok-misuse.field-0 =
    ap (λ x. first (mention_misuse (map begun_of x) flags) (mentions 0 ds)) (c.deref.ensures.value ∙ sym c.deref-2.ensures.value)
    ∙ ap (λ y. first (mention_misuse (map begun_of c.deref-2.result.now) y) (mentions 0 ds)) (sym c.deref-3.ensures.value) ∙ sym c.in_ok-misuse.ensures in
    let nothing : c.in_ok-misuse.field-0 ≡ None = search rules in
    let made : ks ≡ expand_places places base =
    ap macros_of c.deref-6.ensures.value ∙ c.in_ok-macros.ensures ∙ ap (λ x. expand_places x (map begun_of c.deref-4.result.now)) c.deref-5.ensures.value
    ∙ ap (λ x. expand_places places (map begun_of x)) (c.deref-4.ensures.value ∙ sym c.deref.ensures.value) in
    let whole : IsWhole ds ks =
    whole_found ds base flags places same c.in_ok-order.ensures.order closed ks c.requires (searched ∙ ap (option_map misuse_of) nothing) made in
    whole.expanded (definitions_of c.in-Ok.made.items) c.in-Ok.ensures

pub returns-in-Ok-clause-only : goal.returns-in-Ok-clause-only
returns-in-Ok-clause-only c = λ es expanded. expanded_one (definitions_of c.args.defs.now) es (definitions_of c.in-Ok.made.items) expanded (returns-in-Ok-clause-expansion c)

pub returns-in-Ok-clause-free : goal.returns-in-Ok-clause-free
returns-in-Ok-clause-free c = expanded_free (definitions_of c.args.defs.now) (definitions_of c.in-Ok.made.items) (returns-in-Ok-clause-expansion c)

pub unreachable-requires : goal.unreachable-requires
unreachable-requires c =
    let ds = definitions_of c.args.defs.now in
    let base = map begun_of c.deref.result.now in
    let flags = c.in_ok-order.order.ends.items in
    let places = c.in_ok-order.order.places.items in
    let ks = macros_of c.deref-6.result.now in
    let same : base ≡ macros_in ds = ap (map begun_of) c.deref.ensures.value ∙ c.in_ok-templates.ensures in
    let closed : IsClosed (callees_in base) flags (length base) = subst (IsClosed (callees_in base) flags) (sym (length-map c.deref.result.now begun_of)) c.in_ok-order.ensures.closed in
    let searched : first (mention_misuse base flags) (mentions 0 ds) ≡ option_map misuse_of c.in_ok-misuse.field-0 =
    ap (λ x. first (mention_misuse (map begun_of x) flags) (mentions 0 ds)) (c.deref.ensures.value ∙ sym c.deref-2.ensures.value)
    ∙ ap (λ y. first (mention_misuse (map begun_of c.deref-2.result.now) y) (mentions 0 ds)) (sym c.deref-3.ensures.value) ∙ sym c.in_ok-misuse.ensures in
    let nothing : c.in_ok-misuse.field-0 ≡ None = search rules in
    let made : ks ≡ expand_places places base =
    ap macros_of c.deref-6.ensures.value ∙ c.in_ok-macros.ensures ∙ ap (λ x. expand_places x (map begun_of c.deref-4.result.now)) c.deref-5.ensures.value
    ∙ ap (λ x. expand_places places (map begun_of x)) (c.deref-4.ensures.value ∙ sym c.deref.ensures.value) in
    let whole : IsWhole ds ks =
    whole_found ds base flags places same c.in_ok-order.ensures.order closed ks c.requires (searched ∙ ap (option_map misuse_of) nothing) made in
    let none : expand_definitions ds ds ks ≡ None = rw c.in-Err-Use.field-0-is at c.in-Err-Use.ensures in
    let some : expand_definitions ds ds ks ≡ Some whole.there.0 = whole.there.1 in
    cc
