use Rattle.std.proofs.Common.{◌≡◌, ◌==◌, ◌+◌, arith, ap, length, map, not, rules, subst, sym, take, ◌∙◌}
use Rattle.std.proofs.lemmas.List.{length-map}
use Rattle.isle_lsp_features.specs.declared.known.Known.{Known}
use Rattle.isle_lsp_features.specs.Gathered.{IsOf, events_in, kept_of}
use Rattle.isle_lsp_features.proofs.Renewing.{kept-put, renewed}
use Rattle.isle_lsp_features.proofs.gathered.renew.Goals as goal

pub returns-clause-ok : goal.returns-clause-ok
returns-clause-ok c =
    let items = c.args.texts.now.items in
    let file = c.args.file in
    let count = length-map items kept_of in
    let k : Known = record { text = c.in_ok-from_str.field-0; events = c.saturating_sub-events.result; is_refused = not c.is_empty.result } in
    let refused : not c.is_empty.result ≡ not (length c.in_ok-refusals.refusals.items == 0) = search rules in
    subst (λ ks. IsOf ks c.replace.new.self) (sym (ap (map kept_of) c.in_ok-put.ensures ∙ kept-put items file k))
    (renewed (map kept_of items) file c.args.text.now (kept_of k) c.args.index.now c.add_text.new.index c.replace.new.self c.in_ok-refusals.refusals.items
    c.in_ok-start.start c.in_ok-stop.stop c.event_count-end.result c.event_count.result (omega (arith, c.requires.place, count)) c.requires.last
    c.in_ok-refusals.ensures.ok
    (c.in_ok-start.ensures ∙ ap (λ xs. events_in (take file (map kept_of xs))) c.deref.ensures.value)
    (c.in_ok-stop.ensures ∙ ap (λ xs. events_in (take (file + 1) (map kept_of xs))) c.deref-2.ensures.value)
    c.event_count-end.ensures c.event_count.ensures c.in_ok-replace.ensures c.in_ok-from_str.ensures.ok c.saturating_sub-events.ensures refused)

pub returns-clause-texts : goal.returns-clause-texts
returns-clause-texts c =
    let k : Known = record { text = c.in_ok-from_str.field-0; events = c.saturating_sub-events.result; is_refused = not c.is_empty.result } in
    record { kept = kept_of k; is = c.in_ok-from_str.ensures.ok; at_place = ap (map kept_of) c.in_ok-put.ensures ∙ kept-put c.args.texts.now.items c.args.file k }
