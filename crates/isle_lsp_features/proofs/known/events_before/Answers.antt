use Rattle.std.proofs.Common.{◌≡◌, IfOk, ap, map, subst, sym, ◌∙◌}
use Rattle.std.proofs.lemmas.List.{take-map}
use Rattle.isle_lsp_features.specs.Gathered.{events_in, kept_of}
use Rattle.isle_lsp_features.proofs.known.events_before.Goals as goal

pub returns-in-Some : goal.returns-in-Some
returns-in-Some c =
    let front = ap (map kept_of) c.in-Some.ensures.cases.1 ∙ sym (take-map kept_of c.args.place c.args.texts.now) in
    subst (λ xs. IfOk c.events_in.result (λ events. events ≡ events_in xs)) front c.events_in.ensures
