use Rattle.std.proofs.Common.{◌≡◌, [], drop, get_or, sym, ap, subst, ◌∙◌}
use Rattle.std.proofs.lemmas.Bool.{both_ways}
use Rattle.isle_base.specs.Place.{in_file, placed_at}
use Rattle.isle_base.specs.Steps.{RefusesAt, failed_by, offset_by}
use Rattle.isle_base.proofs.lexer.laws.copies_go_on_alike.Goals as goal

pub returns-clause-token : goal.returns-clause-token
returns-clause-token c feed x y a b l m =
    let same = sym l.coming ∙ m.coming in
    let first = ap (λ xs. get_or xs 0 l.first) same in
    let coming = ap (drop 1) same in
    (l.shown ∙ ap (placed_at (in_file feed.file)) first ∙ sym m.shown, l.same ∙ ap (λ xs. record feed { coming = xs }) coming ∙ sym m.same)

pub returns-clause-refusal : goal.returns-clause-refusal
returns-clause-refusal c feed e f a b l m =
    let offset = ap (λ ending. offset_by [] ending 0) (sym l.ending ∙ m.ending) in
    ((in_file feed.file l.offset, l.error, subst (λ o. RefusesAt (in_file feed.file o) f) (sym offset) m.error), l.failed ∙ sym m.failed)

pub returns-clause-no_choice : goal.returns-clause-no_choice
returns-clause-no_choice c feed x e a b l m =
    let coming : a.coming ≡ [] = ap (drop 1) (sym l.coming ∙ m.coming) in
    let ending = ap (λ f. f.ending) l.same ∙ m.ending in
    both_ways _ l.goes_on (ap (λ xs. failed_by xs a.ending) coming ∙ ap (failed_by []) ending)
