use Rattle.std.proofs.Common.{◌≡◌, ◌<◌, Some, length, map, option_map, ap, sym, ◌∙◌, arith}
use Rattle.isle_ast.specs.Tree.{extractor}
use Rattle.isle_ast_rules.specs.TreeView.{extractor_of}
use Rattle.isle_expand_core.specs.Macros.{macro_in, place_of, template_of}
use Rattle.isle_expand_core.specs.Mentions.{uses}
use Rattle.isle_expand_warnings.specs.First.{first}
use Rattle.isle_expand_core.specs.Search.{use_misuse}
use Rattle.isle_expand_core.specs.Views.{begun_of, misuse_of}
use Rattle.isle_expand_core.proofs.Steps.{given_next, mapped_get, ok_from, template_same}
use Rattle.isle_expand_core.proofs.search.extractor_misuse.Goals as goal

pub returns-in-Some : goal.returns-in-Some
returns-in-Some c =
    let ts = c.args.templates.now in
    let ms = map begun_of ts in
    let flags = c.args.ends.now in
    let place = c.args.place in
    let e = extractor_of c.args.given.now in
    let t = c.index-templates-place.result in
    let within : place < length ts = omega (arith, c.in-Some.ensures.within, c.if-first-place.true) in
    let at : place_of e.term.text ms ≡ Some place = sym c.place_of.ensures.place ∙ c.in-Some.is ∙ ap (λ p. Some p) c.if-first-place.true in
    let there : Some (begun_of t) ≡ macro_in (extractor e) = sym (mapped_get begun_of ts place t within c.index-templates-place.is) ∙ c.requires.template in
    let same : (begun_of t).template ≡ template_of e = template_same (begun_of t) _ there in
    ok_from c.template_misuse.result (λ found. option_map misuse_of found ≡ first (use_misuse ms flags) (uses (begun_of t).template)) _
    (λ found h. h ∙ ap (λ p. first (use_misuse ms flags) (uses p)) same ∙ sym (given_next ms flags e.term place e.pos (uses (template_of e)) at)) c.template_misuse.ensures
