use Rattle.std.proofs.Common.{[], ap, ◌∙◌, is_some}
use Rattle.isle_check_environment.specs.Names.{place_of}
use Rattle.isle_check_environment.specs.Views.{extractors_at}
use Rattle.isle_check_declarations.specs.Views.{term_in}
use Rattle.isle_check_declarations.specs.naming.Extractors.{reached, template_names}
use Rattle.isle_check_declarations.proofs.naming.externs.gathered.Goals as goal

pub returns : goal.returns
returns c =
    let terms = term_in c.args.terms.now in
    let held = (c.in_ok-add_wrong_extractors.ensures [] c.no_names-templates.ensures).0 in λ i. record {
      terms = terms;
      ruled = λ text. is_some (c.in_ok-ruled.ensures text i);
      templates = λ text. (
          held text
          ∙ ap (λ xs. place_of (template_names terms [] xs) text) (ap extractors_at c.deref-2.ensures.value ∙ c.in_ok-extractors.ensures)
          ∙ ap (λ xs. place_of (template_names terms [] (reached terms xs)) text) (ap extractors_at c.deref.ensures.value ∙ c.in_ok-given.ensures)
          ) i;
    }
