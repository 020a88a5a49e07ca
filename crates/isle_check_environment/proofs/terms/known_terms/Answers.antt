use Rattle.isle_check_environment.proofs.terms.known_terms.Goals as goal

pub returns : goal.returns
returns c = λ i. record {
  declared = λ text. c.in_ok-declared.ensures text i;
  variants = λ text. c.in_ok-variants.ensures text i;
  ruled = λ text. c.in_ok-ruled.ensures text i;
  templates = λ text. c.in_ok-templates.ensures text i;
}
