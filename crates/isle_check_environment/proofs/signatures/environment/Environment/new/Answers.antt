use Rattle.std.proofs.Common.{◌||◌, is_some, ap, ◌∙◌}
use Rattle.isle_check_environment.specs.Parts.{type_names}
use Rattle.isle_check_environment.specs.Types.{is_integer_type, is_type}
use Rattle.isle_check_environment.specs.Views.{types_at}
use Rattle.isle_check_environment.proofs.signatures.environment.Environment.new.Goals as goal

pub returns : goal.returns
returns c =
    let types =
    c.in_ok-types.ensures.types
    ∙ ap (λ ts. is_type (type_names (types_at ts))) c.deref.ensures.value
    ∙ ap (λ ts. is_type (type_names ts)) c.in_ok-found.ensures in
    λ i. record {
      is_type = types i;
      is_number = λ text. is_integer_type text || is_some (c.in_ok-primitives.ensures text i);
      constants = λ text. c.in_ok-constants.ensures text i;
      terms = λ text. c.in_ok-terms.ensures text i;
      templates = λ text. c.in_ok-templates.ensures text i;
      converters = λ inner outer. c.in_ok-converters.ensures inner outer i;
      has_constructor = λ text.
          is_some ((c.in_ok-sorts.ensures i).variants text)
          || (is_some ((c.in_ok-sorts.ensures i).ruled text) || is_some (c.in_ok-constructors.ensures text i));
      has_extractor = λ text.
          is_some ((c.in_ok-sorts.ensures i).variants text)
          || (is_some ((c.in_ok-sorts.ensures i).templates text) || is_some (c.in_ok-extractors.ensures text i));
    }
