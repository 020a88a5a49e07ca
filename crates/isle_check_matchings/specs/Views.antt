-- What is asked of places, and values, of code, as pure values.
use Rattle.std.specs.Prelude.{List, is_some, map}
use Rattle.std.specs.HashMap.{get_by_text}
use Rattle.isle_check_environment.specs.signatures.Views.{environment_of}
use Rattle.isle_check_places.specs.Views.{constraint_of, place_of, places_of}
use Rattle.isle_check_matchings.specs.declared.asks.Ask.{Ask}
use Rattle.isle_check_matchings.specs.declared.asks.Ask.TheVariants as said
use Rattle.isle_check_matchings.specs.declared.openings.Terms.{Terms}
use Rattle.isle_check_matchings.specs.declared.values.Value.{Value}
use Rattle.isle_check_matchings.specs.Asks.{TermsNode, AskNode, constrains, binds, equals}
use Rattle.isle_check_matchings.specs.Values.{ValueNode}

abbrev pub ask_of : Ask → AskNode
ask_of (said.Constrains at constraint) = constrains (place_of at.items) (constraint_of constraint)
ask_of (said.Binds variable value) = binds variable (place_of value.at.items) (places_of value.needs.items)
ask_of (said.Equals variable at) = equals variable (place_of at.items)

abbrev pub asks_of : List Ask → List AskNode
asks_of asks = map ask_of asks

abbrev pub terms_of : Terms → TermsNode
terms_of k =
    record {
      terms = (environment_of k.env.now).terms;
      infallible = λ text. is_some (get_by_text k.infallible.now text);
    }

abbrev pub value_of : Value → ValueNode
value_of v = record { at = place_of v.at.items; needs = places_of v.needs.items }
