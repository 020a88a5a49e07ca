-- What is known and said of values, and values, of code, as pure values.
use Rattle.std.specs.Prelude.{ℕ, List, map, string_bytes}
use Rattle.std.specs.Borrow.{Bor}
use Rattle.isle_check_environment.specs.signatures.Views.{environment_of}
use Rattle.isle_check_places.specs.Views.{all_constrained_of}
use Rattle.isle_check_places.specs.declared.values.said.Said.{Said}
use Rattle.isle_check_places.specs.declared.values.said.Said.TheVariants as said
use Rattle.isle_check_places.specs.declared.values.written.Answer.{Answer}
use Rattle.isle_check_places.specs.declared.values.written.Answer.TheVariants as answers
use Rattle.isle_check_places.specs.declared.values.shapes.Known.{Known}
use Rattle.isle_check_places.specs.declared.values.values.Value.{Value}
use Rattle.isle_check_places.specs.values.Said.{SaidNode, said_variant, said_bool, said_int, said_constant, said_extractor}
use Rattle.isle_check_places.specs.values.Shapes.{AnswerNode, may_fail, has_several, is_there}
use Rattle.isle_check_places.specs.values.Values.{KnownNode, ValueNode}

abbrev pub said_of : Said → SaidNode
said_of (said.Variant variant count) = said_variant variant.now count
said_of (said.Bool val) = said_bool val
said_of (said.Int val) = said_int val
said_of (said.Const name) = said_constant name.now
said_of (said.Extractor term) = said_extractor term.now

abbrev pub all_said_of : List Said → List SaidNode
all_said_of ss = map said_of ss

abbrev pub texts_of : List (Bor (List ℕ)) → List (List ℕ)
texts_of ts = map (λ t. t.now) ts

abbrev pub answer_of : Answer → AnswerNode
answer_of answers.MayFail = may_fail
answer_of answers.HasSeveral = has_several
answer_of answers.IsThere = is_there

abbrev pub known_of : Known → KnownNode
known_of k = record { terms = (environment_of k.env.now).terms; constraints = all_constrained_of k.constraints.now }

abbrev pub value_of : Value → ValueNode
value_of v = record { text = string_bytes v.text; is_sure = v.is_sure }
