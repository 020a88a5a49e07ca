use Rattle.std.proofs.Common.{inl, inr, ⊎_elim}
use Rattle.std.proofs.lemmas.Result.{IfErr-weaker}
use Rattle.isle_cli.proofs.words.taken_words.Goals as goal

pub returns : goal.returns
returns g c = IfErr-weaker c.words_of.result _ _ (λ failure why. ⊎_elim (λ memory. inl memory) (λ usage. inr usage.0) why) c.words_of.ensures.err
