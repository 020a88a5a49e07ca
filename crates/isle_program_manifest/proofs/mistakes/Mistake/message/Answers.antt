use Rattle.isle_program_manifest.proofs.ManifestLemmas.{wanted_said}
use Rattle.isle_program_manifest.proofs.mistakes.Mistake.message.Goals as goal

pub returns-in-WrongType : goal.returns-in-WrongType
returns-in-WrongType c =
    rw c.in-WrongType.is (wanted_said c.args.self.now.word.now c.wanted.result.now c.format-in-WrongType.result c.wanted.ensures c.format-in-WrongType.ensures.ok)
