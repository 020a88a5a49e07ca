-- The parts of a message, taken together.
use Rattle.std.proofs.Common.{◌≡◌, ℕ, ◌+◌, List, ◌++◌, ◌∙◌, Result, Ok, Err, IfOk, ap, codes, string_bytes, sym, append_assoc}
use Rattle.std.specs.Fmt.{decimal}
use Rattle.std.specs.declared.alloc.Global.{Global}
use Rattle.std.specs.declared.string.String.{String}
use Rattle.isle_base_source.specs.Lines as lines
use Rattle.isle_cli.specs.Messages.{message_line}
use Rattle.isle_cli.specs.Sources.{fault_line, reason_of}
use Rattle.isle_cli.specs.declared.program.Program.{Program}
use Rattle.isle_cli.specs.declared.streams.ReadFault.{ReadFault}

joined : (a b c d e f g h i j : List ℕ) → a ++ b ++ c ++ d ++ e ++ f ++ g ++ h ++ i ++ j ≡ a ++ (b ++ (c ++ (d ++ (e ++ (f ++ (g ++ (h ++ (i ++ j))))))))
joined a b c d e f g h i j =
    append_assoc (a ++ b ++ c ++ d ++ e ++ f ++ g ++ h) i j ∙ append_assoc (a ++ b ++ c ++ d ++ e ++ f ++ g) h (i ++ j)
    ∙ append_assoc (a ++ b ++ c ++ d ++ e ++ f) g (h ++ (i ++ j)) ∙ append_assoc (a ++ b ++ c ++ d ++ e) f (g ++ (h ++ (i ++ j)))
    ∙ append_assoc (a ++ b ++ c ++ d) e (f ++ (g ++ (h ++ (i ++ j)))) ∙ append_assoc (a ++ b ++ c) d (e ++ (f ++ (g ++ (h ++ (i ++ j)))))
    ∙ append_assoc (a ++ b) c (d ++ (e ++ (f ++ (g ++ (h ++ (i ++ j)))))) ∙ append_assoc a b (c ++ (d ++ (e ++ (f ++ (g ++ (h ++ (i ++ j)))))))

-- a text that says the same in other parts
same_text : {E : Type 0} (result : Result (String Global) E) (a b : List ℕ) → a ≡ b → IfOk result (λ s. string_bytes s ≡ a) → IfOk result (λ s. string_bytes s ≡ b)
same_text (Ok s) a b same is = is ∙ same
same_text (Err e) a b same is = tt

pub message-parts : {E : Type 0} (name text : List ℕ) (offset number column : ℕ) (kind message : List ℕ) (result : Result (String Global) E) → number ≡ lines.line text offset → column ≡ lines.column text offset
    → IfOk result (λ s. string_bytes s ≡ name ++ (codes ":" ++ (decimal (number + 1) ++ (codes ":" ++ (decimal (column + 1) ++ (codes ": " ++ (kind ++ (codes ": " ++ (message ++ codes "\n")))))))))
    → IfOk result (λ s. string_bytes s ≡ message_line (record { name = name; text = text }) offset kind message)
message-parts name text offset number column kind message result is_number is_column said =
    same_text result _ _ (
    sym (joined name (codes ":") (decimal (number + 1)) (codes ":") (decimal (column + 1)) (codes ": ") kind (codes ": ") message (codes "\n"))
    ∙ ap (λ n. name ++ codes ":" ++ decimal (n + 1) ++ codes ":" ++ decimal (column + 1) ++ codes ": " ++ kind ++ codes ": " ++ message ++ codes "\n") is_number
    ∙ ap (λ m. name ++ codes ":" ++ decimal (lines.line text offset + 1) ++ codes ":" ++ decimal (m + 1) ++ codes ": " ++ kind ++ codes ": " ++ message ++ codes "\n") is_column
    ) said

pub fault-parts : {E : Type 0} (program : Program) (name : List ℕ) (fault : ReadFault) (reason : List ℕ) (result : Result (String Global) E) → reason ≡ reason_of fault
    → IfOk result (λ s. string_bytes s ≡ program.name.now ++ (codes ": " ++ (name ++ (codes ": " ++ (reason ++ codes "\n")))))
    → IfOk result (λ s. string_bytes s ≡ fault_line program name fault)
fault-parts program name fault reason result is said =
    let p = program.name.now in
    same_text result _ _ (
    sym (
    append_assoc (p ++ codes ": " ++ name ++ codes ": ") reason (codes "\n") ∙ append_assoc (p ++ codes ": " ++ name) (codes ": ") (reason ++ codes "\n")
    ∙ append_assoc (p ++ codes ": ") name (codes ": " ++ (reason ++ codes "\n")) ∙ append_assoc p (codes ": ") (name ++ (codes ": " ++ (reason ++ codes "\n")))
    )
    ∙ ap (λ r. p ++ codes ": " ++ name ++ codes ": " ++ r ++ codes "\n") is
    ) said
