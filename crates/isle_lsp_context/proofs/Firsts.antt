-- What a text without tokens says.
use Rattle.std.proofs.Common.{◌≡◌, ℕ, List, [], Bool, true, false, None, ap, refl, if◌then◌else◌}
use Rattle.isle_base.specs.Token.{Ending}
use Rattle.isle_lsp_context.specs.Calls.{innermost, lists_at}
use Rattle.isle_lsp_context.specs.Places.{slot_from}
use Rattle.isle_lsp_context.specs.Scanning.{is_fault_before}
use Rattle.isle_lsp_context.specs.Signatures.{items_from, parameters}
use Rattle.isle_lsp_context.specs.declared.slot.Slot.TheVariants as slots

either : {A : Type 0} (x : A) (is_first : Bool) → x ≡ (if is_first then x else x)
either x true = refl
either x false = refl

-- anything may stand in it
pub any_first : (text : List ℕ) (place : ℕ) (ending : Ending) → slots.Any ≡ slot_from text place ending [] []
any_first text place ending = either slots.Any (is_fault_before place ending)

-- it has no call
pub none_at : (text : List ℕ) (place : ℕ) (ending : Ending) → None ≡ innermost (lists_at text place ending [] [])
none_at text place ending = ap innermost (either [] (is_fault_before place ending))

-- it declares no parameters
pub no_parameters : (is_variant : Bool) → [] ≡ parameters is_variant []
no_parameters is_variant = ap (items_from 0 0) (either [] is_variant)
